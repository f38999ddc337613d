use Rattle.std.proofs.Common.{sym, ◌∙◌}
use Rattle.sem_reasons.proofs.FieldsClear.{agrees_unvalued}
use Rattle.sem_reasons.proofs.conflict.library_conflict.Goals as goal

pub returns-in_default : goal.returns-in_default
returns-in_default c = agrees_unvalued c.args.sighted.now c.requires.sighted c.args.index c.args.field.now c.args.library.now c.requires.library (sym c.with_values.ensures ∙ c.in_default.is)
