use Rattle.std.proofs.Common.{sym, ◌∙◌}
use Rattle.sem_lint.proofs.EntriesListed.{field_keeps}
use Rattle.sem_lint.proofs.sites.keeps_at.Goals as goal

pub returns-in-Some : goal.returns-in-Some
returns-in-Some c e = field_keeps c.args.methods.now c.args.method c.args.format c.args.field c.in-Some.field.now c.args.name.now (sym c.in-Some.ensures) (sym c.keeps_by.ensures ∙ e)
