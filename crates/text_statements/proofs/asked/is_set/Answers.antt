use Rattle.std.proofs.Common.{◌∙◌, sym}
use Rattle.std.specs.Str.{bytes_eq}
use Rattle.text_statements.proofs.AskedLookups.{found_there, none_there}
use Rattle.text_statements.proofs.asked.is_set.Goals as goal

pub returns-in-Some : goal.returns-in-Some
returns-in-Some c = found_there (bytes_eq c.args.name.now) c.args.set.now _ (sym c.position.ensures.value ∙ c.in-Some.is)

pub returns-in-None : goal.returns-in-None
returns-in-None c = none_there (bytes_eq c.args.name.now) c.args.set.now (sym c.position.ensures.value ∙ c.in-None.is)
