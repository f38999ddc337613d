use Rattle.std.proofs.Common.{◌∙◌, ap}
use Rattle.std.specs.Prelude.{is_some}
use Rattle.std.specs.List.{list_any}
use Rattle.std.specs.Str.{bytes_eq}
use Rattle.sem_profile.proofs.WordsTables.{any-position}
use Rattle.sem_profile.proofs.words.is_one_of.Goals as goal

pub returns-in-Some : goal.returns-in-Some
returns-in-Some c =
    rw c.in-Some.is
    (c.is_some.ensures ∙ ap is_some c.position.ensures.value ∙ any-position (bytes_eq c.args.name.now) c.get.result.now ∙ ap (list_any (bytes_eq c.args.name.now)) c.get.ensures)
