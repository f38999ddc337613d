use Rattle.std.proofs.Common.{refl}
use Rattle.walk_pages.proofs.Drafting.{ahead_goes}
use Rattle.walk_pages.proofs.writing.target_inside.Goals as goal

pub returns-in-Some : goal.returns-in-Some
returns-in-Some c = λ frame. ahead_goes frame c.args.draft.now c.args.draft.now refl refl refl refl refl
