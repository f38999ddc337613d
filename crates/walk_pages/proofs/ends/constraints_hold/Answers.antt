use Rattle.std.proofs.Common.{refl}
use Rattle.walk_pages.proofs.Ending.{covered_moved}
use Rattle.walk_pages.proofs.ends.constraints_hold.Goals as goal

pub returns-then-have_lengths : goal.returns-then-have_lengths
returns-then-have_lengths c = λ held.
    covered_moved c.args.view.now _ c.args.format.now.fields c.as_slice-then-have_lengths.result.now _ c.as_slice.result.now _ c.as_slice-then-have_lengths-2.result.now _ c.args.solved.now _ refl c.as_slice-then-have_lengths.ensures c.as_slice.ensures
    c.as_slice-then-have_lengths-2.ensures refl c.requires.covered (c.have_lengths.ensures c.if-have_lengths.true) (c.others_hold.ensures held)
