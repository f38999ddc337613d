use Rattle.std.proofs.Common.{◌≡◌, ◌++◌, length, reverse}
use Rattle.text_resolve.specs.Reached.{marked_from}
use Rattle.text_resolve.proofs.reached.marked_methods.Given as goal

abbrev pub invariant-loop-method : goal.invariant-loop-method
invariant-loop-method l = l.kept ++ marked_from l.is_marked (length l.kept) (reverse l.rest) ≡ marked_from l.is_marked 0 l.fn.methods

abbrev pub decreases-loop-method : goal.decreases-loop-method
decreases-loop-method l = length l.rest
