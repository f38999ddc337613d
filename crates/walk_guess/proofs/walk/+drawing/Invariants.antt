use Rattle.std.proofs.Common.{◌≡◌, ◌+◌, ◌*◌}
use Rattle.walk_guess.proofs.walk.+drawing.Given as mode

abbrev pub decreases-draw_inside : mode.decreases-draw_inside
decreases-draw_inside l = 3 * l.depth

abbrev pub decreases-call : mode.decreases-call
decreases-call l = 3 * l.depth + 1

abbrev pub decreases-draw : mode.decreases-draw
decreases-draw l = 3 * l.depth + 2

abbrev pub invariant-draw-loop-next : mode.invariant-draw-loop-next
invariant-draw-loop-next l = l.depth ≡ l.fn.depth
