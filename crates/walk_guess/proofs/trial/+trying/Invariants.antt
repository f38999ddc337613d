use Rattle.std.proofs.Common.{◌≡◌, ◌+◌, ◌*◌}
use Rattle.walk_guess.proofs.trial.+trying.Given as mode

abbrev pub decreases-try_inside : mode.decreases-try_inside
decreases-try_inside l = 3 * l.depth

abbrev pub decreases-try_call : mode.decreases-try_call
decreases-try_call l = 3 * l.depth + 1

abbrev pub decreases-try_method : mode.decreases-try_method
decreases-try_method l = 3 * l.depth + 2

abbrev pub invariant-try_method-loop-step : mode.invariant-try_method-loop-step
invariant-try_method-loop-step l = l.depth ≡ l.fn.depth
