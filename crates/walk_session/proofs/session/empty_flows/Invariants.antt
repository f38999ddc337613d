use Rattle.std.proofs.Common.{◌≡◌, replicate}
use Rattle.walk_session.specs.State.{empty_ends}
use Rattle.walk_session.proofs.session.empty_flows.Given as goal

abbrev pub invariant-loop-i : goal.invariant-loop-i
invariant-loop-i l = l.all.items ≡ replicate l._i empty_ends
