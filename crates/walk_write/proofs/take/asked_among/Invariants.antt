use Rattle.std.proofs.Common.{◌≡◌, ◌+◌, ◌≤◌, drop, length}
use Rattle.std.specs.Prelude.{filter}
use Rattle.walk_write.proofs.take.asked_among.Given as goal

abbrev pub invariant-loop-other : goal.invariant-loop-other
invariant-loop-other l =
    (l.count ≤ l.other-index) × (l.count + length (filter (λ other. other.declared.asked) (drop l.other-index l.fields)) ≡ length (filter (λ other. other.declared.asked) l.fields))
