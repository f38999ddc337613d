use Rattle.std.proofs.Common.{◌≡◌, ◌<◌, ◌++◌, drop, length}
use Rattle.std.specs.Prelude.{option_map}
use Rattle.sem_reasons.specs.Told.{joined}
use Rattle.sem_reasons.proofs.subjects.joined.Given as goal

abbrev pub invariant-loop-field : goal.invariant-loop-field
invariant-loop-field l = (length l.bits < 2147483648) × (option_map (λ more. l.bits ++ more) (joined l.sights l.side (drop l.field-index l.order)) ≡ joined l.sights l.side l.order)
