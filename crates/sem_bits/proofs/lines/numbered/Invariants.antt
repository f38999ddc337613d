use Rattle.std.proofs.Common.{◌≡◌, length, map}
use Rattle.sem_bits.proofs.LineLists.{kept}
use Rattle.sem_bits.proofs.lines.numbered.Given as goal

abbrev pub invariant-loop-line : goal.invariant-loop-line
invariant-loop-line l =
    (l.number ≡ length l.yielded) × (map (λ x. (x.number, x.text.now)) l.found.items ≡ kept 1 (map (λ x. x.now) l.yielded))
