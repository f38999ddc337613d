use Rattle.std.proofs.Common.{ℕ, ◌*◌, ◌<◌}
use Rattle.cert_prove.specs.Marking.{IsDue}
use Rattle.cert_prove.proofs.marks.first_due.Given as goal

abbrev pub invariant-loop-word : goal.invariant-loop-word
invariant-loop-word l = (i : ℕ) → i < l.word * 64 → IsDue l.waits.due i → ⊥
