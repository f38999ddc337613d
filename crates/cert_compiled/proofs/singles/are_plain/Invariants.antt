use Rattle.std.proofs.Common.{◌≡◌, ℕ}
use Rattle.std.specs.Prelude.{Some, slice_get}
use Rattle.sem_filling.proofs.Each.{Before}
use Rattle.cert_types.specs.declared.certificate.Plans.{Plans}
use Rattle.cert_types.specs.declared.certificate.Step.{Step}
use Rattle.cert_compiled.specs.Single.{IsPlain}
use Rattle.cert_compiled.proofs.singles.are_plain.Given as goal

abbrev pub invariant-loop-format : goal.invariant-loop-format
invariant-loop-format l = Before (λ n f. (plans : Plans) → f.plans ≡ Some plans → (j : ℕ) (s : Step) → slice_get plans.write j ≡ Some s → IsPlain s) l.fn.entry.formats l.format-index
