use Rattle.std.proofs.Common.{◌≡◌, Some}
use Rattle.std.specs.Prelude.{slice_get}
use Rattle.sem_profile.specs.declared.profile.FormatSizes.{FormatSizes}
use Rattle.cert_rules.specs.Valid.{HasPlans}
use Rattle.sem_filling.proofs.Each.{Before}
use Rattle.cert_check.proofs.validity.formats_fault.Given as goal

abbrev pub invariant-loop-n : goal.invariant-loop-n
invariant-loop-n l = Before (λ n format. (z : FormatSizes) → slice_get l.bounds.formats n ≡ Some z → HasPlans l.version l.table z format l.entry n) l.method.formats l.n
