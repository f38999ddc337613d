use Rattle.std.proofs.Common.{◌≡◌, Some}
use Rattle.std.specs.Prelude.{slice_get}
use Rattle.sem_profile.specs.declared.profile.MethodSizes.{MethodSizes}
use Rattle.cert_prove.specs.Made.{IsEntryMade}
use Rattle.cert_prove.proofs.EntriesPairs.{Pairs}
use Rattle.cert_prove.proofs.entries.all_entries.Given as goal

abbrev pub invariant-loop-method : goal.invariant-loop-method
invariant-loop-method l = Pairs (λ k m o. (s : MethodSizes) → slice_get l.table k ≡ Some s → IsEntryMade l.version l.table m s o) l.methods l.entries l.method
