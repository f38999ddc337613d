use Rattle.std.proofs.Common.{◌≡◌, Some}
use Rattle.std.specs.Prelude.{slice_get}
use Rattle.sem_profile.specs.declared.profile.FormatSizes.{FormatSizes}
use Rattle.cert_prove.specs.Made.{IsFormatMade}
use Rattle.cert_prove.proofs.EntriesPairs.{Pairs}
use Rattle.cert_prove.proofs.entries.all_formats.Given as goal

abbrev pub invariant-loop-format : goal.invariant-loop-format
invariant-loop-format l = Pairs (λ n f e. (z : FormatSizes) → slice_get l.bounds n ≡ Some z → IsFormatMade l.version l.table z f e) l.formats l.entries l.format
