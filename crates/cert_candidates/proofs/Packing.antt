-- What ends the search through the numbers.
use Rattle.std.proofs.Common.{◌≡◌, ℕ, ◌+◌, List, inl, inr, arith}
use Rattle.std.proofs.lemmas.Bool.{cases_lt}
use Rattle.std.specs.Prelude.{Some, slice_get}
use Rattle.sem_profile.specs.declared.profile.Method.{Method}
use Rattle.sem_profile.specs.declared.profile.MethodSizes.{MethodSizes}
use Rattle.sem_profile.specs.Outcome.{AreSizes}
use Rattle.cert_types.specs.declared.certificate.Version.{Version}
use Rattle.cert_types.specs.Kept.{Entries}
use Rattle.sem_filling.specs.declared.filling.Filling.{Filling}
use Rattle.sem_filling.specs.declared.filling.Item.{Item}
use Rattle.sem_filling.specs.Fillings.{item}
use Rattle.sem_filling.specs.Fits.{Context}
use Rattle.sem_filling.specs.Fronts.{FitsTop}
use Rattle.cert_rules.specs.Counts.{AreCounts}
use Rattle.cert_rules.specs.Valid.{Valid}
use Rattle.cert_candidates.specs.Codes.{number}
use Rattle.cert_candidates.specs.Best.{Best}
use Rattle.cert_candidates.specs.Packing.{NoneBelow}
use Rattle.cert_candidates.specs.Laws.{PackStarts, PackPasses}
use Rattle.cert_candidates.proofs.CodesBounds.{below}
use Rattle.cert_candidates.proofs.CodesCompares.{first_is_best}
use Rattle.cert_candidates.proofs.CodesFitting.{is_candidate}

pub starts : PackStarts
starts methods cert counts top ctx it g fitting has = omega arith

pub passes : PackPasses
passes methods cert counts top ctx it c skipped none among g fitting has =
    elim (cases_lt (number methods cert counts g top) (c + skipped)) [
      | inl below ↦ absurd (among g fitting has (none g fitting has) below)
      | inr past ↦ past
    ]

module _ (methods : List Method) (table : List MethodSizes) (top : ℕ) (version : Version) (cert : Entries) (are : AreSizes methods table) (valid : Valid methods table top (record { version = version; methods = cert })) (counts : List ℕ) (counted : AreCounts methods cert counts) (ctx : Context) (it : Item) where
  pub found : (c : ℕ) → NoneBelow methods cert counts top ctx it c → (f : Filling) → FitsTop methods top ctx f → item f ≡ it → number methods cert counts f top ≡ c →
      ((g : Filling) → FitsTop methods top ctx g → item g ≡ it → number methods cert counts g top ≡ c → g ≡ f) → Best methods cert top ctx it f
  found c none f fitting has at only =
      (first_is_best methods cert counts counted top ctx it (λ g fits_g has_g. is_candidate methods table top version cert are valid counts ctx fits_g) f fitting has).0
      (λ g fits_g has_g le. let least = none g fits_g has_g in only g fits_g has_g (omega (arith, le, least, at)))

  pub nowhere : (n : ℕ) → slice_get counts top ≡ Some n → NoneBelow methods cert counts top ctx it n → (f : Filling) → FitsTop methods top ctx f → item f ≡ it → ⊥
  nowhere n at none f fitting has =
      let l = below methods cert counts counted (is_candidate methods table top version cert are valid counts ctx fitting) n at in
      let least = none f fitting has in
      absurd (omega (arith, l, least))
