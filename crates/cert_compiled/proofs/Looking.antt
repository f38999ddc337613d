-- Where header fields begin, one field after the other.
use Rattle.std.proofs.Common.{◌≡◌, ◌∙◌, sym, ap, subst, ℕ, ◌+◌, true, false, List, [], ◌∷◌, ◌++◌, length}
use Rattle.std.specs.Prelude.{slice_get, Option, Some, None, IfSome, SomeIff}
use Rattle.sem_profile.specs.declared.profile.Field.{Field}
use Rattle.sem_profile.specs.declared.profile.Sizes.{Sizes}
use Rattle.sem_filling.specs.Fillings.{is_header}
use Rattle.sem_pages.proofs.Growing.{at_end}
use Rattle.cert_compiled.specs.Offsets.{HaveBefore, one_header, one_other, AreOffsets, IsOffsetAfter}

pub some_says : {A : Type 0} (P : A → Type 0) (o : Option A) → IfSome o P → (x : A) → o ≡ Some x → P x
some_says P None says x is = let wrong : None ≡ Some x = is in absurd cc
some_says P (Some y) says x is = let same : y ≡ x = cc in subst P same says

pub offsets_next : (fields : List Field) (sizes : List Sizes) (offsets : List (Option ℕ)) (next : Option ℕ) (n : ℕ) → length offsets ≡ n → AreOffsets fields sizes offsets → IfSome next (HaveBefore fields sizes n)
    → AreOffsets fields sizes (offsets ++ next ∷ [])
offsets_next fields sizes offsets next n long right before i m at = at_end offsets next i (Some m) at (HaveBefore fields sizes i m) (λ old. right i m old)
    (λ last same. subst (λ k. HaveBefore fields sizes k m) (sym (last ∙ long)) (some_says (HaveBefore fields sizes n) next before m same))

pub after_next : (fields : List Field) (sizes : List Sizes) (i : ℕ) (d : Field) (bounds : Option Sizes) (before o : Option ℕ) → slice_get fields i ≡ Some d → slice_get sizes i ≡ bounds → IfSome before (HaveBefore fields sizes i)
    → IfSome o (IsOffsetAfter before d bounds) → IfSome o (HaveBefore fields sizes (i + 1))
after_next fields sizes i d bounds before None at there so_far after = tt
after_next fields sizes i d bounds before (Some n) at there so_far after = after.on fields sizes i at there (some_says (HaveBefore fields sizes i) before so_far after.first after.first_is)

-- the first field begins at once
pub none_looked : (fields : List Field) (sizes : List Sizes) (offsets : List (Option ℕ)) → offsets ≡ [] → AreOffsets fields sizes offsets
none_looked fields sizes offsets none i n at = let wrong : None ≡ Some (Some n) = ap (λ os. slice_get os i) (sym none) ∙ at in absurd cc

-- a field beside the header takes nothing of it
pub other_after : (before : Option ℕ) (m : ℕ) (d : Field) (bounds : Option Sizes) → before ≡ Some m → is_header d.declared.part ≡ false → IsOffsetAfter before d bounds m
other_after before m d bounds is beside = record { first = m; first_is = is; on = λ fields sizes i at there so_far. one_other d so_far at beside }

-- a header field takes what its bounds say
pub header_after : (before : Option ℕ) (m count : ℕ) (d : Field) (bounds : Option Sizes) (b : Sizes) (P : Type 0) (o : Option ℕ) → before ≡ Some m → is_header d.declared.part ≡ true → bounds ≡ Some b → b.uncompressed.least ≡ count → b.uncompressed.most ≡ count
    → SomeIff o P (m + count) → IfSome o (IsOffsetAfter before d bounds)
header_after before m count d bounds b P None is header bounds_are least most sum = tt
header_after before m count d bounds b P (Some n) is header bounds_are least most sum = record {
  first = m;
  first_is = is;
  on = λ fields sizes i at there so_far. subst (HaveBefore fields sizes (i + 1)) (ap (λ k. m + k) least ∙ sym sum.1) (one_header d b so_far at header (there ∙ bounds_are) (least ∙ sym most));
}
