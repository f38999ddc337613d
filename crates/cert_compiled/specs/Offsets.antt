-- Where the header fields of a format begin, as far as bounds tell it.
use Rattle.std.specs.Prelude.{◌≡◌, ℕ, ◌+◌, true, false, List, Option, Some, slice_get}
use Rattle.sem_profile.specs.declared.profile.Field.{Field}
use Rattle.sem_profile.specs.declared.profile.Sizes.{Sizes}
use Rattle.sem_filling.specs.Fillings.{is_header}

-- each header field before a field has one length by its bounds, and together they have so many bits
pub data HaveBefore (fields : List Field) (sizes : List Sizes) : ℕ → ℕ → Type 0 where
  none_before : HaveBefore fields sizes 0 0
  one_header : {i n : ℕ} (d : Field) (b : Sizes) → HaveBefore fields sizes i n → slice_get fields i ≡ Some d → is_header d.declared.part ≡ true → slice_get sizes i ≡ Some b →
      b.uncompressed.least ≡ b.uncompressed.most → HaveBefore fields sizes (i + 1) (n + b.uncompressed.least)
  one_other : {i n : ℕ} (d : Field) → HaveBefore fields sizes i n → slice_get fields i ≡ Some d → is_header d.declared.part ≡ false → HaveBefore fields sizes (i + 1) n

-- for each field how many bits they have, where that is told
abbrev pub AreOffsets : List Field → List Sizes → List (Option ℕ) → Type 0
AreOffsets fields sizes offsets = (i n : ℕ) → slice_get offsets i ≡ Some (Some n) → HaveBefore fields sizes i n

-- the header fields up to this one, with these bounds, have so many bits, by how many those before it have
pub record IsOffsetAfter (before : Option ℕ) (d : Field) (bounds : Option Sizes) (n : ℕ) : Type 0 where
  pub first : ℕ
  pub first_is : before ≡ Some first
  pub on : (fields : List Field) (sizes : List Sizes) (i : ℕ) → slice_get fields i ≡ Some d → slice_get sizes i ≡ bounds → HaveBefore fields sizes i first → HaveBefore fields sizes (i + 1) n
