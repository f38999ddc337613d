-- The header and the packed bits are as long as the sides that they join.
use Rattle.std.proofs.Common.{◌≡◌, ◌∙◌, refl, sym, ap, subst, ℕ, ◌+◌, ◌≤◌, suc, Bool, true, false, cond, List, [], ◌∷◌, length, map, arith, length-append, filter}
use Rattle.std.specs.Prelude.{Some, slice_get, if◌then◌else◌}
use Rattle.std.specs.List.{flat_map}
use Rattle.std.specs.Option.{option_map, unwrap_or}
use Rattle.sem_profile.specs.declared.profile.Part.{Part}
use Rattle.sem_profile.specs.declared.profile.Part.TheVariants.{Header, Control, Local}
use Rattle.sem_profile.specs.declared.profile.Sizes.{Sizes}
use Rattle.sem_profile.specs.declared.profile.Field.{Field}
use Rattle.sem_profile.specs.Formats as formats
use Rattle.sem_profile.specs.HasBounds.{listed_sum, header_sum}
use Rattle.sem_filling.specs.Fillings.{Sides, is_header, header_bits, packed_bits}

-- ---- the header

pub same_test : (p : Part) → formats.is_header p ≡ is_header p
same_test Header = refl
same_test Control = refl
same_test Local = refl

abbrev counted : Bool → ℕ → ℕ → ℕ
counted t here rest = (if t then here else 0) + rest

length_next : (t : Bool) (s : Sides) (fs : List Sides) → length (flat_map (λ x. x.uncompressed) (cond t (s ∷ fs) fs)) ≡ counted t (length s.uncompressed) (length (flat_map (λ x. x.uncompressed) fs))
length_next true s fs = length-append s.uncompressed (flat_map (λ x. x.uncompressed) fs)
length_next false s fs = omega arith

header_next : (d : Field) (s : Sides) (fs : List Sides) → s.declared ≡ d.declared → length (header_bits (s ∷ fs)) ≡ counted (formats.is_header d.declared.part) (length s.uncompressed) (length (header_bits fs))
header_next d s fs same =
    length_next (is_header s.declared.part) s (filter (λ x. is_header x.declared.part) fs)
    ∙ ap (λ t. counted t (length s.uncompressed) (length (header_bits fs))) (ap (λ x. is_header x.part) same ∙ sym (same_test d.declared.part))

counted_le : (t : Bool) (a b x y : ℕ) → a ≤ b → x ≤ y → counted t a x ≤ counted t b y
counted_le true a b x y h k = omega arith
counted_le false a b x y h k = omega arith

pub header_low : (bound : Sizes → ℕ) (ds : List Field) (bs : List Sizes) (fs : List Sides) → map (λ s. s.declared) fs ≡ map (λ d. d.declared) ds
    → ((j : ℕ) (b : Sizes) (s : Sides) → slice_get bs j ≡ Some b → slice_get fs j ≡ Some s → bound b ≤ length s.uncompressed) → header_sum bound ds bs ≤ length (header_bits fs)
header_low bound [] bs fs same h = omega arith
header_low bound (d ∷ ds) [] fs same h = omega arith
header_low bound (d ∷ ds) (b ∷ bs) [] same h = absurd (cc)
header_low bound (d ∷ ds) (b ∷ bs) (s ∷ fs) same h =
    let here : s.declared ≡ d.declared = cc in
    let later : map (λ x. x.declared) fs ≡ map (λ x. x.declared) ds = cc in
    subst (λ n. header_sum bound (d ∷ ds) (b ∷ bs) ≤ n) (sym (header_next d s fs here))
    (counted_le (formats.is_header d.declared.part) (bound b) (length s.uncompressed) (header_sum bound ds bs) (length (header_bits fs)) (h 0 b s refl refl)
    (header_low bound ds bs fs later (λ j x y at at'. h (suc j) x y at at')))

pub header_high : (bound : Sizes → ℕ) (ds : List Field) (bs : List Sizes) (fs : List Sides) → map (λ s. s.declared) fs ≡ map (λ d. d.declared) ds → length bs ≡ length ds
    → ((j : ℕ) (b : Sizes) (s : Sides) → slice_get bs j ≡ Some b → slice_get fs j ≡ Some s → length s.uncompressed ≤ bound b) → length (header_bits fs) ≤ header_sum bound ds bs
header_high bound [] bs [] same count h = omega arith
header_high bound [] bs (s ∷ fs) same count h = absurd (cc)
header_high bound (d ∷ ds) [] fs same count h = absurd (omega (arith, count))
header_high bound (d ∷ ds) (b ∷ bs) [] same count h = absurd (cc)
header_high bound (d ∷ ds) (b ∷ bs) (s ∷ fs) same count h =
    let here : s.declared ≡ d.declared = cc in
    let later : map (λ x. x.declared) fs ≡ map (λ x. x.declared) ds = cc in
    subst (λ n. n ≤ header_sum bound (d ∷ ds) (b ∷ bs)) (sym (header_next d s fs here))
    (counted_le (formats.is_header d.declared.part) (length s.uncompressed) (bound b) (length (header_bits fs)) (header_sum bound ds bs) (h 0 b s refl refl)
    (header_high bound ds bs fs later (omega (arith, count)) (λ j x y at at'. h (suc j) x y at at')))

-- ---- the packed bits

-- those of the field at an index, if there is one
abbrev pub piece : List Sides → ℕ → List Bool
piece fs i = unwrap_or (option_map (λ s. s.compressed) (slice_get fs i)) []

abbrev pub bound_at : (Sizes → ℕ) → List Sizes → ℕ → ℕ
bound_at bound bs i = unwrap_or (option_map bound (slice_get bs i)) 0

pub packed_low : (bound : Sizes → ℕ) (bs : List Sizes) (fs : List Sides) → ((i : ℕ) → bound_at bound bs i ≤ length (piece fs i)) → (listing : List ℕ)
    → listed_sum bound bs listing ≤ length (packed_bits listing fs)
packed_low bound bs fs h [] = omega arith
packed_low bound bs fs h (i ∷ is) = omega (arith, h i, packed_low bound bs fs h is, length-append (piece fs i) (packed_bits is fs))

pub packed_high : (bound : Sizes → ℕ) (bs : List Sizes) (fs : List Sides) → ((i : ℕ) → length (piece fs i) ≤ bound_at bound bs i) → (listing : List ℕ)
    → length (packed_bits listing fs) ≤ listed_sum bound bs listing
packed_high bound bs fs h [] = omega arith
packed_high bound bs fs h (i ∷ is) = omega (arith, h i, packed_high bound bs fs h is, length-append (piece fs i) (packed_bits is fs))
