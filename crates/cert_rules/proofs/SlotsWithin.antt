-- What is learnt within the bounds is narrow where its value is asked for, and ends within the format.
use Rattle.std.proofs.Common.{◌≡◌, refl, sym, ◌∙◌, ap, subst, ℕ, ◌+◌, ◌^◌, ◌≤◌, Bool, true, false, List, [], ◌∷◌, length, arith, length-append}
use Rattle.std.specs.Prelude.{Option, Some, None, slice_get, option_map, unwrap_or, nat_eq, nat_lt, ◌||◌}
use Rattle.std.proofs.lemmas.Bool.{eqb-true, ltb-false}
use Rattle.sem_expr.specs.declared.inputs.Input.TheVariants as input
use Rattle.sem_expr.specs.declared.expr.Attribute.{Attribute}
use Rattle.sem_expr.specs.declared.expr.Subject.{Subject}
use Rattle.sem_expr.specs.declared.expr.Subject.TheVariants as subject
use Rattle.sem_expr.specs.declared.expr.Side.{Side}
use Rattle.sem_expr.specs.declared.expr.Side.TheVariants.{Uncompressed, Compressed}
use Rattle.sem_expr.specs.declared.expr.Expr.{Expr}
use Rattle.sem_expr.specs.Inputs.{inputs_of}
use Rattle.sem_profile.specs.declared.profile.Bounds.{Bounds}
use Rattle.sem_profile.specs.declared.profile.Sizes.{Sizes}
use Rattle.sem_profile.specs.declared.profile.FormatSizes.{FormatSizes}
use Rattle.sem_profile.specs.declared.profile.MethodSizes.{MethodSizes}
use Rattle.sem_profile.specs.declared.profile.Format.{Format}
use Rattle.sem_profile.specs.declared.profile.Method.{Method}
use Rattle.sem_profile.specs.Fields.{lists}
use Rattle.sem_profile.specs.Formats.{sizes_at}
use Rattle.sem_profile.specs.BoundsFaults.{side_bounds, subject_sizes, is_wide_by, is_wide}
use Rattle.sem_profile.specs.Outcome.{AreSizes, FormatAt}
use Rattle.sem_profile.proofs.FieldsRuling.{by-rules}
use Rattle.sem_filling.specs.Fillings.{Sides, header_bits, packed_bits}
use Rattle.sem_filling.proofs.FillingsUnique.{also_at}
use Rattle.sem_filling.specs.Fits.{field_side}
use Rattle.sem_filling.proofs.Bounding.{count_sizes}
use Rattle.sem_filling.proofs.BoundedSums.{header_high, piece, bound_at, packed_high}
use Rattle.std.proofs.lemmas.List.{length-replicate}
use Rattle.sem_filling.proofs.FitsSides.{piece_is}
use Rattle.sem_filling.proofs.Fronts.{within_limits}
use Rattle.cert_rules.specs.declared.slots.Learnt.{Learnt}
use Rattle.cert_rules.specs.declared.slots.Learnt.TheVariants.{Nothing, Length, Whole}
use Rattle.cert_rules.specs.declared.slots.Slot.{Slot}
use Rattle.cert_rules.specs.Facts.{before, before_more}
use Rattle.cert_rules.specs.Slots.{has_length, side_of_slot, learnt_of, learnt_at, bits_of, slot_sides}
use Rattle.cert_rules.specs.Reading.{known_sides, offset_of}
use Rattle.cert_rules.specs.Numbers.{LearntLies, IsNarrow, AreWithin, WithinIsNarrow, EndsWithin}
use Rattle.cert_rules.proofs.SlotsKnown.{slot_side, slots_declared}

pub learnt_high : (b : Bounds) (l : Learnt) → LearntLies b l → length (bits_of l) ≤ b.most
learnt_high b Nothing h = omega arith
learnt_high b (Length n) h = let e = length-replicate n false in let most = h.most in omega arith
learnt_high b (Whole bits) h = h.most

pub learnt_low : (b : Bounds) (l : Learnt) → LearntLies b l → has_length l ≡ true → b.least ≤ length (bits_of l)
learnt_low b Nothing h e = absurd (cc)
learnt_low b (Length n) h e = let same = length-replicate n false in let least = h.least in omega arith
learnt_low b (Whole bits) h e = h.least

abbrev no_sizes : Sizes
no_sizes = record { uncompressed = record { least = 0; most = 0 }; compressed = record { least = 0; most = 0 } }

-- a listed field ends within the whole
ends : (fs : List Sides) (i : ℕ) (listing : List ℕ) → lists listing i ≡ true → length (packed_bits (before i listing) fs) + length (piece fs i) ≤ length (packed_bits listing fs)
ends fs i [] e = absurd (cc)
ends fs i (k ∷ ks) e = by (nat_eq k i) refl e (ends fs i ks) where
  by : (b : Bool) → nat_eq k i ≡ b → (b || lists ks i) ≡ true → (lists ks i ≡ true → length (packed_bits (before i ks) fs) + length (piece fs i) ≤ length (packed_bits ks fs)) →
      length (packed_bits (before_more b k (before i ks)) fs) + length (piece fs i) ≤ length (packed_bits (k ∷ ks) fs)
  by true is h later =
      let same : length (piece fs k) ≡ length (piece fs i) = ap (λ z. length (piece fs z)) (eqb-true k i is) in
      omega (arith, length-append (piece fs k) (packed_bits ks fs), same)
  by false is h later = omega (arith, length-append (piece fs k) (packed_bits ks fs), length-append (piece fs k) (packed_bits (before i ks) fs), later h)

module _ (methods : List Method) (table : List MethodSizes) (are : AreSizes methods table) (m : Method) (format : Format) (s : MethodSizes) (sizes : FormatSizes) (at : FormatAt methods table m format s sizes)
    (slots : List Slot) (count : length slots ≡ length format.fields) (within : AreWithin sizes slots) where
  fs : List Sides
  fs = slot_sides format.fields slots

  pub bound_count : length slots ≡ length sizes.fields
  bound_count = count ∙ sym (count_sizes methods table are m format s sizes at)

  field_high : (i : ℕ) (side : Side) (o : Option Slot) → slice_get slots i ≡ o → length (bits_of (learnt_of side o)) ≤ (side_bounds side (sizes_at sizes.fields i)).most
  field_high i Uncompressed None e = omega arith
  field_high i Compressed None e = omega arith
  field_high i side (Some x) e =
      let b = also_at slots sizes.fields i x bound_count e in
      subst (λ z. length (bits_of (side_of_slot side x)) ≤ (side_bounds side z).most) (sym (ap (λ o. unwrap_or o no_sizes) b.1)) (learnt_high (side_bounds side b.0) (side_of_slot side x) (within i x b.0 side e b.1))

  side_high : (i : ℕ) (side : Side) → length (field_side (slice_get (slot_sides format.fields slots) i) side) ≤ (side_bounds side (sizes_at sizes.fields i)).most
  side_high i side = subst (λ z. length z ≤ (side_bounds side (sizes_at sizes.fields i)).most) (sym (slot_side format.fields slots count i side)) (field_high i side (slice_get slots i) refl)

  bound_is : (o : Option Sizes) → (unwrap_or o no_sizes).compressed.most ≡ unwrap_or (option_map (λ (b : Sizes). b.compressed.most) o) 0
  bound_is None = refl
  bound_is (Some b) = refl

  pub packed_within : length (packed_bits format.listing (slot_sides format.fields slots)) ≤ sizes.whole.compressed.most
  packed_within =
      subst (λ n. length (packed_bits format.listing (slot_sides format.fields slots)) ≤ n) (sym ((by-rules methods table are).most_sum m format s sizes at))
      (packed_high (λ b. b.compressed.most) sizes.fields (slot_sides format.fields slots)
      (λ i. let h = side_high i Compressed in
      let one : length (piece (slot_sides format.fields slots) i) ≡ length (field_side (slice_get (slot_sides format.fields slots) i) Compressed) = ap length (piece_is (slice_get (slot_sides format.fields slots) i)) in
      let two : (sizes_at sizes.fields i).compressed.most ≡ bound_at (λ b. b.compressed.most) sizes.fields i = bound_is (slice_get sizes.fields i) in
      omega (arith, h, one, two)) format.listing)

  pub header_within : length (header_bits (slot_sides format.fields slots)) ≤ sizes.whole.uncompressed.most
  header_within =
      subst (λ n. length (header_bits (slot_sides format.fields slots)) ≤ n) (sym ((by-rules methods table are).most_header m format s sizes at))
      (header_high (λ b. b.uncompressed.most) format.fields sizes.fields (slot_sides format.fields slots) (slots_declared format.fields slots count) (count_sizes methods table are m format s sizes at)
      (λ j b x eb ex. let h = side_high j Uncompressed in
      let one : (sizes_at sizes.fields j).uncompressed.most ≡ b.uncompressed.most = ap (λ o. (unwrap_or o no_sizes).uncompressed.most) eb in
      let two : length (field_side (slice_get (slot_sides format.fields slots) j) Uncompressed) ≡ length x.uncompressed = ap (λ o. length (field_side o Uncompressed)) ex in
      omega (arith, h, one, two)))

  subject_high : (x : Subject) (side : Side) → length (known_sides format slots x side) ≤ (side_bounds side (subject_sizes sizes x)).most
  subject_high (subject.Field i) side = side_high i side
  subject_high subject.This Uncompressed = header_within
  subject_high subject.This Compressed = packed_within

  narrow : (e : Expr) → ((k : ℕ) (t : Attribute) → slice_get (inputs_of e) k ≡ Some (input.Attribute t) → is_wide sizes t ≡ false) → IsNarrow format slots e
  narrow e wide k t at_t is =
      let b = side_bounds t.side (subject_sizes sizes t.subject) in
      let w : nat_lt 64 b.most ≡ false = ap (λ z. is_wide_by z b) (sym is) ∙ wide k t at_t in
      omega (arith, ltb-false 64 b.most w, subject_high t.subject t.side)

  ends_within : (i : ℕ) → lists format.listing i ≡ true → offset_of format slots i + length (bits_of (learnt_at slots i Compressed)) ≤ sizes.whole.compressed.most
  ends_within i listed =
      let own : length (piece (slot_sides format.fields slots) i) ≡ length (bits_of (learnt_at slots i Compressed)) = ap length (piece_is (slice_get (slot_sides format.fields slots) i) ∙ slot_side format.fields slots count i Compressed) in
      omega (arith, ends (slot_sides format.fields slots) i format.listing listed, packed_within, own)

  pub most_within : sizes.whole.compressed.most ≤ 2 ^ 18
  most_within =
      let outer = ((by-rules methods table are).of_method m format s sizes at Compressed).most in
      let limits = within_limits s.whole (are.fine.within at.method_place m s at.method_at at.whole_at) in
      omega (arith, outer, limits.1)

pub within_is_narrow : WithinIsNarrow
within_is_narrow methods table are m format s sizes at slots count within e wide = narrow methods table are m format s sizes at slots count within e wide

pub all_end_within : EndsWithin
all_end_within methods table are m format s sizes at slots count within i listed =
    (ends_within methods table are m format s sizes at slots count within i listed, most_within methods table are m format s sizes at slots count within)
