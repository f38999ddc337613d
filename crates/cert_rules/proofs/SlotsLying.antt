-- The numbers that slots know lie in the ranges of the format.
use Rattle.std.proofs.Common.{◌≡◌, refl, sym, ◌∙◌, ap, subst, ℕ, zero, suc, ◌+◌, ◌^◌, ◌≤◌, Bool, true, false, List, [], ◌∷◌, length, map, arith, length-append}
use Rattle.std.specs.Prelude.{Option, Some, None, IfSome, slice_get, option_map, unwrap_or, ◌&&◌, ℤ, if◌then◌else◌}
use Rattle.std.proofs.lemmas.List.{length-map}
use Rattle.std.proofs.lemmas.Option.{slice_get-map}
use Rattle.sem_expr.specs.declared.expr.Subject.TheVariants as subject
use Rattle.sem_expr.specs.declared.expr.Side.{Side}
use Rattle.sem_expr.specs.declared.expr.Side.TheVariants.{Uncompressed, Compressed}
use Rattle.sem_expr.specs.declared.expr.Measure.TheVariants as measure
use Rattle.sem_expr.specs.Rules.{IsIn}
use Rattle.sem_expr.specs.Spread.{LieIn}
use Rattle.sem_expr.specs.Known.{assignment_of}
use Rattle.sem_profile.specs.declared.profile.Bounds.{Bounds}
use Rattle.sem_profile.specs.declared.profile.Sizes.{Sizes}
use Rattle.sem_profile.specs.declared.profile.FormatSizes.{FormatSizes}
use Rattle.sem_profile.specs.declared.profile.MethodSizes.{MethodSizes}
use Rattle.sem_profile.specs.declared.profile.Field.{Field}
use Rattle.sem_profile.specs.declared.profile.Format.{Format}
use Rattle.sem_profile.specs.declared.profile.Method.{Method}
use Rattle.sem_profile.specs.BoundsFaults.{side_bounds}
use Rattle.sem_profile.specs.HasBounds.{listed_sum, header_sum}
use Rattle.sem_profile.specs.Ranging.{value_range, length_range}
use Rattle.sem_profile.specs.Calling.{ranges_in}
use Rattle.sem_profile.specs.Outcome.{AreSizes, FormatAt}
use Rattle.sem_profile.proofs.FieldsRuling.{by-rules}
use Rattle.sem_filling.specs.Fillings.{Sides, is_header, header_bits, packed_bits}
use Rattle.sem_filling.proofs.FillingsUnique.{also_at}
use Rattle.sem_filling.specs.Bounded.{ArgumentsLie}
use Rattle.sem_filling.proofs.FitsSides.{piece_is}
use Rattle.sem_filling.proofs.Fronts.{within_limits}
use Rattle.sem_filling.proofs.BoundedSums.{same_test}
use Rattle.sem_filling.specs.Numbers.{numbers, NumbersLie, BothLie, AllLie}
use Rattle.sem_filling.proofs.NumbersLying.{count_lies, bits_lie, partly_lies}
use Rattle.cert_rules.specs.declared.slots.Learnt.{Learnt}
use Rattle.cert_rules.specs.declared.slots.Learnt.TheVariants.{Nothing, Length, Whole}
use Rattle.cert_rules.specs.declared.slots.Slot.{Slot}
use Rattle.cert_types.specs.declared.rule.Fact.{Fact}
use Rattle.cert_types.specs.declared.rule.Fact.TheVariants.{LengthOf}
use Rattle.cert_rules.specs.Facts.{of_header, of_headers, side_facts}
use Rattle.cert_rules.specs.Slots.{has_length, side_of_slot, learnt_of, learnt_at, knows_all, bits_of, slot_sides}
use Rattle.cert_rules.specs.Reading.{known_sides}
use Rattle.cert_rules.specs.Numbers.{learnt_numbers, slot_numbers, whole_numbers, known_of, LearntLies, AreWithin, SlotsLie}
use Rattle.cert_rules.proofs.ViewsAgree.{and_true}
use Rattle.cert_rules.proofs.ViewsInputs.{joined, header_cons}
use Rattle.cert_rules.proofs.SlotsKnown.{slot_side}
use Rattle.cert_rules.proofs.SlotsWithin.{learnt_low, bound_count, packed_within, header_within, most_within}

-- ---- one side

learnt_lies : (b : Bounds) (l : Learnt) → b.most ≤ 2 ^ 64 → LearntLies b l → NumbersLie b (learnt_numbers l)
learnt_lies b Nothing small h = record { value_lies = tt; length_lies = tt }
learnt_lies b (Length n) small h = record { value_lies = tt; length_lies = count_lies b n small h }
learnt_lies b (Whole bits) small h = bits_lie b bits small h

-- their number, whatever the least length
value_lies : (b : Bounds) (bits : List Bool) → b.most ≤ 2 ^ 64 → length bits ≤ b.most → IfSome (numbers bits).value (IsIn (value_range b.most))
value_lies b bits small most = (bits_lie record { least = 0; most = b.most } bits small record { least = omega arith; most = most }).value_lies

-- ---- sums of least lengths

module _ (format : Format) (slots : List Slot) where
  low_next : (t : Bool) (fact : Fact) (more : List Fact) (least sum : ℕ) (u rest : List Bool) → knows_all format slots (of_header t fact more) ≡ true →
      (knows_all format slots (fact ∷ []) ≡ true → least ≤ length u) → (knows_all format slots more ≡ true → sum ≤ length rest) → (if t then least else 0) + sum ≤ length (joined t u rest)
  low_next true fact more least sum u rest e first later =
      let b = and_true _ (knows_all format slots more) e in
      omega (arith, length-append u rest, first (λ i. (b.0 ∙ refl) i && true), later b.1)
  low_next false fact more least sum u rest e first later = omega (arith, later e)

  header_low : (n : ℕ) (ds : List Field) (bs : List Sizes) (ss : List Slot) → length ss ≡ length ds → ((j : ℕ) → learnt_at slots (n + j) Uncompressed ≡ learnt_of Uncompressed (slice_get ss j)) →
      ((j : ℕ) (s : Slot) (b : Sizes) → slice_get ss j ≡ Some s → slice_get bs j ≡ Some b → LearntLies b.uncompressed s.uncompressed) → knows_all format slots (of_headers (LengthOf Uncompressed) n ds) ≡ true →
      header_sum (λ b. b.uncompressed.least) ds bs ≤ length (header_bits (slot_sides ds ss))
  header_low n [] bs ss e same lie known = omega arith
  header_low n (d ∷ ds) [] ss e same lie known = omega arith
  header_low n (d ∷ ds) (b ∷ bs) [] e same lie known = absurd (omega (arith, e))
  header_low n (d ∷ ds) (b ∷ bs) (s ∷ ss) e same lie known =
      let here : learnt_at slots n Uncompressed ≡ s.uncompressed = ap (λ z. learnt_at slots z Uncompressed) (omega arith) ∙ same zero in
      let u = bits_of s.uncompressed in
      let rest = header_bits (slot_sides ds ss) in
      let low = low_next (is_header d.declared.part) (LengthOf Uncompressed n) (of_headers (LengthOf Uncompressed) (suc n) ds) b.uncompressed.least (header_sum (λ b. b.uncompressed.least) ds bs) u rest known
      (λ k. learnt_low b.uncompressed s.uncompressed (lie zero s b refl refl) (ap has_length (sym here) ∙ (and_true (has_length (learnt_at slots n Uncompressed)) true k).0))
      (λ k. header_low (suc n) ds bs ss (omega (arith, e)) (λ j. ap (λ z. learnt_at slots z Uncompressed) (omega arith) ∙ same (suc j)) (λ j. lie (suc j)) k) in
      subst (λ z. header_sum (λ b. b.uncompressed.least) (d ∷ ds) (b ∷ bs) ≤ length z) (sym (header_cons record { declared = d.declared; uncompressed = u; compressed = bits_of s.compressed } (slot_sides ds ss)))
      (subst (λ t. (if t then b.uncompressed.least else 0) + header_sum (λ b. b.uncompressed.least) ds bs ≤ length (joined (is_header d.declared.part) u rest)) (sym (same_test d.declared.part)) low)

module _ (methods : List Method) (table : List MethodSizes) (are : AreSizes methods table) (m : Method) (format : Format) (s : MethodSizes) (sizes : FormatSizes) (at : FormatAt methods table m format s sizes)
    (slots : List Slot) (args : List ℤ) (count : length slots ≡ length format.fields) (within : AreWithin sizes slots) (lies : ArgumentsLie s.parameters args) where
  abbrev fs : List Sides
  fs = slot_sides format.fields slots

  as_many : length slots ≡ length sizes.fields
  as_many = bound_count methods table are m format s sizes at slots count within

  piece_low : (i : ℕ) (o : Option Slot) → slice_get slots i ≡ o → has_length (learnt_of Compressed o) ≡ true →
      unwrap_or (option_map (λ (b : Sizes). b.compressed.least) (slice_get sizes.fields i)) 0 ≤ length (bits_of (learnt_of Compressed o))
  piece_low i None e known = absurd (cc)
  piece_low i (Some x) e known =
      let b = also_at slots sizes.fields i x as_many e in
      let is : unwrap_or (option_map (λ (b : Sizes). b.compressed.least) (slice_get sizes.fields i)) 0 ≡ b.0.compressed.least = ap (λ o. unwrap_or (option_map (λ (b : Sizes). b.compressed.least) o) 0) b.1 in
      let low = learnt_low b.0.compressed x.compressed (within i x b.0 Compressed e b.1) known in
      omega (arith, is, low)

  packed_low : (listing : List ℕ) → knows_all format slots (map (LengthOf Compressed) listing) ≡ true → listed_sum (λ b. b.compressed.least) sizes.fields listing ≤ length (packed_bits listing fs)
  packed_low [] e = omega arith
  packed_low (i ∷ is) e =
      let b = and_true (has_length (learnt_at slots i Compressed)) (knows_all format slots (map (LengthOf Compressed) is)) e in
      let own = unwrap_or (option_map (λ (s : Sides). s.compressed) (slice_get fs i)) [] in
      let same : length own ≡ length (bits_of (learnt_at slots i Compressed)) = ap length (piece_is (slice_get fs i) ∙ slot_side format.fields slots count i Compressed) in
      omega (arith, length-append own (packed_bits is fs), same, piece_low i (slice_get slots i) refl b.0, packed_low is b.1)

  whole_small : (side : Side) → (side_bounds side sizes.whole).most ≤ 2 ^ 64
  whole_small Uncompressed =
      let outer = ((by-rules methods table are).of_method m format s sizes at Uncompressed).most in
      let limits = within_limits s.whole (are.fine.within at.method_place m s at.method_at at.whole_at) in
      omega (arith, outer, limits.0)
  whole_small Compressed = let limit = most_within methods table are m format s sizes at slots count within in omega arith

  whole_low : (side : Side) → knows_all format slots (side_facts format subject.This side measure.Length) ≡ true → (side_bounds side sizes.whole).least ≤ length (known_sides format slots subject.This side)
  whole_low Uncompressed e =
      subst (λ n. n ≤ length (header_bits fs)) (sym ((by-rules methods table are).least_header m format s sizes at))
      (header_low format slots 0 format.fields sizes.fields slots count (λ j. ap (λ z. learnt_at slots z Uncompressed) (omega arith)) (λ j x b ex eb. within j x b Uncompressed ex eb) e)
  whole_low Compressed e = subst (λ n. n ≤ length (packed_bits format.listing fs)) (sym ((by-rules methods table are).least_sum m format s sizes at)) (packed_low format.listing e)

  whole_high : (side : Side) → length (known_sides format slots subject.This side) ≤ (side_bounds side sizes.whole).most
  whole_high Uncompressed = header_within methods table are m format s sizes at slots count within
  whole_high Compressed = packed_within methods table are m format s sizes at slots count within

  whole_lies : (side : Side) → NumbersLie (side_bounds side sizes.whole) (whole_numbers format slots side)
  whole_lies side = record {
    value_lies = by_value (knows_all format slots (side_facts format subject.This side measure.Value));
    length_lies = by_length (knows_all format slots (side_facts format subject.This side measure.Length)) refl;
  }
    where
      by_value : (t : Bool) → IfSome (if t then (numbers (known_sides format slots subject.This side)).value else None) (IsIn (value_range (side_bounds side sizes.whole).most))
      by_value true = value_lies (side_bounds side sizes.whole) (known_sides format slots subject.This side) (whole_small side) (whole_high side)
      by_value false = tt

      by_length : (t : Bool) → knows_all format slots (side_facts format subject.This side measure.Length) ≡ t → IfSome (if t then (numbers (known_sides format slots subject.This side)).length else None) (IsIn (length_range (side_bounds side sizes.whole)))
      by_length true e = count_lies (side_bounds side sizes.whole) (length (known_sides format slots subject.This side)) (whole_small side) record { least = whole_low side e; most = whole_high side }
      by_length false e = tt

  field_lies : (i : ℕ) (x : Slot) (b : Sizes) (side : Side) → slice_get slots i ≡ Some x → slice_get sizes.fields i ≡ Some b → NumbersLie (side_bounds side b) (learnt_numbers (side_of_slot side x))
  field_lies i x b side e at_b =
      learnt_lies (side_bounds side b) (side_of_slot side x) ((by-rules methods table are).small m format s sizes at side i _ b (also_at slots format.fields i x count e).1 at_b) (within i x b side e at_b)

  fields_lie : AllLie sizes.fields (map slot_numbers slots)
  fields_lie i b y at_b at_y = by (slice_get slots i) refl
    where
      by : (o : Option Slot) → slice_get slots i ≡ o → BothLie b y
      by None e = let wrong : None ≡ Some y = sym (slice_get-map slot_numbers slots i ∙ ap (option_map slot_numbers) e) ∙ at_y in absurd cc
      by (Some x) e =
          let is : Some (slot_numbers x) ≡ Some y = sym (slice_get-map slot_numbers slots i ∙ ap (option_map slot_numbers) e) ∙ at_y in
          let same : slot_numbers x ≡ y = cc in
          subst (BothLie b) same record { uncompressed_lies = field_lies i x b Uncompressed e at_b; compressed_lies = field_lies i x b Compressed e at_b }

  slots_lie : LieIn (assignment_of (known_of format slots args)) (ranges_in sizes s)
  slots_lie =
      partly_lies (known_of format slots args) s sizes (sym as_many ∙ sym (length-map slots slot_numbers)) fields_lie
      record { uncompressed_lies = whole_lies Uncompressed; compressed_lies = whole_lies Compressed } lies

pub all_lie : SlotsLie
all_lie methods table are m format s sizes at slots args count within lies = slots_lie methods table are m format s sizes at slots args count within lies
