-- What each level keeps, from the start and as more is learnt.
use Rattle.std.proofs.Common.{◌≡◌, refl, sym, ◌∙◌, ap, subst, ℕ, zero, suc, ◌+◌, ◌<◌, ◌≤◌, ◌^◌, Bool, true, false, ◌⊎◌, inl, inr, List, [], ◌∷◌, ◌++◌, length, arith, length-append}
use Rattle.std.specs.Prelude.{Some, None, slice_get, unwrap_or, ℤ, nat_eq}
use Rattle.std.proofs.lemmas.Option.{same_Some}
use Rattle.sem_expr.specs.declared.expr.Side.{Side}
use Rattle.sem_expr.specs.declared.expr.Side.TheVariants.{Uncompressed, Compressed}
use Rattle.sem_expr.specs.declared.expr.Subject.TheVariants as subject
use Rattle.sem_profile.specs.declared.profile.Sizes.{Sizes}
use Rattle.sem_profile.specs.declared.profile.FormatSizes.{FormatSizes}
use Rattle.sem_profile.specs.declared.profile.Field.{Field}
use Rattle.sem_profile.specs.declared.profile.Format.{Format}
use Rattle.sem_profile.specs.Fields.{lists, bounds, sides}
use Rattle.sem_profile.specs.BoundsFaults.{side_bounds}
use Rattle.sem_profile.proofs.FieldsRuling.{by-rules}
use Rattle.sem_filling.proofs.Fronts.{within_limits}
use Rattle.cert_rules.specs.declared.slots.Learnt.{Learnt}
use Rattle.cert_rules.specs.declared.slots.Learnt.TheVariants.{Nothing}
use Rattle.cert_rules.specs.declared.slots.Slot.{Slot}
use Rattle.cert_rules.specs.Facts.{before, before_more}
use Rattle.cert_rules.specs.Slots.{side_of_slot, learnt_at, bits_of}
use Rattle.cert_rules.specs.Numbers.{LearntLies, known_of}
use Rattle.cert_rules.specs.Reading.{known_sides, start_side, start_slot, start_slots}
use Rattle.cert_rules.proofs.SlotsWithin.{header_within, packed_within, most_within}
use Rattle.walk_steps.specs.Sides.{with_side, LearnsAt}
use Rattle.walk_steps.specs.Joined.{header_places, joined_bits}
use Rattle.walk_steps.specs.Partial.{IsPlaced, IsKept, AreUnsent, bounds_at, parts_of, whole_numbers, known_by}
use Rattle.walk_steps.proofs.FrontsChanged.{set_length, set_cases}
use Rattle.walk_steps.proofs.JoinedParts.{whole_joined, numbers_kept}

abbrev no_sizes : Sizes
no_sizes = sides (bounds 0 0) (bounds 0 0)

-- ---- the whole is short

module _ (format : Format) (sizes : FormatSizes) (args : List ℤ) (slots : List Slot) (kept : IsKept (record { format = format; sizes = sizes; args = args; slots = slots })) where
  side_short : (side : Side) → length (known_sides format slots subject.This side) < 2 ^ 31
  side_short Uncompressed =
      let p = kept.placed in
      let high = header_within p.methods p.table p.are_sizes p.method format p.whole sizes p.at slots kept.count kept.within in
      let outer = ((by-rules p.methods p.table p.are_sizes).of_method p.method format p.whole sizes p.at Uncompressed).most in
      let limits = within_limits p.whole.whole (p.are_sizes.fine.within p.at.method_place p.method p.whole p.at.method_at p.at.whole_at) in
      let limit : p.whole.whole.uncompressed.most ≤ 4096 = limits.0 in
      omega (arith, high, outer, limit)
  side_short Compressed =
      let p = kept.placed in
      let high = packed_within p.methods p.table p.are_sizes p.method format p.whole sizes p.at slots kept.count kept.within in
      let limit = most_within p.methods p.table p.are_sizes p.method format p.whole sizes p.at slots kept.count kept.within in
      omega (arith, high, limit)

  pub parts_short : (side : Side) → length (joined_bits slots side (parts_of format side)) < 2 ^ 31
  parts_short side = subst (λ bits. length bits < 2 ^ 31) (whole_joined format slots kept.count side) (side_short side)

-- ---- more is learnt

side_lies : (side z : Side) (b : Sizes) (now : Learnt) (s : Slot) → LearntLies (side_bounds side b) now → ((z : Side) → LearntLies (side_bounds z b) (side_of_slot z s)) → LearntLies (side_bounds z b) (side_of_slot z (with_side side now s))
side_lies Uncompressed Uncompressed b now s h others = h
side_lies Uncompressed Compressed b now s h others = others Compressed
side_lies Compressed Uncompressed b now s h others = others Uncompressed
side_lies Compressed Compressed b now s h others = h

module _ (format : Format) (sizes : FormatSizes) (args : List ℤ) (old new : List Slot) (i : ℕ) (side : Side) (found : Learnt)
    (kept : IsKept (record { format = format; sizes = sizes; args = args; slots = old })) (l : LearnsAt (bounds_at sizes i side) i side found old new) where
  abbrev slot_now : Slot
  slot_now = with_side side l.now l.slot

  learnt_lies : (b : Sizes) → slice_get sizes.fields i ≡ Some b → LearntLies (side_bounds side b) l.now
  learnt_lies b at =
      let same : bounds_at sizes i side ≡ side_bounds side b = ap (λ o. side_bounds side (unwrap_or o no_sizes)) at in
      subst (λ z. LearntLies z l.now) same (l.joint.lies (subst (λ z. LearntLies z (side_of_slot side l.slot)) (sym same) (kept.within i l.slot b side l.slot_is at)))

  pub kept_after : IsKept (record { format = format; sizes = sizes; args = args; slots = new })
  kept_after = record {
    placed = kept.placed;
    count = ap length l.slots_are ∙ (set_length old i slot_now ∙ kept.count);
    within = λ j s b z at_s at_b. by j s b z at_s at_b (set_cases old i slot_now j s (ap (λ xs. slice_get xs j) (sym l.slots_are) ∙ at_s));
  }
    where
      by : (j : ℕ) (s : Slot) (b : Sizes) (z : Side) → slice_get new j ≡ Some s → slice_get sizes.fields j ≡ Some b → ((j ≡ i) × (slot_now ≡ s)) ⊎ (slice_get old j ≡ Some s) → LearntLies (side_bounds z b) (side_of_slot z s)
      by j s b z at_s at_b (inr there) = kept.within j s b z there at_b
      by j s b z at_s at_b (inl h) =
          let at = ap (slice_get sizes.fields) (sym h.0) ∙ at_b in
          subst (λ x. LearntLies (side_bounds z b) (side_of_slot z x)) h.1 (side_lies side z b l.now l.slot (learnt_lies b at) (λ w. kept.within i l.slot b w l.slot_is at))

-- the sides of the whole are short
pub whole_short : (format : Format) (sizes : FormatSizes) (args : List ℤ) (headers : List ℕ) (slots : List Slot) → headers ≡ header_places 0 format.fields →
    IsKept (record { format = format; sizes = sizes; args = args; slots = slots }) → (length (joined_bits slots Uncompressed headers) < 2 ^ 31) × (length (joined_bits slots Compressed format.listing) < 2 ^ 31)
whole_short format sizes args headers slots headers_are kept = (
  subst (λ h. length (joined_bits slots Uncompressed h) < 2 ^ 31) (sym headers_are) (parts_short format sizes args slots kept Uncompressed),
  parts_short format sizes args slots kept Compressed,
)

-- so do the parts before a field
before_short : (slots : List Slot) (side : Side) (i : ℕ) (fields : List ℕ) → length (joined_bits slots side (before i fields)) ≤ length (joined_bits slots side fields)
before_short slots side i [] = omega arith
before_short slots side i (k ∷ ks) = by (nat_eq k i) (before_short slots side i ks)
  where
    own : List Bool
    own = bits_of (learnt_at slots k side)

    by : (b : Bool) → length (joined_bits slots side (before i ks)) ≤ length (joined_bits slots side ks) → length (joined_bits slots side (before_more b k (before i ks))) ≤ length (own ++ joined_bits slots side ks)
    by true less = omega arith
    by false less = omega (arith, length-append own (joined_bits slots side (before i ks)), length-append own (joined_bits slots side ks), less)

pub offset_short : (format : Format) (sizes : FormatSizes) (args : List ℤ) (slots : List Slot) → IsKept (record { format = format; sizes = sizes; args = args; slots = slots }) → (side : Side) (i : ℕ) →
    length (joined_bits slots side (before i (parts_of format side))) < 2 ^ 31
offset_short format sizes args slots kept side i = omega (arith, before_short slots side i (parts_of format side), parts_short format sizes args slots kept side)

-- ---- the start

start_length : (listing : List ℕ) (n : ℕ) (ds : List Field) → length (start_slots listing n ds) ≡ length ds
start_length listing n [] = refl
start_length listing n (d ∷ ds) = ap suc (start_length listing (suc n) ds)

start_at : (listing : List ℕ) (n : ℕ) (ds : List Field) (i : ℕ) (s : Slot) → slice_get (start_slots listing n ds) i ≡ Some s → s ≡ start_slot listing (n + i)
start_at listing n [] i s e = absurd (cc)
start_at listing n (d ∷ ds) zero s e = let same : start_slot listing n ≡ s = same_Some (start_slot listing n) s e in sym same ∙ ap (start_slot listing) (omega arith)
start_at listing n (d ∷ ds) (suc i) s e = start_at listing (suc n) ds i s e ∙ ap (start_slot listing) (omega arith)

pub start_kept : (format : Format) (sizes : FormatSizes) (args : List ℤ) → IsPlaced format sizes args → AreUnsent format sizes →
    IsKept (record { format = format; sizes = sizes; args = args; slots = start_slots format.listing 0 format.fields })
start_kept format sizes args placed unsent = record {
  placed = placed;
  count = start_length format.listing 0 format.fields;
  within = λ i s b side at_s at_b.
      let this : s ≡ start_slot format.listing i = start_at format.listing 0 format.fields i s at_s ∙ ap (start_slot format.listing) (omega arith) in
      subst (λ x. LearntLies (side_bounds side b) (side_of_slot side x)) (sym this) (by side b (lists format.listing i) (λ e. unsent i b at_b e));
}
  where
    by : (side : Side) (b : Sizes) (listed : Bool) → (listed ≡ false → b.compressed.least ≡ 0) → LearntLies (side_bounds side b) (side_of_slot side (record { uncompressed = Nothing; compressed = start_side listed; inner = None }))
    by Uncompressed b listed none = tt
    by Compressed b true none = tt
    by Compressed b false none = let least : b.compressed.least ≡ 0 = none refl in record { least = omega (arith, least); most = omega arith }

-- the numbers by which expressions are evaluated
pub known_is : (format : Format) (sizes : FormatSizes) (args : List ℤ) (headers : List ℕ) (slots : List Slot) → headers ≡ header_places 0 format.fields →
    IsKept (record { format = format; sizes = sizes; args = args; slots = slots }) → known_by slots (whole_numbers slots headers format.listing) args ≡ known_of format slots args
known_is format sizes args headers slots headers_are kept =
    numbers_kept format slots kept.count (known_by slots (whole_numbers slots headers format.listing) args) refl (ap (λ h. whole_numbers slots h format.listing) headers_are)
