-- Sides that are joined are those of the whole.
use Rattle.std.proofs.Common.{◌≡◌, refl, sym, ◌∙◌, ap, ℕ, zero, suc, ◌+◌, Bool, true, false, List, [], ◌∷◌, ◌++◌, length, map, arith}
use Rattle.std.specs.Prelude.{Some, None, slice_get, option_map, nat_le, ◌&&◌, pos, if◌then◌else◌}
use Rattle.std.specs.List.{flat_map, list_all}
use Rattle.sem_bits.specs.Number.{num}
use Rattle.sem_expr.specs.declared.expr.Subject.TheVariants as subject
use Rattle.sem_expr.specs.declared.expr.Side.{Side}
use Rattle.sem_expr.specs.declared.expr.Side.TheVariants.{Uncompressed, Compressed}
use Rattle.sem_expr.specs.declared.expr.Measure.TheVariants as measure
use Rattle.sem_expr.specs.declared.known.Known.{Known}
use Rattle.sem_profile.specs.declared.profile.Field.{Field}
use Rattle.sem_profile.specs.declared.profile.Format.{Format}
use Rattle.sem_filling.specs.Fillings.{is_header, header_bits, packed_bits}
use Rattle.sem_filling.specs.Numbers.{numbers}
use Rattle.sem_filling.proofs.FitsSides.{piece_is}
use Rattle.cert_rules.specs.declared.slots.Learnt.{Learnt}
use Rattle.cert_rules.specs.declared.slots.Slot.{Slot}
use Rattle.cert_types.specs.declared.rule.Fact.{Fact}
use Rattle.cert_types.specs.declared.rule.Fact.TheVariants.{LengthOf, BitsOf}
use Rattle.cert_rules.specs.Facts.{of_header, of_headers, side_facts}
use Rattle.cert_rules.specs.Slots.{has_length, has_bits, learnt_of, learnt_at, knows, knows_all, bits_of, slot_sides}
use Rattle.cert_rules.specs.Reading.{known_sides}
use Rattle.cert_rules.specs.Numbers as rules
use Rattle.cert_rules.proofs.ViewsInputs.{joined, header_cons}
use Rattle.cert_rules.proofs.SlotsKnown.{slot_side}
use Rattle.walk_steps.specs.Joined.{header_places, joined_bits, are_measured, are_whole, narrow}
use Rattle.walk_steps.specs.Partial.{parts_of, joined_numbers, whole_numbers}

-- ---- the bits

next_part : (f : ℕ → List Bool) (b : Bool) (n : ℕ) (more : List ℕ) (u rest : List Bool) → u ≡ f n → rest ≡ flat_map f more → joined b u rest ≡ flat_map f (if b then n ∷ more else more)
next_part f true n more u rest e es = λ i. e i ++ es i
next_part f false n more u rest e es = es

header_joined : (slots : List Slot) (n : ℕ) (ds : List Field) (ss : List Slot) → length ss ≡ length ds → ((j : ℕ) → learnt_at slots (n + j) Uncompressed ≡ learnt_of Uncompressed (slice_get ss j)) →
    header_bits (slot_sides ds ss) ≡ joined_bits slots Uncompressed (header_places n ds)
header_joined slots n [] ss e same = refl
header_joined slots n (d ∷ ds) [] e same = absurd (omega (arith, e))
header_joined slots n (d ∷ ds) (s ∷ ss) e same =
    let here : s.uncompressed ≡ learnt_at slots n Uncompressed = sym (ap (λ z. learnt_at slots z Uncompressed) (omega arith) ∙ same zero) in
    header_cons record { declared = d.declared; uncompressed = bits_of s.uncompressed; compressed = bits_of s.compressed } (slot_sides ds ss)
    ∙ next_part (λ i. bits_of (learnt_at slots i Uncompressed)) (is_header d.declared.part) n (header_places (suc n) ds) (bits_of s.uncompressed) (header_bits (slot_sides ds ss)) (ap bits_of here)
    (header_joined slots (suc n) ds ss (omega (arith, e)) (λ j. ap (λ z. learnt_at slots z Uncompressed) (omega arith) ∙ same (suc j)))

packed_joined : (ds : List Field) (slots : List Slot) → length slots ≡ length ds → (listing : List ℕ) → packed_bits listing (slot_sides ds slots) ≡ joined_bits slots Compressed listing
packed_joined ds slots e [] = refl
packed_joined ds slots e (i ∷ is) = λ j. (piece_is (slice_get (slot_sides ds slots) i) ∙ slot_side ds slots e i Compressed) j ++ packed_joined ds slots e is j

-- a side of the whole is its parts, joined
pub whole_joined : (format : Format) (slots : List Slot) → length slots ≡ length format.fields → (side : Side) → known_sides format slots subject.This side ≡ joined_bits slots side (parts_of format side)
whole_joined format slots e Uncompressed = header_joined slots 0 format.fields slots e (λ j. ap (λ z. learnt_at slots z Uncompressed) (omega arith))
whole_joined format slots e Compressed = packed_joined format.fields slots e format.listing

-- ---- what is known of them

module _ (format : Format) (slots : List Slot) (side : Side) (fact : ℕ → Fact) (test : Learnt → Bool) (tells : (i : ℕ) → knows format slots (fact i) ≡ test (learnt_at slots i side)) where
  next_known : (b : Bool) (n : ℕ) (more : List ℕ) (facts : List Fact) → knows_all format slots facts ≡ list_all (λ i. test (learnt_at slots i side)) more →
      knows_all format slots (of_header b (fact n) facts) ≡ list_all (λ i. test (learnt_at slots i side)) (if b then n ∷ more else more)
  next_known true n more facts e = λ i. tells n i && e i
  next_known false n more facts e = e

  headers_known : (n : ℕ) (ds : List Field) → knows_all format slots (of_headers fact n ds) ≡ list_all (λ i. test (learnt_at slots i side)) (header_places n ds)
  headers_known n [] = refl
  headers_known n (d ∷ ds) = next_known (is_header d.declared.part) n (header_places (suc n) ds) (of_headers fact (suc n) ds) (headers_known (suc n) ds)

  listed_known : (listing : List ℕ) → knows_all format slots (map fact listing) ≡ list_all (λ i. test (learnt_at slots i side)) listing
  listed_known [] = refl
  listed_known (n ∷ ns) = λ i. tells n i && listed_known ns i

pub whole_known : (format : Format) (slots : List Slot) (side : Side) → knows_all format slots (side_facts format subject.This side measure.Value) ≡ are_whole slots side (parts_of format side)
whole_known format slots Uncompressed = headers_known format slots Uncompressed (BitsOf Uncompressed) has_bits (λ i. refl) 0 format.fields
whole_known format slots Compressed = listed_known format slots Compressed (BitsOf Compressed) has_bits (λ i. refl) format.listing

pub whole_measured : (format : Format) (slots : List Slot) (side : Side) → knows_all format slots (side_facts format subject.This side measure.Length) ≡ are_measured slots side (parts_of format side)
whole_measured format slots Uncompressed = headers_known format slots Uncompressed (LengthOf Uncompressed) has_length (λ i. refl) 0 format.fields
whole_measured format slots Compressed = listed_known format slots Compressed (LengthOf Compressed) has_length (λ i. refl) format.listing

-- ---- their numbers

narrow_same : (bits : List Bool) → option_map pos (narrow bits) ≡ (numbers bits).value
narrow_same bits = by (nat_le (length bits) 64)
  where
    by : (b : Bool) → option_map pos (if b then Some (num bits) else None) ≡ (if b then Some (pos (num bits)) else None)
    by true = refl
    by false = refl

value_same : (b : Bool) (bits : List Bool) → option_map pos (if b then narrow bits else None) ≡ (if b then (numbers bits).value else None)
value_same true bits = narrow_same bits
value_same false bits = refl

length_same : (b : Bool) (bits : List Bool) → option_map pos (if b then Some (length bits) else None) ≡ (if b then (numbers bits).length else None)
length_same true bits = refl
length_same false bits = refl

module _ (format : Format) (slots : List Slot) (count : length slots ≡ length format.fields) where
  pub side_numbers : (side : Side) → joined_numbers slots side (parts_of format side) ≡ rules.whole_numbers format slots side
  side_numbers side =
      let bits = whole_joined format slots count side in
      let value = value_same (are_whole slots side (parts_of format side)) (joined_bits slots side (parts_of format side)) in
      let size = length_same (are_measured slots side (parts_of format side)) (joined_bits slots side (parts_of format side)) in
      λ i. record {
        value = (value ∙ (λ j. if sym (whole_known format slots side) j then (numbers (sym bits j)).value else None)) i;
        length = (size ∙ (λ j. if sym (whole_measured format slots side) j then (numbers (sym bits j)).length else None)) i;
      }

  -- the numbers that are kept are those that the slots know
  pub numbers_kept : (known : Known) → known.fields ≡ map rules.slot_numbers slots → known.whole ≡ whole_numbers slots (header_places 0 format.fields) format.listing → known ≡ rules.known_of format slots known.parameters
  numbers_kept known fields whole =
      λ i. record {
        fields = fields i;
        whole = (whole ∙ (λ j. record { uncompressed = side_numbers Uncompressed j; compressed = side_numbers Compressed j })) i;
        parameters = known.parameters;
      }
