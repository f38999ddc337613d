-- What slots know, as expressions take it.
use Rattle.std.proofs.Common.{◌≡◌, refl, sym, ◌∙◌, ap, subst, ℕ, zero, suc, ◌≤◌, Bool, true, false, List, [], ◌∷◌, ◌++◌, length, map, arith}
use Rattle.std.specs.Prelude.{Option, Some, None, slice_get, option_map, unwrap_or, nat_le, ◌&&◌, ℤ, pos, if◌then◌else◌}
use Rattle.std.proofs.lemmas.Option.{slice_get-map}
use Rattle.std.proofs.lemmas.Bool.{leb-false}
use Rattle.sem_bits.specs.Number.{num}
use Rattle.sem_expr.specs.declared.inputs.Input.TheVariants as input
use Rattle.sem_expr.specs.declared.expr.Subject.{Subject}
use Rattle.sem_expr.specs.declared.expr.Subject.TheVariants as subject
use Rattle.sem_expr.specs.declared.expr.Side.{Side}
use Rattle.sem_expr.specs.declared.expr.Side.TheVariants.{Uncompressed, Compressed}
use Rattle.sem_expr.specs.declared.expr.Measure.{Measure}
use Rattle.sem_expr.specs.declared.expr.Measure.TheVariants as measure
use Rattle.sem_expr.specs.declared.expr.Expr.{Expr}
use Rattle.sem_expr.specs.declared.expr.Expr.TheVariants as expr
use Rattle.sem_expr.specs.declared.expr.Expr.TheVariants.{Number, Parameter, Binary'}
use Rattle.sem_expr.specs.Inputs.{inputs_of}
use Rattle.sem_expr.specs.Known.{assignment_of, no_numbers, numbers_at, subject_numbers, side_numbers}
use Rattle.sem_expr.specs.Known as k
use Rattle.sem_expr.specs.Values.{val, both, apply}
use Rattle.sem_profile.specs.declared.profile.Format.{Format}
use Rattle.sem_filling.specs.Fits.{measured}
use Rattle.cert_rules.specs.declared.slots.Learnt.{Learnt}
use Rattle.cert_rules.specs.declared.slots.Learnt.TheVariants.{Nothing, Length, Whole}
use Rattle.cert_rules.specs.declared.slots.Slot.{Slot}
use Rattle.cert_types.specs.declared.rule.Fact.{Fact}
use Rattle.cert_types.specs.declared.rule.Fact.TheVariants.{LengthOf, BitsOf}
use Rattle.cert_rules.specs.Facts.{side_facts, inputs}
use Rattle.cert_rules.specs.Slots.{has_length, has_bits, learnt_of, learnt_at, knows, knows_all, bits_of}
use Rattle.cert_rules.specs.Reading.{known_sides, known_numbers}
use Rattle.sem_filling.specs.Numbers.{numbers}
use Rattle.cert_rules.specs.Numbers.{learnt_numbers, slot_numbers, known_of, IsNarrow, ValuesKnown}
use Rattle.std.proofs.lemmas.List.{length-replicate}
use Rattle.cert_rules.proofs.ViewsAgree.{and_true}
use Rattle.cert_rules.proofs.SlotsKnown.{slot_side}

knows_left : (format : Format) (slots : List Slot) (xs ys : List Fact) → knows_all format slots (xs ++ ys) ≡ true → knows_all format slots xs ≡ true
knows_left format slots [] ys e = refl
knows_left format slots (x ∷ xs) ys e = let b = and_true (knows format slots x) (knows_all format slots (xs ++ ys)) e in λ i. (b.0 ∙ refl) i && knows_left format slots xs ys b.1 i

knows_right : (format : Format) (slots : List Slot) (xs ys : List Fact) → knows_all format slots (xs ++ ys) ≡ true → knows_all format slots ys ≡ true
knows_right format slots [] ys e = e
knows_right format slots (x ∷ xs) ys e = let b = and_true (knows format slots x) (knows_all format slots (xs ++ ys)) e in knows_right format slots xs ys b.1

pub in_left : {X : Type 0} (xs ys : List X) (j : ℕ) (x : X) → slice_get xs j ≡ Some x → slice_get (xs ++ ys) j ≡ Some x
in_left [] ys j x e = absurd (cc)
in_left (y ∷ xs) ys zero x e = e
in_left (y ∷ xs) ys (suc j) x e = in_left xs ys j x e

pub in_right : {X : Type 0} (xs ys : List X) (j : ℕ) (x : X) → slice_get ys j ≡ Some x → (i : ℕ) × (slice_get (xs ++ ys) i ≡ Some x)
in_right [] ys j x e = (j, e)
in_right (y ∷ xs) ys j x e = let t = in_right xs ys j x e in (suc t.0, t.1)

narrow_value : (bits : List Bool) → length bits ≤ 64 → (numbers bits).value ≡ Some (pos (num bits))
narrow_value bits short = by (nat_le (length bits) 64) refl where
  by : (b : Bool) → nat_le (length bits) 64 ≡ b → (if b then Some (pos (num bits)) else None) ≡ Some (pos (num bits))
  by true e = refl
  by false e = absurd (let l = leb-false (length bits) 64 e in omega (arith, l, short))

-- one side of a field
learnt_value : (l : Learnt) → has_bits l ≡ true → length (bits_of l) ≤ 64 → (learnt_numbers l).value ≡ Some (pos (num (bits_of l)))
learnt_value Nothing e short = absurd (cc)
learnt_value (Length n) e short = absurd (cc)
learnt_value (Whole bits) e short = narrow_value bits short

learnt_length : (l : Learnt) → has_length l ≡ true → (learnt_numbers l).length ≡ Some (pos (length (bits_of l)))
learnt_length Nothing e = absurd (cc)
learnt_length (Length n) e = ap (λ z. Some (pos z)) (sym (length-replicate n false))
learnt_length (Whole bits) e = refl

side_is : (o : Option Slot) (side : Side) → side_numbers (unwrap_or (option_map slot_numbers o) record { uncompressed = no_numbers; compressed = no_numbers }) side ≡ learnt_numbers (learnt_of side o)
side_is None Uncompressed = refl
side_is None Compressed = refl
side_is (Some s) Uncompressed = refl
side_is (Some s) Compressed = refl

pub field_numbers : (slots : List Slot) (i : ℕ) (side : Side) → side_numbers (numbers_at (map slot_numbers slots) i) side ≡ learnt_numbers (learnt_at slots i side)
field_numbers slots i side =
    ap (λ o. side_numbers (unwrap_or o record { uncompressed = no_numbers; compressed = no_numbers }) side) (slice_get-map slot_numbers slots i) ∙ side_is (slice_get slots i) side

where_known : {X : Type 0} (b : Bool) (x y : Option X) → b ≡ true → x ≡ y → (if b then x else None) ≡ y
where_known true x y e h = h
where_known false x y e h = absurd (cc)

knows_slot_bits : (format : Format) (slots : List Slot) (i : ℕ) (side : Side) → knows_all format slots (BitsOf side i ∷ []) ≡ true → has_bits (learnt_at slots i side) ≡ true
knows_slot_bits format slots i side e = (and_true (has_bits (learnt_at slots i side)) true e).0

knows_slot_length : (format : Format) (slots : List Slot) (i : ℕ) (side : Side) → knows_all format slots (LengthOf side i ∷ []) ≡ true → has_length (learnt_at slots i side) ≡ true
knows_slot_length format slots i side e = (and_true (has_length (learnt_at slots i side)) true e).0

module _ (format : Format) (slots : List Slot) (args : List ℤ) (count : length slots ≡ length format.fields) where
  attribute_known : (s : Subject) (side : Side) (m : Measure) → knows_all format slots (side_facts format s side m) ≡ true → (m ≡ measure.Value → length (known_sides format slots s side) ≤ 64) →
      k.measured (side_numbers (subject_numbers (known_of format slots args) s) side) m ≡ Some (measured m (known_sides format slots s side))
  attribute_known (subject.Field i) side measure.Value known narrow =
      let l = learnt_at slots i side in
      let same = slot_side format.fields slots count i side in
      ap (λ z. k.measured z measure.Value) (field_numbers slots i side)
      ∙ (learnt_value l (knows_slot_bits format slots i side known) (subst (λ z. length z ≤ 64) same (narrow refl)) ∙ ap (λ z. Some (pos (num z))) (sym same))
  attribute_known (subject.Field i) side measure.Length known narrow =
      let l = learnt_at slots i side in
      let same = slot_side format.fields slots count i side in
      ap (λ z. k.measured z measure.Length) (field_numbers slots i side)
      ∙ (learnt_length l (knows_slot_length format slots i side known) ∙ ap (λ z. Some (pos (length z))) (sym same))
  attribute_known subject.This Uncompressed measure.Value known narrow =
      where_known (knows_all format slots (side_facts format subject.This Uncompressed measure.Value)) _ _ known (narrow_value (known_sides format slots subject.This Uncompressed) (narrow refl))
  attribute_known subject.This Compressed measure.Value known narrow =
      where_known (knows_all format slots (side_facts format subject.This Compressed measure.Value)) _ _ known (narrow_value (known_sides format slots subject.This Compressed) (narrow refl))
  attribute_known subject.This Uncompressed measure.Length known narrow = where_known (knows_all format slots (side_facts format subject.This Uncompressed measure.Length)) _ _ known refl
  attribute_known subject.This Compressed measure.Length known narrow = where_known (knows_all format slots (side_facts format subject.This Compressed measure.Length)) _ _ known refl

  value_known : (e : Expr) → knows_all format slots (inputs format e) ≡ true → IsNarrow format slots e → val (assignment_of (known_of format slots args)) e ≡ val (known_numbers format slots args) e
  value_known (Number s n) known narrow = refl
  value_known (Parameter s i) known narrow = refl
  value_known (expr.Attribute s t) known narrow = attribute_known t.subject t.side t.measure known (λ is. narrow 0 t refl is)
  value_known (Binary' s op p x q y) known narrow =
      λ i. both (apply op)
      (value_known x (knows_left format slots (inputs format x) (inputs format y) known) (λ j t e is. narrow j t (in_left (inputs_of x) (inputs_of y) j (input.Attribute t) e) is) i)
      (value_known y (knows_right format slots (inputs format x) (inputs format y) known) (λ j t e is. let r = in_right (inputs_of x) (inputs_of y) j (input.Attribute t) e in narrow r.0 t r.1 is) i)

pub values_known : ValuesKnown
values_known format slots args e count known narrow = value_known format slots args count e known narrow
