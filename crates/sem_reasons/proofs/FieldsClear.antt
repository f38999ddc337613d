-- Where nothing that is seen stands against a format.
use Rattle.std.proofs.Common.{◌≡◌, ◌∙◌, refl, sym, ap, subst, ℕ, zero, suc, ◌+◌, ◌<◌, ◌≤◌, Bool, true, false, List, [], ◌∷◌, length, drop, arith}
use Rattle.std.specs.Prelude.{◌||◌, Option, Some, None, slice_get, nat_eq}
use Rattle.std.specs.List.{list_any}
use Rattle.std.specs.Option.{option_and_then, option_copied}
use Rattle.std.proofs.lemmas.Bool.Decides.{nat_tests}
use Rattle.std.proofs.lemmas.Option.{slice_get_within}
use Rattle.sem_expr.specs.declared.expr.Side.{Side}
use Rattle.sem_expr.specs.declared.expr.Side.TheVariants.{Uncompressed, Compressed}
use Rattle.sem_expr.specs.Bounds.{bounding_of}
use Rattle.sem_expr.specs.Ranged.{Bounding}
use Rattle.text_source.specs.declared.span.Span.{Span}
use Rattle.sem_profile.specs.BoundsLaws.{encoding_exprs}
use Rattle.sem_library.specs.Methods as lib
use Rattle.sem_library.specs.Methods.{IsOnly}
use Rattle.sem_profile.specs.declared.profile.Constraint.{Constraint}
use Rattle.sem_profile.specs.declared.profile.Encoding.TheVariants as encoding
use Rattle.sem_profile.specs.declared.profile.Field.{Field}
use Rattle.sem_profile.specs.declared.profile.Format.{Format}
use Rattle.sem_profile.specs.declared.profile.FormatSizes.{FormatSizes}
use Rattle.sem_profile.specs.declared.profile.Library.{Library}
use Rattle.sem_profile.specs.declared.profile.Library.TheVariants as library
use Rattle.sem_filling.specs.Bounded.{sizes_at}
use Rattle.sem_filling.specs.Fits.{format_at}
use Rattle.sem_filling.proofs.FitsSized.{one_value}
use Rattle.sem_lint.specs.Never.{IsUntrue}
use Rattle.sem_lint.specs.Undefined.{first_of, first_undefined, undefined_condition, undefined_constraint}
use Rattle.sem_reasons.specs.Across.{method_of, with_values}
use Rattle.sem_reasons.specs.Conflicts.{AreClear, Agrees, GoesWith, HasOther, HasValues, IsClearAt, IsCoded, IsSighted, IsUncut, MethodAt, SeesNone, goes_by_sight, reference_of}
use Rattle.sem_reasons.specs.Full.{IsFullView}
use Rattle.sem_reasons.specs.Places.{BeginsAt, IsFar, begin_of, length_in, order_of}
use Rattle.sem_reasons.specs.Reasons.{HasMethod, HasReferences, IsClear, IsOpen, Stands, dead, short, long, cut, no_reference, differs, no_side, untrue, no_argument, no_truth, ranges_in, undefined_at}
use Rattle.sem_reasons.specs.Settings.{Setting, setting_of}
use Rattle.sem_reasons.specs.Told.{Covers, Related, length_of, method_in, opposite, seen_at}
use Rattle.sem_reasons.specs.declared.conflict.Coded.{Coded}
use Rattle.sem_reasons.specs.declared.conflict.Sighted.{Sighted}
use Rattle.sem_filling.specs.declared.reason.Reason.{Reason}
use Rattle.sem_reasons.specs.declared.sight.Observed.{Observed}
use Rattle.sem_reasons.proofs.FullSeen.{of_each}
use Rattle.sem_reasons.proofs.MethodsValued.{no_method}
use Rattle.sem_reasons.proofs.ReasonsMaking.{has_method, lengths_same}
use Rattle.sem_reasons.proofs.ToldMeasured.{noted}

-- ---- a library method

covered_same : (r : Bounding) (seen : Observed) (l : Library) (a b : List Bool) → Covers seen l a → Covers seen l b → method_in r a l ≡ method_in r b l
covered_same r seen (library.UncompressedValue len v) a b h k = refl
covered_same r seen (library.CompressedValue len v) a b h k = refl
covered_same r seen (library.Irregular len) a b h k = refl
covered_same r seen library.Static a b h k = refl
covered_same r seen (library.Lsb n offset) a b h k = refl
covered_same r seen (library.Crc crc) a b h k = ap (λ z. method_in r z (library.Crc crc)) (one_value _ a b h k)

-- a field has one method
method_same : (s : Setting) (format : Format) (sizes : FormatSizes) (seen : Observed) (i : ℕ) (d : Field) (m n : lib.Method) → HasMethod s format sizes seen i d m → HasMethod s format sizes seen i d n → m ≡ n
method_same s format sizes seen i d m n h k =
    let same : h.library ≡ k.library = let e = sym h.library_is ∙ k.library_is in cc in
    let covers : Covers seen k.library h.covered = subst (λ z. Covers seen z h.covered) same h.covers in
    let is : method_in (ranges_in s sizes seen) h.covered k.library ≡ Some m = subst (λ z. method_in (ranges_in s sizes seen) h.covered z ≡ Some m) same h.method_is in
    one_value _ m n (sym (covered_same (ranges_in s sizes seen) seen k.library h.covered k.covered covers k.covers) ∙ is) k.method_is

pub agrees_is : (k : Sighted) (c : Coded) → IsSighted k → IsCoded k c → GoesWith k c Compressed → GoesWith k c Uncompressed → HasOther k c Compressed → HasOther k c Uncompressed → Agrees k c.index c.field.now
agrees_is k c h coded packed_goes header_goes packed_has header_has = record {
  no_difference = λ side m own found due has own_is only found_is. goes side own found due own_is (subst (λ z. IsOnly (Related z (option_copied c.reference) side own) (Some due)) (turned m has) (referred side m own (Some due) only)) found_is;
  has_other = λ side m own has own_is none. others side own own_is (subst (λ z. IsOnly (Related z (option_copied c.reference) side own) None) (turned m has) (referred side m own None none));
}
  where
    turned : (m : lib.Method) → MethodAt k c.index c.field.now m → m ≡ method_of c.method c.covered.now
    turned m has =
        method_same (setting_of k.look.question) k.look.format.now k.look.sizes.now k.seen.now c.index c.field.now m (method_of c.method c.covered.now) has (has_method k c h coded)

    referred : (side : Side) (m : lib.Method) (own : List Bool) (o : Option (List Bool)) → IsOnly (Related m (reference_of k c.field.now) side own) o → IsOnly (Related m (option_copied c.reference) side own) o
    referred side m own o only = subst (λ z. IsOnly (Related m z side own) o) (sym coded.reference_is) only

    goes : (side : Side) → GoesWith k c side
    goes Uncompressed = header_goes
    goes Compressed = packed_goes

    others : (side : Side) → HasOther k c side
    others Uncompressed = header_has
    others Compressed = packed_has

-- a field without a method
pub agrees_none : (k : Sighted) (i : ℕ) (d : Field) → ((m : lib.Method) → MethodAt k i d m → ⊥) → Agrees k i d
agrees_none k i d none = record {
  no_difference = λ side m own found due has own_is only found_is. absurd (none m has);
  has_other = λ side m own has own_is lacks. none m has;
}

pub agrees_bare : (k : Sighted) (i : ℕ) (d : Field) → d.encoding ≡ encoding.Bare → Agrees k i d
agrees_bare k i d is = agrees_none k i d (λ m has. let e = sym is ∙ has.library_is in absurd (cc))

pub agrees_call : (k : Sighted) (i : ℕ) (d : Field) (n : ℕ) (es : _) → d.encoding ≡ encoding.Call n es → Agrees k i d
agrees_call k i d n es is = agrees_none k i d (λ m has. let e = sym is ∙ has.library_is in absurd (cc))

pub agrees_unvalued : (k : Sighted) → IsSighted k → (i : ℕ) (d : Field) (l : Library) → d.encoding ≡ encoding.Library l → with_values (bounding_of k.ranges.now) l ≡ None → Agrees k i d
agrees_unvalued k h i d l is none = agrees_none k i d (λ m has.
    let same : has.library ≡ l = let e = sym has.library_is ∙ is in cc in
    let no = no_method (bounding_of k.ranges.now) l has.covered none in
    let yes : method_in (bounding_of k.ranges.now) has.covered l ≡ Some m =
    subst (λ z. method_in (bounding_of z) has.covered l ≡ Some m) (sym h.ranges_are) (subst (λ z. method_in (ranges_in (setting_of k.look.question) k.look.sizes.now k.seen.now) has.covered z ≡ Some m) same has.method_is) in
    let wrong = sym no ∙ yes in
    absurd (cc))

pub agrees_uncovered : (k : Sighted) (i : ℕ) (d : Field) (l : Library) → d.encoding ≡ encoding.Library l → ((bits : List Bool) → Covers k.seen.now l bits → ⊥) → Agrees k i d
agrees_uncovered k i d l is none = agrees_none k i d (λ m has.
    let same : has.library ≡ l = let e = sym has.library_is ∙ is in cc in
    none has.covered (subst (λ z. Covers k.seen.now z has.covered) same has.covers))

-- on one side of a field
pub goes_unseen : (k : Sighted) (c : Coded) (side : Side) → seen_at k.seen.now.fields c.index side ≡ None → GoesWith k c side
goes_unseen k c side none own found due own_is only found_is = let wrong = sym none ∙ own_is in absurd (cc)

pub goes_half_seen : (k : Sighted) (c : Coded) (side : Side) → seen_at k.seen.now.fields c.index (opposite side) ≡ None → GoesWith k c side
goes_half_seen k c side none own found due own_is only found_is = let wrong = sym none ∙ found_is in absurd (cc)

pub goes_undue : (k : Sighted) (c : Coded) (side : Side) (own : List Bool) → seen_at k.seen.now.fields c.index side ≡ Some own → IsOnly (Related (method_of c.method c.covered.now) (option_copied c.reference) side own) None → GoesWith k c side
goes_undue k c side own is none other found due own_is only found_is =
    let same : other ≡ own = one_value _ other own own_is is in
    absurd (none due (subst (λ z. Related (method_of c.method c.covered.now) (option_copied c.reference) side z due) same only.0))

pub goes_same : (k : Sighted) (c : Coded) (side : Side) (own found due : List Bool) → seen_at k.seen.now.fields c.index side ≡ Some own → seen_at k.seen.now.fields c.index (opposite side) ≡ Some found
    → IsOnly (Related (method_of c.method c.covered.now) (option_copied c.reference) side own) (Some due) → found ≡ due → GoesWith k c side
goes_same k c side own found due is there only same other_own other_found other_due own_is other_only found_is =
    let own_same : other_own ≡ own = one_value _ other_own own own_is is in
    let found_same : other_found ≡ found = one_value _ other_found found found_is there in
    found_same ∙ (same ∙ sym (only.1 other_due (subst (λ z. Related (method_of c.method c.covered.now) (option_copied c.reference) side z other_due) own_same other_only.0)))

pub has_unseen : (k : Sighted) (c : Coded) (side : Side) → seen_at k.seen.now.fields c.index side ≡ None → HasOther k c side
has_unseen k c side none own own_is lacks = let wrong = sym none ∙ own_is in absurd (cc)

pub has_due : (k : Sighted) (c : Coded) (side : Side) (own due : List Bool) → seen_at k.seen.now.fields c.index side ≡ Some own → IsOnly (Related (method_of c.method c.covered.now) (option_copied c.reference) side own) (Some due) → HasOther k c side
has_due k c side own due is only other own_is none =
    let same : own ≡ other = one_value _ own other is own_is in
    none due (subst (λ z. Related (method_of c.method c.covered.now) (option_copied c.reference) side z due) same only.0)

-- ---- the length of a field

pub uncut_far : (k : Sighted) (i : ℕ) → length k.look.question.bits.now < 2147483648 → IsFar (begin_of (length_in k.look.lengths.now) i k.look.order.now) → IsUncut k i
uncut_far k i few far offset due within begins is less = let more : 2147483648 ≤ offset = subst (λ z. IsFar z) begins far in omega (arith, few, within, more)

pub uncut_unknown : (k : Sighted) (i : ℕ) → length_in k.look.lengths.now i ≡ None → IsUncut k i
uncut_unknown k i none offset due within begins is less = let wrong = sym none ∙ is in absurd (cc)

pub uncut_beyond : (k : Sighted) (i other : ℕ) → BeginsAt k.look.order.now (length_in k.look.lengths.now) i other → length k.look.question.bits.now < other → IsUncut k i
uncut_beyond k i other there beyond offset due within begins is less = let same : offset ≡ other = one_value _ offset other begins there in omega (arith, same, beyond, within)

pub uncut_enough : (k : Sighted) (i other many : ℕ) → BeginsAt k.look.order.now (length_in k.look.lengths.now) i other → length_in k.look.lengths.now i ≡ Some many → many ≤ length (drop other k.look.question.bits.now) → IsUncut k i
uncut_enough k i other many there many_is enough offset due within begins is less =
    let same : offset ≡ other = one_value _ offset other begins there in
    let as_many : due ≡ many = one_value _ due many is many_is in
    let fewer : length (drop other k.look.question.bits.now) < due = subst (λ z. length (drop z k.look.question.bits.now) < due) same less in
    omega (arith, as_many, enough, fewer)

-- ---- fields

-- nothing is wrong where no field is
pub clear_past : (k : Sighted) (i : ℕ) → IsUncut k i → slice_get k.look.format.now.fields i ≡ None → IsClearAt k i
clear_past k i uncut none = record {
  uncut = uncut;
  has_values = λ d at. let wrong = sym none ∙ at in absurd (cc);
  agrees = λ d at. let wrong = sym none ∙ at in absurd (cc);
}

pub clear_at : (k : Sighted) (i : ℕ) (d : Field) → slice_get k.look.format.now.fields i ≡ Some d → IsUncut k i → HasValues k d → Agrees k i d → IsClearAt k i
clear_at k i d at uncut values agrees = record {
  uncut = uncut;
  has_values = λ other there. subst (λ z. HasValues k z) (one_value _ d other at there) values;
  agrees = λ other there. subst (λ z. Agrees k i z) (one_value _ d other at there) agrees;
}

no_length : (k : Sighted) → IsSighted k → (i : ℕ) → slice_get k.look.format.now.fields i ≡ None → length_in k.look.lengths.now i ≡ None
no_length k h i none = by (length_in k.look.lengths.now i) refl
  where
    by : (o : Option ℕ) → length_in k.look.lengths.now i ≡ o → length_in k.look.lengths.now i ≡ None
    by None is = is
    by (Some m) is =
        let t = noted (setting_of k.look.question) k.look.base.now k.look.sizes.now 0 k.look.format.now.fields i m (ap (λ z. length_in z i) (sym h.look.lengths_are) ∙ is) in
        let wrong = sym none ∙ t.1 in
        absurd (cc)

-- each up to the last
pub all_clear : (k : Sighted) (n : ℕ) → IsSighted k → ((i : ℕ) → i < n → IsClearAt k i) → length k.look.format.now.fields ≤ n → AreClear k
all_clear k n h each past i = by (slice_get k.look.format.now.fields i) refl
  where
    by : (o : Option Field) → slice_get k.look.format.now.fields i ≡ o → IsClearAt k i
    by (Some d) at = let within : i < length k.look.format.now.fields = slice_get_within k.look.format.now.fields i d at in each i (omega (arith, within, past))
    by None none = clear_past k i (uncut_unknown k i (no_length k h i none)) none

-- one more of the order
pub next_clear : (k : Sighted) (n i : ℕ) → slice_get k.look.order.now n ≡ Some i → IsClearAt k i → ((j x : ℕ) → j < n → slice_get k.look.order.now j ≡ Some x → IsClearAt k x) → (j x : ℕ) → j < n + 1 → slice_get k.look.order.now j ≡ Some x → IsClearAt k x
next_clear k n i at clear before j x lt there = by (nat_eq j n) refl
  where
    by : (b : Bool) → nat_eq j n ≡ b → IsClearAt k x
    by true same = let e : j ≡ n = grind (arith, nat_tests) in let one : i ≡ x = one_value _ i x (ap (slice_get k.look.order.now) e ∙ at) there in subst (λ z. IsClearAt k z) one clear
    by false other = before j x (grind (arith, nat_tests)) there

-- one more field
pub further_clear : (k : Sighted) (n : ℕ) → IsClearAt k n → ((i : ℕ) → i < n → IsClearAt k i) → (i : ℕ) → i < n + 1 → IsClearAt k i
further_clear k n clear before i lt = by (nat_eq i n) refl
  where
    by : (b : Bool) → nat_eq i n ≡ b → IsClearAt k i
    by true same = let e : n ≡ i = grind (arith, nat_tests) in subst (λ z. IsClearAt k z) e clear
    by false other = before i (grind (arith, nat_tests))

-- a field of the order
listed : (xs : List ℕ) (i : ℕ) → list_any (λ y. nat_eq y i) xs ≡ true → (j : ℕ) × (slice_get xs j ≡ Some i)
listed [] i e = absurd (cc)
listed (x ∷ xs) i e = by (nat_eq x i) refl e (λ later. listed xs i later)
  where
    by : (b : Bool) → nat_eq x i ≡ b → (b || list_any (λ y. nat_eq y i) xs) ≡ true → (list_any (λ y. nat_eq y i) xs ≡ true → (j : ℕ) × (slice_get xs j ≡ Some i)) → (j : ℕ) × (slice_get (x ∷ xs) j ≡ Some i)
    by true same e later = let one : x ≡ i = grind (arith, nat_tests) in (zero, ap Some one)
    by false other e later = let t = later e in (suc t.0, t.1)

pub listed_clear : (k : Sighted) (n i : ℕ) → list_any (λ y. nat_eq y i) k.look.order.now ≡ true → length k.look.order.now ≤ n → ((j x : ℕ) → j < n → slice_get k.look.order.now j ≡ Some x → IsClearAt k x) → IsClearAt k i
listed_clear k n i any all before =
    let t = listed k.look.order.now i any in
    let within : t.0 < length k.look.order.now = slice_get_within k.look.order.now t.0 i t.1 in
    before t.0 i (omega (arith, within, all)) t.1

-- ---- conditions

-- that of one constraint
pub lone_condition : (r : Bounding) (c : Constraint) → undefined_condition r (c ∷ []) ≡ undefined_constraint r c
lone_condition r c = by (undefined_constraint r c)
  where
    by : (o : Option Span) → first_of o None ≡ o
    by (Some s) = refl
    by None = refl

pub next_valued : (r : Bounding) (cs : List Constraint) (n : ℕ) → undefined_at r cs n ≡ None → ((j : ℕ) → j < n → undefined_at r cs j ≡ None) → (j : ℕ) → j < n + 1 → undefined_at r cs j ≡ None
next_valued r cs n here before j lt = by (nat_eq j n) refl
  where
    by : (b : Bool) → nat_eq j n ≡ b → undefined_at r cs j ≡ None
    by true same = let e : n ≡ j = grind (arith, nat_tests) in subst (λ z. undefined_at r cs z ≡ None) e here
    by false other = before j (grind (arith, nat_tests))

pub all_valued : (r : Bounding) (cs : List Constraint) (n : ℕ) → length cs ≤ n → ((j : ℕ) → j < n → undefined_at r cs j ≡ None) → (j : ℕ) → undefined_at r cs j ≡ None
all_valued r cs n past each j = by (slice_get cs j) refl
  where
    by : (o : Option Constraint) → slice_get cs j ≡ o → undefined_at r cs j ≡ None
    by (Some c) at = let within : j < length cs = slice_get_within cs j c at in each j (omega (arith, within, past))
    by None none = ap (option_and_then (undefined_constraint r)) none

-- ---- a format

module _ (k : Sighted) (h : IsSighted k) (clear : AreClear k) (none : (j : ℕ) → IsUntrue k.look.format.now.constraints (bounding_of k.ranges.now) j → ⊥) (valued : (j : ℕ) → undefined_at (bounding_of k.ranges.now) k.look.format.now.constraints j ≡ None) where
  abbrev s : Setting
  s = setting_of k.look.question

  abbrev n : ℕ
  n = k.number

  ranges : bounding_of k.ranges.now ≡ ranges_in s k.look.sizes.now k.seen.now
  ranges = ap bounding_of h.ranges_are

  each : (P : Format → FormatSizes → Observed → Type 0) → P k.look.format.now k.look.sizes.now k.seen.now → (format : Format) (sizes : FormatSizes) (seen : Observed) → IsFullView s n format sizes seen → P format sizes seen
  each P so = of_each s n k.look.format.now k.look.sizes.now k.seen.now h.seen P so

  uncut : (format : Format) (sizes : FormatSizes) → format_at s.profile.methods s.method n ≡ Some format → sizes_at s.profile.sizes s.method n ≡ Some sizes → (i offset due : ℕ)
      → offset ≤ length s.bits → BeginsAt (order_of format s.side) (length_of s format sizes) i offset → length_of s format sizes i ≡ Some due → length (drop offset s.bits) < due → ⊥
  uncut format sizes at sizes_are i offset due within begins is few =
      let format_same : format ≡ k.look.format.now = one_value _ format k.look.format.now at h.look.format_is in
      let sizes_same : sizes ≡ k.look.sizes.now = one_value _ sizes k.look.sizes.now sizes_are h.look.sizes_are in
      let lengths : length_of s format sizes ≡ length_in k.look.lengths.now = (λ j. length_of s (format_same j) (sizes_same j)) ∙ sym (lengths_same k.look n h.look) in
      let order : order_of format s.side ≡ k.look.order.now = ap (λ z. order_of z s.side) format_same ∙ sym h.look.order_is in
      (clear i).uncut offset due within ((λ j. begin_of (sym lengths j) i (sym order j)) ∙ begins) (ap (λ z. z i) (sym lengths) ∙ is) few

  go : (r : Reason) → Stands s n r → goes_by_sight r ≡ true → ⊥
  go r (dead o has) e = absurd (cc)
  go r (short sizes at few) e = absurd (cc)
  go r (long sizes at whole many) e = absurd (cc)
  go r (cut {i} {due} offset format sizes at sizes_are within begins is few) e = uncut format sizes at sizes_are i offset due within begins is few
  go r (no_reference format d at d_at wants lacks path_is) e = absurd (cc)
  go r (differs {i} {found} {due} side format sizes seen d m own v has own_is only found_is differ) e =
      differ (each (λ format sizes seen. HasMethod s format sizes seen i d m → seen_at seen.fields i side ≡ Some own → seen_at seen.fields i (opposite side) ≡ Some found → found ≡ due)
      (λ has own_is found_is. ((clear i).agrees d has.field_is).no_difference side m own found due has own_is only found_is) format sizes seen v has own_is found_is)
  go r (no_side {i} {side} {found} format sizes seen d m v has found_is lacks) e =
      each (λ format sizes seen. HasMethod s format sizes seen i d m → seen_at seen.fields i side ≡ Some found → ⊥) (λ has found_is. ((clear i).agrees d has.field_is).has_other side m found has found_is lacks) format sizes seen v has found_is
  go r (untrue {j} format sizes seen v u) e =
      each (λ format sizes seen. IsUntrue format.constraints (ranges_in s sizes seen) j → ⊥) (λ u. none j (subst (λ z. IsUntrue k.look.format.now.constraints z j) (sym ranges) u)) format sizes seen v u
  go r (no_argument {at} i format sizes seen d v field_at is) e =
      each (λ format sizes seen. slice_get format.fields i ≡ Some d → first_undefined (ranges_in s sizes seen) (encoding_exprs d.encoding) ≡ Some at → ⊥)
      (λ field_at is. let wrong = sym ((clear i).has_values d field_at) ∙ (ap (λ z. first_undefined z (encoding_exprs d.encoding)) ranges ∙ is) in absurd (cc)) format sizes seen v field_at is
  go r (no_truth {j} {at} format sizes seen v is) e =
      each (λ format sizes seen. undefined_at (ranges_in s sizes seen) format.constraints j ≡ Some at → ⊥)
      (λ is. let wrong = sym (valued j) ∙ (ap (λ z. undefined_at z k.look.format.now.constraints j) ranges ∙ is) in absurd (cc)) format sizes seen v is

  -- no reason by what is seen of the format stands against it
  pub sees_none : SeesNone (setting_of k.look.question) k.number
  sees_none r by_sight stands = go r stands by_sight

-- nothing is seen of a format that isn't there, or has no bounds
pub no_format_seen : (s : Setting) (n : ℕ) → format_at s.profile.methods s.method n ≡ None → SeesNone s n
no_format_seen s n none r by_sight stands = go r stands by_sight
  where
    no : (format : Format) → format_at s.profile.methods s.method n ≡ Some format → ⊥
    no format at = let wrong = sym none ∙ at in absurd (cc)

    go : (r : Reason) → Stands s n r → goes_by_sight r ≡ true → ⊥
    go r (dead o has) e = absurd (cc)
    go r (short sizes at few) e = absurd (cc)
    go r (long sizes at whole many) e = absurd (cc)
    go r (cut offset format sizes at sizes_are within begins is few) e = no format at
    go r (no_reference format d at d_at wants lacks path_is) e = absurd (cc)
    go r (differs side format sizes seen d m own v has own_is only found_is differ) e = no format v.format_is
    go r (no_side format sizes seen d m v has found_is lacks) e = no format v.format_is
    go r (untrue format sizes seen v u) e = no format v.format_is
    go r (no_argument i format sizes seen d v field_at is) e = no format v.format_is
    go r (no_truth format sizes seen v is) e = no format v.format_is

pub no_sizes_seen : (s : Setting) (n : ℕ) → sizes_at s.profile.sizes s.method n ≡ None → SeesNone s n
no_sizes_seen s n none r by_sight stands = go r stands by_sight
  where
    no : (sizes : FormatSizes) → sizes_at s.profile.sizes s.method n ≡ Some sizes → ⊥
    no sizes at = let wrong = sym none ∙ at in absurd (cc)

    go : (r : Reason) → Stands s n r → goes_by_sight r ≡ true → ⊥
    go r (dead o has) e = absurd (cc)
    go r (short sizes at few) e = absurd (cc)
    go r (long sizes at whole many) e = absurd (cc)
    go r (cut offset format sizes at sizes_are within begins is few) e = no sizes sizes_are
    go r (no_reference format d at d_at wants lacks path_is) e = absurd (cc)
    go r (differs side format sizes seen d m own v has own_is only found_is differ) e = no sizes v.sizes_are
    go r (no_side format sizes seen d m v has found_is lacks) e = no sizes v.sizes_are
    go r (untrue format sizes seen v u) e = no sizes v.sizes_are
    go r (no_argument i format sizes seen d v field_at is) e = no sizes v.sizes_are
    go r (no_truth format sizes seen v is) e = no sizes v.sizes_are

-- nothing stands against it
pub clear_is : (s : Setting) (n : ℕ) → IsOpen s n → HasReferences s n → SeesNone s n → IsClear s n
clear_is s n free referred sees r (dead o has) = free.alive o has
clear_is s n free referred sees r (short sizes at few) = free.room.not_short sizes at few
clear_is s n free referred sees r (long sizes at whole many) = free.room.not_long sizes at whole many
clear_is s n free referred sees r (no_reference {i} format d at d_at wants lacks path_is) = referred format i d at d_at wants lacks
clear_is s n free referred sees r (cut offset format sizes at sizes_are within begins is few) = sees r refl (cut offset format sizes at sizes_are within begins is few)
clear_is s n free referred sees r (differs side format sizes seen d m own v has own_is only found_is differ) = sees r refl (differs side format sizes seen d m own v has own_is only found_is differ)
clear_is s n free referred sees r (no_side format sizes seen d m v has found_is lacks) = sees r refl (no_side format sizes seen d m v has found_is lacks)
clear_is s n free referred sees r (untrue format sizes seen v u) = sees r refl (untrue format sizes seen v u)
clear_is s n free referred sees r (no_argument i format sizes seen d v field_at is) = sees r refl (no_argument i format sizes seen d v field_at is)
clear_is s n free referred sees r (no_truth format sizes seen v is) = sees r refl (no_truth format sizes seen v is)
