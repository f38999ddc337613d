-- All that is seen of a format: how it is found, that it is told, and that it is one.
use Rattle.std.proofs.Common.{◌≡◌, ◌∙◌, refl, sym, ap, subst, ℕ, ◌<◌, Bool, true, false, cond, List, [], length, arith}
use Rattle.std.specs.Prelude.{nat_le, Option, Some, None, IfSome, slice_get}
use Rattle.std.specs.Option.{option_map, option_and_then, option_or}
use Rattle.std.proofs.lemmas.Option.{slice_get_within}
use Rattle.sem_expr.specs.declared.expr.Side.{Side}
use Rattle.sem_expr.specs.declared.expr.Side.TheVariants.{Uncompressed, Compressed}
use Rattle.sem_expr.specs.Bounds.{bounding_of}
use Rattle.sem_expr.specs.Ranged.{Bounding}
use Rattle.sem_profile.proofs.FieldsRuling.{there}
use Rattle.sem_library.specs.Methods as lib
use Rattle.sem_library.specs.Methods.{IsOnly}
use Rattle.sem_profile.specs.declared.profile.Encoding.{Encoding}
use Rattle.sem_profile.specs.declared.profile.Encoding.TheVariants as encoding
use Rattle.sem_profile.specs.declared.profile.Field.{Field}
use Rattle.sem_profile.specs.declared.profile.Format.{Format}
use Rattle.sem_profile.specs.declared.profile.FormatSizes.{FormatSizes}
use Rattle.sem_profile.specs.declared.profile.Library.{Library}
use Rattle.sem_filling.specs.declared.filling.AskedValue.{AskedValue}
use Rattle.sem_filling.proofs.FillingsUnique.{list_same}
use Rattle.sem_filling.proofs.FitsSized.{map_some, one_value}
use Rattle.sem_reasons.specs.Across.{with_values, method_of}
use Rattle.sem_reasons.specs.Figures.{same_side}
use Rattle.sem_reasons.specs.Full.{asked_side, placed_side, first_told, plain_library, plain_method, IsAcross, IsFound, IsSeenOn, AreInFull, holdable, IsFullView, whole_seen}
use Rattle.sem_reasons.specs.Settings.{Setting}
use Rattle.sem_reasons.specs.Places.{held, order_of}
use Rattle.sem_reasons.specs.Told.{Told, placed, empty, asked_for, across, AreAllSeen, IsSeen, Related, asked_before, base_ranges, is_crc, joined, leaves_empty, length_of, method_in, opposite, reference_in}
use Rattle.sem_reasons.specs.declared.across.Valued.{Valued}
use Rattle.sem_reasons.specs.declared.sight.Observed.{Observed}
use Rattle.sem_reasons.specs.declared.sight.ObservedSides.{ObservedSides}
use Rattle.sem_reasons.proofs.MethodsValued.{method_is, no_method}

-- ---- how a side is found

pub first_found : (m : Option lib.Method) (ref : Option (List Bool)) (side : Side) (first other : Option (List Bool)) (own : List Bool) → first ≡ Some own → IsFound m ref side first other (Some own)
first_found m ref side (Some x) other own e = sym e
first_found m ref side None other own e = absurd (cc)

pub across_found : (m : Option lib.Method) (ref : Option (List Bool)) (side : Side) (first other : Option (List Bool)) (own : List Bool) → first ≡ None → other ≡ Some own → (o : Option (List Bool)) → IsAcross m ref side own o → IsFound m ref side first other o
across_found m ref side (Some x) other own none is o h = absurd (cc)
across_found m ref side None (Some x) own none is o h = let same : own ≡ x = cc in subst (λ z. IsAcross m ref side z o) same h
across_found m ref side None None own none is o h = absurd (cc)

pub none_found : (m : Option lib.Method) (ref : Option (List Bool)) (side : Side) (first other : Option (List Bool)) → first ≡ None → other ≡ None → IsFound m ref side first other None
none_found m ref side (Some x) other none e = absurd (cc)
none_found m ref side None (Some x) none e = absurd (cc)
none_found m ref side None None none e = refl

-- what a library method relates, by the values of its arguments
pub none_crc : (r : Bounding) (l : Library) (ref : Option (List Bool)) (side : Side) (own : List Bool) → is_crc l ≡ true → IsAcross (plain_library r l) ref side own None
none_crc r l ref side own is = subst (λ b. IsAcross (cond b None (method_in r [] l)) ref side own None) (sym is) refl

pub none_valued : (r : Bounding) (l : Library) (ref : Option (List Bool)) (side : Side) (own : List Bool) → is_crc l ≡ false → with_values r l ≡ None → IsAcross (plain_library r l) ref side own None
none_valued r l ref side own is none =
    subst (λ b. IsAcross (cond b None (method_in r [] l)) ref side own None) (sym is) (subst (λ z. IsAcross z ref side own None) (sym (no_method r l [] none)) refl)

pub valued_across : (r : Bounding) (l : Library) (side : Side) (own : List Bool) → is_crc l ≡ false → (v : Valued) → with_values r l ≡ Some v → (covered : List Bool) → covered ≡ [] → (found ref : Option (List Bool)) → found ≡ ref
    → (o : Option (List Bool)) → IsOnly (Related (method_of v covered) found side own) o → IsAcross (plain_library r l) ref side own o
valued_across r l side own is v values covered none found ref same o only =
    subst (λ b. IsAcross (cond b None (method_in r [] l)) ref side own o) (sym is)
    (subst (λ z. IsAcross z ref side own o) (sym (method_is r l v [] values))
    (subst (λ z. IsOnly (Related (method_of v z) ref side own) o) none (subst (λ z. IsOnly (Related (method_of v covered) z side own) o) same only)))

-- ---- it is told

same_sides : (one other : Side) → same_side one other ≡ true → one ≡ other
same_sides Uncompressed Uncompressed e = refl
same_sides Compressed Compressed e = refl
same_sides Uncompressed Compressed e = absurd (cc)
same_sides Compressed Uncompressed e = absurd (cc)

twice : (side : Side) → opposite (opposite side) ≡ side
twice Uncompressed = refl
twice Compressed = refl

plain_parts : (r : Bounding) (e : Encoding) (m : lib.Method) → plain_method r e ≡ Some m → (l : Library) × (e ≡ encoding.Library l) × (is_crc l ≡ false) × (method_in r [] l ≡ Some m)
plain_parts r (encoding.Library l) m is = by (is_crc l) refl is
  where
    by : (b : Bool) → is_crc l ≡ b → cond b None (method_in r [] l) ≡ Some m → (x : Library) × (encoding.Library l ≡ encoding.Library x) × (is_crc x ≡ false) × (method_in r [] x ≡ Some m)
    by true crc is = absurd (cc)
    by false crc is = (l, refl, crc, is)
plain_parts r encoding.Bare m is = absurd (cc)
plain_parts r (encoding.Call k es) m is = absurd (cc)

module _ (s : Setting) (format : Format) (sizes : FormatSizes) (i : ℕ) (d : Field) (at : slice_get format.fields i ≡ Some d) where
  asked_told : (side : Side) (own : List Bool) → asked_side s format i d side ≡ Some own → Told s format sizes i side own
  asked_told Compressed own e = absurd (cc)
  asked_told Uncompressed own e = by d.declared.asked refl e
    where
      by : (b : Bool) → d.declared.asked ≡ b → cond b (option_map (λ (value : AskedValue). value.bits) (slice_get s.asked (asked_before format.fields i))) None ≡ Some own → Told s format sizes i Uncompressed own
      by true is e = let v = map_some (λ (value : AskedValue). value.bits) (slice_get s.asked (asked_before format.fields i)) own e in subst (λ z. Told s format sizes i Uncompressed z) v.2 (asked_for d v.0 at is v.1)
      by false is e = absurd (cc)

  placed_told : (side : Side) (own : List Bool) → placed_side s format sizes i side ≡ Some own → Told s format sizes i side own
  placed_told side own e = by (same_side side s.side) refl e
    where
      by : (b : Bool) → same_side side s.side ≡ b → cond b (held (order_of format s.side) (length_of s format sizes) s.bits i) None ≡ Some own → Told s format sizes i side own
      by true same e = subst (λ z. Told s format sizes i z own) (sym (same_sides side s.side same)) (placed e)
      by false same e = absurd (cc)

  first_is_told : (side : Side) (own : List Bool) → first_told s format sizes i d side ≡ Some own → Told s format sizes i side own
  first_is_told side own e = by (leaves_empty d.encoding side) refl e
    where
      either : (o : Option (List Bool)) → asked_side s format i d side ≡ o → option_or o (placed_side s format sizes i side) ≡ Some own → Told s format sizes i side own
      either (Some x) is e = asked_told side own (is ∙ e)
      either None is e = placed_told side own e

      by : (b : Bool) → leaves_empty d.encoding side ≡ b → cond b (Some []) (option_or (asked_side s format i d side) (placed_side s format sizes i side)) ≡ Some own → Told s format sizes i side own
      by true is e = let none : [] ≡ own = cc in subst (λ z. Told s format sizes i side z) none (empty d at is)
      by false is e = either (asked_side s format i d side) refl e

  seen_on_told : (side : Side) (o : Option (List Bool)) → IsSeenOn s format sizes i d side o → IfSome o (Told s format sizes i side)
  seen_on_told side o seen = by (first_told s format sizes i d side) refl (first_told s format sizes i d (opposite side)) refl seen
    where
      across_told : (m : Option lib.Method) → plain_method (bounding_of (base_ranges s sizes)) d.encoding ≡ m → (own : List Bool) → Told s format sizes i (opposite side) own → (o : Option (List Bool)) → IsAcross m (reference_in s d) (opposite side) own o
          → IfSome o (Told s format sizes i side)
      across_told None is own told o none = subst (λ z. IfSome z (Told s format sizes i side)) (sym none) tt
      across_told (Some m) is own told None only = tt
      across_told (Some m) is own told (Some other) only =
          let p = plain_parts (bounding_of (base_ranges s sizes)) d.encoding m is in
          subst (λ z. Told s format sizes i z other) (twice side) (across d p.0 m own told at p.1 p.2 p.3 only)

      by : (a : Option (List Bool)) → first_told s format sizes i d side ≡ a → (b : Option (List Bool)) → first_told s format sizes i d (opposite side) ≡ b
          → IsFound (plain_method (bounding_of (base_ranges s sizes)) d.encoding) (reference_in s d) (opposite side) a b o → IfSome o (Told s format sizes i side)
      by (Some own) is b other found = subst (λ z. IfSome z (Told s format sizes i side)) (sym found) (first_is_told side own is)
      by None is (Some own) other found = across_told (plain_method (bounding_of (base_ranges s sizes)) d.encoding) refl own (first_is_told (opposite side) own other) o found
      by None is None other found = subst (λ z. IfSome z (Told s format sizes i side)) (sym found) tt

whole_told : (o j : Option (List Bool)) → o ≡ option_and_then holdable j → IfSome o (λ b. j ≡ Some b)
whole_told o None e = subst (λ z. IfSome z (λ b. None ≡ Some b)) (sym e) tt
whole_told o (Some x) e = by (nat_le (length x) 2147483647) e
  where
    by : (b : Bool) → o ≡ cond b (Some x) None → IfSome o (λ z. Some x ≡ Some z)
    by true e = subst (λ q. IfSome q (λ z. Some x ≡ Some z)) (sym e) refl
    by false e = subst (λ q. IfSome q (λ z. Some x ≡ Some z)) (sym e) tt

pub full_told : (s : Setting) (n : ℕ) (format : Format) (sizes : FormatSizes) (seen : Observed) → IsFullView s n format sizes seen → AreAllSeen s format sizes seen
full_told s n format sizes seen full = record {
  fields = record { count = full.fields.count; each = λ i sight at. each i sight at };
  up = whole_told seen.whole.uncompressed (joined seen.fields Uncompressed (order_of format Uncompressed)) (full.whole Uncompressed);
  down = whole_told seen.whole.compressed (joined seen.fields Compressed (order_of format Compressed)) (full.whole Compressed);
}
  where
    each : (i : ℕ) (sight : ObservedSides) → slice_get seen.fields i ≡ Some sight → IsSeen s format sizes i sight
    each i sight at =
        let within : i < length seen.fields = slice_get_within seen.fields i sight at in
        let d = there format.fields i (let same = full.fields.count in omega (arith, within, same)) in
        record {
          up = seen_on_told s format sizes i d.0 d.1 Uncompressed sight.uncompressed (full.fields.each i d.0 sight d.1 at Uncompressed);
          down = seen_on_told s format sizes i d.0 d.1 Compressed sight.compressed (full.fields.each i d.0 sight d.1 at Compressed);
        }

-- ---- it is one

one_only : (P : List Bool → Type 0) (o p : Option (List Bool)) → IsOnly P o → IsOnly P p → o ≡ p
one_only P None None h k = refl
one_only P None (Some y) h k = absurd (h y k.0)
one_only P (Some x) None h k = absurd (k x h.0)
one_only P (Some x) (Some y) h k = ap Some (k.1 x h.0)

one_found : (m : Option lib.Method) (ref : Option (List Bool)) (side : Side) (first other o p : Option (List Bool)) → IsFound m ref side first other o → IsFound m ref side first other p → o ≡ p
one_found m ref side (Some x) other o p h k = h ∙ sym k
one_found m ref side None (Some x) o p h k = by m h k
  where
    by : (m : Option lib.Method) → IsAcross m ref side x o → IsAcross m ref side x p → o ≡ p
    by None h k = h ∙ sym k
    by (Some m) h k = one_only (Related m ref side x) o p h k
one_found m ref side None None o p h k = h ∙ sym k

module _ (s : Setting) (format : Format) (sizes : FormatSizes) where
  one_side : (i : ℕ) (d : Field) (side : Side) (o p : Option (List Bool)) → IsSeenOn s format sizes i d side o → IsSeenOn s format sizes i d side p → o ≡ p
  one_side i d side o p h k =
      one_found (plain_method (bounding_of (base_ranges s sizes)) d.encoding) (reference_in s d) (opposite side) (first_told s format sizes i d side) (first_told s format sizes i d (opposite side)) o p h k

  one_fields : (xs ys : List ObservedSides) → AreInFull s format sizes xs → AreInFull s format sizes ys → xs ≡ ys
  one_fields xs ys h k = list_same xs ys (h.count ∙ sym k.count) (λ i x y at other. each i x y at other)
    where
      each : (i : ℕ) (x y : ObservedSides) → slice_get xs i ≡ Some x → slice_get ys i ≡ Some y → x ≡ y
      each i x y at other =
          let within : i < length xs = slice_get_within xs i x at in
          let d = there format.fields i (let same = h.count in omega (arith, within, same)) in
          let up = one_side i d.0 Uncompressed x.uncompressed y.uncompressed (h.each i d.0 x d.1 at Uncompressed) (k.each i d.0 y d.1 other Uncompressed) in
          let down = one_side i d.0 Compressed x.compressed y.compressed (h.each i d.0 x d.1 at Compressed) (k.each i d.0 y d.1 other Compressed) in
          λ j. record { uncompressed = up j; compressed = down j }

  pub one_view : (n : ℕ) (v w : Observed) → IsFullView s n format sizes v → IsFullView s n format sizes w → v ≡ w
  one_view n v w h k =
      let fields : v.fields ≡ w.fields = one_fields v.fields w.fields h.fields k.fields in
      let up : v.whole.uncompressed ≡ w.whole.uncompressed = h.whole Uncompressed ∙ (ap (λ z. whole_seen z Uncompressed format) fields ∙ sym (k.whole Uncompressed)) in
      let down : v.whole.compressed ≡ w.whole.compressed = h.whole Compressed ∙ (ap (λ z. whole_seen z Compressed format) fields ∙ sym (k.whole Compressed)) in
      λ j. record { fields = fields j; whole = record { uncompressed = up j; compressed = down j } }

-- what is so of one such view is so of each
pub of_each : (s : Setting) (n : ℕ) (format : Format) (sizes : FormatSizes) (seen : Observed) → IsFullView s n format sizes seen → (P : Format → FormatSizes → Observed → Type 0) → P format sizes seen
    → (f : Format) (z : FormatSizes) (v : Observed) → IsFullView s n f z v → P f z v
of_each s n format sizes seen full P so f z v other =
    let format_same : format ≡ f = one_value _ format f full.format_is other.format_is in
    let sizes_same : sizes ≡ z = one_value _ sizes z full.sizes_are other.sizes_are in
    let turned : IsFullView s n f z seen = subst (λ q. IsFullView s n f q seen) sizes_same (subst (λ q. IsFullView s n q sizes seen) format_same full) in
    let moved : P f z seen = subst (λ q. P f q seen) sizes_same (subst (λ q. P q sizes seen) format_same so) in
    subst (λ q. P f z q) (one_view s f z n seen v turned other) moved
