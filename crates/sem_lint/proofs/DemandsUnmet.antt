-- An argument that its method never takes: no filling of its field fits.
use Rattle.std.proofs.Common.{◌≡◌, ◌∙◌, refl, sym, ap, subst, ℕ, ◌<◌, ◌≤◌, ◌^◌, Bool, true, false, List, [], ◌∷◌, length, arith}
use Rattle.std.specs.Prelude.{ℤ, pos, Option, Some, None, Ok, slice_get, if◌then◌else◌}
use Rattle.std.specs.Option.{option_or}
use Rattle.std.proofs.lemmas.Int.{ints}
use Rattle.sem_bits.specs.Number.{num}
use Rattle.sem_bits.proofs.Numbers.{num-below}
use Rattle.sem_expr.specs.declared.expr.Comparison.TheVariants.{Equal}
use Rattle.sem_expr.specs.declared.expr.Expr.{Expr}
use Rattle.sem_expr.specs.declared.expr.Side.{Side}
use Rattle.sem_expr.specs.declared.expr.Side.TheVariants.{Uncompressed, Compressed}
use Rattle.sem_expr.specs.declared.expr.Subject.{Subject}
use Rattle.sem_expr.specs.declared.expr.Subject.TheVariants as subject
use Rattle.sem_expr.specs.declared.interval.Interval.{Interval}
use Rattle.sem_expr.specs.Ranged.{Bounding, ranged}
use Rattle.sem_expr.specs.Rules.{IsIn}
use Rattle.sem_expr.specs.Spread.{LieIn}
use Rattle.sem_expr.specs.Values.{Assignment, val}
use Rattle.sem_expr.proofs.RangedLie as ranges
use Rattle.sem_library.specs.Methods as lib
use Rattle.sem_library.specs.Methods.{Lib, LsbHolds}
use Rattle.sem_profile.specs.declared.profile.CrcArguments.{CrcArguments}
use Rattle.sem_profile.specs.declared.profile.Library.{Library}
use Rattle.sem_profile.specs.declared.profile.Library.TheVariants as library
use Rattle.sem_profile.specs.BoundsLaws.{library_exprs}
use Rattle.sem_filling.specs.Fits.{method_of, vals}
use Rattle.sem_filling.proofs.FitsSized.{one_value, map_some, two_parts, crc_parts, some_and}
use Rattle.sem_filling.proofs.FitsValues.{vals_at}
use Rattle.sem_lint.specs.Attributes.{length_range, value_range}
use Rattle.sem_lint.specs.Demands.{crc_bits, missed, unmet_by, place_of}
use Rattle.sem_lint.specs.Never.{are_apart}
use Rattle.sem_filling.specs.declared.obstacle.Unmet.{Unmet}
use Rattle.sem_lint.proofs.NeverApart.{ranges_of, apart, is_equal}

chosen : (b : Bool) (x u : Unmet) → (if b then Some x else None) ≡ Some u → b ≡ true
chosen true x u is = refl
chosen false x u is = absurd (cc)

either : (o q : Option Unmet) (u : Unmet) → option_or o q ≡ Some u → ((w : Unmet) → o ≡ Some w → ⊥) → ((w : Unmet) → q ≡ Some w → ⊥) → ⊥
either (Some w) q u is one other = one w refl
either None q u is one other = other u is

value_at : (b : Assignment) (es : List Expr) (vs : List ℤ) (q : ℕ) (e : Expr) (v : ℤ) → vals b es ≡ Some vs → slice_get vs q ≡ Some v → slice_get es q ≡ Some e → val b e ≡ Some v
value_at b es vs q e v are there at =
    let x = vals_at b es vs q v are there in
    let same : x.0 ≡ e = one_value _ x.0 e x.1 at in
    subst (λ z. val b z ≡ Some v) same x.2

-- an expression that is never one of the numbers that are due
pub none_of_these : (a : Assignment) (r : Bounding) → LieIn a r → (e : Expr) (due : Interval) → are_apart Equal (ranged r e) (Ok due) ≡ true → (v : ℤ) → val a e ≡ Some v → IsIn due v → ⊥
none_of_these a r lie e due is v value within =
    let q = ranges_of Equal (ranged r e) (Ok due) is in
    let same : due ≡ q.right = let here = q.right_is in cc in
    apart Equal q.left q.right v v (ranges.lies a r lie e q.left v q.left_is value) (subst (λ z. IsIn z v) same within) q.apart (is_equal v v refl)

module _ (a b : Assignment) (r : Bounding) (lie : LieIn a r) (sides : Subject → Side → List Bool) (ref : Option (List Bool)) (i : ℕ) (u c : List Bool)
    (header_length : IsIn (length_range r (subject.Field i) Uncompressed) (pos (length u)))
    (packed_length : IsIn (length_range r (subject.Field i) Compressed) (pos (length c)))
    (header_fits : (n : ℕ) → length u ≤ 64 → n < 2 ^ length u → IsIn (value_range r (subject.Field i) Uncompressed) (pos n))
    (packed_fits : (n : ℕ) → length c ≤ 64 → n < 2 ^ length c → IsIn (value_range r (subject.Field i) Compressed) (pos n)) where
  none_missed : (e : Expr) (due : Interval) (w : Unmet) → missed r e due ≡ Some w → val a e ≡ val b e → (v : ℤ) → val b e ≡ Some v → IsIn due v → ⊥
  none_missed e due w is same v value within =
      none_of_these a r lie e due (chosen (are_apart Equal (ranged r e) (Ok due)) (record { at = place_of e; due = due }) w is) v (same ∙ value) within

  pub none_unmet : (l : Library) (m : lib.Method) → method_of sides b l ≡ Some m → Lib m ref u c
      → ((q : ℕ) (e : Expr) → slice_get (library_exprs l) q ≡ Some e → val a e ≡ val b e)
      → ((crc : CrcArguments) → l ≡ library.Crc crc → IsIn (length_range r crc.subject crc.side) (pos (length (sides crc.subject crc.side))))
      → (w : Unmet) → unmet_by r i l ≡ Some w → ⊥
  none_unmet (library.UncompressedValue len v) m is h same covered w e =
      let t = two_parts lib.uncompressed_value (val b len) (val b v) m is in
      let k = subst (λ z. Lib z ref u c) (sym t.4) h in
      either (missed r len (length_range r (subject.Field i) Uncompressed)) (missed r v (value_range r (subject.Field i) Uncompressed)) w e
      (λ x here. none_missed len (length_range r (subject.Field i) Uncompressed) x here (same 0 len refl) t.0 t.2 (subst (IsIn (length_range r (subject.Field i) Uncompressed)) k.0.length_is header_length))
      (λ x here. none_missed v (value_range r (subject.Field i) Uncompressed) x here (same 1 v refl) t.1 t.3
      (subst (IsIn (value_range r (subject.Field i) Uncompressed)) k.0.number_is (header_fits (num u) k.0.short (num-below u))))
  none_unmet (library.CompressedValue len v) m is h same covered w e =
      let t = two_parts lib.compressed_value (val b len) (val b v) m is in
      let k = subst (λ z. Lib z ref u c) (sym t.4) h in
      either (missed r len (length_range r (subject.Field i) Compressed)) (missed r v (value_range r (subject.Field i) Compressed)) w e
      (λ x here. none_missed len (length_range r (subject.Field i) Compressed) x here (same 0 len refl) t.0 t.2 (subst (IsIn (length_range r (subject.Field i) Compressed)) k.1.length_is packed_length))
      (λ x here. none_missed v (value_range r (subject.Field i) Compressed) x here (same 1 v refl) t.1 t.3
      (subst (IsIn (value_range r (subject.Field i) Compressed)) k.1.number_is (packed_fits (num c) k.1.short (num-below c))))
  none_unmet (library.Irregular len) m is h same covered w e =
      let t = map_some lib.irregular (val b len) m is in
      let k = subst (λ z. Lib z ref u c) (sym t.2) h in
      let other : pos (length c) ≡ t.0 = ap (λ z. pos (length z)) (sym k.0) ∙ k.1 in
      either (missed r len (length_range r (subject.Field i) Uncompressed)) (missed r len (length_range r (subject.Field i) Compressed)) w e
      (λ x here. none_missed len (length_range r (subject.Field i) Uncompressed) x here (same 0 len refl) t.0 t.1 (subst (IsIn (length_range r (subject.Field i) Uncompressed)) k.1 header_length))
      (λ x here. none_missed len (length_range r (subject.Field i) Compressed) x here (same 0 len refl) t.0 t.1 (subst (IsIn (length_range r (subject.Field i) Compressed)) other packed_length))
  none_unmet library.Static m is h same covered w e = absurd (cc)
  none_unmet (library.Lsb k offset) m is h same covered w e =
      let t = two_parts lib.lsb (val b k) (val b offset) m is in
      let holds = some_and ref (λ x. LsbHolds t.0 t.1 x u c) (subst (λ z. Lib z ref u c) (sym t.4) h) in
      none_missed k (length_range r (subject.Field i) Compressed) w e (same 0 k refl) t.0 t.2 (subst (IsIn (length_range r (subject.Field i) Compressed)) holds.2.bits_are packed_length)
  none_unmet (library.Crc crc) m is h same covered w e =
      let es = crc.bits ∷ crc.polynomial ∷ crc.initial ∷ crc.length ∷ [] in
      let t = crc_parts (sides crc.subject crc.side) (vals b es) m is in
      let vs = t.0 ∷ t.1 ∷ t.2 ∷ t.3 ∷ [] in
      let k = (subst (λ z. Lib z ref u c) (sym t.5) h).1 in
      let some = k.some_bits in
      let short = k.short in
      let sent : IsIn crc_bits (pos (length c)) = record { above = omega (arith, ints); below = omega (arith, ints) } in
      either (option_or (missed r crc.bits crc_bits) (missed r crc.bits (length_range r (subject.Field i) Compressed)))
      (option_or (option_or (missed r crc.polynomial (value_range r (subject.Field i) Compressed)) (missed r crc.initial (value_range r (subject.Field i) Compressed))) (missed r crc.length (length_range r crc.subject crc.side))) w e
      (λ x here. either (missed r crc.bits crc_bits) (missed r crc.bits (length_range r (subject.Field i) Compressed)) x here
      (λ y at. none_missed crc.bits crc_bits y at (same 0 crc.bits refl) t.0 (value_at b es vs 0 crc.bits t.0 t.4 refl refl) (subst (IsIn crc_bits) k.bits_are sent))
      (λ y at. none_missed crc.bits (length_range r (subject.Field i) Compressed) y at (same 0 crc.bits refl) t.0 (value_at b es vs 0 crc.bits t.0 t.4 refl refl)
      (subst (IsIn (length_range r (subject.Field i) Compressed)) k.bits_are packed_length)))
      (λ x here. either (option_or (missed r crc.polynomial (value_range r (subject.Field i) Compressed)) (missed r crc.initial (value_range r (subject.Field i) Compressed))) (missed r crc.length (length_range r crc.subject crc.side)) x here
      (λ y at. either (missed r crc.polynomial (value_range r (subject.Field i) Compressed)) (missed r crc.initial (value_range r (subject.Field i) Compressed)) y at
      (λ z is_here. none_missed crc.polynomial (value_range r (subject.Field i) Compressed) z is_here (same 1 crc.polynomial refl) t.1 (value_at b es vs 1 crc.polynomial t.1 t.4 refl refl)
      (subst (IsIn (value_range r (subject.Field i) Compressed)) k.polynomial_is (packed_fits k.polynomial short k.polynomial_fits)))
      (λ z is_here. none_missed crc.initial (value_range r (subject.Field i) Compressed) z is_here (same 2 crc.initial refl) t.2 (value_at b es vs 2 crc.initial t.2 t.4 refl refl)
      (subst (IsIn (value_range r (subject.Field i) Compressed)) k.initial_is (packed_fits k.initial short k.initial_fits))))
      (λ y at. none_missed crc.length (length_range r crc.subject crc.side) y at (same 3 crc.length refl) t.3 (value_at b es vs 3 crc.length t.3 t.4 refl refl)
      (subst (IsIn (length_range r crc.subject crc.side)) k.length_is (covered crc refl))))
