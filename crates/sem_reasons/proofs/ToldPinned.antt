-- An argument of which the range has one number has that value, so a method of such arguments is the one of any filling.
use Rattle.std.proofs.Common.{◌≡◌, ◌∙◌, refl, sym, ap, ℕ, zero, suc, Bool, true, false, cond, List, [], ◌∷◌, arith}
use Rattle.std.specs.Prelude.{ℤ, Some, None, Result, Ok, Err, slice_get}
use Rattle.std.specs.Option.{option_map}
use Rattle.std.specs.Ordering.{int_eq}
use Rattle.std.proofs.lemmas.Int.{ints}
use Rattle.std.proofs.lemmas.Bool.Decides.{Decides-int_eq}
use Rattle.sem_expr.specs.declared.expr.Expr.{Expr}
use Rattle.sem_expr.specs.declared.expr.Side.{Side}
use Rattle.sem_expr.specs.declared.expr.Subject.{Subject}
use Rattle.sem_expr.specs.declared.fault.RangeFault.{RangeFault}
use Rattle.sem_expr.specs.declared.interval.Interval.{Interval}
use Rattle.sem_expr.specs.Ranged.{Bounding, ranged}
use Rattle.sem_expr.specs.Rules.{IsIn}
use Rattle.sem_expr.specs.Values.{Assignment, val}
use Rattle.sem_profile.specs.BoundsLaws.{library_exprs}
use Rattle.sem_library.specs.Methods as lib
use Rattle.sem_profile.specs.declared.profile.CrcArguments.{CrcArguments}
use Rattle.sem_profile.specs.declared.profile.Library.{Library}
use Rattle.sem_profile.specs.declared.profile.Library.TheVariants as library
use Rattle.sem_filling.specs.Fits.{method_of, vals, two_values}
use Rattle.sem_filling.proofs.FitsSized.{two_parts, crc_parts, map_some, and_then_some}
use Rattle.sem_reasons.specs.Told.{only_in, pinned, all_pinned, method_in}

-- what is known of an expression's value: it lies in its range, if it has both
abbrev pub LiesIn : Bounding → Assignment → Expr → Type 0
LiesIn r a e = (i : Interval) (v : ℤ) → ranged r e ≡ Ok i → val a e ≡ Some v → IsIn i v

one_number : (i : Interval) (v w : ℤ) → only_in (Ok i) ≡ Some v → IsIn i w → w ≡ v
one_number i v w e lies = by (int_eq i.from i.to) refl e
  where
    by : (b : Bool) → int_eq i.from i.to ≡ b → cond b (Some i.from) None ≡ Some v → w ≡ v
    by true same e =
        let ends : i.from ≡ i.to = (Decides-int_eq i.from i.to).0 same in
        let is : i.from ≡ v = cc in
        let above = lies.above in
        let below = lies.below in
        omega (arith, ints, ends, is, above, below)
    by false same e = absurd (cc)

pub one_value_of : (r : Bounding) (a : Assignment) (e : Expr) → LiesIn r a e → (v w : ℤ) → pinned r e ≡ Some v → val a e ≡ Some w → w ≡ v
one_value_of r a e lies v w p is = by (ranged r e) refl p
  where
    by : (o : Result Interval RangeFault) → ranged r e ≡ o → only_in o ≡ Some v → w ≡ v
    by (Ok i) at p = one_number i v w p (lies i w at is)
    by (Err f) at p = absurd (cc)

both : (make : ℤ → ℤ → lib.Method) (r : Bounding) (a : Assignment) (e f : Expr) → LiesIn r a e → LiesIn r a f → (m n : lib.Method)
    → two_values make (pinned r e) (pinned r f) ≡ Some m → two_values make (val a e) (val a f) ≡ Some n → n ≡ m
both make r a e f one other m n p is =
    let x = two_parts make (pinned r e) (pinned r f) m p in
    let y = two_parts make (val a e) (val a f) n is in
    let first = one_value_of r a e one x.0 y.0 x.2 y.2 in
    let second = one_value_of r a f other x.1 y.1 x.3 y.3 in
    sym y.4 ∙ ((λ j. make (first j) (second j)) ∙ x.4)

listed : (r : Bounding) (a : Assignment) (es : List Expr) → ((n : ℕ) (e : Expr) → slice_get es n ≡ Some e → LiesIn r a e) → (vs ws : List ℤ) → all_pinned r es ≡ Some vs → vals a es ≡ Some ws → ws ≡ vs
listed r a [] lies vs ws p is = let one : [] ≡ vs = cc in let other : [] ≡ ws = cc in sym other ∙ one
listed r a (e ∷ es) lies vs ws p is =
    let x = and_then_some (λ v. option_map (λ more. v ∷ more) (all_pinned r es)) (pinned r e) vs p in
    let more = map_some (λ more. x.0 ∷ more) (all_pinned r es) vs x.2 in
    let y = and_then_some (λ v. option_map (λ more. v ∷ more) (vals a es)) (val a e) ws is in
    let rest = map_some (λ more. y.0 ∷ more) (vals a es) ws y.2 in
    let first = one_value_of r a e (lies zero e refl) x.0 y.0 x.1 y.1 in
    let later = listed r a es (λ n g at. lies (suc n) g at) more.0 rest.0 more.1 rest.1 in
    sym rest.2 ∙ ((λ j. first j ∷ later j) ∙ more.2)

module _ (r : Bounding) (a : Assignment) (side : Subject → Side → List Bool) (covered : List Bool) where
  pub same_method : (l : Library) → ((n : ℕ) (e : Expr) → slice_get (library_exprs l) n ≡ Some e → LiesIn r a e) → ((crc : CrcArguments) → l ≡ library.Crc crc → side crc.subject crc.side ≡ covered)
      → (m n : lib.Method) → method_in r covered l ≡ Some m → method_of side a l ≡ Some n → n ≡ m
  same_method (library.UncompressedValue len v) lies covers m n p is = both lib.uncompressed_value r a len v (lies zero len refl) (lies (suc zero) v refl) m n p is
  same_method (library.CompressedValue len v) lies covers m n p is = both lib.compressed_value r a len v (lies zero len refl) (lies (suc zero) v refl) m n p is
  same_method (library.Irregular len) lies covers m n p is =
      let x = map_some lib.irregular (pinned r len) m p in
      let y = map_some lib.irregular (val a len) n is in
      sym y.2 ∙ (ap lib.irregular (one_value_of r a len (lies zero len refl) x.0 y.0 x.1 y.1) ∙ x.2)
  same_method library.Static lies covers m n p is = let one : lib.static ≡ m = cc in let other : lib.static ≡ n = cc in sym other ∙ one
  same_method (library.Lsb k offset) lies covers m n p is = both lib.lsb r a k offset (lies zero k refl) (lies (suc zero) offset refl) m n p is
  same_method (library.Crc crc) lies covers m n p is =
      let es = crc.bits ∷ crc.polynomial ∷ crc.initial ∷ crc.length ∷ [] in
      let x = crc_parts covered (all_pinned r es) m p in
      let y = crc_parts (side crc.subject crc.side) (vals a es) n is in
      let same = listed r a es lies (x.0 ∷ x.1 ∷ x.2 ∷ x.3 ∷ []) (y.0 ∷ y.1 ∷ y.2 ∷ y.3 ∷ []) x.4 y.4 in
      let one : y.0 ≡ x.0 = cc in
      let two : y.1 ≡ x.1 = cc in
      let three : y.2 ≡ x.2 = cc in
      let four : y.3 ≡ x.3 = cc in
      sym y.5 ∙ ((λ j. lib.crc (one j) (two j) (three j) (covers crc refl j) (four j)) ∙ x.5)
