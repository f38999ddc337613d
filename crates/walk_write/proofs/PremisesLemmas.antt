-- What is told before a plan is followed is so in each filling that has the choices.
use Rattle.std.proofs.Common.{◌≡◌, refl, sym, ◌∙◌, ap, subst, ℕ, Bool, true, false, List, [], ◌∷◌}
use Rattle.std.specs.Prelude.{ℤ, pos, nat_eq, Option, Some, None, slice_get, option_map, option_and_then, if◌then◌else◌}
use Rattle.std.proofs.lemmas.Bool.{eqb-true}
use Rattle.sem_bits.specs.Number.{num}
use Rattle.sem_expr.specs.declared.expr.Attribute.{Attribute}
use Rattle.sem_expr.specs.declared.expr.Expr.{Expr}
use Rattle.sem_expr.specs.declared.expr.Expr.TheVariants as expr
use Rattle.sem_expr.specs.declared.expr.Expr.TheVariants.{Number, Parameter, Binary'}
use Rattle.sem_expr.specs.declared.expr.Measure.{Measure}
use Rattle.sem_expr.specs.declared.expr.Measure.TheVariants as measure
use Rattle.sem_expr.specs.declared.expr.Side.{Side}
use Rattle.sem_expr.specs.declared.expr.Side.TheVariants.{Uncompressed, Compressed}
use Rattle.sem_expr.specs.declared.expr.Subject.{Subject}
use Rattle.sem_expr.specs.declared.expr.Subject.TheVariants.{This}
use Rattle.sem_expr.specs.declared.expr.Subject.TheVariants as subject
use Rattle.sem_expr.specs.Values.{Assignment, both, val, apply}
use Rattle.sem_library.specs.Methods as lib
use Rattle.sem_library.specs.Methods.{Lib}
use Rattle.sem_profile.specs.declared.profile.Encoding.{Encoding}
use Rattle.sem_profile.specs.declared.profile.Encoding.TheVariants as encoding
use Rattle.sem_profile.specs.declared.profile.Library.TheVariants as library
use Rattle.sem_profile.specs.declared.profile.Field.{Field}
use Rattle.sem_profile.specs.declared.profile.Format.{Format}
use Rattle.sem_profile.specs.declared.profile.Method.{Method}
use Rattle.sem_filling.specs.declared.filling.Filling.{Filling}
use Rattle.sem_filling.specs.declared.filling.FilledField.{FilledField}
use Rattle.sem_filling.specs.Fillings.{sides_of, fields_of, level}
use Rattle.sem_filling.proofs.FillingsUnique.{also_at}
use Rattle.sem_filling.specs.Fits.{Context, assigned, side_of, measured, vals}
use Rattle.sem_filling.proofs.FitsInverted.{FitsParts, coded_parts, length-fields}
use Rattle.sem_filling.proofs.FitsSized.{and_then_some, map_some}
use Rattle.cert_rules.specs.Views.{view, side_at}
use Rattle.cert_rules.proofs.ViewsAgree.{side_is}
use Rattle.walk_write.specs.declared.premises.Chosen.{Chosen}
use Rattle.walk_write.specs.Premises.{HasChosen, digit_of, is_irregular, shows_choice, told_value, told_numbers}

digit_is : (f : Filling) (xs : List Chosen) → HasChosen f xs → (i digit : ℕ) → digit_of xs i ≡ Some digit → num (side_at (view f) i Uncompressed) ≡ digit
digit_is f [] h i digit e = absurd (cc)
digit_is f (x ∷ xs) h i digit e = by (nat_eq x.field i) refl (λ e. digit_is f xs h.1 i digit e) e
  where
    by : (b : Bool) → nat_eq x.field i ≡ b → (digit_of xs i ≡ Some digit → num (side_at (view f) i Uncompressed) ≡ digit) → (if b then Some x.digit else digit_of xs i) ≡ Some digit →
        num (side_at (view f) i Uncompressed) ≡ digit
    by true is later e =
        let same : x.digit ≡ digit = cc in
        ap (λ j. num (side_at (view f) j Uncompressed)) (sym (eqb-true x.field i is)) ∙ (h.0 ∙ same)
    by false is later e = later e

both_more : {A B : Type 0} (f : A → A → Option B) (x y x' y' : Option A) (z : B) → ((v : A) → x ≡ Some v → x' ≡ Some v) → ((v : A) → y ≡ Some v → y' ≡ Some v) → both f x y ≡ Some z → both f x' y' ≡ Some z
both_more f None y x' y' z h k e = absurd (cc)
both_more f (Some v) None x' y' z h k e = absurd (cc)
both_more f (Some v) (Some w) x' y' z h k e = (λ i. both f (h v refl i) (k w refl i)) ∙ e

module _ (a b : Assignment) (attributes : (t : Attribute) (v : ℤ) → a.attribute t ≡ Some v → b.attribute t ≡ Some v) (parameters : (i : ℕ) (v : ℤ) → a.parameter i ≡ Some v → b.parameter i ≡ Some v) where
  val_more : (e : Expr) (v : ℤ) → val a e ≡ Some v → val b e ≡ Some v
  val_more (Number s n) v e = e
  val_more (Parameter s i) v e = parameters i v e
  val_more (expr.Attribute s t) v e = attributes t v e
  val_more (Binary' s op p x q y) v e = both_more (apply op) (val a x) (val a y) (val b x) (val b y) v (val_more x) (val_more y) e

pub vals_more : (a b : Assignment) → ((e : Expr) (v : ℤ) → val a e ≡ Some v → val b e ≡ Some v) → (es : List Expr) (vs : List ℤ) → vals a es ≡ Some vs → vals b es ≡ Some vs
vals_more a b more [] vs h = h
vals_more a b more (e ∷ es) vs h =
    let t = and_then_some (λ v. option_map (λ ws. v ∷ ws) (vals a es)) (val a e) vs h in
    let s = map_some (λ ws. t.0 ∷ ws) (vals a es) vs t.2 in
    let first = more e t.0 t.1 in
    let rest = vals_more a b more es s.0 s.1 in
    (λ i. option_and_then (λ v. option_map (λ ws. v ∷ ws) (rest i)) (first i)) ∙ ap Some s.2

irregular_is : (e : Encoding) → is_irregular e ≡ true → (len : Expr) × (e ≡ encoding.Library (library.Irregular len))
irregular_is (encoding.Library (library.Irregular len)) e = (len, refl)
irregular_is (encoding.Library (library.UncompressedValue len v)) e = absurd (cc)
irregular_is (encoding.Library (library.CompressedValue len v)) e = absurd (cc)
irregular_is (encoding.Library library.Static) e = absurd (cc)
irregular_is (encoding.Library (library.Lsb k offset)) e = absurd (cc)
irregular_is (encoding.Library (library.Crc crc)) e = absurd (cc)
irregular_is encoding.Bare e = absurd (cc)
irregular_is (encoding.Call k es) e = absurd (cc)

-- its sides are equal
carried : (m : lib.Method) (o : Option ℤ) (ref : Option (List Bool)) (u c : List Bool) → option_map lib.irregular o ≡ Some m → Lib m ref u c → u ≡ c
carried m o ref u c e h =
    let t = map_some lib.irregular o m e in
    (subst (λ z. Lib z ref u c) (sym t.2) h).0

module _ (methods : List Method) (ctx : Context) (k : ℕ) (args : List ℤ) (path : List ℕ) (format : Format) (choices : List Chosen) (f : Filling) (p : FitsParts methods ctx k args path f) (one : p.format ≡ format) (chosen : HasChosen f choices) where
  pub field_p : (i : ℕ) (d : Field) → slice_get format.fields i ≡ Some d → slice_get p.format.fields i ≡ Some d
  field_p i d at = ap (λ (z : Format). slice_get z.fields i) one ∙ at

  pub filled : (i : ℕ) (d : Field) → slice_get format.fields i ≡ Some d → (g : FilledField) × (slice_get (fields_of f) i ≡ Some g)
  filled i d at = also_at p.format.fields (fields_of f) i d (sym (length-fields p.format f p.level_fits.shaped)) (field_p i d at)

  sides_equal : (i : ℕ) (d : Field) → slice_get format.fields i ≡ Some d → is_irregular d.encoding ≡ true → side_at (view f) i Compressed ≡ side_at (view f) i Uncompressed
  sides_equal i d at is =
      let g = filled i d at in
      let x = irregular_is d.encoding is in
      let coded = coded_parts methods ctx (p.each i d g.0 (field_p i d at) g.1) (library.Irregular x.0) x.1 in
      let same = carried coded.method _ _ (sides_of g.0).uncompressed (sides_of g.0).compressed coded.is_method coded.holds in
      side_is f i g.0 Compressed g.1 ∙ (sym same ∙ sym (side_is f i g.0 Uncompressed g.1))

  shown : (i : ℕ) (o : Option Field) → slice_get format.fields i ≡ o → (side : Side) → shows_choice o side ≡ true → side_at (view f) i side ≡ side_at (view f) i Uncompressed
  shown i o at Uncompressed is = refl
  shown i None at Compressed is = absurd (cc)
  shown i (Some d) at Compressed is = sides_equal i d at is

  attribute_at : (s : Subject) (m : Measure) (side : Side) (v : ℤ) → told_value format choices s m side ≡ Some v → Some (measured m (side_of p.format.listing (level f) s side)) ≡ Some v
  attribute_at This m side v e = absurd (cc)
  attribute_at (subject.Field i) measure.Length side v e = absurd (cc)
  attribute_at (subject.Field i) measure.Value side v e = by (shows_choice (slice_get format.fields i) side) refl e
    where
      by : (b : Bool) → shows_choice (slice_get format.fields i) side ≡ b → (if b then option_map pos (digit_of choices i) else None) ≡ Some v → Some (pos (num (side_at (view f) i side))) ≡ Some v
      by false is e = absurd (cc)
      by true is e =
          let t = map_some pos (digit_of choices i) v e in
          let number_is = ap num (shown i (slice_get format.fields i) refl side is) ∙ digit_is f choices chosen i t.0 t.1 in
          ap (λ z. Some (pos z)) number_is ∙ ap Some t.2

  pub value_is : (e : Expr) (v : ℤ) → val (told_numbers format args choices) e ≡ Some v → val (assigned p.format.listing (level f) args) e ≡ Some v
  value_is = val_more (told_numbers format args choices) (assigned p.format.listing (level f) args) (λ t v e. attribute_at t.subject t.measure t.side v e) (λ i v e. e)

  pub values_are : (es : List Expr) (vs : List ℤ) → vals (told_numbers format args choices) es ≡ Some vs → vals (assigned p.format.listing (level f) args) es ≡ Some vs
  values_are = vals_more (told_numbers format args choices) (assigned p.format.listing (level f) args) value_is
