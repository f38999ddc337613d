-- Why a fitting field holds no bits in front of those that lack its constant.
use Rattle.std.proofs.Common.{◌≡◌, refl, sym, ◌∙◌, ap, subst, ℕ, zero, suc, Bool, true, List, [], ◌∷◌, ◌++◌, drop}
use Rattle.std.specs.Prelude.{ℤ, Option, Some, None, slice_get, option_and_then}
use Rattle.sem_expr.specs.declared.expr.Attribute.{Attribute}
use Rattle.sem_expr.specs.declared.expr.Cond.{Cond}
use Rattle.sem_expr.specs.declared.expr.Side.{Side}
use Rattle.sem_expr.specs.declared.expr.Subject.{Subject}
use Rattle.sem_expr.specs.declared.expr.Expr.{Expr}
use Rattle.sem_expr.specs.declared.expr.Expr.TheVariants as expr
use Rattle.sem_expr.specs.declared.expr.Expr.TheVariants.{Number, Parameter, Binary'}
use Rattle.sem_expr.specs.Values.{Assignment, both, val, truth, compare}
use Rattle.sem_library.specs.Methods as lib
use Rattle.sem_library.specs.Methods.{Lib}
use Rattle.sem_profile.specs.declared.profile.Constraint.TheVariants.{Enforce}
use Rattle.sem_profile.specs.declared.profile.Encoding.{Encoding}
use Rattle.sem_profile.specs.declared.profile.Library.TheVariants as library
use Rattle.sem_profile.specs.declared.profile.Field.{Field}
use Rattle.sem_profile.specs.declared.profile.Format.{Format}
use Rattle.sem_profile.specs.declared.profile.Method.{Method}
use Rattle.sem_profile.specs.Outcome.{AreSizes}
use Rattle.sem_profile.specs.Resolved.{Resolved}
use Rattle.sem_filling.specs.declared.filling.Filling.{Filling, out-Filling}
use Rattle.sem_filling.specs.declared.filling.FilledField.{FilledField}
use Rattle.sem_filling.specs.Entries.{Path, below}
use Rattle.sem_filling.specs.Fillings.{sides_of, level, header}
use Rattle.sem_filling.specs.Bounded.{sizes_at}
use Rattle.sem_filling.specs.Fits.{Context, Fits, FieldFits, format_at, assigned, side_of, reference_of, two_values, vals}
use Rattle.sem_filling.proofs.FitsInverted.{FitsParts, parts, coded_parts, called_parts}
use Rattle.sem_filling.proofs.FitsSized.{one_value, and_then_some}
use Rattle.walk_write.specs.Refutation.{operand, IsFalse, HasFalse, IsElse, CallsOnly, Lacks, of_constant, of_constraint, of_field}
use Rattle.walk_write.specs.Premises.{told_numbers}
use Rattle.walk_write.proofs.RefutationHeaders.{held}
use Rattle.walk_write.proofs.PremisesLemmas as told

-- ---- constraints

-- a number or a parameter has its value whatever the fields hold
operand_is : (attributes : Attribute → Option ℤ) (args : List ℤ) (e : Expr) (v : ℤ) → operand args e ≡ Some v → val (record { attribute = attributes; parameter = λ i. slice_get args i }) e ≡ Some v
operand_is attributes args (Number s n) v e = e
operand_is attributes args (Parameter s i) v e = e
operand_is attributes args (expr.Attribute s t) v e = absurd (cc)
operand_is attributes args (Binary' s op p x q y) v e = absurd (cc)

-- what is known of operands is so
abbrev pub AreKnown : (Expr → Option ℤ) → Assignment → Type 0
AreKnown known a = (e : Expr) (v : ℤ) → known e ≡ Some v → val a e ≡ Some v

pub known_false : (known : Expr → Option ℤ) (a : Assignment) → AreKnown known a → (condition : Cond) → IsFalse known condition → truth a condition ≡ Some true → ⊥
known_false known a are condition h e =
    let one = are h.one h.one_value h.one_is in
    let other = are h.other h.other_value h.other_is in
    let is : truth a condition ≡ Some (compare h.comparison h.one_value h.other_value) =
    ap (truth a) h.condition_is ∙ (λ i. both (λ v w. Some (compare h.comparison v w)) (one i) (other i)) in
    let falsehood = h.is_false in
    absurd (cc)

pub false_is : (attributes : Attribute → Option ℤ) (args : List ℤ) (condition : Cond) → IsFalse (operand args) condition → truth (record { attribute = attributes; parameter = λ i. slice_get args i }) condition ≡ Some true → ⊥
false_is attributes args condition h e = known_false (operand args) (record { attribute = attributes; parameter = λ i. slice_get args i }) (operand_is attributes args) condition h e

-- no constraint of a filling of the format is false by its arguments
pub none_false : (methods : List Method) (ctx : Context) (k : ℕ) (args : List ℤ) (path : Path) (f : Filling) (p : FitsParts methods ctx k args path f) (format : Format) → p.format ≡ format → HasFalse (operand args) format.constraints → ⊥
none_false methods ctx k args path f p format one h =
    let at : slice_get p.format.constraints h.index ≡ Some (Enforce h.condition h.place) = ap (λ (z : Format). slice_get z.constraints h.index) one ∙ h.constraint_is in
    false_is (assigned p.format.listing (level f) args).attribute args h.condition h.is_false (p.level_fits.constraints h.index (Enforce h.condition h.place) at)

-- ---- constants

pub none_under : (m n : lib.Method) (ref : Option (List Bool)) (bits u c rest : List Bool) → Some n ≡ Some m → IsElse n ref bits → bits ≡ u ++ rest → Lib m ref u c → ⊥
none_under m n ref bits u c rest e none whole h =
    let one : m ≡ n = cc in
    none u c rest whole (subst (λ z. Lib z ref u c) one h)

-- ---- calls of methods with one format

-- what has no second element has a first alone
only_first : {A : Type 0} (xs : List A) (n : ℕ) (x : A) → slice_get xs 1 ≡ None → slice_get xs n ≡ Some x → n ≡ 0
only_first [] n x none e = absurd (cc)
only_first (y ∷ []) zero x none e = refl
only_first (y ∷ []) (suc n) x none e = absurd (cc)
only_first (y ∷ z ∷ zs) n x none e = absurd (cc)

only_format : (methods : List Method) (j n : ℕ) (x : Format) → format_at methods j 1 ≡ None → format_at methods j n ≡ Some x → n ≡ 0
only_format methods j n x none e =
    let m = and_then_some (λ z. slice_get z.formats n) (slice_get methods j) x e in
    only_first m.0.formats n x (ap (option_and_then (λ z. slice_get z.formats 1)) (sym m.1) ∙ none) m.2

module _ (p : Resolved) (sized : AreSizes p.methods p.sizes) (ctx : Context) where
  -- a filling of the only format of a method
  record Alone (known : Assignment) (j : ℕ) (args : List ℤ) (inner : Format) (path : Path) (g : FilledField) : Type 0 where
    f : Filling
    fits : Fits p.methods ctx j args path f
    header_is : (sides_of g).uncompressed ≡ header f
    first : (out-Filling f).format ≡ 0
    same : (parts fits).format ≡ inner

  alone : (known a : Assignment) → ((e : Expr) (v : ℤ) → val known e ≡ Some v → val a e ≡ Some v) → (side : Subject → Side → List Bool) (path : Path) (d : Field) (g : FilledField) (c : Encoding) → FieldFits p.methods ctx side a path d c g →
      (j : ℕ) (args : List ℤ) (inner : Format) → CallsOnly p known c j args inner → Alone known j args inner (below path d.declared.name) g
  alone known a more side path d g c h j args inner calls =
      let t = called_parts p.methods ctx h j calls.exprs calls.encoding_is in
      let values : vals a calls.exprs ≡ Some args = told.vals_more known a more calls.exprs args calls.args_are in
      let args_are : t.args ≡ args = one_value (vals a calls.exprs) t.args args t.is_args values in
      let fits = subst (λ z. Fits p.methods ctx j z (below path d.declared.name) t.inner) args_are t.inner_fits in
      let q = parts fits in
      let first = only_format p.methods j (out-Filling t.inner).format q.format calls.alone q.is_format in
      record {
        f = t.inner;
        fits = fits;
        header_is = t.header_is;
        first = first;
        same = one_value (format_at p.methods j 0) q.format inner (ap (format_at p.methods j) (sym first) ∙ q.is_format) calls.format_is;
      }

  pub none_lacks : (known : Assignment) (c : Encoding) (bits : List Bool) → Lacks p known c bits → (a : Assignment) → ((e : Expr) (v : ℤ) → val known e ≡ Some v → val a e ≡ Some v) → (side : Subject → Side → List Bool) (path : Path) (d : Field)
      (g : FilledField) → FieldFits p.methods ctx side a path d c g → (rest : List Bool) → bits ≡ (sides_of g).uncompressed ++ rest → ⊥
  none_lacks known c bits (of_constant size value count number e size_is value_is none) a more side path d g h rest whole =
      let ref = reference_of d.declared.part ctx (below path d.declared.name) d.initial in
      let k = coded_parts p.methods ctx h (library.UncompressedValue size value) e in
      let is : two_values lib.uncompressed_value (val a size) (val a value) ≡ Some (lib.uncompressed_value count number) = (λ i. two_values lib.uncompressed_value (more size count size_is i) (more value number value_is i)) in
      none_under k.method (lib.uncompressed_value count number) ref bits (sides_of g).uncompressed (sides_of g).compressed rest (sym is ∙ k.is_method) (none ref) whole k.holds
  none_lacks known c bits (of_constraint j args inner calls false_one) a more side path d g h rest whole =
      let t = alone known a more side path d g c h j args inner calls in
      none_false p.methods ctx j args (below path d.declared.name) t.f (parts t.fits) inner t.same false_one
  none_lacks known c bits (of_field j args inner sizes i offset field calls sizes_are before field_is in_header lack) a more side path d g h rest whole =
      let t = alone known a more side path d g c h j args inner calls in
      let q = parts t.fits in
      let inside = below path d.declared.name in
      let there = held p.methods p.sizes sized ctx j args inside t.f q t.fits inner t.same sizes (ap (sizes_at p.sizes j) t.first ∙ sizes_are) bits rest (whole ∙ ap (λ z. z ++ rest) t.header_is) i offset field before field_is in_header in
      none_lacks (told_numbers inner args []) field.encoding (drop offset bits) lack (assigned q.format.listing (level t.f) args) (told.value_is p.methods ctx j args inside inner [] t.f q t.same tt)
      (side_of q.format.listing (level t.f)) inside field there.field there.fits there.later there.there
