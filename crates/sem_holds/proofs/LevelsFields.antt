-- How a field that fits is taken apart, by its encoding.
use Rattle.std.proofs.Common.{◌≡◌, ◌∙◌, sym, ap, subst, ℕ, ◌≤◌, List, [], Bool, true, false, length}
use Rattle.std.specs.Prelude.{slice_get, Some, None, ℤ, IsTrue, ◌↔◌}
use Rattle.sem_expr.specs.declared.expr.Expr.{Expr}
use Rattle.sem_expr.specs.declared.expr.Side.{Side}
use Rattle.sem_expr.specs.declared.expr.Subject.{Subject}
use Rattle.sem_expr.specs.Values.{Assignment}
use Rattle.sem_profile.specs.declared.profile.Library.{Library}
use Rattle.sem_profile.specs.declared.profile.Encoding.{Encoding}
use Rattle.sem_profile.specs.declared.profile.Encoding.TheVariants as encoding
use Rattle.sem_profile.specs.declared.profile.Field.{Field}
use Rattle.sem_profile.specs.declared.profile.Format.{Format}
use Rattle.sem_profile.specs.declared.profile.Method.{Method}
use Rattle.sem_filling.specs.declared.filling.Filling.{Filling}
use Rattle.sem_filling.specs.declared.filling.FilledField.{FilledField}
use Rattle.sem_filling.specs.Fillings.{level, listing_of, sides_of, inner_of, header, packed}
use Rattle.sem_filling.specs.Entries.{Path, below}
use Rattle.sem_filling.specs.Fits.{Context, Fits, FieldFits, side_of, vals, bare, coded, called}
use Rattle.sem_filling.specs.Ready.{FieldFitsAt, IsCoded, IsCalled, IsFilled}

-- what one field at the place is
at_place : (methods : List Method) (ctx : Context) (path : Path) (format : Format) (f : Filling) (a : Assignment) (i : ℕ) (d : Field) (e : Encoding) (g : FilledField) → slice_get format.fields i ≡ Some d
    → d.encoding ≡ e → FieldFits methods ctx (side_of (listing_of f) (level f)) a path d e g ↔ FieldFitsAt methods ctx path format f a i g
at_place methods ctx path format f a i d e g at is = (
  λ fit x here.
      let one : Some d ≡ Some x = sym at ∙ here in
      let same : d ≡ x = cc in
      subst (λ y. FieldFits methods ctx (side_of (listing_of f) (level f)) a path y y.encoding g) same
      (subst (λ z. FieldFits methods ctx (side_of (listing_of f) (level f)) a path d z g) (sym is) fit),
  λ all. subst (λ z. FieldFits methods ctx (side_of (listing_of f) (level f)) a path d z g) is (all d at),
)

both_ways : {P Q R : Type 0} → (P ↔ Q) → (Q ↔ R) → P ↔ R
both_ways p q = (λ x. q.0 (p.0 x), λ z. p.1 (q.1 z))

bare_apart : {methods : List Method} {ctx : Context} {side : Subject → Side → List Bool} {a : Assignment} {path : Path} {d : Field} {g : FilledField} → FieldFits methods ctx side a path d encoding.Bare g
    → (length (sides_of g).uncompressed ≤ 64) × ((sides_of g).compressed ≡ []) × (inner_of g ≡ None)
bare_apart (bare short none outer) = (short, none, outer)

pub bare_holds : (methods : List Method) (ctx : Context) (path : Path) (format : Format) (f : Filling) (a : Assignment) (i : ℕ) (d : Field) (g : FilledField) (b : Bool) → slice_get format.fields i ≡ Some d
    → d.encoding ≡ encoding.Bare → (IsTrue b ↔ ((length (sides_of g).uncompressed ≤ 64) × ((sides_of g).compressed ≡ []) × (inner_of g ≡ None))) → IsTrue b ↔ FieldFitsAt methods ctx path format f a i g
bare_holds methods ctx path format f a i d g b at is same =
    both_ways same (both_ways (λ t. bare t.0 t.1 t.2, bare_apart) (at_place methods ctx path format f a i d encoding.Bare g at is))

coded_apart : {methods : List Method} {ctx : Context} {f : Filling} {a : Assignment} {path : Path} {d : Field} {l : Library} {g : FilledField}
    → FieldFits methods ctx (side_of (listing_of f) (level f)) a path d (encoding.Library l) g → IsCoded ctx path f a d l g
coded_apart (coded m is related outer) = record { outer = outer; method = m; method_is = is; related = related }

pub coded_holds : (methods : List Method) (ctx : Context) (path : Path) (format : Format) (f : Filling) (a : Assignment) (i : ℕ) (d : Field) (l : Library) (g : FilledField) (b : Bool)
    → slice_get format.fields i ≡ Some d → d.encoding ≡ encoding.Library l → (IsTrue b ↔ IsCoded ctx path f a d l g) → IsTrue b ↔ FieldFitsAt methods ctx path format f a i g
coded_holds methods ctx path format f a i d l g b at is same =
    both_ways same (both_ways (λ c. coded c.method c.method_is c.related c.outer, coded_apart) (at_place methods ctx path format f a i d (encoding.Library l) g at is))

called_apart : {methods : List Method} {ctx : Context} {side : Subject → Side → List Bool} {a : Assignment} {path : Path} {d : Field} {k : ℕ} {es : List Expr} {g : FilledField}
    → FieldFits methods ctx side a path d (encoding.Call k es) g → IsCalled methods ctx path a d k es g
called_apart (called args inner values inside fit up down) =
    record { args = args; values_are = values; filled = record { inner = inner; inner_is = inside; inner_fits = fit; header_is = up; packed_is = down } }

pub called_holds : (methods : List Method) (ctx : Context) (path : Path) (format : Format) (f : Filling) (a : Assignment) (i : ℕ) (d : Field) (k : ℕ) (es : List Expr) (g : FilledField) (b : Bool)
    → slice_get format.fields i ≡ Some d → d.encoding ≡ encoding.Call k es → (IsTrue b ↔ IsCalled methods ctx path a d k es g) → IsTrue b ↔ FieldFitsAt methods ctx path format f a i g
called_holds methods ctx path format f a i d k es g b at is same =
    both_ways same (both_ways (λ c. called c.args c.filled.inner c.values_are c.filled.inner_is c.filled.inner_fits c.filled.header_is c.filled.packed_is, called_apart)
    (at_place methods ctx path format f a i d (encoding.Call k es) g at is))

-- a call whose values are known is judged by what fills it
pub call_is : (methods : List Method) (ctx : Context) (path here : Path) (a : Assignment) (d : Field) (k : ℕ) (es : List Expr) (g : FilledField) (args : List ℤ) (b : Bool)
    → vals a es ≡ Some args → here ≡ below path d.declared.name → (IsTrue b ↔ IsFilled methods ctx k args here g) → IsTrue b ↔ IsCalled methods ctx path a d k es g
call_is methods ctx path here a d k es g args b values path_is same = (
  λ t. record { args = args; values_are = values; filled = subst (λ p. IsFilled methods ctx k args p g) path_is (same.0 t) },
  λ c.
      let one_args : Some c.args ≡ Some args = sym c.values_are ∙ values in
      let args_is : c.args ≡ args = cc in
      same.1 (subst (λ p. IsFilled methods ctx k args p g) (sym path_is) (subst (λ xs. IsFilled methods ctx k xs (below path d.declared.name) g) args_is c.filled)),
)

pub never_valued : (methods : List Method) (ctx : Context) (path : Path) (a : Assignment) (d : Field) (k : ℕ) (es : List Expr) (g : FilledField) → vals a es ≡ None
    → IsTrue false ↔ IsCalled methods ctx path a d k es g
never_valued methods ctx path a d k es g none = (λ w. absurd cc, λ c. let wrong : None ≡ Some c.args = sym none ∙ c.values_are in absurd cc)

-- a field whose filling and sides are known is judged by the filling
pub filled_is : (methods : List Method) (ctx : Context) (k : ℕ) (args : List ℤ) (path : Path) (g : FilledField) (inner : Filling) (b : Bool) → inner_of g ≡ Some inner
    → (sides_of g).uncompressed ≡ header inner → (sides_of g).compressed ≡ packed inner → (IsTrue b ↔ Fits methods ctx k args path inner) → IsTrue b ↔ IsFilled methods ctx k args path g
filled_is methods ctx k args path g inner b inside up down same = (
  λ t. record { inner = inner; inner_is = inside; inner_fits = same.0 t; header_is = up; packed_is = down },
  λ c.
      let one_inner : Some c.inner ≡ Some inner = sym c.inner_is ∙ inside in
      let inner_same : c.inner ≡ inner = cc in
      same.1 (subst (λ x. Fits methods ctx k args path x) inner_same c.inner_fits),
)

pub never_filled : (methods : List Method) (ctx : Context) (k : ℕ) (args : List ℤ) (path : Path) (g : FilledField) → inner_of g ≡ None → IsTrue false ↔ IsFilled methods ctx k args path g
never_filled methods ctx k args path g none = (λ w. absurd cc, λ c. let wrong : None ≡ Some c.inner = sym none ∙ c.inner_is in absurd cc)

pub never_sided : (methods : List Method) (ctx : Context) (k : ℕ) (args : List ℤ) (path : Path) (g : FilledField) (inner : Filling) (b : Bool) → inner_of g ≡ Some inner
    → (IsTrue b ↔ (((sides_of g).uncompressed ≡ header inner) × ((sides_of g).compressed ≡ packed inner))) → b ≡ false → IsTrue false ↔ IsFilled methods ctx k args path g
never_sided methods ctx k args path g inner b inside same apart = (
  λ w. absurd cc,
  λ c.
      let one : Some c.inner ≡ Some inner = sym c.inner_is ∙ inside in
      let is : c.inner ≡ inner = cc in
      sym apart ∙ same.1 (c.header_is ∙ ap header is, c.packed_is ∙ ap packed is),
)

-- what is said not to hold doesn't
pub not_where_false : {P : Type 0} (b : Bool) → (IsTrue b ↔ P) → b ≡ false → P → ⊥
not_where_false true same e p = absurd (cc)
not_where_false false same e p = let t : IsTrue false = same.1 p in absurd (cc)
