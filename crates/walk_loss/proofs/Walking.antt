-- The uses of the fields of a filling are its own.
use Rattle.std.proofs.Common.{◌≡◌, ◌∙◌, refl, sym, subst, ℕ, ◌+◌, List, [], ◌∷◌, ◌++◌, Bool, true, length}
use Rattle.std.specs.Prelude.{slice_get, Option, Some, None, ℤ, IsTrue, ◌↔◌}
use Rattle.sem_expr.specs.declared.expr.Expr.{Expr}
use Rattle.sem_expr.specs.declared.expr.Side.{Side}
use Rattle.sem_expr.specs.declared.expr.Subject.{Subject}
use Rattle.sem_expr.specs.declared.known.Known.{Known}
use Rattle.sem_expr.specs.Values.{Assignment, val}
use Rattle.sem_expr.specs.Known.{assignment_of}
use Rattle.sem_library.specs.Methods as lib
use Rattle.sem_library.specs.Methods.{Lib, IsOnly}
use Rattle.sem_profile.specs.declared.profile.Library.{Library}
use Rattle.sem_profile.specs.declared.profile.Encoding.{Encoding}
use Rattle.sem_profile.specs.declared.profile.Encoding.TheVariants as encoding
use Rattle.sem_profile.specs.declared.profile.Field.{Field}
use Rattle.sem_profile.specs.declared.profile.Format.{Format}
use Rattle.sem_profile.specs.declared.profile.Method.{Method}
use Rattle.sem_profile.specs.BoundsLaws.{encoding_exprs, in_encoding}
use Rattle.sem_profile.specs.Resolved.{Resolved, IsSound}
use Rattle.sem_filling.specs.declared.filling.Filling.{Filling}
use Rattle.sem_filling.specs.declared.filling.FilledField.{FilledField}
use Rattle.sem_filling.specs.Fillings.{fields_of, inner_of, level}
use Rattle.sem_filling.specs.Entries.{Path, below}
use Rattle.sem_filling.specs.Fits.{Fits, side_of, vals}
use Rattle.sem_filling.specs.Ready.{ArgumentsLieAt, HasLevel}
use Rattle.sem_filling.proofs.Coded.{is_only}
use Rattle.sem_filling.proofs.FitsInverted.{called_parts}
use Rattle.sem_filling.proofs.FitsSized.{one_value}
use Rattle.sem_filling.proofs.FitsValues.{vals_same}
use Rattle.sem_holds.proofs.LevelsAlike.{all_fit, method_alike}
use Rattle.sem_holds.proofs.LevelsFit.{ready_level}
use Rattle.sem_elsewhere.specs.Uses.{Use, refers, use_of}
use Rattle.sem_elsewhere.specs.Listed.{UsesAre, of_fields, FirstUse, none_yet, one_more, FieldUses, bare_uses, own_use, no_use, inside_use, none_inside}
use Rattle.walk_loss.specs.declared.uses.Referring.{Referring}
use Rattle.walk_loss.specs.declared.uses.Referring.TheVariants as referring
use Rattle.walk_loss.specs.Uses.{AllFitAnywhere, CallFitsAnywhere, FieldFitsAnywhere, FirstUses, FitsAnywhere, InnerFitsAnywhere, IsReferring, RefersNot, UsesAt, UsesBy, UsesInside, UsesWithin, method, sides}

-- ---- under numbers that give a format's expressions the same values, the same uses are listed

uses_alike : {methods : List Method} {side : Subject → Side → List Bool} {a b : Assignment} {path : Path} {d : Field} {e : Encoding} {g : FilledField} {us : List Use}
    → ((n : ℕ) (x : Expr) → slice_get (encoding_exprs e) n ≡ Some x → val a x ≡ val b x) → FieldUses methods side a path d e g us → FieldUses methods side b path d e g us
uses_alike same bare_uses = bare_uses
uses_alike {side = side} {a = a} {b = b} same (own_use {l = l} m is r) = own_use m (sym (method_alike side a b l same) ∙ is) r
uses_alike {side = side} {a = a} {b = b} same (no_use {l = l} none) = no_use (λ m is. none m (method_alike side a b l same ∙ is))
uses_alike {a = a} {b = b} same (inside_use {es = es} values inner is inner_is these) = inside_use values inner (sym (vals_same a b es same) ∙ is) inner_is these
uses_alike {a = a} {b = b} same (none_inside {es = es} none) = none_inside (λ values inner is inner_is. none values inner (vals_same a b es same ∙ is) inner_is)

first_alike : {methods : List Method} {side : Subject → Side → List Bool} {a b : Assignment} {path : Path} {format : Format} {f : Filling} {n : ℕ} {us : List Use}
    → ((i m : ℕ) (d : Field) (x : Expr) → slice_get format.fields i ≡ Some d → slice_get (encoding_exprs d.encoding) m ≡ Some x → val a x ≡ val b x)
    → FirstUse methods side a path format f n us → FirstUse methods side b path format f n us
first_alike same none_yet = none_yet
first_alike same (one_more {n = n} d g before at at' field) = one_more d g (first_alike same before) at at' (uses_alike (λ m x here. same n m d x at here) field)

-- the uses of all fields of a level are those of its filling
pub level_uses : (p : Resolved) → IsSound p → (k : ℕ) (args : List ℤ) (f : Filling) (format : Format) (known : Known) → HasLevel p k args f format known → ArgumentsLieAt p k args
    → (path : Path) (us : List Use) → FirstUses p.methods path format f (assignment_of known) (length format.fields) us → UsesAre p.methods k args path f us
level_uses p sound k args f format known has lies path us first =
    let can = (ready_level p sound k args f format known has lies).1 in
    let listing = has.level.place.shaped.listing_is in
    of_fields format has.level.place.format_is
    (first_alike (λ i m d x at here. can.value_is x (in_encoding i m at here))
    (subst (λ l. FirstUse p.methods (side_of l (level f)) (assignment_of known) path format f (length format.fields) us) listing first))

-- ---- what fits somewhere

pub level_fits_anywhere : (p : Resolved) → IsSound p → (k : ℕ) (args : List ℤ) (f : Filling) (format : Format) (known : Known) → HasLevel p k args f format known → ArgumentsLieAt p k args
    → (path : Path) → FitsAnywhere p.methods k args path f → AllFitAnywhere p.methods path format f (assignment_of known)
level_fits_anywhere p sound k args f format known has lies path any = record { context = any.context; fit = all_fit p sound k args f format known has lies any.context path any.fits }

pub field_fits_anywhere : (methods : List Method) (path : Path) (format : Format) (f : Filling) (a : Assignment) → AllFitAnywhere methods path format f a → (i : ℕ) (g : FilledField) → slice_get (fields_of f) i ≡ Some g
    → FieldFitsAnywhere methods path format f a i g
field_fits_anywhere methods path format f a all i g at = record { context = all.context; fits = all.fit i g at }

pub call_fits_anywhere : (methods : List Method) (path : Path) (format : Format) (f : Filling) (a : Assignment) (i : ℕ) (g : FilledField) → FieldFitsAnywhere methods path format f a i g
    → (d : Field) (k : ℕ) (es : List Expr) → slice_get format.fields i ≡ Some d → d.encoding ≡ encoding.Call k es → CallFitsAnywhere methods path d a k es g
call_fits_anywhere methods path format f a i g any d k es at is args inner values inner_is =
    let c = called_parts methods any.context (any.fits d at) k es is in
    let same_args : c.args ≡ args = one_value (vals a es) c.args args c.is_args values in
    let same_inner : c.inner ≡ inner = one_value (inner_of g) c.inner inner c.is_inner inner_is in
    record {
      context = any.context;
      fits = subst (λ z. Fits methods any.context k z (below path d.declared.name) inner) same_args (subst (λ z. Fits methods any.context k c.args (below path d.declared.name) z) same_inner c.inner_fits);
    }

-- ---- one field

pub none_by : (path : Path) (d : Field) (a : Assignment) (l : Library) (g : FilledField) → RefersNot a l → UsesBy path d a l g []
none_by path d a l g none methods side = no_use (none side)

-- each such method refers
they_refer : (r : Referring) → refers (method r) ≡ true
they_refer referring.Static = refl
they_refer (referring.Lsb bits offset) = refl

pub one_by : (path : Path) (d : Field) (a : Assignment) (l : Library) (g : FilledField) (r : Referring) → IsReferring a l r → UsesBy path d a l g (use_of path d g (method r) ∷ [])
one_by path d a l g r is methods side = own_use (method r) (is side) (they_refer r)

module _ (methods : List Method) (path : Path) (format : Format) (f : Filling) (a : Assignment) where
  pub bare_at : (i : ℕ) (g : FilledField) (d : Field) → slice_get format.fields i ≡ Some d → d.encoding ≡ encoding.Bare → UsesAt methods path format f a i g []
  bare_at i g d at is = record { field = d; field_is = at; uses_are = subst (λ e. FieldUses methods (sides f) a path d e g []) (sym is) bare_uses }

  pub coded_at : (i : ℕ) (g : FilledField) (d : Field) (l : Library) (us : List Use) → slice_get format.fields i ≡ Some d → d.encoding ≡ encoding.Library l → UsesBy path d a l g us → UsesAt methods path format f a i g us
  coded_at i g d l us at is by = record { field = d; field_is = at; uses_are = subst (λ e. FieldUses methods (sides f) a path d e g us) (sym is) (by methods (sides f)) }

  pub called_at : (i : ℕ) (g : FilledField) (d : Field) (k : ℕ) (es : List Expr) (us : List Use) → slice_get format.fields i ≡ Some d → d.encoding ≡ encoding.Call k es → UsesInside methods path d a k es g us
      → UsesAt methods path format f a i g us
  called_at i g d k es us at is inside = record { field = d; field_is = at; uses_are = subst (λ e. FieldUses methods (sides f) a path d e g us) (sym is) (inside (sides f)) }

  -- ---- field after field

  pub first_none : FirstUses methods path format f a 0 []
  first_none = none_yet

  pub first_next : (i : ℕ) (g : FilledField) (us more : List Use) → slice_get (fields_of f) i ≡ Some g → FirstUses methods path format f a i us → UsesAt methods path format f a i g more
      → FirstUses methods path format f a (i + 1) (us ++ more)
  first_next i g us more at before here = one_more here.field g before here.field_is at here.uses_are

-- ---- a field that calls a method

module _ (methods : List Method) (path : Path) (d : Field) (a : Assignment) (k : ℕ) (es : List Expr) (g : FilledField) where
  pub none_is_inside : ((values : List ℤ) (inner : Filling) → vals a es ≡ Some values → inner_of g ≡ Some inner → ⊥) → UsesInside methods path d a k es g []
  none_is_inside none side = none_inside none

  -- the uses of the filling, if there is one, are those of the field
  pub within_uses : (values : List ℤ) (us : List Use) → vals a es ≡ Some values → (o : Option Filling) → inner_of g ≡ o → UsesWithin methods k values (below path d.declared.name) o us → UsesInside methods path d a k es g us
  within_uses values us is (Some inner) inner_is uses = λ side. inside_use values inner is inner_is uses
  within_uses values us is None inner_is none =
      subst (UsesInside methods path d a k es g) (sym none) (none_is_inside (λ others inner others_are there. let wrong : None ≡ Some inner = sym inner_is ∙ there in absurd (cc)))

-- what is inside a field fits, if anything is
pub within_fits : (methods : List Method) (path : Path) (d : Field) (a : Assignment) (k : ℕ) (es : List Expr) (g : FilledField) → CallFitsAnywhere methods path d a k es g
    → (values : List ℤ) → vals a es ≡ Some values → (o : Option Filling) → inner_of g ≡ o → InnerFitsAnywhere methods k values (below path d.declared.name) o
within_fits methods path d a k es g any values is (Some inner) inner_is = any values inner is inner_is
within_fits methods path d a k es g any values is None inner_is = tt

-- the bits that a method makes of one side are the other side just where it relates both
pub made_relates : (m : lib.Method) (ref : Option (List Bool)) (u d : List Bool) (o : Option (List Bool)) (b : Bool) → IsOnly (λ x. Lib m ref u x) o → (IsTrue b ↔ (o ≡ Some d)) → IsTrue b ↔ Lib m ref u d
made_relates m ref u d o b only same =
    let one = is_only (λ x. Lib m ref u x) o d only in
    (λ t. one.0 (same.0 t), λ l. same.1 (one.1 l))
