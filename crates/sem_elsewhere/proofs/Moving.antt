-- What is moved to another context.
use Rattle.std.proofs.Common.{◌≡◌, ◌∙◌, refl, sym, ap, subst, ℕ, Bool, true, List}
use Rattle.std.specs.Prelude.{Option, Some, slice_get, ℤ}
use Rattle.sem_expr.specs.declared.expr.Subject.{Subject}
use Rattle.sem_expr.specs.declared.expr.Side.{Side}
use Rattle.sem_expr.specs.declared.expr.Expr.{Expr}
use Rattle.sem_expr.specs.Values.{Assignment}
use Rattle.sem_library.specs.Methods.{Lib}
use Rattle.sem_library.specs.Methods as lib
use Rattle.sem_profile.specs.declared.profile.Library.{Library}
use Rattle.sem_profile.specs.declared.profile.Encoding.{Encoding}
use Rattle.sem_profile.specs.declared.profile.Encoding.TheVariants as encoding
use Rattle.sem_profile.specs.declared.profile.Field.{Field}
use Rattle.sem_profile.specs.declared.profile.Format.{Format}
use Rattle.sem_profile.specs.declared.profile.Method.{Method}
use Rattle.sem_filling.specs.declared.filling.Filling.{Filling, out-Filling}
use Rattle.sem_filling.specs.declared.filling.FilledField.{FilledField}
use Rattle.sem_filling.specs.Fillings.{sides_of, inner_of, level}
use Rattle.sem_filling.specs.Entries.{Path, below}
use Rattle.sem_filling.specs.Fits.{Context, Fits, FieldFits, format_at, side_of, assigned, method_of, reference_of, vals}
use Rattle.sem_filling.specs.Fits as fit
use Rattle.sem_filling.proofs.FitsSized.{one_value}
use Rattle.sem_filling.proofs.FitsInverted.{parts, coded_parts, called_parts}
use Rattle.sem_elsewhere.specs.Uses.{Use, Uses, own, inside, use_of, refers, Serves, AllServe}
use Rattle.sem_elsewhere.specs.Laws.{FitsElsewhere, NeedsNothing}

-- a method that says nothing of its reference says the same by another
same_lib : (m : lib.Method) (ref other : Option (List Bool)) (u c : List Bool) → (refers m ≡ true → Lib m other u c) → Lib m ref u c → Lib m other u c
same_lib (lib.uncompressed_value len v) ref other u c by holds = holds
same_lib (lib.compressed_value len v) ref other u c by holds = holds
same_lib (lib.irregular len) ref other u c by holds = holds
same_lib lib.static ref other u c by holds = by refl
same_lib (lib.lsb k offset) ref other u c by holds = by refl
same_lib (lib.crc bits poly init covered len) ref other u c by holds = holds

module _ (methods : List Method) (ctx other : Context) where
  mutual
    moved : {k : ℕ} {args : List ℤ} {path : Path} {f : Filling} → Fits methods ctx k args path f → AllServe methods other k args path f → Fits methods other k args path f
    moved {k} {args} {path} {f} (fit.fits format is level_fits each) serve =
        fit.fits format is level_fits (λ i d g at at'.
        moved_field (each i d g at at') (λ l e m m_is r. serve (use_of path d g m) (own format i d g l m is at at' e m_is r))
        (λ j es e values inner is_values is_inner u used. serve u (inside format i d g j es values inner is at at' e is_values is_inner used)))

    moved_field : {side : Subject → Side → List Bool} {a : Assignment} {path : Path} {d : Field} {e : Encoding} {g : FilledField} → FieldFits methods ctx side a path d e g
        → ((l : Library) → e ≡ encoding.Library l → (m : lib.Method) → method_of side a l ≡ Some m → refers m ≡ true → Serves other (use_of path d g m))
        → ((j : ℕ) (es : List Expr) → e ≡ encoding.Call j es → (values : List ℤ) (inner : Filling) → vals a es ≡ Some values → inner_of g ≡ Some inner
        → (u : Use) → Uses methods j values (below path d.declared.name) inner u → Serves other u)
        → FieldFits methods other side a path d e g
    moved_field (fit.bare short none plain) mine inner = fit.bare short none plain
    moved_field {path} {d} {g} (fit.coded {l = l} m is holds plain) mine inner =
        fit.coded m is (same_lib m (reference_of d.declared.part ctx (below path d.declared.name) d.initial) (reference_of d.declared.part other (below path d.declared.name) d.initial)
        (sides_of g).uncompressed (sides_of g).compressed (mine l refl m is) holds) plain
    moved_field (fit.called {k = j} {es = es} values filled is_values is_inner fitted u c) mine inner =
        fit.called values filled is_values is_inner (moved fitted (λ it made. inner j es refl values filled is_values is_inner it made)) u c

module _ (methods : List Method) (other : Context) where
  used : {k : ℕ} {args : List ℤ} {path : Path} {f : Filling} {u : Use} → Uses methods k args path f u → Fits methods other k args path f → Serves other u
  used {k} {args} {path} {f} (own format i d g l m is at at' e m_is r) h =
      let p = parts h in
      let one : p.format ≡ format = one_value (format_at methods k (out-Filling f).format) p.format format p.is_format is in
      let field = p.each i d g (ap (λ (z : Format). slice_get z.fields i) one ∙ at) at' in
      let c = coded_parts methods other field l e in
      let same : c.method ≡ m = one_value (method_of (side_of format.listing (level f)) (assigned format.listing (level f) args) l) c.method m
      (ap (λ (z : Format). method_of (side_of z.listing (level f)) (assigned z.listing (level f) args) l) (sym one) ∙ c.is_method) m_is in
      subst (λ z. Lib z (reference_of d.declared.part other (below path d.declared.name) d.initial) (sides_of g).uncompressed (sides_of g).compressed) same c.holds
  used {k} {args} {path} {f} (inside format i d g j es values inner is at at' e is_values is_inner deep) h =
      let p = parts h in
      let one : p.format ≡ format = one_value (format_at methods k (out-Filling f).format) p.format format p.is_format is in
      let field = p.each i d g (ap (λ (z : Format). slice_get z.fields i) one ∙ at) at' in
      let c = called_parts methods other field j es e in
      let args_same : c.args ≡ values = one_value (vals (assigned format.listing (level f) args) es) c.args values (ap (λ (z : Format). vals (assigned z.listing (level f) args) es) (sym one) ∙ c.is_args) is_values in
      let inner_same : c.inner ≡ inner = one_value (inner_of g) c.inner inner c.is_inner is_inner in
      used deep (subst (λ z. Fits methods other j z (below path d.declared.name) inner) args_same (subst (λ z. Fits methods other j c.args (below path d.declared.name) z) inner_same c.inner_fits))

pub fits_elsewhere : FitsElsewhere
fits_elsewhere methods k ctx other args path f h = (λ there u deep. used methods other deep there, λ serve. moved methods ctx other h serve)

pub needs_nothing : NeedsNothing
needs_nothing methods k ctx other args path f h none = moved methods ctx other h (λ u deep. absurd (none u deep))
