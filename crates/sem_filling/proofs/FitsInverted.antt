-- What a fitting filling has.
use Rattle.std.proofs.Common.{◌≡◌, ◌∙◌, sym, ap, subst, ℕ, ◌≤◌, Bool, List, [], length, map}
use Rattle.std.specs.Prelude.{Some, None, slice_get, ℤ}
use Rattle.std.proofs.lemmas.List.{length-map}
use Rattle.sem_expr.specs.declared.expr.Subject.{Subject}
use Rattle.sem_expr.specs.declared.expr.Side.{Side}
use Rattle.sem_expr.specs.declared.expr.Expr.{Expr}
use Rattle.sem_expr.specs.Values.{Assignment}
use Rattle.sem_library.specs.Methods.{Lib}
use Rattle.sem_library.specs.Methods as lib
use Rattle.sem_profile.specs.declared.profile.Library.{Library}
use Rattle.sem_profile.specs.declared.profile.Encoding.{Encoding}
use Rattle.sem_profile.specs.declared.profile.Encoding.TheVariants as encoding
use Rattle.sem_profile.specs.declared.profile.Field.{Field}
use Rattle.sem_profile.specs.declared.profile.Format.{Format}
use Rattle.sem_profile.specs.declared.profile.Method.{Method}
use Rattle.sem_filling.specs.declared.filling.Filling.{Filling, out-Filling}
use Rattle.sem_filling.specs.declared.filling.FilledField.{FilledField}
use Rattle.sem_filling.specs.Fillings.{sides_of, inner_of, fields_of, level, header, packed}
use Rattle.sem_filling.specs.Entries.{Path, below}
use Rattle.sem_filling.specs.Fits.{Context, Fits, FieldFits, LevelFits, IsShaped, format_at, side_of, assigned, method_of, reference_of, vals}
use Rattle.sem_filling.specs.Fits as fit

pub record FitsParts (methods : List Method) (ctx : Context) (k : ℕ) (args : List ℤ) (path : Path) (f : Filling) : Type 0 where
  pub format : Format
  pub is_format : format_at methods k (out-Filling f).format ≡ Some format
  pub level_fits : LevelFits format f args
  pub each : (i : ℕ) (d : Field) (g : FilledField) → slice_get format.fields i ≡ Some d → slice_get (fields_of f) i ≡ Some g →
      FieldFits methods ctx (side_of format.listing (level f)) (assigned format.listing (level f) args) path d d.encoding g

pub parts : {methods : List Method} {ctx : Context} {k : ℕ} {args : List ℤ} {path : Path} {f : Filling} → Fits methods ctx k args path f → FitsParts methods ctx k args path f
parts (fit.fits format is level_fits each) = record { format = format; is_format = is; level_fits = level_fits; each = each }

module _ (methods : List Method) (ctx : Context) where
  -- a field without an encoding
  pub record BareParts (g : FilledField) : Type 0 where
    pub short : length (sides_of g).uncompressed ≤ 64
    pub unsent : (sides_of g).compressed ≡ []
    pub plain : inner_of g ≡ None

  pub bare_parts : {side : Subject → Side → List Bool} {a : Assignment} {path : Path} {d : Field} {e : Encoding} {g : FilledField} → FieldFits methods ctx side a path d e g
      → e ≡ encoding.Bare → BareParts g
  bare_parts (fit.bare short none plain) e = record { short = short; unsent = none; plain = plain }
  bare_parts (fit.coded m is holds plain) e = absurd (cc)
  bare_parts (fit.called args inner is_args is_inner inner_fits u c) e = absurd (cc)

  -- a field that a library method encodes
  pub record CodedParts (side : Subject → Side → List Bool) (a : Assignment) (path : Path) (d : Field) (l : Library) (g : FilledField) : Type 0 where
    pub method : lib.Method
    pub is_method : method_of side a l ≡ Some method
    pub holds : Lib method (reference_of d.declared.part ctx (below path d.declared.name) d.initial) (sides_of g).uncompressed (sides_of g).compressed
    -- nothing fills the field
    pub plain : inner_of g ≡ None

  pub coded_parts : {side : Subject → Side → List Bool} {a : Assignment} {path : Path} {d : Field} {e : Encoding} {g : FilledField} → FieldFits methods ctx side a path d e g
      → (l : Library) → e ≡ encoding.Library l → CodedParts side a path d l g
  coded_parts (fit.bare short none plain) l e = absurd (cc)
  coded_parts {side} {a} (fit.coded {l = m} v is holds plain) l e =
      let same : m ≡ l = cc in record { method = v; is_method = subst (λ z. method_of side a z ≡ Some v) same is; holds = holds; plain = plain }
  coded_parts (fit.called args inner is_args is_inner inner_fits u c) l e = absurd (cc)

  -- a field that calls a method
  pub record CalledParts (a : Assignment) (path : Path) (d : Field) (k : ℕ) (es : List Expr) (g : FilledField) : Type 0 where
    pub args : List ℤ
    pub inner : Filling
    pub is_args : vals a es ≡ Some args
    pub is_inner : inner_of g ≡ Some inner
    pub inner_fits : Fits methods ctx k args (below path d.declared.name) inner
    pub header_is : (sides_of g).uncompressed ≡ header inner
    pub packed_is : (sides_of g).compressed ≡ packed inner

  pub called_parts : {side : Subject → Side → List Bool} {a : Assignment} {path : Path} {d : Field} {e : Encoding} {g : FilledField} → FieldFits methods ctx side a path d e g
      → (k : ℕ) (es : List Expr) → e ≡ encoding.Call k es → CalledParts a path d k es g
  called_parts (fit.bare short none plain) k es e = absurd (cc)
  called_parts (fit.coded m is holds plain) k es e = absurd (cc)
  called_parts {a} {path} {d} {g} (fit.called {k = j} {es = xs} args inner is_args is_inner inner_fits u c) k es e =
      let same_k : j ≡ k = cc in
      let same_es : xs ≡ es = cc in
      record {
        args = args;
        inner = inner;
        is_args = subst (λ z. vals a z ≡ Some args) same_es is_args;
        is_inner = is_inner;
        inner_fits = subst (λ z. Fits methods ctx z args (below path d.declared.name) inner) same_k inner_fits;
        header_is = u;
        packed_is = c;
      }

length-same_map : {X Y Z : Type 0} → (f : X → Z) (g : Y → Z) (xs : List X) (ys : List Y) → map f xs ≡ map g ys → length xs ≡ length ys
length-same_map f g xs ys e = sym (length-map xs f) ∙ ap length e ∙ length-map ys g

pub length-level : (format : Format) (f : Filling) → IsShaped format f → length (level f) ≡ length format.fields
length-level format f h = length-same_map (λ s. s.declared) (λ d. d.declared) (level f) format.fields h.declared_is

pub length-fields : (format : Format) (f : Filling) → IsShaped format f → length (fields_of f) ≡ length format.fields
length-fields format f h = sym (length-map (fields_of f) sides_of) ∙ length-level format f h
