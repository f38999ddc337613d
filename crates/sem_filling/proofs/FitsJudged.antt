-- How the relation is taken apart and put together at one level.
use Rattle.std.proofs.Common.{◌≡◌, ◌∙◌, refl, sym, ap, subst, ℕ, ◌<◌, suc, zero, List, [], ◌∷◌, length, arith}
use Rattle.std.specs.Prelude.{slice_get, Option, Some, None, ℤ}
use Rattle.std.specs.Option.{option_map, option_and_then}
use Rattle.std.proofs.lemmas.Option.{slice_get-map, slice_get_within}
use Rattle.sem_profile.specs.declared.profile.Field.{Field}
use Rattle.sem_profile.specs.declared.profile.Format.{Format}
use Rattle.sem_profile.specs.declared.profile.FormatSizes.{FormatSizes}
use Rattle.sem_profile.specs.declared.profile.MethodSizes.{MethodSizes}
use Rattle.sem_profile.specs.declared.profile.Method.{Method}
use Rattle.sem_profile.specs.Formats.{format_sizes}
use Rattle.sem_profile.specs.Outcome.{AreSizes}
use Rattle.sem_filling.specs.declared.filling.Filling.{Filling, out-Filling}
use Rattle.sem_filling.specs.declared.filling.FilledField.{FilledField}
use Rattle.sem_filling.specs.Fillings.{level, fields_of}
use Rattle.sem_filling.specs.Entries.{Path}
use Rattle.sem_filling.specs.Fits.{Context, Fits, FieldFits, LevelFits, IsShaped, format_at, side_of, assigned, fits}
use Rattle.sem_filling.specs.Bounded.{sizes_at}
use Rattle.sem_filling.specs.Ready.{NeverFits}

-- what a fitting filling says at its own level, of its format
pub record Fitting (methods : List Method) (ctx : Context) (args : List ℤ) (path : Path) (format : Format) (f : Filling) : Type 0 where
  pub level_fits : LevelFits format f args
  pub each : (i : ℕ) (d : Field) (g : FilledField) → slice_get format.fields i ≡ Some d → slice_get (fields_of f) i ≡ Some g →
      FieldFits methods ctx (side_of format.listing (level f)) (assigned format.listing (level f) args) path d d.encoding g

pub fitting : {methods : List Method} {ctx : Context} {k : ℕ} {args : List ℤ} {path : Path} {f : Filling} (format : Format) → format_at methods k (out-Filling f).format ≡ Some format
    → Fits methods ctx k args path f → Fitting methods ctx args path format f
fitting {methods} {ctx} {k} {args} {path} {f} format at (fits other there level_fits each) =
    let one : Some other ≡ Some format = sym there ∙ at in
    let same : other ≡ format = cc in
    subst (λ x. Fitting methods ctx args path x f) same record { level_fits = level_fits; each = each }

pub never_unplaced : (methods : List Method) (k : ℕ) (f : Filling) → format_at methods k (out-Filling f).format ≡ None → (args : List ℤ) → NeverFits methods k args f
never_unplaced methods k f none args ctx path (fits other there level_fits each) = let wrong : None ≡ Some other = sym none ∙ there in absurd cc

pub never_unshaped : (methods : List Method) (k : ℕ) (f : Filling) (format : Format) → format_at methods k (out-Filling f).format ≡ Some format → (IsShaped format f → ⊥) → (args : List ℤ)
    → NeverFits methods k args f
never_unshaped methods k f format at wrong args ctx path fit = wrong (fitting format at fit).level_fits.shaped

-- the method and the place of a format
pub record Placed (methods : List Method) (k n : ℕ) (format : Format) : Type 0 where
  pub method : Method
  pub method_at : slice_get methods k ≡ Some method
  pub format_is : slice_get method.formats n ≡ Some format

pub placed : (methods : List Method) (k n : ℕ) (format : Format) → format_at methods k n ≡ Some format → Placed methods k n format
placed methods k n format at = by (slice_get methods k) refl at
  where
    by : (o : Option Method) → slice_get methods k ≡ o → option_and_then (λ m. slice_get m.formats n) o ≡ Some format → Placed methods k n format
    by None is here = let wrong : None ≡ Some format = here in absurd cc
    by (Some m) is here = record { method = m; method_at = is; format_is = here }

pub record Sized (table : List MethodSizes) (k n : ℕ) (sizes : FormatSizes) : Type 0 where
  pub whole : MethodSizes
  pub whole_at : slice_get table k ≡ Some whole
  pub sizes_is : slice_get whole.formats n ≡ Some sizes

pub sized : (table : List MethodSizes) (k n : ℕ) (sizes : FormatSizes) → sizes_at table k n ≡ Some sizes → Sized table k n sizes
sized table k n sizes at = by (slice_get table k) refl at
  where
    by : (o : Option MethodSizes) → slice_get table k ≡ o → option_and_then (λ m. slice_get m.formats n) o ≡ Some sizes → Sized table k n sizes
    by None is here = let wrong : None ≡ Some sizes = here in absurd cc
    by (Some m) is here = record { whole = m; whole_at = is; sizes_is = here }

missing : {A : Type 0} (xs : List A) (k : ℕ) → slice_get xs k ≡ None → k < length xs → ⊥
missing [] k at lt = omega (arith, lt)
missing (x ∷ xs) zero at lt = let wrong : Some x ≡ None = at in absurd cc
missing (x ∷ xs) (suc k) at lt = missing xs k at (omega (arith, lt))

-- a format that is there has bounds
pub never_unsized : (methods : List Method) (table : List MethodSizes) → AreSizes methods table → (k n : ℕ) (format : Format) → format_at methods k n ≡ Some format → sizes_at table k n ≡ None → ⊥
never_unsized methods table are k n format at none =
    let here = placed methods k n format at in
    by here (slice_get table k) refl none
  where
    by : Placed methods k n format → (o : Option MethodSizes) → slice_get table k ≡ o → option_and_then (λ m. slice_get m.formats n) o ≡ None → ⊥
    by here None is nothing = missing table k is (omega (arith, are.each, slice_get_within methods k here.method here.method_at))
    by here (Some s) is nothing =
        let has = are.sized k here.method s here.method_at is in
        let there : Some (format_sizes table format) ≡ None =
        sym (ap (option_map (format_sizes table)) here.format_is) ∙ sym (slice_get-map (format_sizes table) here.method.formats n) ∙ sym (ap (λ fs. slice_get fs n) has.formats_are) ∙ nothing in
        absurd cc
