-- What a filling has that fits a format of a method: the format's fields, lengths in its bounds, and the numbers that its expressions ask for.
use Rattle.std.proofs.Common.{◌≡◌, ◌∙◌, sym, ap, subst, ℕ, ◌<◌, ◌≤◌, ◌^◌, List, length, arith}
use Rattle.std.specs.Prelude.{Some, slice_get, ℤ}
use Rattle.std.specs.Option.{option_map, option_and_then}
use Rattle.std.proofs.lemmas.Option.{slice_get_within, slice_get-map}
use Rattle.sem_expr.specs.declared.expr.Side.TheVariants.{Uncompressed, Compressed}
use Rattle.sem_expr.specs.declared.expr.Expr.{Expr}
use Rattle.sem_expr.specs.Known.{assignment_of}
use Rattle.sem_expr.specs.Spread.{LieIn}
use Rattle.sem_library.specs.Methods as lib
use Rattle.sem_library.specs.Methods.{Lib, LsbHolds, CrcHolds}
use Rattle.sem_profile.specs.declared.profile.Sizes.{Sizes}
use Rattle.sem_profile.specs.declared.profile.FormatSizes.{FormatSizes}
use Rattle.sem_profile.specs.declared.profile.MethodSizes.{MethodSizes}
use Rattle.sem_profile.specs.declared.profile.Library.{Library}
use Rattle.sem_profile.specs.declared.profile.Encoding.TheVariants as encoding
use Rattle.sem_profile.specs.declared.profile.Field.{Field}
use Rattle.sem_profile.specs.declared.profile.Format.{Format}
use Rattle.sem_profile.specs.declared.profile.Method.{Method}
use Rattle.sem_profile.specs.Resolved.{Resolved, IsSound}
use Rattle.sem_profile.specs.Outcome.{FormatAt}
use Rattle.sem_profile.specs.Calling.{ranges_in}
use Rattle.sem_profile.specs.Ranging.{format_ranges}
use Rattle.sem_profile.proofs.FaultsFaultless.{faultless}
use Rattle.sem_profile.proofs.FieldsRuling.{there, by-rules}
use Rattle.sem_filling.specs.declared.filling.Filling.{Filling, out-Filling}
use Rattle.sem_filling.specs.declared.filling.FilledField.{FilledField}
use Rattle.sem_filling.specs.Fillings.{sides_of, fields_of, level}
use Rattle.sem_filling.specs.Entries.{Path, below}
use Rattle.sem_filling.specs.Numbers.{known_level}
use Rattle.sem_filling.proofs.NumbersLying.{AreSmall, known_lies}
use Rattle.sem_filling.specs.Level.{Evaluates}
use Rattle.sem_filling.proofs.FitsLimits.{whole_small}
use Rattle.sem_filling.proofs.Readying.{evaluates}
use Rattle.sem_filling.specs.Fits.{Context, Fits, LevelFits, IsShaped, format_at, side_of, method_of, assigned, reference_of}
use Rattle.sem_filling.specs.Bounded as bounded
use Rattle.sem_filling.specs.Bounded.{ArgumentsLie, LengthsLie, LiesBetween, SidesLie}
use Rattle.sem_filling.proofs.FitsInverted.{FitsParts, parts, CalledParts, called_parts, coded_parts, length-level, length-fields}
use Rattle.sem_filling.proofs.Bounding.{count_sizes, lie-in-bounds}
use Rattle.sem_filling.proofs.FitsSized.{one_value, and_then_some}

-- a format of a method of a profile, by their numbers, with its bounds and those of the method
pub record Sits (p : Resolved) (k n : ℕ) : Type 0 where
  pub format : Format
  pub format_is : format_at p.methods k n ≡ Some format
  pub whole : MethodSizes
  pub whole_at : slice_get p.sizes k ≡ Some whole
  pub sizes : FormatSizes
  pub sizes_at : slice_get whole.formats n ≡ Some sizes

module _ (p : Resolved) (sound : IsSound p) (k n : ℕ) (sit : Sits p k n)
    (ctx : Context) (args : List ℤ) (path : Path) (f : Filling) (arguments : ArgumentsLie sit.whole.parameters args) (h : Fits p.methods ctx k args path f) (at_n : (out-Filling f).format ≡ n) where
  pub inverted : FitsParts p.methods ctx k args path f
  inverted = parts h

  pub same_format : inverted.format ≡ sit.format
  same_format = one_value _ inverted.format sit.format inverted.is_format (ap (format_at p.methods k) at_n ∙ sit.format_is)

  pub shaped : IsShaped sit.format f
  shaped = subst (λ x. IsShaped x f) same_format inverted.level_fits.shaped

  pub method_found : (m : Method) × (slice_get p.methods k ≡ Some m) × (slice_get m.formats n ≡ Some sit.format)
  method_found = and_then_some (λ m. slice_get m.formats n) (slice_get p.methods k) sit.format sit.format_is

  pub placed_at : FormatAt p.methods p.sizes method_found.0 sit.format sit.whole sit.sizes
  placed_at = record { method_place = k; method_at = method_found.1; whole_at = sit.whole_at; format_place = n; format_at = method_found.2; sizes_at = sit.sizes_at }

  pub as_many : length sit.sizes.fields ≡ length (level f)
  as_many = count_sizes p.methods p.sizes sound.sized method_found.0 sit.format sit.whole sit.sizes placed_at ∙ sym (length-level sit.format f shaped)

  pub lie : LengthsLie sit.sizes f
  lie = (lie-in-bounds p.methods p.sizes sound.sized ctx k args path f h sit.whole sit.sizes sit.whole_at (ap (slice_get sit.whole.formats) at_n ∙ sit.sizes_at)).0

  -- the filling of a field
  pub filled : (i : ℕ) (d : Field) → slice_get sit.format.fields i ≡ Some d → (g : FilledField) × (slice_get (fields_of f) i ≡ Some g)
  filled i d at = let within : i < length sit.format.fields = slice_get_within sit.format.fields i d at in there (fields_of f) i (let count = length-fields sit.format f shaped in omega arith)

  pub filled_lies : (i : ℕ) (g : FilledField) (b : Sizes) → slice_get (fields_of f) i ≡ Some g → slice_get sit.sizes.fields i ≡ Some b → SidesLie b (length (sides_of g).uncompressed) (length (sides_of g).compressed)
  filled_lies i g b at at_b = lie.fields i (sides_of g) b (slice_get-map sides_of (fields_of f) i ∙ ap (option_map sides_of) at) at_b

  pub coded : (i : ℕ) (d : Field) (g : FilledField) (l : Library) → slice_get sit.format.fields i ≡ Some d → slice_get (fields_of f) i ≡ Some g → d.encoding ≡ encoding.Library l
      → (m : lib.Method) × (method_of (side_of sit.format.listing (level f)) (assigned sit.format.listing (level f) args) l ≡ Some m) × Lib m (reference_of d.declared.part ctx (below path d.declared.name) d.initial) (sides_of g).uncompressed (sides_of g).compressed
  coded i d g l at at_g is =
      let c = coded_parts p.methods ctx (inverted.each i d g (ap (λ (y : Format). slice_get y.fields i) same_format ∙ at) at_g) l is in (
        c.method,
        subst (λ (y : Format). method_of (side_of y.listing (level f)) (assigned y.listing (level f) args) l ≡ Some c.method) same_format c.is_method,
        c.holds,
      )

  pub called : (i : ℕ) (d : Field) (g : FilledField) (j : ℕ) (es : List Expr) → slice_get sit.format.fields i ≡ Some d → slice_get (fields_of f) i ≡ Some g → d.encoding ≡ encoding.Call j es
      → CalledParts p.methods ctx (assigned sit.format.listing (level f) args) path d j es g
  called i d g j es at at_g is =
      let c = called_parts p.methods ctx (inverted.each i d g (ap (λ (y : Format). slice_get y.fields i) same_format ∙ at) at_g) j es is in
      subst (λ (y : Format). CalledParts p.methods ctx (assigned y.listing (level f) args) path d j es g) same_format c

  -- ---- what conditions ask for

  pub count : length sit.format.fields ≡ length (level f)
  count = sym (length-level sit.format f shaped)

  pub fields_small : (i : ℕ) (b : Sizes) → slice_get sit.sizes.fields i ≡ Some b → AreSmall b
  fields_small i b at =
      let rules = by-rules p.methods p.sizes sound.sized in
      let within : i < length sit.sizes.fields = slice_get_within sit.sizes.fields i b at in
      let d = there sit.format.fields i (let same = as_many in let all = count in omega arith) in
      record {
        uncompressed = rules.small method_found.0 sit.format sit.whole sit.sizes placed_at Uncompressed i d.0 b d.1 at;
        compressed = rules.small method_found.0 sit.format sit.whole sit.sizes placed_at Compressed i d.0 b d.1 at;
      }

  pub sizes_are : bounded.sizes_at p.sizes k n ≡ Some sit.sizes
  sizes_are = ap (option_and_then (λ s. slice_get s.formats n)) sit.whole_at ∙ sit.sizes_at

  pub all_small : AreSmall sit.sizes.whole
  all_small =
      let small = whole_small p.methods p.sizes sound.sized k n sit.format sit.sizes sit.format_is sizes_are in
      record {
        uncompressed = let le : sit.sizes.whole.uncompressed.most ≤ 4096 = small.0 in omega arith;
        compressed = let le : sit.sizes.whole.compressed.most ≤ 2 ^ 18 = small.1 in omega arith;
      }

  pub numbers_lie : LieIn (assignment_of (known_level f args)) (ranges_in sit.sizes sit.whole)
  numbers_lie = known_lies f args sit.whole sit.sizes as_many fields_small all_small lie arguments

  pub evaluated : Evaluates (known_level f args) (assigned sit.format.listing (level f) args) sit.format
  evaluated =
      evaluates p.methods (length method_found.0.parameters) sit.format f args sit.whole sit.sizes shaped.listing_is count as_many lie numbers_lie
      (faultless sit.format sit.sizes (format_ranges sit.sizes sit.whole.parameters) (sound.sized.fine.accepted method_found.0 sit.format sit.whole sit.sizes placed_at))
      (sound.well_formed.formats k n method_found.0 sit.format method_found.1 method_found.2)

  pub fits_level : LevelFits sit.format f args
  fits_level = subst (λ x. LevelFits x f args) same_format inverted.level_fits
