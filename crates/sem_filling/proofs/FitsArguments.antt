-- In a fitting filling each argument lies in the range of its parameter.
use Rattle.std.proofs.Common.{◌≡◌, ◌∙◌, refl, sym, ap, subst, ℕ, ◌<◌, ◌≤◌, ◌-◌, ◌^◌, zero, suc, min, Bool, true, false, cond, ◌&&◌, nat_le, List, [], ◌∷◌, length, map, arith}
use Rattle.std.specs.Prelude.{Option, Some, None, IfSome, slice_get, ℤ, pos, if◌then◌else◌}
use Rattle.std.specs.Option.{option_map, unwrap_or}
use Rattle.std.proofs.lemmas.Int.{ints}
use Rattle.std.proofs.lemmas.Option.{slice_get_within}
use Rattle.std.proofs.lemmas.Bool.Decides.{nat_tests}
use Rattle.std.proofs.Math.Pow.{pow_mono}
use Rattle.sem_bits.specs.Number.{num}
use Rattle.sem_bits.proofs.Numbers.{num-below}
use Rattle.sem_expr.specs.declared.expr.Attribute.{Attribute}
use Rattle.sem_expr.specs.declared.expr.Subject.{Subject}
use Rattle.sem_expr.specs.declared.expr.Subject.TheVariants as subject
use Rattle.sem_expr.specs.declared.expr.Side.{Side}
use Rattle.sem_expr.specs.declared.expr.Side.TheVariants.{Uncompressed, Compressed}
use Rattle.sem_expr.specs.declared.expr.Measure.{Measure}
use Rattle.sem_expr.specs.declared.expr.Measure.TheVariants as measure
use Rattle.sem_expr.specs.declared.expr.Expr.{Expr}
use Rattle.sem_expr.specs.declared.inputs.Input.{Input}
use Rattle.sem_expr.specs.declared.inputs.Input.TheVariants as input
use Rattle.sem_expr.specs.declared.interval.Interval.{Interval}
use Rattle.sem_expr.specs.Values.{Assignment, val}
use Rattle.sem_expr.specs.Inputs.{inputs_of, Agree, given}
use Rattle.sem_expr.specs.Rules.{IsIn}
use Rattle.sem_expr.specs.Spread.{LieIn}
use Rattle.sem_expr.specs.Known.{measured as measured_of}
use Rattle.sem_expr.specs.Bounds.{every, every_of_side, interval_of, side_intervals, intervals_at}
use Rattle.sem_expr.proofs.InputsAgreement.{same_value}
use Rattle.sem_profile.specs.declared.profile.Bounds.{Bounds}
use Rattle.sem_profile.specs.declared.profile.Sizes.{Sizes}
use Rattle.sem_profile.specs.declared.profile.FormatSizes.{FormatSizes}
use Rattle.sem_profile.specs.declared.profile.MethodSizes.{MethodSizes}
use Rattle.sem_profile.specs.declared.profile.Encoding.TheVariants as encoding
use Rattle.sem_profile.specs.declared.profile.Field.{Field}
use Rattle.sem_profile.specs.declared.profile.Format.{Format}
use Rattle.sem_profile.specs.declared.profile.Method.{Method}
use Rattle.sem_profile.specs.BoundsFaults.{side_bounds, is_wide, is_wide_by}
use Rattle.sem_profile.specs.Formats.{sizes_at}
use Rattle.sem_profile.specs.Methods.{is_within}
use Rattle.sem_profile.specs.Ranging.{value_range, length_range, intervals_of, side_ranges, format_ranges}
use Rattle.sem_profile.specs.BoundsLaws.{in_encoding, AllSound, encoding_exprs}
use Rattle.sem_profile.specs.Outcome.{AreSizes, FormatAt}
use Rattle.sem_profile.specs.Calling.{IsArgument, ranges_in, TakeArguments}
use Rattle.sem_profile.proofs.FaultsFaultless.{faultless}
use Rattle.sem_profile.proofs.FieldsRuling.{there, by-rules}
use Rattle.sem_profile.proofs.ParametersWidening.{lie-in-parameters}
use Rattle.sem_filling.specs.declared.filling.Filling.{Filling, out-Filling}
use Rattle.sem_filling.specs.declared.filling.FilledField.{FilledField}
use Rattle.sem_filling.specs.Fillings.{Sides, fields_of, inner_of, listing_of, level, header, packed_bits}
use Rattle.sem_filling.specs.Entries.{Path, below}
use Rattle.sem_filling.specs.Fits.{Context, Fits, IsShaped, format_at, side_of, field_side, measured, assigned, vals}
use Rattle.sem_filling.specs.Bounded.{LiesBetween, SidesLie, LengthsLie, ArgumentsLie, AreCounted, LeadsTo, itself, by_call, ArgumentsLieInRanges}
use Rattle.sem_filling.specs.Numbers.{numbers}
use Rattle.sem_filling.proofs.FitsSized.{one_value}
use Rattle.sem_filling.proofs.FitsValues.{vals_length, vals_at}
use Rattle.sem_filling.proofs.NumbersLying.{bits_lie, measure_lies, arguments_lie}
use Rattle.sem_filling.proofs.FitsInverted.{parts, called_parts, length-level}
use Rattle.sem_filling.proofs.Bounding.{placed, count_sizes, lie-in-bounds}

-- ---- the numbers of up to 64 bits

abbrev narrow : Measure → List Bool → Option ℤ
narrow m bits = measured_of (numbers bits) m

-- the numbers of a level, without those of longer bits
abbrev narrowed : List ℕ → List Sides → List ℤ → Assignment
narrowed listing fs args = record {
  attribute = λ t. narrow t.measure (side_of listing fs t.subject t.side);
  parameter = λ i. slice_get args i;
}

-- no bound of the sizes is above 2^64
abbrev AreSmall : Sizes → Type 0
AreSmall s = (z : Side) → (side_bounds z s).most ≤ 2 ^ 64

field_lies : (m : Measure) (z : Side) (b : Sizes) (s : Sides) → AreSmall b → SidesLie b (length s.uncompressed) (length s.compressed)
    → IfSome (narrow m (field_side (Some s) z)) (IsIn (interval_of (side_intervals (side_ranges b) z) m))
field_lies m Uncompressed b s small lie = measure_lies m b.uncompressed (numbers s.uncompressed) (bits_lie b.uncompressed s.uncompressed (small Uncompressed) lie.uncompressed_lies)
field_lies m Compressed b s small lie = measure_lies m b.compressed (numbers s.compressed) (bits_lie b.compressed s.compressed (small Compressed) lie.compressed_lies)

-- past the end a side is empty, and its range has every number
zero_lies : IsIn every (pos 0)
zero_lies = record { above = omega (arith, ints); below = omega (arith, ints) }

past_lies : (m : Measure) (z : Side) → IfSome (narrow m (field_side None z)) (IsIn (interval_of (side_intervals (record { uncompressed = every_of_side; compressed = every_of_side }) z) m))
unfolding num
past_lies measure.Value Uncompressed = zero_lies
past_lies measure.Value Compressed = zero_lies
past_lies measure.Length Uncompressed = zero_lies
past_lies measure.Length Compressed = zero_lies

fields_lie : (fs : List Sides) (bs : List Sizes) (i : ℕ) (m : Measure) (z : Side) → length bs ≡ length fs → ((j : ℕ) (b : Sizes) → slice_get bs j ≡ Some b → AreSmall b)
    → ((j : ℕ) (s : Sides) (b : Sizes) → slice_get fs j ≡ Some s → slice_get bs j ≡ Some b → SidesLie b (length s.uncompressed) (length s.compressed))
    → IfSome (narrow m (field_side (slice_get fs i) z)) (IsIn (interval_of (side_intervals (intervals_at (map side_ranges bs) i) z) m))
fields_lie [] [] i m z same small lie = past_lies m z
fields_lie [] (b ∷ bs) i m z same small lie = absurd (omega (arith, same))
fields_lie (f ∷ fs) [] i m z same small lie = absurd (omega (arith, same))
fields_lie (f ∷ fs) (b ∷ bs) zero m z same small lie = field_lies m z b f (small 0 b refl) (lie 0 f b refl refl)
fields_lie (f ∷ fs) (b ∷ bs) (suc i) m z same small lie = fields_lie fs bs i m z (omega (arith, same)) (λ j c at. small (suc j) c at) (λ j s c here at. lie (suc j) s c here at)

-- ---- the same numbers where no bits are wide

narrow_is : (m : Measure) (b : Bounds) (bits : List Bool) → LiesBetween b (length bits) → is_wide_by m b ≡ false → narrow m bits ≡ Some (measured m bits)
narrow_is measure.Length b bits lies e = refl
narrow_is measure.Value b bits lies e =
    let short : b.most ≤ 64 = grind (arith, nat_tests) in
    let most : length bits ≤ b.most = lies.most in
    let up : length bits ≤ 64 = omega arith in
    let yes : nat_le (length bits) 64 ≡ true = grind (arith, nat_tests) in
    ap (λ t. cond t (Some (pos (num bits))) None) yes

narrow_field : (m : Measure) (z : Side) (b : Sizes) (s : Sides) → SidesLie b (length s.uncompressed) (length s.compressed) → is_wide_by m (side_bounds z b) ≡ false
    → narrow m (field_side (Some s) z) ≡ Some (measured m (field_side (Some s) z))
narrow_field m Uncompressed b s lie e = narrow_is m b.uncompressed s.uncompressed lie.uncompressed_lies e
narrow_field m Compressed b s lie e = narrow_is m b.compressed s.compressed lie.compressed_lies e

narrow_past : (m : Measure) (z : Side) → narrow m (field_side None z) ≡ Some (measured m (field_side None z))
narrow_past measure.Value Uncompressed = refl
narrow_past measure.Value Compressed = refl
narrow_past measure.Length Uncompressed = refl
narrow_past measure.Length Compressed = refl

narrow_fields : (fs : List Sides) (bs : List Sizes) (i : ℕ) (m : Measure) (z : Side) → length bs ≡ length fs
    → ((j : ℕ) (s : Sides) (b : Sizes) → slice_get fs j ≡ Some s → slice_get bs j ≡ Some b → SidesLie b (length s.uncompressed) (length s.compressed))
    → is_wide_by m (side_bounds z (sizes_at bs i)) ≡ false → narrow m (field_side (slice_get fs i) z) ≡ Some (measured m (field_side (slice_get fs i) z))
narrow_fields [] bs i m z same lie e = narrow_past m z
narrow_fields (f ∷ fs) [] i m z same lie e = absurd (omega (arith, same))
narrow_fields (f ∷ fs) (b ∷ bs) zero m z same lie e = narrow_field m z b f (lie 0 f b refl refl) e
narrow_fields (f ∷ fs) (b ∷ bs) (suc i) m z same lie e = narrow_fields fs bs i m z (omega (arith, same)) (λ j s c here at. lie (suc j) s c here at) e

-- ---- one level

module _ (format : Format) (f : Filling) (args : List ℤ) (s : MethodSizes) (sizes : FormatSizes) (listing : listing_of f ≡ format.listing) (same : length sizes.fields ≡ length (level f)) (lie : LengthsLie sizes f) where
  packed_same : LiesBetween sizes.whole.compressed (length (packed_bits format.listing (level f)))
  packed_same = subst (λ l. LiesBetween sizes.whole.compressed (length (packed_bits l (level f)))) listing lie.whole.compressed_lies

  narrowed_lies : ((j : ℕ) (b : Sizes) → slice_get sizes.fields j ≡ Some b → AreSmall b) → AreSmall sizes.whole → ArgumentsLie s.parameters args
      → LieIn (narrowed format.listing (level f) args) (ranges_in sizes s)
  narrowed_lies small whole lies = record {
    attributes = λ t. by t.subject t.side t.measure;
    parameters = λ i. arguments_lie s.parameters args lies i every;
  }
    where
      by : (x : Subject) (z : Side) (m : Measure)
          → IfSome ((narrowed format.listing (level f) args).attribute (record { subject = x; side = z; measure = m })) (IsIn ((ranges_in sizes s).attribute (record { subject = x; side = z; measure = m })))
      by (subject.Field i) z m = fields_lie (level f) sizes.fields i m z same small lie.fields
      by subject.This Uncompressed m = measure_lies m sizes.whole.uncompressed (numbers (header f)) (bits_lie sizes.whole.uncompressed (header f) (whole Uncompressed) lie.whole.uncompressed_lies)
      by subject.This Compressed m = measure_lies m sizes.whole.compressed (numbers (packed_bits format.listing (level f))) (bits_lie sizes.whole.compressed (packed_bits format.listing (level f)) (whole Compressed) packed_same)

  attribute_same : (t : Attribute) → is_wide sizes t ≡ false → (narrowed format.listing (level f) args).attribute t ≡ (assigned format.listing (level f) args).attribute t
  attribute_same t e = by t.subject t.side t.measure e
    where
      by : (x : Subject) (z : Side) (m : Measure) → is_wide sizes (record { subject = x; side = z; measure = m }) ≡ false
          → narrow m (side_of format.listing (level f) x z) ≡ Some (measured m (side_of format.listing (level f) x z))
      by (subject.Field i) z m e = narrow_fields (level f) sizes.fields i m z same lie.fields e
      by subject.This Uncompressed m e = narrow_is m sizes.whole.uncompressed (header f) lie.whole.uncompressed_lies e
      by subject.This Compressed m e = narrow_is m sizes.whole.compressed (packed_bits format.listing (level f)) packed_same e

  inputs_same : (inputs : List Input) → ((k : ℕ) (t : Attribute) → slice_get inputs k ≡ Some (input.Attribute t) → is_wide sizes t ≡ false)
      → Agree (narrowed format.listing (level f) args) (assigned format.listing (level f) args) inputs
  inputs_same inputs none_wide = λ k i at. by i k at
    where
      by : (i : Input) (k : ℕ) → slice_get inputs k ≡ Some i → given (narrowed format.listing (level f) args) i ≡ given (assigned format.listing (level f) args) i
      by (input.Attribute t) k at = attribute_same t (none_wide k t at)
      by (input.Parameter q) k at = refl

  -- an expression of the format has one value by both
  value_same : AllSound format sizes (format_ranges sizes s.parameters) → (i : ℕ) (d : Field) (q : ℕ) (e : Expr) → slice_get format.fields i ≡ Some d → slice_get (encoding_exprs d.encoding) q ≡ Some e
      → val (narrowed format.listing (level f) args) e ≡ val (assigned format.listing (level f) args) e
  value_same sound i d q e field at =
      same_value (narrowed format.listing (level f) args) (assigned format.listing (level f) args) e (inputs_same (inputs_of e) (sound.expressions e (in_encoding i q field at)).narrow)

-- ---- one call

both_true : (a b : Bool) → (a && b) ≡ true → (a ≡ true) × (b ≡ true)
both_true true b e = (refl, e)
both_true false b e = absurd cc

within_small : (s : Sizes) → is_within s ≡ true → AreSmall s
within_small s e Uncompressed =
    let t : nat_le s.uncompressed.most 4096 ≡ true = (both_true (nat_le s.uncompressed.most 4096) (nat_le s.compressed.most (2 ^ 18)) e).0 in
    let le : s.uncompressed.most ≤ 4096 = grind (arith, nat_tests) in
    omega arith
within_small s e Compressed =
    let t : nat_le s.compressed.most (2 ^ 18) ≡ true = (both_true (nat_le s.uncompressed.most 4096) (nat_le s.compressed.most (2 ^ 18)) e).1 in
    let le : s.compressed.most ≤ 2 ^ 18 = grind (arith, nat_tests) in
    omega arith

module _ (methods : List Method) (table : List MethodSizes) (are : AreSizes methods table) (counts : AreCounted methods) where
  small_fields : (m : Method) (format : Format) (s : MethodSizes) (sizes : FormatSizes) → FormatAt methods table m format s sizes → (j : ℕ) (b : Sizes) → slice_get sizes.fields j ≡ Some b → AreSmall b
  small_fields m format s sizes at j b e z =
      let within : j < length sizes.fields = slice_get_within sizes.fields j b e in
      let d = there format.fields j (let count = count_sizes methods table are m format s sizes at in omega arith) in
      (by-rules methods table are).small m format s sizes at z j d.0 b d.1 e

  small_whole : (m : Method) (format : Format) (s : MethodSizes) (sizes : FormatSizes) → FormatAt methods table m format s sizes → AreSmall sizes.whole
  small_whole m format s sizes at z =
      let inner = ((by-rules methods table are).of_method m format s sizes at z).most in
      let outer = within_small s.whole (are.fine.within at.method_place m s at.method_at at.whole_at) z in
      omega arith

  take : TakeArguments methods table
  take = lie-in-parameters methods table are

  -- a level whose lengths and arguments lie
  module _ (k : ℕ) (args : List ℤ) (f : Filling) (format : Format) (listing : listing_of f ≡ format.listing) (m : Method) (s : MethodSizes) (sizes : FormatSizes) (at : FormatAt methods table m format s sizes)
      (same : length sizes.fields ≡ length (level f)) (lie : LengthsLie sizes f) (lies : ArgumentsLie s.parameters args) where
    all_lie : LieIn (narrowed format.listing (level f) args) (ranges_in sizes s)
    all_lie = narrowed_lies format f args s sizes listing same lie (small_fields m format s sizes at) (small_whole m format s sizes at) lies

    sound : AllSound format sizes (format_ranges sizes s.parameters)
    sound = faultless format sizes (format_ranges sizes s.parameters) (are.fine.accepted m format s sizes at)

    counted : (i l : ℕ) (d : Field) (es : List Expr) (t : MethodSizes) → slice_get format.fields i ≡ Some d → d.encoding ≡ encoding.Call l es → slice_get table l ≡ Some t → length es ≡ length t.parameters
    counted i l d es t field call called =
        let within : l < length table = slice_get_within table l t called in
        let callee = there methods l (let count = are.each in omega arith) in
        counts at.method_place at.format_place i l m callee.0 format d es at.method_at at.format_at field call callee.1 ∙ sym (take.each l callee.0 t callee.1 called)

    one_lies : (i l : ℕ) (d : Field) (es : List Expr) (between : List ℤ) (t : MethodSizes) → slice_get format.fields i ≡ Some d → d.encoding ≡ encoding.Call l es → slice_get table l ≡ Some t
        → vals (assigned format.listing (level f) args) es ≡ Some between → (q : ℕ) (r : Interval) (v : ℤ) → slice_get t.parameters q ≡ Some r → slice_get between q ≡ Some v → IsIn r v
    one_lies i l d es between t field call called values q r v range value =
        let found = vals_at (assigned format.listing (level f) args) es between q v values value in
        let argument : IsArgument format l q found.0 = record { field = d; field_place = i; field_at = field; arguments = es; is_call = call; argument_at = found.1 } in
        let stands : slice_get (encoding_exprs d.encoding) q ≡ Some found.0 = ap (λ c. slice_get (encoding_exprs c) q) call ∙ found.1 in
        let known = value_same format f args s sizes listing same lie sound i d q found.0 field stands ∙ found.2 in
        let within = take.value_within m format s sizes at l q found.0 argument (narrowed format.listing (level f) args) v t sizes called all_lie known in
        subst (λ o. IsIn (unwrap_or o every) v) range within

    call_lies : (i l : ℕ) (d : Field) (es : List Expr) (between : List ℤ) (t : MethodSizes) → slice_get format.fields i ≡ Some d → d.encoding ≡ encoding.Call l es → slice_get table l ≡ Some t
        → vals (assigned format.listing (level f) args) es ≡ Some between → ArgumentsLie t.parameters between
    call_lies i l d es between t field call called values =
        record { count = vals_length (assigned format.listing (level f) args) es between values ∙ counted i l d es t field call called; each = one_lies i l d es between t field call called values }

  called_lie : (ctx : Context) (k : ℕ) (args : List ℤ) (path : Path) (f : Filling) (s : MethodSizes) → Fits methods ctx k args path f → slice_get table k ≡ Some s → ArgumentsLie s.parameters args
      → (format : Format) (i l : ℕ) (d : Field) (es : List Expr) (between : List ℤ) (t : MethodSizes) → format_at methods k (out-Filling f).format ≡ Some format → slice_get format.fields i ≡ Some d
      → d.encoding ≡ encoding.Call l es → slice_get table l ≡ Some t → vals (assigned format.listing (level f) args) es ≡ Some between → ArgumentsLie t.parameters between
  called_lie ctx k args path f s h in_table lies format i l d es between t is field call called values =
      let p = parts h in
      let same_format : p.format ≡ format = one_value _ p.format format p.is_format is in
      let shaped = subst (λ x. IsShaped x f) same_format p.level_fits.shaped in
      let pl = placed methods table are k (out-Filling f).format format is in
      let same_whole : pl.whole ≡ s = one_value _ pl.whole s pl.whole_at in_table in
      let at = subst (λ w. FormatAt methods table pl.method format w pl.sizes) same_whole pl.at in
      let sizes_at = subst (λ (w : MethodSizes). slice_get w.formats (out-Filling f).format ≡ Some pl.sizes) same_whole pl.sizes_at in
      let lie = (lie-in-bounds methods table are ctx k args path f h s pl.sizes in_table sizes_at).0 in
      call_lies k args f format shaped.listing_is pl.method s pl.sizes at (count_sizes methods table are pl.method format s pl.sizes at ∙ sym (length-level format f shaped)) lie lies
      i l d es between t field call called values

  -- the filling inside a field fits the called method
  inner_fits : (ctx : Context) (k : ℕ) (args : List ℤ) (path : Path) (f : Filling) → Fits methods ctx k args path f
      → (format : Format) (i l : ℕ) (d : Field) (x : FilledField) (es : List Expr) (between : List ℤ) (inner : Filling) → format_at methods k (out-Filling f).format ≡ Some format
      → slice_get format.fields i ≡ Some d → slice_get (fields_of f) i ≡ Some x → d.encoding ≡ encoding.Call l es → vals (assigned format.listing (level f) args) es ≡ Some between
      → inner_of x ≡ Some inner → Fits methods ctx l between (below path d.declared.name) inner
  inner_fits ctx k args path f h format i l d x es between inner is field filled call values inside =
      let p = parts h in
      let same : p.format ≡ format = one_value _ p.format format p.is_format is in
      let c = called_parts methods ctx (p.each i d x (ap (λ (y : Format). slice_get y.fields i) same ∙ field) filled) l es call in
      let known : vals (assigned format.listing (level f) args) es ≡ Some c.args = ap (λ (y : Format). vals (assigned y.listing (level f) args) es) (sym same) ∙ c.is_args in
      let same_args : c.args ≡ between = one_value _ c.args between known values in
      let same_inner : c.inner ≡ inner = one_value _ c.inner inner c.is_inner inside in
      subst (λ y. Fits methods ctx l between (below path d.declared.name) y) same_inner (subst (λ y. Fits methods ctx l y (below path d.declared.name) c.inner) same_args c.inner_fits)

  -- the called method has bounds
  callee : (ctx : Context) (l : ℕ) (between : List ℤ) (path : Path) (inner : Filling) → Fits methods ctx l between path inner → (t : MethodSizes) × (slice_get table l ≡ Some t)
  callee ctx l between path inner h = let p = parts h in let pl = placed methods table are l (out-Filling inner).format p.format p.is_format in (pl.whole, pl.whole_at)

  all_lie_in : (ctx : Context) (j : ℕ) (inner_args : List ℤ) (g : Filling) (t : MethodSizes) (k : ℕ) (args : List ℤ) (path : Path) (f : Filling) (s : MethodSizes)
      → Fits methods ctx k args path f → slice_get table k ≡ Some s → ArgumentsLie s.parameters args → LeadsTo methods j inner_args g k args f → slice_get table j ≡ Some t → ArgumentsLie t.parameters inner_args
  all_lie_in ctx j inner_args g t k args path f s h in_table lies itself found =
      let same : s ≡ t = one_value _ s t in_table found in
      subst (λ (y : MethodSizes). ArgumentsLie y.parameters args) same lies
  all_lie_in ctx j inner_args g t k args path f s h in_table lies (by_call format i d x l es between inner is field filled call values inside more) found =
      let below_fits = inner_fits ctx k args path f h format i l d x es between inner is field filled call values inside in
      let u = callee ctx l between (below path d.declared.name) inner below_fits in
      all_lie_in ctx j inner_args g t l between (below path d.declared.name) inner u.0 below_fits u.1
      (called_lie ctx k args path f s h in_table lies format i l d es between u.0 is field call u.1 values) more found

pub lie-in-ranges : ArgumentsLieInRanges
lie-in-ranges methods table are counts ctx k args path f s h in_table lies j inner_args g t leads found =
    all_lie_in methods table are counts ctx j inner_args g t k args path f s h in_table lies leads found
