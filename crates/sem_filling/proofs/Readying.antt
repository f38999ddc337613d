-- A level whose lengths lie in its bounds is ready to be judged.
use Rattle.std.proofs.Common.{◌≡◌, ◌∙◌, refl, ap, subst, ℕ, ◌≤◌, ◌<◌, suc, zero, map, length, List, [], ◌∷◌, Bool, true, false, nat_le, cond, arith}
use Rattle.std.specs.Prelude.{slice_get, Some, None, ℤ, pos}
use Rattle.std.proofs.lemmas.Bool.Decides.{nat_tests}
use Rattle.sem_expr.specs.declared.expr.Attribute.{Attribute}
use Rattle.sem_expr.specs.declared.expr.Subject.{Subject}
use Rattle.sem_expr.specs.declared.expr.Subject.TheVariants as subject
use Rattle.sem_expr.specs.declared.expr.Side.{Side}
use Rattle.sem_expr.specs.declared.expr.Side.TheVariants.{Uncompressed, Compressed}
use Rattle.sem_expr.specs.declared.expr.Measure.{Measure}
use Rattle.sem_expr.specs.declared.expr.Measure.TheVariants as measure
use Rattle.sem_expr.specs.declared.expr.Expr.{Expr}
use Rattle.sem_expr.specs.declared.inputs.Input.{Input}
use Rattle.sem_expr.specs.declared.inputs.Input.TheVariants as input
use Rattle.sem_expr.specs.Values.{Assignment}
use Rattle.sem_expr.specs.Inputs.{inputs_of, condition_inputs_of, Agree, given}
use Rattle.sem_expr.specs.Known.{assignment_of, side_numbers, numbers_at}
use Rattle.sem_expr.specs.Known as known
use Rattle.sem_expr.specs.Spread.{LieIn}
use Rattle.sem_expr.specs.Bounds.{every}
use Rattle.sem_expr.specs.Rules.{IsIn}
use Rattle.std.specs.Option.{unwrap_or}
use Rattle.sem_bits.specs.Number.{num}
use Rattle.sem_expr.proofs.InputsAgreement.{same_value, same_truth}
use Rattle.sem_profile.specs.declared.profile.Bounds.{Bounds}
use Rattle.sem_profile.specs.declared.profile.Sizes.{Sizes}
use Rattle.sem_profile.specs.declared.profile.FormatSizes.{FormatSizes}
use Rattle.sem_profile.specs.declared.profile.MethodSizes.{MethodSizes}
use Rattle.sem_profile.specs.declared.profile.Encoding.TheVariants as encoding
use Rattle.sem_profile.specs.declared.profile.Field.{Field}
use Rattle.sem_profile.specs.declared.profile.Format.{Format}
use Rattle.sem_profile.specs.declared.profile.Method.{Method}
use Rattle.sem_profile.specs.BoundsFaults.{side_bounds, is_wide, is_wide_by}
use Rattle.sem_profile.specs.Formats.{sizes_at}
use Rattle.sem_profile.specs.Ranging.{format_ranges}
use Rattle.sem_profile.specs.BoundsLaws.{AllSound}
use Rattle.sem_profile.specs.Outcome.{FormatAt}
use Rattle.sem_profile.specs.Calling.{ranges_in, TakeArguments, IsArgument}
use Rattle.sem_profile.specs.WellFormed.{FormatIsSound}
use Rattle.sem_filling.specs.declared.filling.Filling.{Filling}
use Rattle.sem_filling.specs.Fillings.{Sides, level, listing_of, header, packed, packed_bits}
use Rattle.sem_filling.specs.Fits.{side_of, field_side, assigned, IsShaped, vals}
use Rattle.sem_filling.specs.Fits as fits
use Rattle.sem_filling.specs.Bounded.{LiesBetween, SidesLie, LengthsLie, ArgumentsLie}
use Rattle.sem_filling.proofs.FitsValues.{vals_length, vals_at}
use Rattle.sem_filling.specs.Numbers.{numbers, numbers_of, known_level}
use Rattle.sem_filling.specs.Level.{Evaluates}

-- ---- the numbers that an expression asks for

narrow_side : (m : Measure) (b : Bounds) (bits : List Bool) → LiesBetween b (length bits) → is_wide_by m b ≡ false → known.measured (numbers bits) m ≡ Some (fits.measured m bits)
narrow_side measure.Length b bits lies e = refl
narrow_side measure.Value b bits lies e =
    let short : b.most ≤ 64 = grind (arith, nat_tests) in
    let most : length bits ≤ b.most = lies.most in
    let up : length bits ≤ 64 = omega arith in
    let yes : nat_le (length bits) 64 ≡ true = grind (arith, nat_tests) in
    ap (λ t. cond t (Some (pos (num bits))) None) yes

narrow_sides : (m : Measure) (z : Side) (b : Sizes) (s : Sides) → SidesLie b (length s.uncompressed) (length s.compressed) → is_wide_by m (side_bounds z b) ≡ false
    → known.measured (side_numbers (numbers_of s) z) m ≡ Some (fits.measured m (field_side (Some s) z))
narrow_sides m Uncompressed b s lie e = narrow_side m b.uncompressed s.uncompressed lie.uncompressed_lies e
narrow_sides m Compressed b s lie e = narrow_side m b.compressed s.compressed lie.compressed_lies e

narrow_field : (fs : List Sides) (bs : List Sizes) (i : ℕ) (m : Measure) (z : Side) → i < length fs → length bs ≡ length fs
    → ((j : ℕ) (s : Sides) (b : Sizes) → slice_get fs j ≡ Some s → slice_get bs j ≡ Some b → SidesLie b (length s.uncompressed) (length s.compressed))
    → is_wide_by m (side_bounds z (sizes_at bs i)) ≡ false → known.measured (side_numbers (numbers_at (map numbers_of fs) i) z) m ≡ Some (fits.measured m (field_side (slice_get fs i) z))
narrow_field [] bs i m z lt same lie e = absurd (omega (arith, lt))
narrow_field (f ∷ fs) [] i m z lt same lie e = absurd (omega (arith, same))
narrow_field (f ∷ fs) (b ∷ bs) zero m z lt same lie e = narrow_sides m z b f (lie 0 f b refl refl) e
narrow_field (f ∷ fs) (b ∷ bs) (suc i) m z lt same lie e = narrow_field fs bs i m z (omega (arith, lt)) (omega (arith, same)) (λ j s c here there. lie (suc j) s c here there) e

-- an attribute of up to 64 bits is known
attribute_known : (format : Format) (f : Filling) (args : List ℤ) (sizes : FormatSizes) → listing_of f ≡ format.listing → length sizes.fields ≡ length (level f) → LengthsLie sizes f → (t : Attribute)
    → is_wide sizes t ≡ false → ((i : ℕ) → t.subject ≡ subject.Field i → i < length (level f))
    → (assignment_of (known_level f args)).attribute t ≡ (assigned format.listing (level f) args).attribute t
attribute_known format f args sizes listing same lie t narrow within = by t.subject t.side t.measure narrow within
  where
    by : (x : Subject) (z : Side) (m : Measure) → is_wide sizes (record { subject = x; side = z; measure = m }) ≡ false → ((i : ℕ) → x ≡ subject.Field i → i < length (level f))
        → (assignment_of (known_level f args)).attribute (record { subject = x; side = z; measure = m }) ≡ Some (fits.measured m (side_of format.listing (level f) x z))
    by (subject.Field i) z m e lt = narrow_field (level f) sizes.fields i m z (lt i refl) same lie.fields e
    by subject.This Uncompressed m e lt = narrow_side m sizes.whole.uncompressed (header f) lie.whole.uncompressed_lies e
    by subject.This Compressed m e lt = narrow_side m sizes.whole.compressed (packed f) lie.whole.compressed_lies e ∙ ap (λ l. Some (fits.measured m (packed_bits l (level f)))) listing

-- all inputs that are narrow and within the format are known alike
inputs_known : (format : Format) (f : Filling) (args : List ℤ) (sizes : FormatSizes) → listing_of f ≡ format.listing → length sizes.fields ≡ length (level f) → LengthsLie sizes f → (inputs : List Input)
    → ((k : ℕ) (t : Attribute) → slice_get inputs k ≡ Some (input.Attribute t) → is_wide sizes t ≡ false)
    → ((k i : ℕ) (t : Attribute) → slice_get inputs k ≡ Some (input.Attribute t) → t.subject ≡ subject.Field i → i < length (level f))
    → Agree (assignment_of (known_level f args)) (assigned format.listing (level f) args) inputs
inputs_known format f args sizes listing same lie inputs narrow within = λ k i at. by i k at
  where
    by : (i : Input) (k : ℕ) → slice_get inputs k ≡ Some i → given (assignment_of (known_level f args)) i ≡ given (assigned format.listing (level f) args) i
    by (input.Attribute t) k at = attribute_known format f args sizes listing same lie t (narrow k t at) (λ i e. within k i t at e)
    by (input.Parameter q) k at = refl

pub evaluates : (methods : List Method) (parameters : ℕ) (format : Format) (f : Filling) (args : List ℤ) (s : MethodSizes) (sizes : FormatSizes) → listing_of f ≡ format.listing
    → length format.fields ≡ length (level f) → length sizes.fields ≡ length (level f) → LengthsLie sizes f → LieIn (assignment_of (known_level f args)) (ranges_in sizes s)
    → AllSound format sizes (format_ranges sizes s.parameters) → FormatIsSound methods parameters format → Evaluates (known_level f args) (assigned format.listing (level f) args) format
evaluates methods parameters format f args s sizes listing count same lie lies sound formed = record {
  ranged = λ e st. record { ranges = ranges_in sizes s; lie = lies; accepted = (sound.expressions e st).accepted };
  value_is = λ e st. same_value (assignment_of (known_level f args)) (assigned format.listing (level f) args) e
      (inputs_known format f args sizes listing same lie (inputs_of e) (sound.expressions e st).narrow
      (λ k i t at is. let lt : i < length format.fields = (formed.expressions e st).of_fields k i t at is in omega (arith, lt, count)));
  conditions_ranged = λ j c place at. record { ranges = ranges_in sizes s; lie = lies; accepted = (sound.conditions j c place at).accepted };
  truth_is = λ j c place at. same_truth (assignment_of (known_level f args)) (assigned format.listing (level f) args) c
      (inputs_known format f args sizes listing same lie (condition_inputs_of c) (sound.conditions j c place at).narrow
      (λ k i t here is. let lt : i < length format.fields = (formed.conditions j c place at).of_fields k i t here is in omega (arith, lt, count)));
}

pub call_lies : (methods : List Method) (table : List MethodSizes) → TakeArguments methods table → (m : Method) (format : Format) (s : MethodSizes) (sizes : FormatSizes) → FormatAt methods table m format s sizes
    → (i k : ℕ) (d : Field) (es : List Expr) (args : List ℤ) (t : MethodSizes) → slice_get format.fields i ≡ Some d → d.encoding ≡ encoding.Call k es → slice_get table k ≡ Some t
    → length es ≡ length t.parameters → (a : Assignment) → LieIn a (ranges_in sizes s) → vals a es ≡ Some args → ArgumentsLie t.parameters args
call_lies methods table take m format s sizes at i k d es args t field call whole count a lies are = record {
  count = vals_length a es args are ∙ count;
  each = λ q r v range value.
      let found = vals_at a es args q v are value in
      let argument : IsArgument format k q found.0 = record { field = d; field_place = i; field_at = field; arguments = es; is_call = call; argument_at = found.1 } in
      let within = take.value_within m format s sizes at k q found.0 argument a v t sizes whole lies found.2 in
      subst (λ o. IsIn (unwrap_or o every) v) range within;
}
