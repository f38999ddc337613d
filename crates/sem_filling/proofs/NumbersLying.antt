-- The numbers that are known of a level, all or some, lie in the ranges that the bounds give.
use Rattle.std.proofs.Common.{◌≡◌, ◌∙◌, refl, sym, subst, ℕ, ◌≤◌, ◌<◌, ◌-◌, ◌^◌, suc, zero, min, map, length, List, [], ◌∷◌, Bool, true, false, nat_le, cond, arith}
use Rattle.std.specs.Prelude.{slice_get, Option, Some, None, IfSome, ℤ, pos}
use Rattle.std.specs.Option.{unwrap_or}
use Rattle.std.proofs.lemmas.List.{length-map}
use Rattle.std.proofs.lemmas.Option.{slice_get_within}
use Rattle.std.proofs.lemmas.Int.{ints}
use Rattle.std.proofs.Math.Pow.{pow_mono}
use Rattle.std.proofs.lemmas.Bool.Decides.{nat_tests}
use Rattle.sem_bits.proofs.Numbers.{num-below}
use Rattle.sem_bits.specs.Number.{num}
use Rattle.sem_expr.specs.declared.expr.Attribute.{Attribute}
use Rattle.sem_expr.specs.declared.expr.Subject.{Subject}
use Rattle.sem_expr.specs.declared.expr.Subject.TheVariants as subject
use Rattle.sem_expr.specs.declared.expr.Side.{Side}
use Rattle.sem_expr.specs.declared.expr.Side.TheVariants.{Uncompressed, Compressed}
use Rattle.sem_expr.specs.declared.expr.Measure.{Measure}
use Rattle.sem_expr.specs.declared.expr.Measure.TheVariants as measure
use Rattle.sem_expr.specs.declared.ranges.SideIntervals.{SideIntervals}
use Rattle.sem_expr.specs.declared.known.Known.{Known}
use Rattle.sem_expr.specs.declared.known.Numbers.{Numbers}
use Rattle.sem_expr.specs.declared.known.SideNumbers.{SideNumbers}
use Rattle.sem_expr.specs.declared.interval.Interval.{Interval}
use Rattle.sem_expr.specs.Rules.{IsIn}
use Rattle.sem_expr.specs.Spread.{LieIn}
use Rattle.sem_expr.specs.Known.{assignment_of, measured, side_numbers, numbers_at}
use Rattle.sem_expr.specs.Bounds.{interval_of, side_intervals, intervals_at}
use Rattle.sem_profile.specs.declared.profile.Bounds.{Bounds}
use Rattle.sem_profile.specs.declared.profile.Sizes.{Sizes}
use Rattle.sem_profile.specs.declared.profile.FormatSizes.{FormatSizes}
use Rattle.sem_profile.specs.declared.profile.MethodSizes.{MethodSizes}
use Rattle.sem_profile.specs.Ranging.{value_range, length_range, intervals_of, side_ranges}
use Rattle.sem_profile.specs.Calling.{ranges_in}
use Rattle.sem_filling.specs.declared.filling.Filling.{Filling}
use Rattle.sem_filling.specs.Fillings.{Sides, level, header, packed}
use Rattle.sem_filling.specs.Bounded.{LiesBetween, SidesLie, LengthsLie, ArgumentsLie}
use Rattle.sem_filling.specs.Numbers.{numbers, numbers_of, known_level, NumbersLie, BothLie, AllLie}

-- ---- the numbers of one side

value_lies : (b : Bounds) (bits : List Bool) → length bits ≤ b.most → IfSome (numbers bits).value (IsIn (value_range b.most))
value_lies b bits most = by (nat_le (length bits) 64) refl
  where
    by : (t : Bool) → nat_le (length bits) 64 ≡ t → IfSome (cond t (Some (pos (num bits))) None) (IsIn (value_range b.most))
    by false e = tt
    by true e =
        let short : length bits ≤ 64 = grind (arith, nat_tests) in
        let up : length bits ≤ min b.most 126 = omega arith in
        let small : num bits < 2 ^ length bits = num-below bits in
        let power : 2 ^ length bits ≤ 2 ^ min b.most 126 = pow_mono up in
        let le : num bits ≤ 2 ^ min b.most 126 - 1 = omega arith in
        record { above = omega (arith, ints); below = omega (arith, ints) }

pub count_lies : (b : Bounds) (n : ℕ) → b.most ≤ 2 ^ 64 → LiesBetween b n → IsIn (length_range b) (pos n)
count_lies b n small lies =
    let least : b.least ≤ n = lies.least in
    let most : n ≤ b.most = lies.most in
    let low : min (min b.least b.most) (2 ^ 64) ≤ n = omega arith in
    let high : n ≤ min b.most (2 ^ 64) = omega arith in
    record { above = omega (arith, ints); below = omega (arith, ints) }

-- all that is known of bits whose count lies in the bounds
pub bits_lie : (b : Bounds) (bits : List Bool) → b.most ≤ 2 ^ 64 → LiesBetween b (length bits) → NumbersLie b (numbers bits)
bits_lie b bits small lies = record { value_lies = value_lies b bits lies.most; length_lies = count_lies b (length bits) small lies }

pub measure_lies : (m : Measure) (b : Bounds) (x : Numbers) → NumbersLie b x → IfSome (measured x m) (IsIn (interval_of (intervals_of b) m))
measure_lies measure.Value b x lies = lies.value_lies
measure_lies measure.Length b x lies = lies.length_lies

side_lies : (m : Measure) (z : Side) (b : Sizes) (x : SideNumbers) → BothLie b x → IfSome (measured (side_numbers x z) m) (IsIn (interval_of (side_intervals (side_ranges b) z) m))
side_lies m Uncompressed b x lie = measure_lies m b.uncompressed x.uncompressed lie.uncompressed_lies
side_lies m Compressed b x lie = measure_lies m b.compressed x.compressed lie.compressed_lies

-- ---- those of all fields and of the whole

none_lies : (m : Measure) (z : Side) (r : SideIntervals) → IfSome (measured (side_numbers (numbers_at [] 0) z) m) (IsIn (interval_of (side_intervals r z) m))
none_lies measure.Value Uncompressed r = tt
none_lies measure.Value Compressed r = tt
none_lies measure.Length Uncompressed r = tt
none_lies measure.Length Compressed r = tt

fields_lie : (xs : List SideNumbers) (bs : List Sizes) (i : ℕ) (m : Measure) (z : Side) → length bs ≡ length xs → AllLie bs xs
    → IfSome (measured (side_numbers (numbers_at xs i) z) m) (IsIn (interval_of (side_intervals (intervals_at (map side_ranges bs) i) z) m))
fields_lie [] bs i m z same lie = none_lies m z (intervals_at (map side_ranges bs) i)
fields_lie (x ∷ xs) [] i m z same lie = absurd (omega (arith, same))
fields_lie (x ∷ xs) (b ∷ bs) zero m z same lie = side_lies m z b x (lie 0 b x refl refl)
fields_lie (x ∷ xs) (b ∷ bs) (suc i) m z same lie = fields_lie xs bs i m z (omega (arith, same)) (λ j c y here at. lie (suc j) c y here at)

pub none_there : (xs : List Interval) (j : ℕ) → j < length xs → slice_get xs j ≡ None → ⊥
none_there [] j lt at = omega arith
none_there (x ∷ xs) zero lt at = let wrong : Some x ≡ None = at in absurd cc
none_there (x ∷ xs) (suc j) lt at = none_there xs j (omega arith) at

pub arguments_lie : (rs : List Interval) (args : List ℤ) → ArgumentsLie rs args → (i : ℕ) (e : Interval) → IfSome (slice_get args i) (IsIn (unwrap_or (slice_get rs i) e))
arguments_lie rs args lie i e = by (slice_get args i) refl (slice_get rs i) refl
  where
    by : (o : Option ℤ) → slice_get args i ≡ o → (q : Option Interval) → slice_get rs i ≡ q → IfSome o (IsIn (unwrap_or q e))
    by None at q is = tt
    by (Some v) at (Some r) is = lie.each i r v is at
    by (Some v) at None is =
        let within : i < length args = slice_get_within args i v at in
        let known : i < length rs = omega (arith, within, lie.count) in
        absurd (none_there rs i known is)

-- Where what is known of each field and of the whole lies in its bounds, all numbers that are known lie in the ranges of the format.
pub partly_lies : (known : Known) (s : MethodSizes) (sizes : FormatSizes) → length sizes.fields ≡ length known.fields → AllLie sizes.fields known.fields → BothLie sizes.whole known.whole
    → ArgumentsLie s.parameters known.parameters → LieIn (assignment_of known) (ranges_in sizes s)
partly_lies known s sizes same lie whole lies = record {
  attributes = λ t. by t t.subject refl;
  parameters = λ i. arguments_lie s.parameters known.parameters lies i _;
}
  where
    by : (t : Attribute) (x : Subject) → t.subject ≡ x → IfSome ((assignment_of known).attribute t) (IsIn ((ranges_in sizes s).attribute t))
    by t (subject.Field i) e = rw e (fields_lie known.fields sizes.fields i t.measure t.side same lie)
    by t subject.This e = rw e (side_lies t.measure t.side sizes.whole known.whole whole)

-- ---- a whole level

-- no bound of the sizes is above 2^64
pub record AreSmall (s : Sizes) : Type 0 where
  pub uncompressed : s.uncompressed.most ≤ 2 ^ 64
  pub compressed : s.compressed.most ≤ 2 ^ 64

both_lie : (b : Sizes) (u c : List Bool) → AreSmall b → SidesLie b (length u) (length c) → BothLie b (record { uncompressed = numbers u; compressed = numbers c })
both_lie b u c small lie = record {
  uncompressed_lies = bits_lie b.uncompressed u small.uncompressed lie.uncompressed_lies;
  compressed_lies = bits_lie b.compressed c small.compressed lie.compressed_lies;
}

level_lies : (fs : List Sides) (bs : List Sizes) → ((j : ℕ) (b : Sizes) → slice_get bs j ≡ Some b → AreSmall b)
    → ((j : ℕ) (s : Sides) (b : Sizes) → slice_get fs j ≡ Some s → slice_get bs j ≡ Some b → SidesLie b (length s.uncompressed) (length s.compressed)) → AllLie bs (map numbers_of fs)
level_lies [] bs small lie j b x here at = absurd (cc)
level_lies (f ∷ fs) [] small lie j b x here at = absurd (cc)
level_lies (f ∷ fs) (c ∷ bs) small lie zero b x here at =
    let same_b : c ≡ b = cc in
    let same_x : numbers_of f ≡ x = cc in
    subst (λ y. BothLie b y) same_x (subst (λ y. BothLie y (numbers_of f)) same_b (both_lie c f.uncompressed f.compressed (small 0 c refl) (lie 0 f c refl refl)))
level_lies (f ∷ fs) (c ∷ bs) small lie (suc j) b x here at = level_lies fs bs (λ k y is. small (suc k) y is) (λ k y z is there. lie (suc k) y z is there) j b x here at

-- all numbers of a level whose lengths lie in the bounds
pub known_lies : (f : Filling) (args : List ℤ) (s : MethodSizes) (sizes : FormatSizes) → length sizes.fields ≡ length (level f) → ((j : ℕ) (b : Sizes) → slice_get sizes.fields j ≡ Some b → AreSmall b)
    → AreSmall sizes.whole → LengthsLie sizes f → ArgumentsLie s.parameters args → LieIn (assignment_of (known_level f args)) (ranges_in sizes s)
known_lies f args s sizes same small whole lie lies =
    partly_lies (known_level f args) s sizes (same ∙ sym (length-map (level f) numbers_of)) (level_lies (level f) sizes.fields small lie.fields)
    (both_lie sizes.whole (header f) (packed f) whole lie.whole) lies
