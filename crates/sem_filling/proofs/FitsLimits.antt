-- The bounds of a format of a sound profile are small, and no filling with lengths beyond them fits.
use Rattle.std.proofs.Common.{◌≡◌, ℕ, ◌≤◌, ◌^◌, ◌⊎◌, inl, inr, List, length, arith}
use Rattle.std.specs.Prelude.{Some, ℤ}
use Rattle.sem_expr.specs.declared.expr.Side.TheVariants.{Uncompressed, Compressed}
use Rattle.sem_profile.specs.declared.profile.Format.{Format}
use Rattle.sem_profile.specs.declared.profile.FormatSizes.{FormatSizes}
use Rattle.sem_profile.specs.declared.profile.MethodSizes.{MethodSizes}
use Rattle.sem_profile.specs.declared.profile.Method.{Method}
use Rattle.sem_profile.specs.HeaderLimit.{header_limit}
use Rattle.sem_profile.specs.Outcome.{AreSizes, FormatAt}
use Rattle.sem_profile.proofs.FieldsRuling.{by-rules}
use Rattle.sem_filling.specs.declared.filling.Filling.{Filling, out-Filling}
use Rattle.sem_filling.specs.Fits.{format_at}
use Rattle.sem_filling.specs.Bounded.{LengthsLieInBounds, LengthsLie}
use Rattle.sem_filling.specs.Bounded.{sizes_at}
use Rattle.sem_filling.specs.Ready.{NeverFits}
use Rattle.sem_filling.specs.Fillings.{header, packed}
use Rattle.sem_profile.specs.Resolved.{Resolved, IsSound}
use Rattle.sem_filling.proofs.Fronts.{within_limits, short_sides}
use Rattle.sem_filling.proofs.FitsJudged.{Placed, placed, Sized, sized}

-- a format and its bounds, of one method
pub at_level : (methods : List Method) (table : List MethodSizes) (k n : ℕ) (format : Format) (sizes : FormatSizes) (p : Placed methods k n format) (s : Sized table k n sizes)
    → FormatAt methods table p.method format s.whole sizes
at_level methods table k n format sizes p s = record {
  method_place = k;
  method_at = p.method_at;
  whole_at = s.whole_at;
  format_place = n;
  format_at = p.format_is;
  sizes_at = s.sizes_is;
}

pub whole_small : (methods : List Method) (table : List MethodSizes) → AreSizes methods table → (k n : ℕ) (format : Format) (sizes : FormatSizes) → format_at methods k n ≡ Some format
    → sizes_at table k n ≡ Some sizes → (sizes.whole.uncompressed.most ≤ header_limit) × (sizes.whole.compressed.most ≤ 2 ^ 18)
whole_small methods table are k n format sizes at there =
    let p = placed methods k n format at in
    let s = sized table k n sizes there in
    let rules = by-rules methods table are in
    let here = at_level methods table k n format sizes p s in
    let up = (rules.of_method p.method format s.whole sizes here Uncompressed).most in
    let down = (rules.of_method p.method format s.whole sizes here Compressed).most in
    let limits = within_limits s.whole.whole (are.fine.within k p.method s.whole p.method_at s.whole_at) in
    let first : s.whole.whole.uncompressed.most ≤ header_limit = limits.0 in
    let second : s.whole.whole.compressed.most ≤ 2 ^ 18 = limits.1 in
    (omega (arith, up), omega (arith, down))

-- no filling fits whose lengths do not lie in the bounds of its format
pub never_unbounded : LengthsLieInBounds → (methods : List Method) (table : List MethodSizes) → AreSizes methods table → (k : ℕ) (args : List ℤ) (f : Filling) (sizes : FormatSizes)
    → sizes_at table k (out-Filling f).format ≡ Some sizes → (LengthsLie sizes f → ⊥) → NeverFits methods k args f
never_unbounded law methods table are k args f sizes there wrong ctx path fit =
    let s = sized table k (out-Filling f).format sizes there in
    wrong (law methods table are ctx k args path f fit s.whole sizes s.whole_at s.sizes_is).0

-- nor one with a side above the limit of bits
pub never_long : (p : Resolved) → IsSound p → (k : ℕ) (args : List ℤ) (f : Filling) → (2 ^ 31 ≤ length (header f)) ⊎ (2 ^ 31 ≤ length (packed f)) → NeverFits p.methods k args f
never_long p sound k args f (inl above) ctx path fit = let s = short_sides p.methods p.sizes sound.sized ctx k args path f fit in absurd (omega (arith, s.0, above))
never_long p sound k args f (inr above) ctx path fit = let s = short_sides p.methods p.sizes sound.sized ctx k args path f fit in absurd (omega (arith, s.1, above))
