-- Formats that call alike, by what was told of their fields.
use Rattle.std.proofs.Common.{◌≡◌, ◌∙◌, refl, sym, ap, subst, rules, ℕ, ◌≤◌, List, length}
use Rattle.std.specs.Prelude.{Option, Some, None, slice_get}
use Rattle.sem_profile.specs.declared.profile.Field.{Field}
use Rattle.sem_profile.specs.declared.profile.Format.{Format}
use Rattle.sem_profile.specs.declared.profile.Method.{Method}
use Rattle.sem_filling.specs.Fits.{format_at}
use Rattle.sem_filling.proofs.Each.{Before, before_end}
use Rattle.sem_filling.proofs.FitsSized.{one_value, and_then_some}
use Rattle.sem_elsewhere.specs.Paths.{CallAlike}
use Rattle.sem_pages.specs.Alike.{AreFormatsAlike, CallAs, Calls, OtherCalls}

module _ (methods : List Method) (each : (k : ℕ) (m : Method) → slice_get methods k ≡ Some m → AreFormatsAlike m.formats) where
  -- of two formats of a method
  two_alike : (k n j : ℕ) (f g : Format) → format_at methods k n ≡ Some f → format_at methods k j ≡ Some g → CallAs f.fields g.fields
  two_alike k n j f g f_is g_is =
      let a = and_then_some (λ (m : Method). slice_get m.formats n) (slice_get methods k) f f_is in
      let b = and_then_some (λ (m : Method). slice_get m.formats j) (slice_get methods k) g g_is in
      let one : b.0 ≡ a.0 = one_value (slice_get methods k) b.0 a.0 b.1 a.1 in
      each k a.0 a.1 n f a.2 j g (ap (λ (m : Method). slice_get m.formats j) (sym one) ∙ b.2)

  other_is : (j : ℕ) (o : Option Field) (e : Field) → o ≡ Some e → OtherCalls j o → Calls j e
  other_is j o e is other = subst (Calls j) (one_value o other.0 e other.1 is) other.2

  alike : CallAlike methods
  alike = record {
    same = λ k n m i j es f g d e f_is g_is d_at e_at other calls. other_is j (slice_get g.fields i) e e_at (two_alike k n m f g f_is g_is i d d_at j (es, calls)).1;
    no_local = λ k n i j es f d f_is d_at local calls. (two_alike k n n f f f_is f_is i d d_at j (es, calls)).0 local;
  }

pub alike_by : (methods : List Method) (n : ℕ) → length methods ≤ n → Before (λ k m. AreFormatsAlike m.formats) methods n → CallAlike methods
alike_by methods n le before = alike methods (before_end (λ k m. AreFormatsAlike m.formats) methods n le before)

-- what calls as others calls as what those call as
as_those : (ds es fs : List Field) → CallAs ds es → CallAs es fs → CallAs ds fs
as_those ds es fs one two i d at k calls =
    let there = one i d at k calls in
    let other = there.1 in
    (there.0, (two i other.0 other.1 k other.2).1)

-- formats of which each calls as some fields, and those as each
pub alike_as : (first : List Field) (formats : List Format) (n : ℕ) → length formats ≤ n → Before (λ j f. CallAs f.fields first × CallAs first f.fields) formats n → AreFormatsAlike formats
alike_as first formats n le before j f f_is m g g_is =
    let each = before_end (λ j f. CallAs f.fields first × CallAs first f.fields) formats n le before in
    as_those f.fields first g.fields (each j f f_is).0 (each m g g_is).1
