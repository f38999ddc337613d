-- The method of the values that the code holds is that of the arguments, of which each has one value.
use Rattle.std.proofs.Common.{◌≡◌, ◌∙◌, refl, sym, ap, Bool, List, [], ◌∷◌}
use Rattle.std.specs.Prelude.{ℤ, Option, Some, None}
use Rattle.std.specs.Option.{option_map, option_and_then}
use Rattle.sem_expr.specs.Ranged.{Bounding}
use Rattle.sem_filling.specs.Fits.{crc_values, two_values}
use Rattle.sem_library.specs.Methods as lib
use Rattle.sem_profile.specs.declared.profile.CrcArguments.{CrcArguments}
use Rattle.sem_profile.specs.declared.profile.Library.{Library}
use Rattle.sem_profile.specs.declared.profile.Library.TheVariants as library
use Rattle.sem_reasons.specs.Across.{with_values, crc_with_values, two_valued, method_of}
use Rattle.sem_reasons.specs.Told.{all_pinned, method_in, pinned}
use Rattle.sem_reasons.specs.declared.across.Valued.{Valued}
use Rattle.sem_reasons.specs.declared.across.Valued.TheVariants as valued

two_is : (make : ℤ → ℤ → Valued) (made : ℤ → ℤ → lib.Method) (o q : Option ℤ) (covered : List Bool) → ((x y : ℤ) → method_of (make x y) covered ≡ made x y) → two_values made o q ≡ option_map (λ v. method_of v covered) (two_valued make o q)
two_is make made (Some x) (Some y) covered same = ap Some (sym (same x y))
two_is make made (Some x) None covered same = refl
two_is make made None q covered same = refl

crc_is : (r : Bounding) (crc : CrcArguments) (covered : List Bool) → crc_values covered (all_pinned r (crc.bits ∷ crc.polynomial ∷ crc.initial ∷ crc.length ∷ [])) ≡ option_map (λ v. method_of v covered) (crc_with_values r crc)
crc_is r crc covered = by (pinned r crc.bits) (pinned r crc.polynomial) (pinned r crc.initial) (pinned r crc.length)
  where
    by : (n p i l : Option ℤ) → crc_values covered (option_and_then (λ a. option_map (λ later. a ∷ later) (option_and_then (λ b. option_map (λ later. b ∷ later) (option_and_then (λ c. option_map (λ later. c ∷ later) (option_and_then (λ d. option_map (λ later. d ∷ later) (Some [])) l)) i)) p)) n)
        ≡ option_map (λ v. method_of v covered) (option_and_then (λ a. option_and_then (λ b. option_and_then (λ c. option_map (λ d. valued.Crc a b c d) l) i) p) n)
    by (Some a) (Some b) (Some c) (Some d) = refl
    by (Some a) (Some b) (Some c) None = refl
    by (Some a) (Some b) None l = refl
    by (Some a) None i l = refl
    by None p i l = refl

pub method_valued : (r : Bounding) (l : Library) (covered : List Bool) → method_in r covered l ≡ option_map (λ v. method_of v covered) (with_values r l)
method_valued r (library.UncompressedValue len x) covered = two_is valued.UncompressedValue lib.uncompressed_value (pinned r len) (pinned r x) covered (λ a b. refl)
method_valued r (library.CompressedValue len x) covered = two_is valued.CompressedValue lib.compressed_value (pinned r len) (pinned r x) covered (λ a b. refl)
method_valued r (library.Irregular len) covered = by (pinned r len)
  where
    by : (o : Option ℤ) → option_map lib.irregular o ≡ option_map (λ v. method_of v covered) (option_map valued.Irregular o)
    by (Some x) = refl
    by None = refl
method_valued r library.Static covered = refl
method_valued r (library.Lsb k offset) covered = two_is valued.Lsb lib.lsb (pinned r k) (pinned r offset) covered (λ a b. refl)
method_valued r (library.Crc crc) covered = crc_is r crc covered

pub method_is : (r : Bounding) (l : Library) (v : Valued) (covered : List Bool) → with_values r l ≡ Some v → method_in r covered l ≡ Some (method_of v covered)
method_is r l v covered e = method_valued r l covered ∙ ap (option_map (λ z. method_of z covered)) e

pub no_method : (r : Bounding) (l : Library) (covered : List Bool) → with_values r l ≡ None → method_in r covered l ≡ None
no_method r l covered e = method_valued r l covered ∙ ap (option_map (λ z. method_of z covered)) e
