-- Codes and numbers, one level at a time.
use Rattle.std.proofs.Common.{◌≡◌, refl, ◌∙◌, ap, ℕ, zero, suc, ◌+◌, List, [], ◌∷◌, map}
use Rattle.std.specs.Prelude.{Option, Some, None, option_map, option_and_then, slice_get}
use Rattle.sem_filling.specs.Fillings.{inner_of, fields_of}
use Rattle.sem_filling.specs.declared.filling.Filling.{Filling, out-Filling, fold_out-Filling}
use Rattle.sem_filling.specs.declared.filling.FilledField.{FilledField, out-FilledField, fold_out-FilledField, fold-FilledField, map-FilledField}
use Rattle.sem_filling.specs.declared.filling.FilledField.TheOpen.{Filling-F}
use Rattle.sem_filling.specs.declared.filling.FilledField.TheFolds.{fold-Filling}
use Rattle.sem_profile.specs.declared.profile.Method.{Method}
use Rattle.cert_types.specs.Kept.{Entries}
use Rattle.sem_filling.specs.Fits.{format_at}
use Rattle.cert_candidates.specs.Codes.{Shown, shown_bits, show_field, show, write_plan, plan_code, level_code, code, codes_in, ways_before, plan_number, level_number, number, numbers_in}

module _ {A : Type 0} (step : Filling-F (Shown A) (ℕ → A) → ℕ → A) where
  inside : (m : Option Filling → Option (ℕ → A)) → m None ≡ None → ((f : Filling) → m (Some f) ≡ Some (fold-Filling (Shown A) (ℕ → A) show_field step f)) → (o : Option Filling) → m o ≡ option_map (fold-Filling (Shown A) (ℕ → A) show_field step) o
  inside m none some None = none
  inside m none some (Some f) = some f

  field_is : (g : FilledField) → fold-FilledField (Shown A) (ℕ → A) show_field step g ≡ show (fold-Filling (Shown A) (ℕ → A) show_field step) g
  field_is g =
      fold_out-FilledField (Shown A) (ℕ → A) show_field step g
      ∙ ap (λ (z : Option (ℕ → A)). record { bits = (out-FilledField g).uncompressed; inner = z })
      (inside (λ o. (map-FilledField FilledField Filling (Shown A) (ℕ → A) (fold-FilledField (Shown A) (ℕ → A) show_field step) (fold-Filling (Shown A) (ℕ → A) show_field step) (record (out-FilledField g) { inner = o })).inner)
      refl (λ f. refl) (inner_of g))

  fields_are : (gs : List FilledField) → map (fold-FilledField (Shown A) (ℕ → A) show_field step) gs ≡ map (show (fold-Filling (Shown A) (ℕ → A) show_field step)) gs
  fields_are [] = refl
  fields_are (g ∷ gs) = λ i. field_is g i ∷ fields_are gs i

  pub by_level : (f : Filling) → fold-Filling (Shown A) (ℕ → A) show_field step f
      ≡ step (record { format = (out-Filling f).format; listing = (out-Filling f).listing; fields = map (show (fold-Filling (Shown A) (ℕ → A) show_field step)) (fields_of f) })
  by_level f = fold_out-Filling (Shown A) (ℕ → A) show_field step f
      ∙ ap (λ z. step (record { format = (out-Filling f).format; listing = (out-Filling f).listing; fields = z })) (fields_are (fields_of f))

pub code_is : (methods : List Method) (cert : Entries) (k : ℕ) (f : Filling) →
    code methods cert f k ≡ (out-Filling f).format ∷ plan_code (codes_in methods cert f) (format_at methods k (out-Filling f).format) (write_plan cert k (out-Filling f).format)
code_is methods cert k f = ap (λ h. h k) (by_level (level_code methods cert) f)

pub number_is : (methods : List Method) (cert : Entries) (counts : List ℕ) (k : ℕ) (f : Filling) →
    number methods cert counts f k ≡ ways_before methods cert counts k (out-Filling f).format
    + plan_number counts (numbers_in methods cert counts f) (format_at methods k (out-Filling f).format) (write_plan cert k (out-Filling f).format)
number_is methods cert counts k f = ap (λ h. h k) (by_level (level_number methods cert counts) f)

-- what a field shows of the filling inside it, and of its bits
pub inner_shown : {A : Type 0} (make : Filling → ℕ → A) (gs : List FilledField) (i : ℕ) → option_and_then (λ g. g.inner) (slice_get (map (show make) gs) i) ≡ option_map make (option_and_then inner_of (slice_get gs i))
inner_shown make [] i = refl
inner_shown make (g ∷ gs) zero = refl
inner_shown make (g ∷ gs) (suc i) = inner_shown make gs i

pub bits_shown : {A B : Type 0} (make : Filling → ℕ → A) (other : Filling → ℕ → B) (gs : List FilledField) (i : ℕ) → shown_bits (slice_get (map (show make) gs) i) ≡ shown_bits (slice_get (map (show other) gs) i)
bits_shown make other [] i = refl
bits_shown make other (g ∷ gs) zero = refl
bits_shown make other (g ∷ gs) (suc i) = bits_shown make other gs i
