-- The rows of a filling, one level at a time.
use Rattle.std.proofs.Common.{◌≡◌, refl, ◌∙◌, ap, ℕ, ◌+◌, List, [], ◌∷◌, ◌++◌, map, option_map}
use Rattle.std.specs.Prelude.{Option, Some, None, flat_map}
use Rattle.std.specs.List.{enumerate_from}
use Rattle.sem_filling.specs.Fillings.{fields_of, inner_of, sides_of}
use Rattle.sem_filling.specs.declared.filling.Filling.{Filling, fold_out-Filling, out-Filling}
use Rattle.sem_filling.specs.declared.filling.FilledField.{FilledField, out-FilledField, fold_out-FilledField, fold-FilledField, map-FilledField}
use Rattle.sem_profile.specs.declared.profile.Encoding.{Encoding}
use Rattle.sem_profile.specs.declared.profile.Method.{Method}
use Rattle.tool_items.specs.Fields.{Listed, field_row, field_rows, inner_rows, level_rows, listed}
use Rattle.tool_names.specs.Names.{callee, encoding_at}
use Rattle.tool_names.specs.Table.{Row}

-- the number of a filling's format
abbrev pub format_in : Filling → ℕ
format_in f = (out-Filling f).format

-- a field's own row, and then those of the filling inside it
abbrev pub rows_at : List Method → Option Encoding → List ℕ → FilledField → List Row
rows_at methods encoding indent g =
    field_row methods encoding indent (sides_of g).declared (sides_of g).uncompressed (sides_of g).compressed (option_map format_in (inner_of g))
    ∷ inner_rows (callee encoding) indent (option_map (listed methods) (inner_of g))

module _ (methods : List Method) where
  abbrev Rows : Type 0
  Rows = Option Encoding → List ℕ → List Row

  format_is : (f : Filling) → (listed methods f).format ≡ format_in f
  format_is f = ap (λ (l : Listed). l.format) (fold_out-Filling Rows Listed (field_rows methods) (level_rows methods) f)

  formats_are : (o : Option Filling) → option_map (λ (l : Listed). l.format) (option_map (listed methods) o) ≡ option_map format_in o
  formats_are None = refl
  formats_are (Some f) = ap Some (format_is f)

  -- m gives what is listed of the filling inside a field
  inside : (m : Option Filling → Option Listed) → m None ≡ None → ((f : Filling) → m (Some f) ≡ Some (listed methods f)) → (o : Option Filling) → m o ≡ option_map (listed methods) o
  inside m none some None = none
  inside m none some (Some f) = some f

  field_is : (g : FilledField) (encoding : Option Encoding) (indent : List ℕ) → fold-FilledField Rows Listed (field_rows methods) (level_rows methods) g encoding indent ≡ rows_at methods encoding indent g
  field_is g encoding indent =
      let s = sides_of g in
      ap (λ h. h encoding indent) (fold_out-FilledField Rows Listed (field_rows methods) (level_rows methods) g)
      ∙ ap (λ (o : Option Listed). field_row methods encoding indent s.declared s.uncompressed s.compressed (option_map (λ (l : Listed). l.format) o) ∷ inner_rows (callee encoding) indent o)
      (inside (λ o. (map-FilledField FilledField Filling Rows Listed (fold-FilledField Rows Listed (field_rows methods) (level_rows methods)) (listed methods) (record (out-FilledField g) { inner = o })).inner)
      refl (λ f. refl) (inner_of g))
      ∙ ap (λ o. field_row methods encoding indent s.declared s.uncompressed s.compressed o ∷ inner_rows (callee encoding) indent (option_map (listed methods) (inner_of g))) (formats_are (inner_of g))

  fields_are : (encodings : ℕ → Option Encoding) (indent : List ℕ) (n : ℕ) (gs : List FilledField) →
      flat_map (λ p. p.1 (encodings p.0) indent) (enumerate_from n (map (fold-FilledField Rows Listed (field_rows methods) (level_rows methods)) gs)) ≡ flat_map (λ p. rows_at methods (encodings p.0) indent p.1) (enumerate_from n gs)
  fields_are encodings indent n [] = refl
  fields_are encodings indent n (g ∷ gs) = λ i. field_is g (encodings n) indent i ++ fields_are encodings indent (n + 1) gs i

  -- the rows of a filling are those of each field, in field order
  pub rows_are : (f : Filling) (k : ℕ) (indent : List ℕ) → (listed methods f).rows k indent ≡ flat_map (λ p. rows_at methods (encoding_at methods k (format_in f) p.0) indent p.1) (enumerate_from 0 (fields_of f))
  rows_are f k indent =
      ap (λ (l : Listed). l.rows k indent) (fold_out-Filling Rows Listed (field_rows methods) (level_rows methods) f)
      ∙ fields_are (encoding_at methods k (format_in f)) indent 0 (fields_of f)
