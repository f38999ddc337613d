-- The fields of a filling as tokens, one level at a time.
use Rattle.std.proofs.Common.{◌≡◌, refl, sym, ◌∙◌, ap, ℕ, ◌+◌, ◌<◌, List, [], ◌∷◌, ◌++◌, append_assoc, get_or, length, map, option_map}
use Rattle.std.specs.Prelude.{Option, Some, None, flat_map}
use Rattle.std.specs.List.{enumerate_from}
use Rattle.json.specs.Token.{Token}
use Rattle.sem_filling.specs.Fillings.{fields_of, inner_of, sides_of}
use Rattle.sem_filling.specs.declared.filling.Filling.{Filling, fold_out-Filling, out-Filling}
use Rattle.sem_filling.specs.declared.filling.FilledField.{FilledField, out-FilledField, fold_out-FilledField, fold-FilledField, map-FilledField}
use Rattle.sem_profile.specs.declared.profile.Encoding.{Encoding}
use Rattle.sem_profile.specs.declared.profile.Method.{Method}
use Rattle.tool_names.specs.Names.{callee, encoding_at}
use Rattle.tool_names.proofs.TableLists.{Goes, goes_on}
use Rattle.tool_items.specs.FieldObjects.{Listed, both_tokens, field_tokens, inner_tokens, level_tokens, listed}

-- the number of a filling's format
abbrev pub format_in : Filling → ℕ
format_in f = (out-Filling f).format

-- a field's own tokens, and then those of the filling inside it
abbrev pub tokens_at : List Method → Option Encoding → ℕ → FilledField → List Token
tokens_at methods encoding depth g =
    field_tokens methods encoding depth (sides_of g).declared (sides_of g).uncompressed (sides_of g).compressed (option_map format_in (inner_of g))
    ++ inner_tokens (callee encoding) depth (option_map (listed methods) (inner_of g))

module _ (methods : List Method) where
  abbrev Both : Type 0
  Both = Option Encoding → ℕ → List Token

  format_is : (f : Filling) → (listed methods f).format ≡ format_in f
  format_is f = ap (λ (l : Listed). l.format) (fold_out-Filling Both Listed (both_tokens methods) (level_tokens methods) f)

  formats_are : (o : Option Filling) → option_map (λ (l : Listed). l.format) (option_map (listed methods) o) ≡ option_map format_in o
  formats_are None = refl
  formats_are (Some f) = ap Some (format_is f)

  -- m gives what is listed of the filling inside a field
  inside : (m : Option Filling → Option Listed) → m None ≡ None → ((f : Filling) → m (Some f) ≡ Some (listed methods f)) → (o : Option Filling) → m o ≡ option_map (listed methods) o
  inside m none some None = none
  inside m none some (Some f) = some f

  field_is : (g : FilledField) (encoding : Option Encoding) (depth : ℕ) → fold-FilledField Both Listed (both_tokens methods) (level_tokens methods) g encoding depth ≡ tokens_at methods encoding depth g
  field_is g encoding depth =
      let s = sides_of g in
      ap (λ h. h encoding depth) (fold_out-FilledField Both Listed (both_tokens methods) (level_tokens methods) g)
      ∙ ap (λ (o : Option Listed). field_tokens methods encoding depth s.declared s.uncompressed s.compressed (option_map (λ (l : Listed). l.format) o) ++ inner_tokens (callee encoding) depth o)
      (inside (λ o. (map-FilledField FilledField Filling Both Listed (fold-FilledField Both Listed (both_tokens methods) (level_tokens methods)) (listed methods) (record (out-FilledField g) { inner = o })).inner)
      refl (λ f. refl) (inner_of g))
      ∙ ap (λ o. field_tokens methods encoding depth s.declared s.uncompressed s.compressed o ++ inner_tokens (callee encoding) depth (option_map (listed methods) (inner_of g))) (formats_are (inner_of g))

  fields_are : (encodings : ℕ → Option Encoding) (depth : ℕ) (n : ℕ) (gs : List FilledField) →
      flat_map (λ p. p.1 (encodings p.0) depth) (enumerate_from n (map (fold-FilledField Both Listed (both_tokens methods) (level_tokens methods)) gs)) ≡ flat_map (λ p. tokens_at methods (encodings p.0) depth p.1) (enumerate_from n gs)
  fields_are encodings depth n [] = refl
  fields_are encodings depth n (g ∷ gs) = λ i. field_is g (encodings n) depth i ++ fields_are encodings depth (n + 1) gs i

  -- the tokens of a filling are those of each field, in field order
  pub tokens_are : (f : Filling) (k : ℕ) (depth : ℕ) → (listed methods f).tokens k depth ≡ flat_map (λ p. tokens_at methods (encoding_at methods k (format_in f) p.0) depth p.1) (enumerate_from 0 (fields_of f))
  tokens_are f k depth =
      ap (λ (l : Listed). l.tokens k depth) (fold_out-Filling Both Listed (both_tokens methods) (level_tokens methods) f)
      ∙ fields_are (encoding_at methods k (format_in f)) depth 0 (fields_of f)

-- ---- field by field

module _ (methods : List Method) (k format depth : ℕ) where
  abbrev pub at_each : ℕ × FilledField → List Token
  at_each p = tokens_at methods (encoding_at methods k format p.0) depth p.1

  -- a field's own tokens were added, and then those inside it
  pub adds : (xs : List FilledField) (i : ℕ) (x : FilledField) (e : Option Encoding) (so_far mid next whole inner : List Token) → i < length xs → x ≡ get_or xs i x → Goes at_each xs i so_far whole → e ≡ encoding_at methods k format i
      → mid ≡ so_far ++ field_tokens methods e depth (sides_of x).declared (sides_of x).uncompressed (sides_of x).compressed (option_map format_in (inner_of x))
      → inner ≡ inner_tokens (callee e) depth (option_map (listed methods) (inner_of x)) → next ≡ mid ++ inner → Goes at_each xs (i + 1) next whole
  adds xs i x e so_far mid next whole inner lt at so same own inside more =
      let first = field_tokens methods e depth (sides_of x).declared (sides_of x).uncompressed (sides_of x).compressed (option_map format_in (inner_of x)) in
      let then = inner_tokens (callee e) depth (option_map (listed methods) (inner_of x)) in
      goes_on at_each xs i x so_far next whole lt at so (more ∙ (λ j. own j ++ inside j) ∙ append_assoc so_far first then ∙ ap (λ z. so_far ++ tokens_at methods z depth x) same)

  nothing : (called : Option ℕ) → [] ≡ inner_tokens called depth None
  nothing None = refl
  nothing (Some j) = refl

  -- nothing is inside
  pub none_inside : (e : Option Encoding) (o : Option Filling) → o ≡ None → [] ≡ inner_tokens (callee e) depth (option_map (listed methods) o)
  none_inside e o is = nothing (callee e) ∙ ap (λ f. inner_tokens (callee e) depth (option_map (listed methods) f)) (sym is)

  -- nothing is called
  pub none_called : (e : Option Encoding) (o : Option Filling) → callee e ≡ None → [] ≡ inner_tokens (callee e) depth (option_map (listed methods) o)
  none_called e o is = ap (λ called. inner_tokens called depth (option_map (listed methods) o)) (sym is)

  pub called_inside : (e : Option Encoding) (o : Option Filling) (j further : ℕ) (f : Filling) → callee e ≡ Some j → o ≡ Some f → further ≡ depth + 1 → (listed methods f).tokens j further ≡ inner_tokens (callee e) depth (option_map (listed methods) o)
  called_inside e o j further f is has far = ap (λ d. (listed methods f).tokens j d) far ∙ (λ i. inner_tokens (sym is i) depth (option_map (listed methods) (sym has i)))
