-- The words in a part, as the code reads them.
use Rattle.std.proofs.Common.{◌≡◌, ◌∙◌, ℕ, ◌<◌, List, [], ◌∷◌, Option, None, Some, refl, sym, ap, length, option_map, Bor, map, ◌==◌, arith, get_or}
use Rattle.std.specs.Prelude.{option_and_then, filter, not, if◌then◌else◌}
use Rattle.std.specs.List.{slice_split}
use Rattle.std.specs.Str.{IsUtf8}
use Rattle.std.specs.Str.Lines.{lines}
use Rattle.std.proofs.lemmas.List.{length-map}
use Rattle.std.proofs.lemmas.Str.{is_utf8-from_IsUtf8}
use Rattle.tool_input.specs.PartWords.{words_in, words_of_line}
use Rattle.tool_input.proofs.BundleNames.{not_utf8}

-- the words in a part
pub words_there : (text : Option (Bor (List ℕ))) (octets : Bor (List ℕ)) (words : Option (List (List ℕ))) → text ≡ Some octets → words ≡ words_in octets.now → words ≡ option_and_then words_in (option_map (λ t. t.now) text)
words_there text octets words is e = e ∙ sym (ap (λ (o : Option (Bor (List ℕ))). option_and_then words_in (option_map (λ t. t.now) o)) is)

pub none_in_other : (octets : List ℕ) → ¬ (IsUtf8 octets) → None ≡ words_in octets
none_in_other octets bad = sym (ap (λ b. if b then words_of_line (filter (λ line. not (length line == 0)) (lines octets)) else None) (not_utf8 octets bad))

words_in_text : (octets : List ℕ) → IsUtf8 octets → words_in octets ≡ words_of_line (filter (λ line. not (length line == 0)) (lines octets))
words_in_text octets utf8 = ap (λ b. if b then words_of_line (filter (λ line. not (length line == 0)) (lines octets)) else None) (is_utf8-from_IsUtf8 octets utf8)

none_of_lines : (lines : List (List ℕ)) → (length lines ≡ 1 → ⊥) → None ≡ words_of_line lines
none_of_lines [] other = refl
none_of_lines (line ∷ []) other = absurd (other refl)
none_of_lines (line ∷ next ∷ more) other = refl

one_of_lines : (lines : List (List ℕ)) (d : List ℕ) → length lines ≡ 1 → Some (slice_split (λ octet. octet == 32) (get_or lines 0 d)) ≡ words_of_line lines
one_of_lines [] d one = absurd (omega arith)
one_of_lines (line ∷ []) d one = refl
one_of_lines (line ∷ next ∷ more) d one = absurd (omega arith)

get_or-shown : (found : List (Bor (List ℕ))) (d : Bor (List ℕ)) → 0 < length found → get_or (map (λ line. line.now) found) 0 d.now ≡ (get_or found 0 d).now
get_or-shown [] d some = absurd (omega arith)
get_or-shown (line ∷ found) d some = refl

-- lines that were read, of a text
module _ (octets text : List ℕ) (found : List (Bor (List ℕ))) (utf8 : IsUtf8 octets) (is : text ≡ octets) (lines_are : map (λ line. line.now) found ≡ filter (λ line. not (length line == 0)) (lines text)) where
  words_are : words_of_line (map (λ line. line.now) found) ≡ words_in octets
  words_are = ap words_of_line lines_are ∙ ap (λ t. words_of_line (filter (λ line. not (length line == 0)) (lines t))) is ∙ sym (words_in_text octets utf8)

  size : length (map (λ line. line.now) found) ≡ length found
  size = simp length-map

  pub none_of_text : (length found ≡ 1 → ⊥) → None ≡ words_in octets
  none_of_text other = none_of_lines (map (λ line. line.now) found) (λ e. other (sym size ∙ e)) ∙ words_are

  pub one_of_text : (words : List (List ℕ)) (line : Bor (List ℕ)) → length found ≡ 1 → line ≡ get_or found 0 line → words ≡ slice_split (λ octet. octet == 32) line.now → Some words ≡ words_in octets
  one_of_text words line one is_line cut =
      let some : 0 < length found = omega arith in
      let now : line.now ≡ get_or (map (λ line. line.now) found) 0 line.now = ap (λ (l : Bor (List ℕ)). l.now) is_line ∙ sym (get_or-shown found line some) in
      ap Some (cut ∙ ap (slice_split (λ octet. octet == 32)) now) ∙ one_of_lines (map (λ line. line.now) found) line.now (size ∙ one) ∙ words_are
