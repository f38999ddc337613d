-- The names of parts are shown in one line each.
use Rattle.std.proofs.Common.{◌≡◌, ◌≤◌, ℕ, ◌+◌, ◌/◌, ◌%◌, ◌==◌, ◌||◌, Bool, true, false, not, List, [], ◌∷◌, refl, if◌then◌else◌, codes, take, nat_lt, arith}
use Rattle.std.specs.Char.{encode_utf8, is_control}
use Rattle.std.specs.List.{flat_map}
use Rattle.std.specs.Str.{chars, is_utf8}
use Rattle.std.proofs.lemmas.Bool.Decides.{nat_tests}
use Rattle.tool_input.specs.declared.bundle.BadPart.{BadPart}
use Rattle.tool_input.specs.declared.bundle.BadPart.TheVariants.{Front, Named}
use Rattle.tool_input.specs.Bundle.{BlamesPart, escaped, is_hidden, is_long, is_unseen, shown_character, shown_name, shown_text}
use Rattle.tool_input.specs.OneLine.{IsLine, is_line}
use Rattle.tool_input.proofs.OneLineLemmas.{above, digits_in, joined}

escaped_line : (c : ℕ) → IsLine (escaped c)
escaped_line c = joined (joined front (digits_in 16 c)) end
  where
    front : IsLine (92 ∷ codes "u{")
    front = record { no_feed = refl }

    end : IsLine (codes "}")
    end = record { no_feed = refl }

other_high : (c : ℕ) → is_control c ≡ false → 11 ≤ c
other_high c h = grind (arith, nat_tests)

-- the octets of a character past ASCII
octet_high : (least x : ℕ) → 128 ≤ least → not (least + x == 10) ≡ true
octet_high least x h = above (least + x) (omega arith)

encoded_line : (c : ℕ) → is_control c ≡ false → is_line (encode_utf8 c) ≡ true
unfolding encode_utf8
encoded_line c h = by_length (nat_lt c 128) (nat_lt c 2048) (nat_lt c 65536)
  where
    next : ℕ → ℕ
    next bits = 128 + bits % 64

    by_length : (one two three : Bool) → is_line (if one then c ∷ [] else (if two then (192 + c / 64) ∷ next c ∷ [] else (if three then (224 + c / 4096) ∷ next (c / 64) ∷ next c ∷ [] else (240 + c / 262144) ∷ next (c / 4096) ∷ next (c / 64) ∷ next c ∷ []))) ≡ true
    by_length true two three = rw (above c (other_high c h)) refl
    by_length false true three = rw (octet_high 192 (c / 64) (omega arith), octet_high 128 (c % 64) (omega arith)) refl
    by_length false false true = rw (octet_high 224 (c / 4096) (omega arith), octet_high 128 (c / 64 % 64) (omega arith), octet_high 128 (c % 64) (omega arith)) refl
    by_length false false false = rw (octet_high 240 (c / 262144) (omega arith), octet_high 128 (c / 4096 % 64) (omega arith), octet_high 128 (c / 64 % 64) (omega arith), octet_high 128 (c % 64) (omega arith)) refl

character_line : (c : ℕ) → IsLine (shown_character c)
character_line c = by_test (is_unseen c) refl
  where
    no_control : (a b : Bool) → (a || b) ≡ false → a ≡ false
    no_control false b e = refl
    no_control true b e = absurd (cc)

    by_test : (b : Bool) → is_unseen c ≡ b → IsLine (if b then escaped c else encode_utf8 c)
    by_test true e = escaped_line c
    by_test false e = record { no_feed = encoded_line c (no_control (is_control c) (is_hidden c) e) }

characters_line : (cs : List ℕ) → IsLine (flat_map shown_character cs)
characters_line [] = record { no_feed = refl }
characters_line (c ∷ cs) = joined (character_line c) (characters_line cs)

text_line : (text : List ℕ) → IsLine (shown_text text)
text_line text = joined (characters_line (take 80 (chars text))) (dots (is_long text))
  where
    dots : (b : Bool) → IsLine (if b then codes ".." else [])
    dots true = record { no_feed = refl }
    dots false = record { no_feed = refl }

pub shown_line : (input : List ℕ) (bad : BadPart) → BlamesPart input bad → IsLine (shown_name bad)
shown_line input Front h = record { no_feed = refl }
shown_line input (Named name) h = by_test (is_utf8 name.now)
  where
    by_test : (b : Bool) → IsLine (if b then shown_text name.now else codes "-")
    by_test true = text_line name.now
    by_test false = record { no_feed = refl }
