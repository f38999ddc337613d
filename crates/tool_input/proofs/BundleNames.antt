-- Names of parts as they are shown.
use Rattle.std.proofs.Common.{◌≡◌, ◌∙◌, ℕ, Bool, true, false, List, if◌then◌else◌, refl, ap, Bor, codes}
use Rattle.std.specs.Char.{encode_utf8}
use Rattle.std.specs.Str.{IsUtf8, is_utf8}
use Rattle.std.proofs.lemmas.Str.{IsUtf8-from_is_utf8, is_utf8-from_IsUtf8}
use Rattle.tool_input.specs.declared.bundle.BadPart.{BadPart}
use Rattle.tool_input.specs.declared.bundle.BadPart.TheVariants.{Named}
use Rattle.tool_input.specs.Bundle.{escaped, is_unseen, shown_character, shown_name, shown_text}

pub not_utf8 : (text : List ℕ) → ¬ (IsUtf8 text) → is_utf8 text ≡ false
not_utf8 text bad = by_test (is_utf8 text) refl
  where
    by_test : (b : Bool) → is_utf8 text ≡ b → b ≡ false
    by_test true e = absurd (bad (IsUtf8-from_is_utf8 text e))
    by_test false e = refl

pub name_text : (bad : BadPart) (name : Bor (List ℕ)) → bad ≡ Named name → IsUtf8 name.now → shown_name bad ≡ shown_text name.now
name_text bad name is utf8 =
    ap shown_name is ∙ ap (λ b. if b then shown_text name.now else codes "-") (is_utf8-from_IsUtf8 name.now utf8)

pub name_dash : (bad : BadPart) (name : Bor (List ℕ)) → bad ≡ Named name → ¬ (IsUtf8 name.now) → shown_name bad ≡ codes "-"
name_dash bad name is other = ap shown_name is ∙ ap (λ b. if b then shown_text name.now else codes "-") (not_utf8 name.now other)

pub unseen_shown : (c : ℕ) → is_unseen c ≡ true → shown_character c ≡ escaped c
unseen_shown c is = ap (λ b. if b then escaped c else encode_utf8 c) is

pub other_shown : (c : ℕ) → is_unseen c ≡ false → shown_character c ≡ encode_utf8 c
other_shown c is = ap (λ b. if b then escaped c else encode_utf8 c) is
