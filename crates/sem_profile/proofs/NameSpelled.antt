-- A name is text: its octets are those of ASCII.
use Rattle.std.proofs.Common.{◌≡◌, ℕ, zero, suc, ◌<◌, ◌&&◌, Bool, true, false, List, [], ◌∷◌, refl, arith}
use Rattle.std.specs.Char.{is_ascii_alphabetic}
use Rattle.std.specs.List.{list_all}
use Rattle.std.specs.Str.{IsAscii, IsUtf8}
use Rattle.std.proofs.lemmas.Bool.{false≢true}
use Rattle.std.proofs.lemmas.Bool.Decides.{nat_tests}
use Rattle.std.proofs.lemmas.Str.{IsUtf8-from_ascii}
use Rattle.text_source.specs.Names.{is_name, is_name_octet}

and_parts : (a b : Bool) → (a && b) ≡ true → (a ≡ true) × (b ≡ true)
and_parts true b h = (refl, h)
and_parts false b h = absurd (false≢true h)

octet_small : (c : ℕ) → is_name_octet c ≡ true → c < 128
octet_small c h = grind (arith, nat_tests)

letter_small : (c : ℕ) → is_ascii_alphabetic c ≡ true → c < 128
letter_small c h = grind (arith, nat_tests)

octets_ascii : (xs : List ℕ) → list_all is_name_octet xs ≡ true → IsAscii xs
octets_ascii [] h i = omega arith
octets_ascii (x ∷ xs) h zero = octet_small x (and_parts (is_name_octet x) (list_all is_name_octet xs) h).0
octets_ascii (x ∷ xs) h (suc i) = octets_ascii xs (and_parts (is_name_octet x) (list_all is_name_octet xs) h).1 i

name_ascii : (xs : List ℕ) → is_name xs ≡ true → IsAscii xs
name_ascii [] h i = absurd (false≢true h)
name_ascii (x ∷ xs) h zero = letter_small x (and_parts (is_ascii_alphabetic x) (list_all is_name_octet xs) h).0
name_ascii (x ∷ xs) h (suc i) = octets_ascii xs (and_parts (is_ascii_alphabetic x) (list_all is_name_octet xs) h).1 i

pub name_utf8 : (xs : List ℕ) → is_name xs ≡ true → IsUtf8 xs
name_utf8 xs h = IsUtf8-from_ascii xs (name_ascii xs h)
