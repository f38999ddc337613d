-- The table of octets against the definitions, by computing at each octet.
use Rattle.std.proofs.Common.{◌≡◌, ℕ, zero, suc, ◌<◌, Bool, true, false, ◌&&◌, ◌==◌, nat_le, get_or, refl, arith, inl, inr}
use Rattle.std.specs.Bool.{beq}
use Rattle.std.specs.Char.{is_ascii_digit, is_ascii_alphabetic}
use Rattle.std.proofs.lemmas.Bool.{cases_eq}
use Rattle.text_source.specs.declared.lexer.TheConstants.{CLASSES}
use Rattle.text_source.specs.Lexical.{is_word, is_space}

-- the two tests agree below n
agree_below : (ℕ → Bool) → (ℕ → Bool) → ℕ → Bool
agree_below f g zero = true
agree_below f g (suc n) = beq (f n) (g n) && agree_below f g n

both_of : (x y rest : Bool) → (beq x y && rest) ≡ true → (x ≡ y) × (rest ≡ true)
both_of true true rest h = (refl, h)
both_of true false rest h = cc
both_of false true rest h = cc
both_of false false rest h = (refl, h)

agree_at : (f g : ℕ → Bool) (n : ℕ) → agree_below f g n ≡ true → (b : ℕ) → b < n → f b ≡ g b
unfolding agree_below
agree_at f g zero h b lt = absurd (omega arith)
agree_at f g (suc n) h b lt =
    let both = both_of (f n) (g n) (agree_below f g n) h in
    elim (cases_eq b n) [ inl same ↦ rw same both.0 | inr other ↦ agree_at f g n both.1 b (omega arith) ]

pub word_class : (c : ℕ) → c < 256 → nat_le 48 (get_or CLASSES c 0) ≡ is_word c
unfolding agree_below
word_class c h = agree_at (λ k. nat_le 48 (get_or CLASSES k 0)) is_word 256 refl c h

pub space_class : (c : ℕ) → c < 256 → (get_or CLASSES c 0 == 45) ≡ is_space c
unfolding agree_below
space_class c h = agree_at (λ k. get_or CLASSES k 0 == 45) is_space 256 refl c h

pub letter_class : (c : ℕ) → c < 256 → (get_or CLASSES c 0 == 97) ≡ is_ascii_alphabetic c
unfolding agree_below
letter_class c h = agree_at (λ k. get_or CLASSES k 0 == 97) is_ascii_alphabetic 256 refl c h

pub digit_class : (c : ℕ) → c < 256 → (get_or CLASSES c 0 == 48) ≡ is_ascii_digit c
unfolding agree_below
digit_class c h = agree_at (λ k. get_or CLASSES k 0 == 48) is_ascii_digit 256 refl c h
