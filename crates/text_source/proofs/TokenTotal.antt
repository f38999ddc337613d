-- Each text has tokens or a fault.
use Rattle.std.proofs.Common.{ℕ, zero, suc, ◌<◌, ◌⊎◌, inl, inr, List, [], ◌∷◌, ◌++◌, length, Option, Some, None, Ok, Err, refl, arith}
use Rattle.text_source.specs.declared.fault.Fault.{Fault}
use Rattle.text_source.specs.declared.token.TokenKind.{TokenKind}
use Rattle.text_source.specs.declared.token.Token.{Token}
use Rattle.text_source.specs.Lexical.{Lexed, IsLexeme, IsStopped, span_of}
use Rattle.text_source.specs.Scan.{Found, lexeme}
use Rattle.text_source.proofs.LexicalFronts.{Front, front_start, front_gap, front_token, front_lexes, gap_len, token_len}
use Rattle.text_source.proofs.LexicalMeaning.{Meant, meant_at}

abbrev Each : List ℕ → Type 0
Each text = ((ts : List Token) × Lexed text ts) ⊎ ((fault : Fault) × IsStopped text fault)

-- by what is found at the front of what is left, where `on` goes on from what is left after it
found_from : (text from : List ℕ) (front : List Token) → Front text from front → (r : Found) → Meant from r
    → ((to : List ℕ) (more : List Token) → length to < length from → Front text to more → Each text) → Each text
found_from text from front f (Ok p) h on = by_kind p.0 p.1 h
  where
    by_kind : (o : Option TokenKind) (to : List ℕ) → IsLexeme o from to → Each text
    by_kind None to g = on to front (gap_len g) (front_gap text from to front f g)
    by_kind (Some kind) to g = on to (front ++ record { kind = kind; span = span_of (length text) from to } ∷ []) (token_len g) (front_token text from to front kind f g)
found_from text from front f (Err e) h on =
    inr (
      record { kind = e.0; at = span_of (length text) e.1 e.2 },
      record { rest = from; front = front; at = e.1; to = e.2; lexes = front_lexes text from front f; stops = h; place = refl },
    )

each_from : (n : ℕ) (text from : List ℕ) (front : List Token) → length from < n → Front text from front → Each text
each_from zero text from front lt f = absurd (omega arith)
each_from (suc n) text [] front lt f = inl (front, front_lexes text [] front f)
each_from (suc n) text (c ∷ cs) front lt f =
    found_from text (c ∷ cs) front f (lexeme (c ∷ cs)) (meant_at (c ∷ cs) (lexeme (c ∷ cs)) (omega arith) refl)
    (λ to more less g. each_from n text to more (omega arith) g)

pub every_text : (text : List ℕ) → Each text
every_text text = each_from (suc (length text)) text text [] (omega arith) (front_start text)
