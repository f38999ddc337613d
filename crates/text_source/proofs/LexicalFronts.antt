-- The tokens so far, in the words of the code.
use Rattle.std.proofs.Common.{◌≡◌, ◌==◌, ℕ, ◌<◌, List, [], ◌∷◌, ◌++◌, length, Option, Some, None, Result, Ok, Err, true, sym, ap, subst, ◌∙◌, append_assoc, length-append, arith}
use Rattle.std.proofs.lemmas.List.{append-nil}
use Rattle.std.proofs.lemmas.Bool.{eqb-true}
use Rattle.std.specs.Borrow.{Bor}
use Rattle.std.specs.Prelude.{MatchResult}
use Rattle.text_source.specs.declared.lexer.Stop.{Stop}
use Rattle.text_source.specs.declared.span.Span.{Span}
use Rattle.text_source.specs.declared.token.TokenKind.{TokenKind}
use Rattle.text_source.specs.declared.token.Mark.{Mark}
use Rattle.text_source.specs.declared.token.Token.{Token}
use Rattle.text_source.specs.Lexical as s
use Rattle.text_source.specs.Lexical.{Lexes, Lexed, IsStopped, span_of, IsGap, IsToken, IsNumeral, IsLexeme, Stops, spelling}
use Rattle.text_source.specs.Scan.{lexeme, seen}
use Rattle.text_source.proofs.LexicalRuns.{run_len}
use Rattle.text_source.proofs.LexicalWords.{closes_len, spelling_some}
use Rattle.text_source.proofs.LexicalMeaning.{meant_at}

pub record Front (text rest : List ℕ) (tokens : List Token) : Type 0 where
  pub goes_on : (to : List ℕ) (more : List Token) → Lexes (length text) rest to more → Lexes (length text) text to (tokens ++ more)

pub front_start : (text : List ℕ) → Front text text []
front_start text = record { goes_on = λ to more h. h }

pub front_gap : (text rest after : List ℕ) (tokens : List Token) → Front text rest tokens → IsGap rest after → Front text after tokens
front_gap text rest after tokens f g = record { goes_on = λ to more h. f.goes_on to more (s.gap g h) }

pub front_token : (text rest after : List ℕ) (tokens : List Token) (kind : TokenKind) → Front text rest tokens → IsToken kind rest after
    → Front text after (tokens ++ record { kind = kind; span = span_of (length text) rest after } ∷ [])
front_token text rest after tokens kind f g = record {
  goes_on = λ to more h.
      let t : Token = record { kind = kind; span = span_of (length text) rest after } in
      subst (λ (ts : List Token). Lexes (length text) text to ts) (sym (append_assoc tokens (t ∷ []) more)) (f.goes_on to (t ∷ more) (s.token g h));
}

pub front_lexes : (text rest : List ℕ) (tokens : List Token) → Front text rest tokens → Lexes (length text) text rest tokens
front_lexes text rest tokens f = subst (λ (ts : List Token). Lexes (length text) text rest ts) (append-nil tokens) (f.goes_on rest [] s.done)

-- ---- each takes an octet

pub gap_len : {from to : List ℕ} → IsGap from to → length to < length from
gap_len (s.space e) = omega arith
gap_len (s.line h) = let le = run_len h in omega arith
gap_len (s.block h) = let lt = closes_len h in omega arith

pub numeral_len : {base : ℕ} {from digits to : List ℕ} → IsNumeral base from digits to → length to < length from
numeral_len (s.decimal e p h) = let le = run_len h in omega arith
numeral_len (s.binary e h) = let le = run_len h in omega arith
numeral_len (s.hexadecimal e h) = let le = run_len h in omega arith

sign_len : (mark : Mark) (to : List ℕ) → length to < length (spelling mark ++ to)
sign_len mark to = rw (length-append (spelling mark) to) (let some = spelling_some mark in omega arith)

pub token_len : {kind : TokenKind} {from to : List ℕ} → IsToken kind from to → length to < length from
token_len (s.name e h never) = let le = run_len h in omega arith
token_len (s.word mark r e h is) = let le = run_len h in omega arith
token_len (s.number h f g i) = numeral_len h
token_len (s.bit_text h e f g) = let le = run_len h in omega arith
token_len {to = to} (s.sign mark r e) = sign_len mark to

lexeme_len : (o : Option TokenKind) (from to : List ℕ) → IsLexeme o from to → length to < length from
lexeme_len None from to h = gap_len h
lexeme_len (Some kind) from to h = token_len h

pub next_is : (text : List ℕ) (r : Result (Option TokenKind × Bor (List ℕ)) Stop) → 0 < length text → seen r ≡ lexeme text
    → MatchResult r (λ x. IsLexeme x.0 text x.1.now × (length x.1.now < length text)) (λ stop. Stops stop.kind text stop.at.now stop.to.now)
next_is text (Ok p) h e = let is = meant_at text (seen (Ok p)) h e in (is, lexeme_len p.0 text p.1.now is)
next_is text (Err stop) h e = meant_at text (seen (Err stop)) h e

-- ---- as the code has it

pub kept_gap : (text rest after : List ℕ) (tokens : List Token) (o : Option TokenKind) → Front text rest tokens → IsLexeme o rest after → o ≡ None → Front text after tokens
kept_gap text rest after tokens None f h e = front_gap text rest after tokens f h
kept_gap text rest after tokens (Some kind) f h e = absurd cc

pub kept_token : (text rest after : List ℕ) (tokens more : List Token) (o : Option TokenKind) (kind : TokenKind) (span : Span) → Front text rest tokens → IsLexeme o rest after → o ≡ Some kind
    → span ≡ span_of (length text) rest after → more ≡ tokens ++ record { kind = kind; span = span } ∷ [] → Front text after more
kept_token text rest after tokens more None kind span f h e at is = absurd cc
kept_token text rest after tokens more (Some k) kind span f h e at is =
    let same : k ≡ kind = cc in
    subst (λ (ts : List Token). Front text after ts) (ap (λ (t : Token). tokens ++ t ∷ []) (λ i. record { kind = same i; span = sym at i }) ∙ sym is) (front_token text rest after tokens k f h)

pub is_lexed : (text rest : List ℕ) (tokens : List Token) → Front text rest tokens → (length rest == 0) ≡ true → Lexed text tokens
is_lexed text [] tokens f e = front_lexes text [] tokens f
is_lexed text (c ∷ cs) tokens f e = absurd (omega (arith, eqb-true (length (c ∷ cs)) 0 e))

pub is_stopped : (text rest : List ℕ) (tokens : List Token) (stop : Stop) (span : Span) → Front text rest tokens → Stops stop.kind rest stop.at.now stop.to.now
    → span ≡ span_of (length text) stop.at.now stop.to.now → IsStopped text (record { kind = stop.kind; at = span })
is_stopped text rest tokens stop span f h place = record {
  rest = rest;
  front = tokens;
  at = stop.at.now;
  to = stop.to.now;
  lexes = front_lexes text rest tokens f;
  stops = h;
  place = place;
}
