-- A text has at most one list of tokens, or one fault.
use Rattle.std.proofs.Common.{◌≡◌, ℕ, ◌<◌, List, [], ◌∷◌, length, Option, Some, None, Result, Ok, Err, refl, sym, ap, subst, ◌∙◌, arith}
use Rattle.std.specs.Prelude.{IfOk, IfErr, MatchResult}
use Rattle.text_source.specs.declared.fault.Fault.{Fault}
use Rattle.text_source.specs.declared.fault.FaultKind.{FaultKind}
use Rattle.text_source.specs.declared.fault.FaultKind.TheVariants as f
use Rattle.text_source.specs.declared.fault.SourceError.{SourceError}
use Rattle.text_source.specs.declared.fault.SourceError.TheVariants as errors
use Rattle.text_source.specs.declared.token.TokenKind.{TokenKind}
use Rattle.text_source.specs.declared.token.Token.{Token}
use Rattle.text_source.specs.Lexical as s
use Rattle.text_source.specs.Lexical.{Lexes, Lexed, IsGap, IsToken, IsLexeme, IsStopped, IsBad, IsLarge, IsOpen, Stops, Refuses, span_of}
use Rattle.text_source.specs.Scan.{Found, lexeme}
use Rattle.text_source.proofs.LexicalFronts.{gap_len, numeral_len, token_len}
use Rattle.text_source.proofs.LexicalFound.{lexeme_found, stop_found}

-- ---- one lexeme

ok_is : (o p : Option TokenKind) (ts us : List ℕ) → ◌≡◌ {A = Found} (Ok (o, ts)) (Ok (p, us)) → (o ≡ p) × (ts ≡ us)
ok_is o p ts us e =
    let pair : ◌≡◌ {A = Option TokenKind × List ℕ} (o, ts) (p, us) = cc in
    (ap (λ (q : Option TokenKind × List ℕ). q.0) pair, ap (λ (q : Option TokenKind × List ℕ). q.1) pair)

-- what begins at one place is one token or gap
one_lexeme : (o p : Option TokenKind) (from to at : List ℕ) → IsLexeme o from to → IsLexeme p from at → (o ≡ p) × (to ≡ at)
one_lexeme o p from to at g h = ok_is o p to at (sym (lexeme_found o from to g) ∙ lexeme_found p from at h)

same_gap : (from to at : List ℕ) → IsGap from to → IsGap from at → to ≡ at
same_gap from to at g h = (one_lexeme None None from to at g h).1

no_gap : (kind : TokenKind) (from to at : List ℕ) → IsGap from to → IsToken kind from at → ⊥
no_gap kind from to at g h = let e : ◌≡◌ {A = Option TokenKind} None (Some kind) = (one_lexeme None (Some kind) from to at g h).0 in absurd cc

pub same_token : (k l : TokenKind) (from to at : List ℕ) → IsToken k from to → IsToken l from at → (k ≡ l) × (to ≡ at)
same_token k l from to at g h =
    let p = one_lexeme (Some k) (Some l) from to at g h in
    let e : ◌≡◌ {A = Option TokenKind} (Some k) (Some l) = p.0 in
    (cc, p.1)

-- ---- one list of tokens

pub unique : (len : ℕ) (from : List ℕ) (ts us : List Token) → Lexes len from [] ts → Lexes len from [] us → ts ≡ us
unique len _ _ us s.done h = ends us h
  where
    ends : (vs : List Token) → Lexes len [] [] vs → [] ≡ vs
    ends _ s.done = refl
    ends vs (s.gap g h) = let lt = gap_len g in absurd (omega arith)
    ends _ (s.token g h) = let lt = token_len g in absurd (omega arith)
unique len from ts us (s.gap {mid = mid} g h) (s.gap {mid = at} g' h') = unique len mid ts us h (subst (λ (vs : List ℕ). Lexes len vs [] us) (sym (same_gap from mid at g g')) h')
unique len from ts _ (s.gap {mid = mid} g h) (s.token {mid = at} {kind = kind} g' h') = absurd (no_gap kind from mid at g g')
unique len from ts _ (s.gap g h) s.done = let lt = gap_len g in absurd (omega arith)
unique len from _ us (s.token {mid = mid} {kind = kind} g h) (s.gap {mid = at} g' h') = absurd (no_gap kind from at mid g' g)
unique len from _ _ (s.token {mid = mid} {kind = k} {ts = ts} g h) (s.token {mid = at} {kind = l} {ts = us} g' h') =
    let p = same_token k l from mid at g g' in
    let rest = unique len mid ts us h (subst (λ (vs : List ℕ). Lexes len vs [] us) (sym p.1) h') in
    (λ i. record { kind = p.0 i; span = span_of len from (p.1 i) } ∷ rest i)
unique len from _ _ (s.token g h) s.done = let lt = token_len g in absurd (omega arith)

-- ---- one fault

-- nothing is found here
abbrev IsRefusedAt : List ℕ → Type 0
IsRefusedAt from = (p : FaultKind × List ℕ × List ℕ) × (lexeme from ≡ Err p)

refused_at : (o : Option TokenKind) (from to : List ℕ) → IsLexeme o from to → IsRefusedAt from → ⊥
refused_at o from to h refused = let e : ◌≡◌ {A = Found} (Ok (o, to)) (Err refused.0) = sym (lexeme_found o from to h) ∙ refused.1 in absurd cc

-- the text is tokens and gaps up to one place alone at which nothing is found
one_place : (len : ℕ) (from rest at : List ℕ) (ts us : List Token) → Lexes len from rest ts → Lexes len from at us → IsRefusedAt rest → IsRefusedAt at → rest ≡ at
one_place len _ rest _ _ _ s.done s.done r q = refl
one_place len from _ at _ us s.done (s.gap {mid = mid} g h) r q = absurd (refused_at None from mid g r)
one_place len from _ at _ _ s.done (s.token {mid = mid} {kind = kind} g h) r q = absurd (refused_at (Some kind) from mid g r)
one_place len from rest _ ts _ (s.gap {mid = mid} g h) s.done r q = absurd (refused_at None from mid g q)
one_place len from rest at ts us (s.gap {mid = mid} g h) (s.gap {mid = mid'} g' h') r q =
    one_place len mid rest at ts us h (subst (λ (vs : List ℕ). Lexes len vs at us) (sym (same_gap from mid mid' g g')) h') r q
one_place len from rest at ts _ (s.gap {mid = mid} g h) (s.token {mid = mid'} {kind = kind} g' h') r q = absurd (no_gap kind from mid mid' g g')
one_place len from rest _ _ _ (s.token {mid = mid} {kind = kind} g h) s.done r q = absurd (refused_at (Some kind) from mid g q)
one_place len from rest at _ us (s.token {mid = mid} {kind = kind} g h) (s.gap {mid = mid'} g' h') r q = absurd (no_gap kind from mid' mid g' g)
one_place len from rest at _ _ (s.token {mid = mid} {kind = k} {ts = ts} g h) (s.token {mid = mid'} {kind = l} {ts = us} g' h') r q =
    one_place len mid rest at ts us h (subst (λ (vs : List ℕ). Lexes len vs at us) (sym (same_token k l from mid mid' g g').1) h') r q

stop_refused : (text : List ℕ) (fault : Fault) (h : IsStopped text fault) → IsRefusedAt h.rest
stop_refused text fault h = ((fault.kind, h.at, h.to), stop_found fault.kind h.rest h.at h.to h.stops)

err_is : (p q : FaultKind × List ℕ × List ℕ) → ◌≡◌ {A = Found} (Err p) (Err q) → p ≡ q
err_is p q e = cc

pub one_fault : (text : List ℕ) (a b : Fault) → IsStopped text a → IsStopped text b → a ≡ b
one_fault text a b g h =
    let place = one_place (length text) text g.rest h.rest g.front h.front g.lexes h.lexes (stop_refused text a g) (stop_refused text b h) in
    let e : (a.kind, g.at, g.to) ≡ (b.kind, h.at, h.to) =
    err_is (a.kind, g.at, g.to) (b.kind, h.at, h.to) (sym (stop_found a.kind g.rest g.at g.to g.stops) ∙ ap lexeme place ∙ stop_found b.kind h.rest h.at h.to h.stops) in
    (λ i. record {
      kind = (e i).0;
      at = (g.place ∙ ap (λ (p : FaultKind × List ℕ × List ℕ). span_of (length text) p.1 p.2) e ∙ sym h.place) i;
    })

bad_some : {from at : List ℕ} → IsBad from at → 0 < length from
bad_some (s.alone e) = omega arith
bad_some (s.half e n) = omega arith
bad_some (s.no_bit e) = omega arith
bad_some (s.no_hex e) = omega arith
bad_some (s.after_number h lt word) = let lt = numeral_len h in omega arith
bad_some (s.in_bits h e) = omega arith

large_some : {from to : List ℕ} → IsLarge from to → 0 < length from
large_some (s.number h le) = let lt = numeral_len h in omega arith
large_some (s.bit_text h lt) = omega arith

open_some : {from : List ℕ} → IsOpen from → 0 < length from
open_some (s.comment never) = omega arith

stop_some : (kind : FaultKind) (from at to : List ℕ) → Stops kind from at to → 0 < length from
stop_some f.Character from at to h = bad_some h.0
stop_some f.Large from at to h = large_some h.1
stop_some f.OpenComment from at to h = open_some h.2
stop_some f.Nesting from at to h = absurd h
stop_some f.EmptyBracket from at to h = absurd h
stop_some f.RepeatedSection from at to h = absurd h
stop_some f.MixedRemainder from at to h = absurd h
stop_some f.TooLong from at to h = absurd h
stop_some f.NotUtf8 from at to h = absurd h
stop_some f.Unexpected from at to h = absurd h
stop_some f.TooManyParts from at to h = absurd h

end_refused : IsRefusedAt []
unfolding lexeme
end_refused = ((f.Character, [], []), refl)

pub no_tokens : (text : List ℕ) (ts : List Token) (fault : Fault) → IsStopped text fault → Lexed text ts → ⊥
no_tokens text ts fault g h =
    let place = one_place (length text) text g.rest [] g.front ts g.lexes h (stop_refused text fault g) end_refused in
    let some = stop_some fault.kind g.rest g.at g.to g.stops in
    let none : length g.rest ≡ 0 = ap (λ (us : List ℕ). length us) place in
    omega arith

-- what is read where a text has these tokens
pub only_tokens : {A : Type 0} (items : A → List Token) (text : List ℕ) (r : Result A SourceError) → IfOk r (λ v. Lexed text (items v)) → IfErr r (Refuses text)
    → (ts : List Token) → Lexed text ts → MatchResult r (λ v. items v ≡ ts) (λ e. e ≡ errors.OutOfMemory)
only_tokens items text (Ok v) lexed refused ts h = unique (length text) text (items v) ts lexed h
only_tokens items text (Err (errors.Fault fault)) lexed refused ts h = absurd (no_tokens text ts fault refused h)
only_tokens items text (Err errors.OutOfMemory) lexed refused ts h = refl
