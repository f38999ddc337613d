-- The steps that every reader is made of. A reader answers what it read and the tokens after it, or the first fault.
use Rattle.std.specs.Prelude.{◌≡◌, ℕ, zero, suc, Bool, true, false, if◌then◌else◌, List, [], ◌∷◌, length, Option, Some, None, Result, Ok, Err}
use Rattle.text_source.specs.declared.span.Span.{Span}
use Rattle.text_source.specs.declared.fault.FaultKind.{FaultKind}
use Rattle.text_source.specs.declared.fault.FaultKind.TheVariants as f
use Rattle.text_source.specs.declared.token.Mark.{Mark}
use Rattle.text_source.specs.declared.token.TokenKind.{TokenKind}
use Rattle.text_source.specs.declared.token.TokenKind.TheVariants as k
use Rattle.text_source.specs.declared.token.Mark.TheVariants as m
use Rattle.text_source.specs.declared.token.Token.{Token}
use Rattle.text_source.specs.Kinds.{is_mark}
use Rattle.text_tree.specs.declared.refusal.FaultPlace.{FaultPlace}
use Rattle.text_tree.specs.declared.refusal.FaultPlace.TheVariants.{At, End}
use Rattle.text_tree.specs.declared.refusal.PlacedFault.{PlacedFault}
use Rattle.text_tree.specs.declared.refusal.ParseError.{ParseError}
use Rattle.text_tree.specs.declared.refusal.ParseError.TheVariants as errors

abbrev pub Outcome : Type 0 → Type 0
Outcome A = Result (A × List Token) PlacedFault

abbrev pub Reader : Type 0 → Type 0
Reader A = List Token → Outcome A

abbrev pub and_then : {A B : Type 0} → Outcome A → (A → Reader B) → Outcome B
and_then (Ok p) next = next p.0 p.1
and_then (Err e) next = Err e

infixl 10 ◌>>=◌
abbrev pub ◌>>=◌ : {A B : Type 0} → Reader A → (A → Reader B) → Reader B
p >>= next = λ ts. and_then (p ts) next

abbrev pub pure : {A : Type 0} → A → Reader A
pure a = λ ts. Ok (a, ts)

infixr 11 ◌<$>◌
abbrev pub ◌<$>◌ : {A B : Type 0} → (A → B) → Reader A → Reader B
make <$> p = p >>= (λ x. pure (make x))

infixl 10 ◌>>◌
abbrev pub ◌>>◌ : {A B : Type 0} → Reader A → Reader B → Reader B
p >> q = p >>= (λ _. q)

abbrev pub place : List Token → FaultPlace
place [] = End
place (t ∷ ts) = At t.span

abbrev pub kind_at : List Token → Option TokenKind
kind_at [] = None
kind_at (t ∷ ts) = Some t.kind

-- whether an expression ends before such a token, whatever is after it
abbrev pub ends : TokenKind → Bool
ends (k.Mark m.Comma) = true
ends (k.Mark m.Close) = true
ends (k.Mark m.CloseSquare) = true
ends (k.Mark m.Semicolon) = true
ends _ = false

-- the kind of the next token, where what comes after it ends an expression
abbrev pub lone : List Token → Option TokenKind
lone (t ∷ u ∷ ts) = if ends u.kind then Some t.kind else None
lone _ = None

abbrev pub refusal_of : FaultKind → FaultPlace → PlacedFault
refusal_of kind at = record { kind = kind; at = at }

-- a fault at the next token
abbrev pub stops : {A : Type 0} → FaultKind → Reader A
stops kind = λ ts. Err (refusal_of kind (place ts))

-- a fault at an earlier place
abbrev pub stops_at : {A : Type 0} → FaultKind → Span → Reader A
stops_at kind at = λ ts. Err (refusal_of kind (At at))

abbrev pub refuse : {A : Type 0} → Reader A
refuse = stops f.Unexpected

-- goes on by the kind of the next token
abbrev pub peek : Reader (Option TokenKind)
peek = λ ts. Ok (kind_at ts, ts)

-- the next token, whatever it is
abbrev pub take : Reader Span
take [] = Err (refusal_of f.Unexpected End)
take (t ∷ ts) = Ok (t.span, ts)

abbrev pub is_next : Mark → Option TokenKind → Bool
is_next mark (Some kind) = is_mark mark kind
is_next mark None = false

abbrev pub is_there : Option TokenKind → Bool
is_there (Some kind) = true
is_there None = false

abbrev pub either : {A : Type 0} → Bool → Reader A → Reader A → Reader A
either b p q = λ ts. if b then p ts else q ts

-- this mark, and no other token
unfoldable pub expect : Mark → Reader Span
expect mark = peek >>= λ next. either (is_next mark next) take refuse

-- ---- a step again and again, until it answers nothing more. Each turn takes a token, so one turn more than
-- there are tokens is enough.

-- what a turn answered: done with s, or on from t
abbrev pub onward : {S : Type 0} → (S → Reader S) → S → Option S → Reader S
onward next s None = pure s
onward next s (Some t) = next t

unfoldable pub again : {S : Type 0} → ℕ → (S → Reader (Option S)) → S → Reader S
again zero step s = pure s
again (suc n) step s = step s >>= onward (again n step) s

unfoldable pub repeat : {S : Type 0} → (S → Reader (Option S)) → S → Reader S
repeat step s = λ ts. again (suc (length ts)) step s ts

-- ---- what a function that reads ensures: the reader's outcome, unless memory ran out

abbrev pub Fails : {A : Type 0} → ParseError → Outcome A → Type 0
Fails errors.Memory outcome = Unit {0}
Fails (errors.Refused refusal) outcome = outcome ≡ Err refusal

abbrev pub Reads : {A : Type 0} → Outcome A → Result A ParseError → List Token → Type 0
Reads outcome (Ok a) new = outcome ≡ Ok (a, new)
Reads outcome (Err e) new = Fails e outcome
