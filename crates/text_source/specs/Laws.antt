-- What holds of the tokens of each text.
use Rattle.std.specs.Prelude.{◌≡◌, ℕ, ◌<◌, ◌≤◌, ◌⊎◌, List, [], ◌∷◌, ◌++◌, length, drop}
use Rattle.std.specs.List.{AllByRecursion}
use Rattle.text_source.specs.declared.fault.Fault.{Fault}
use Rattle.text_source.specs.declared.token.TokenKind.{TokenKind}
use Rattle.text_source.specs.declared.token.Token.{Token}
use Rattle.text_source.specs.Lexical.{Lexed, IsToken, IsStopped}

-- each token has an octet and begins where the one before it ends or after that, the first at `low` or after it, and none passes `high`
abbrev pub Rise : ℕ → ℕ → List Token → Type 0
Rise low high [] = low ≤ high
Rise low high (t ∷ ts) = (low ≤ t.span.from) × (t.span.from < t.span.to) × Rise t.span.to high ts

-- the text from the span's begin up to its end is a token of the kind
abbrev pub IsItsText : List ℕ → Token → Type 0
IsItsText text t = IsToken t.kind (drop t.span.from text) (drop t.span.to text)

abbrev pub SpansRise : Type 0
SpansRise = (text : List ℕ) (tokens : List Token) → Lexed text tokens → Rise 0 (length text) tokens

abbrev pub TokensAreTheirText : Type 0
TokensAreTheirText = (text : List ℕ) (tokens : List Token) → Lexed text tokens → AllByRecursion (IsItsText text) tokens

-- a text has at most one list of tokens
abbrev pub OneReading : Type 0
OneReading = (text : List ℕ) (a b : List Token) → Lexed text a → Lexed text b → a ≡ b

-- a text has at most one fault of its tokens
abbrev pub OneFault : Type 0
OneFault = (text : List ℕ) (a b : Fault) → IsStopped text a → IsStopped text b → a ≡ b

-- each text has tokens or a fault
abbrev pub EveryText : Type 0
EveryText = (text : List ℕ) → ((tokens : List Token) × Lexed text tokens) ⊎ ((fault : Fault) × IsStopped text fault)

-- and then no tokens
abbrev pub NoTokensAtAFault : Type 0
NoTokensAtAFault = (text : List ℕ) (tokens : List Token) (fault : Fault) → IsStopped text fault → Lexed text tokens → ⊥

-- no longer front of the text at that place is a token, read by itself
abbrev pub Longest : Type 0
Longest = (kind other : TokenKind) (front rest to : List ℕ) → IsToken kind (front ++ rest) to → length rest < length to → IsToken other front [] → ⊥
