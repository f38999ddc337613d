-- What is so of an answer, and the line that refuses.
use Rattle.std.specs.Prelude.{◌≡◌, ℕ, List, [], ◌∷◌, ◌++◌, codes, decimal, string_bytes}
use Rattle.tool_input.specs.declared.status.Answer.{Answer}
use Rattle.tool_input.specs.declared.status.Status.{Status}
use Rattle.tool_input.specs.declared.status.Status.TheVariants as status

-- an answer of which this is so
abbrev pub Holds : (Status → List ℕ → Type 0) → Answer → Type 0
Holds P a = P a.status (string_bytes a.output)

-- the line of a context that can't be read
abbrev pub context_line : ℕ → List ℕ
context_line n = codes "context:" ++ decimal n ++ codes ": C1 bad line"

-- one line, which refuses
pub record IsRefusal (text : List ℕ) (a : Answer) : Type 0 where
  pub status_is : a.status ≡ status.Refused
  pub line_is : string_bytes a.output ≡ text ++ 10 ∷ []
