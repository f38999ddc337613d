use Rattle.std.proofs.Common.{ℕ, List, ◌++◌, drop, string_bytes}
use Rattle.sem_context.specs.Placing.{shown}
use Rattle.sem_context.specs.Text.{IsContextText}
use Rattle.sem_context.proofs.context.Context.print_text.Given as goal

abbrev pub invariant-loop-path : goal.invariant-loop-path
invariant-loop-path l = (rest : List ℕ) → IsContextText (shown (drop l.path-index l.path-items)) rest → IsContextText l.self (string_bytes l.text ++ rest)
