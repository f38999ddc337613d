-- An answer with notes below is what is answered with the option.
use Rattle.std.proofs.Common.{◌≡◌, ℕ, List, ◌++◌, sym, subst}
use Rattle.std.specs.Prelude.{Result, Ok, Err, IfOk, string_bytes}
use Rattle.tool_input.specs.declared.status.Answer.{Answer}
use Rattle.tool_input.specs.declared.status.Status.{Status}
use Rattle.tool_input.specs.Refusals.{Holds}
use Rattle.tool_report.specs.Explained.{Explained, explained, more_of}

pub with_notes : {E : Type 0} (Plain : Status → List ℕ → Type 0) (r : Result Answer E) (answer : Answer) (notes : List ℕ) → Holds Plain answer → IfOk r (λ a. a.status ≡ answer.status)
    → IfOk r (λ a. string_bytes a.output ≡ string_bytes answer.output ++ more_of answer.status notes) → IfOk r (Holds (Explained Plain))
with_notes Plain (Err e) answer notes h same text = tt
with_notes Plain (Ok a) answer notes h same text =
    subst (λ s. Explained Plain s (string_bytes a.output)) (sym same) (subst (λ out. Explained Plain answer.status out) (sym text) (explained notes h))
