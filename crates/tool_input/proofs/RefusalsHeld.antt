-- One line that refuses, and an answer of which more is so.
use Rattle.std.proofs.Common.{◌≡◌, ℕ, List, [], ◌∷◌, ◌++◌, ap, sym, ◌∙◌, subst}
use Rattle.std.specs.Prelude.{Result, Ok, Err, IfOk, string_bytes}
use Rattle.std.specs.declared.alloc.AllocError.{AllocError}
use Rattle.tool_input.specs.declared.status.Answer.{Answer}
use Rattle.tool_input.specs.declared.status.Status.{Status}
use Rattle.tool_input.specs.declared.status.Status.TheVariants as status
use Rattle.tool_input.specs.Refusals.{Holds, IsRefusal}

-- one line that refuses
pub refusal_is : (P : Status → List ℕ → Type 0) (text written : List ℕ) (r : Result Answer AllocError) → P status.Refused (text ++ 10 ∷ []) → written ≡ text → IfOk r (IsRefusal written) → IfOk r (Holds P)
refusal_is P text written (Err e) h is g = tt
refusal_is P text written (Ok a) h is g =
    let Q : Status → Type 0 = λ s. P s (string_bytes a.output) in
    subst Q (sym g.status_is) (subst (P status.Refused) (ap (λ x. x ++ 10 ∷ []) (sym is) ∙ sym g.line_is) h)

-- an output that is all that there is
pub done_is : (P : Status → List ℕ → Type 0) (text : List ℕ) (r : Result Answer AllocError) → P status.Done text → IfOk r (λ a. a.status ≡ status.Done) → IfOk r (λ a. string_bytes a.output ≡ text) → IfOk r (Holds P)
done_is P text (Err e) h s o = tt
done_is P text (Ok a) h s o =
    let Q : Status → Type 0 = λ s. P s (string_bytes a.output) in
    subst Q (sym s) (subst (P status.Done) (sym o) h)

-- an answer of which more is so
pub passed_on : (P Q : Status → List ℕ → Type 0) (r : Result Answer AllocError) → ((s : Status) (out : List ℕ) → P s out → Q s out) → IfOk r (Holds P) → IfOk r (Holds Q)
passed_on P Q (Err e) f h = tt
passed_on P Q (Ok a) f h = f a.status (string_bytes a.output) h
