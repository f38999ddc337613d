use Rattle.std.proofs.Common.{◌≡◌, ◌∙◌, ◌++◌, ◌∷◌, List, ℕ, Some, ap, sym, subst, arith}
use Rattle.std.specs.Prelude.{IfOk, IfNone}
use Rattle.std.proofs.lemmas.Str.Pattern.{strip_prefix_char}
use Rattle.sem_filling.specs.declared.filling.AskedValue.{AskedValue}
use Rattle.tool_input.specs.Inputs.{IsValue}
use Rattle.tool_input.proofs.inputs.read_value.Goals as goal

pub returns-in-Some-strip_prefix-2-clause-none : goal.returns-in-Some-strip_prefix-2-clause-none
returns-in-Some-strip_prefix-2-clause-none c =
    let front = c.in-Some-strip_prefix.ensures.cases in
    let after = strip_prefix_char 61 c.in-Some-strip_prefix.rest.now (Some c.in-Some-strip_prefix-2.spelled) c.in-Some-strip_prefix-2.ensures.cases (omega arith) in
    let whole : c.args.word.now ≡ c.as_str.result.now ++ 61 ∷ c.in-Some-strip_prefix-2.spelled.now = front.1.1 ∙ ap (λ t. c.as_str.result.now ++ t) (sym front.2 ∙ after) in
    let named : c.args.word.now ≡ c.in-Some.name.now ++ 61 ∷ c.in-Some-strip_prefix-2.spelled.now = whole ∙ ap (λ n. n ++ 61 ∷ c.in-Some-strip_prefix-2.spelled.now) c.as_str.ensures in
    let P : List ℕ → Type 0 = λ t. IfOk c.read_named.result (λ o. IfNone o ((v : AskedValue) → IsValue t v → ⊥)) in
    subst P (sym named) c.read_named.ensures.none
