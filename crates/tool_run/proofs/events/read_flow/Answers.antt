use Rattle.std.proofs.Common.{◌≡◌, ◌<◌, arith, sym, ap, subst, rules, ◌∙◌}
use Rattle.std.specs.Prelude.{decimal}
use Rattle.std.proofs.lemmas.Fmt.{parse-decimal}
use Rattle.tool_run.proofs.events.read_flow.Goals as goal

pub returns-in_default-clause-none : goal.returns-in_default-clause-none
returns-in_default-clause-none c = λ n f.
    let below : n < 64 = f.below in
    absurd (cc (parse-decimal 8 n _ _ (omega arith) (omega arith) f.spelled c.parse.ensures.value.0))

pub returns-in_default-new-clause-none : goal.returns-in_default-new-clause-none
returns-in_default-new-clause-none c = λ n f.
    let below : n < 64 = f.below in
    let read = parse-decimal 8 n _ _ (omega arith) (omega arith) f.spelled c.parse.ensures.value.0 in
    let same : n ≡ c.in-Ok.number = cc read in
    c.in_default-new.ensures (subst (λ k. k < 64) same below)

pub returns-else-eq-clause-none : goal.returns-else-eq-clause-none
returns-else-eq-clause-none c = λ n f.
    let below : n < 64 = f.below in
    let read = parse-decimal 8 n _ _ (omega arith) (omega arith) f.spelled c.parse.ensures.value.0 in
    let same : n ≡ c.in-Ok.number = cc read in
    let text : c.format.result.now ≡ c.args.word.now = c.format.ensures.text ∙ ap decimal (sym same) ∙ sym f.spelled in
    search rules
