use Rattle.std.proofs.Common.{◌≡◌, refl, sym, ◌∙◌, ap, ◌+◌, ◌∷◌, drop}
use Rattle.std.proofs.lemmas.List.{drop_more}
use Rattle.cert_rules.specs.Facts.{inputs, inputs_of_all}
use Rattle.cert_plans.specs.Needing.{first_unknown}
use Rattle.cert_plans.proofs.NeedingUnknown.{joined_some, joined_none}
use Rattle.cert_plans.proofs.lacks.lacking_all.Goals as goal

pub returns-in-Some-clause-fact : goal.returns-in-Some-clause-fact
returns-in-Some-clause-fact c =
    let k = c.args.known.now in
    let format = c.args.format.now in
    let xs = c.args.exprs.now in
    let i = c.loop-expr.expr-index in
    let d = c.expr-item.result in
    let more : drop i xs ≡ d ∷ drop (i + 1) xs = drop_more xs i d c.loop-expr-test.true ∙ ap (λ z. z ∷ drop (i + 1) xs) (sym c.expr-item.is) in
    joined_some k (inputs format d) (inputs_of_all format (drop (i + 1) xs)) c.lacking_inputs.result c.in-Some.fact c.lacking_inputs.ensures.fact c.in-Some.is ∙ ap (λ z. first_unknown k (inputs_of_all format z)) (sym more) ∙ c.loop-expr.invariant.0

pub loop-expr-preserved : goal.loop-expr-preserved
loop-expr-preserved c =
    let k = c.args.known.now in
    let format = c.args.format.now in
    let xs = c.args.exprs.now in
    let i = c.loop-expr.expr-index in
    let d = c.expr-item.result in
    let rest = inputs_of_all format (drop (i + 1) xs) in
    let more : drop i xs ≡ d ∷ drop (i + 1) xs = drop_more xs i d c.loop-expr-test.true ∙ ap (λ z. z ∷ drop (i + 1) xs) (sym c.expr-item.is) in (
      joined_none k (inputs format d) rest c.lacking_inputs.result (first_unknown k rest) c.lacking_inputs.ensures.fact c.in_default.is refl ∙ ap (λ z. first_unknown k (inputs_of_all format z)) (sym more) ∙ c.loop-expr.invariant.0,
      c.lacking_inputs.ensures.sure,
    )
