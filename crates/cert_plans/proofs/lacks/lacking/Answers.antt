use Rattle.std.proofs.Common.{◌≡◌, refl, sym, ◌∙◌, ap, ◌+◌, ◌∷◌, drop}
use Rattle.std.proofs.lemmas.List.{drop_more}
use Rattle.cert_plans.specs.Needing.{facts_of, facts_of_all, first_unknown}
use Rattle.cert_plans.proofs.NeedingUnknown.{joined_some, joined_none}
use Rattle.cert_plans.proofs.lacks.lacking.Goals as goal

pub returns-in-Some : goal.returns-in-Some
returns-in-Some c =
    let k = c.args.known.now in
    let format = c.args.format.now in
    let xs = c.args.needs.now in
    let i = c.loop-need.need-index in
    let d = c.need-item.result in
    let more : drop i xs ≡ d ∷ drop (i + 1) xs = drop_more xs i d c.loop-need-test.true ∙ ap (λ z. z ∷ drop (i + 1) xs) (sym c.need-item.is) in
    joined_some k (facts_of format d) (facts_of_all format (drop (i + 1) xs)) c.lacking_of.result c.in-Some.fact c.lacking_of.ensures.fact c.in-Some.is ∙ ap (λ z. first_unknown k (facts_of_all format z)) (sym more) ∙ c.loop-need.invariant.0

pub loop-need-preserved : goal.loop-need-preserved
loop-need-preserved c =
    let k = c.args.known.now in
    let format = c.args.format.now in
    let xs = c.args.needs.now in
    let i = c.loop-need.need-index in
    let d = c.need-item.result in
    let rest = facts_of_all format (drop (i + 1) xs) in
    let more : drop i xs ≡ d ∷ drop (i + 1) xs = drop_more xs i d c.loop-need-test.true ∙ ap (λ z. z ∷ drop (i + 1) xs) (sym c.need-item.is) in (
      joined_none k (facts_of format d) rest c.lacking_of.result (first_unknown k rest) c.lacking_of.ensures.fact c.in_default.is refl ∙ ap (λ z. first_unknown k (facts_of_all format z)) (sym more) ∙ c.loop-need.invariant.0,
      c.lacking_of.ensures.sure,
    )
