use Rattle.std.proofs.Common.{refl, sym, ◌∙◌}
use Rattle.cert_plans.specs.Knowing.{shows}
use Rattle.cert_plans.specs.Needing.{told}
use Rattle.cert_prove.specs.declared.rest.Rest.TheVariants.{Until, Over}
use Rattle.cert_prove.proofs.SearchingAwaiting.{not_false, rests_still, over_ever, waits_for_it, next_else}
use Rattle.cert_prove.proofs.rest.rest_of.Goals as goal

pub returns-then-is_over-clause-rests : goal.returns-then-is_over-clause-rests
returns-then-is_over-clause-rests c = over_ever (told c.args.format.now c.args.rule.now) (shows c.args.known.now) (sym (c.is_over.ensures c.args.format.now) ∙ c.if-is_over.true)

pub returns-then-is_over-clause-next : goal.returns-then-is_over-clause-next
returns-then-is_over-clause-next c =
    let r = told c.args.format.now c.args.rule.now in
    let known = shows c.args.known.now in
    sym (rests_still r known Over (over_ever r known (sym (c.is_over.ensures c.args.format.now) ∙ c.if-is_over.true)) refl)

pub returns-in-Some-clause-rests : goal.returns-in-Some-clause-rests
returns-in-Some-clause-rests c =
    let lacks = rw c.in-Some.is at c.in_ok-fact.ensures.lacks in
    waits_for_it (told c.args.format.now c.args.rule.now) (shows c.args.known.now) c.in-Some.fact lacks

pub returns-in-Some-clause-next : goal.returns-in-Some-clause-next
returns-in-Some-clause-next c =
    let r = told c.args.format.now c.args.rule.now in
    let known = shows c.args.known.now in
    let lacks = rw c.in-Some.is at c.in_ok-fact.ensures.lacks in
    sym (rests_still r known (Until c.in-Some.fact) (waits_for_it r known c.in-Some.fact lacks) (not_false (known c.in-Some.fact) lacks.0))

pub returns-in-Some-clause-still : goal.returns-in-Some-clause-still
returns-in-Some-clause-still c =
    let lacks = rw c.in-Some.is at c.in_ok-fact.ensures.lacks in
    λ h. not_false (shows c.args.known.now c.in-Some.fact) lacks.0

pub returns-in-None-clause-next : goal.returns-in-None-clause-next
returns-in-None-clause-next c =
    let all = rw c.in-None.is at c.in_ok-fact.ensures.lacks in
    next_else (told c.args.format.now c.args.rule.now) (shows c.args.known.now) (sym (c.is_over.ensures c.args.format.now) ∙ c.if-is_over.false) all
