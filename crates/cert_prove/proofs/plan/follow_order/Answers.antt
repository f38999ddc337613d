use Rattle.std.proofs.Common.{refl, ◌∙◌, ◌<◌, ◌≤◌, ap, sym, subst, length, map, find}
use Rattle.std.specs.Prelude.{option_map}
use Rattle.std.specs.Option.{option_copied}
use Rattle.std.proofs.lemmas.Bool.{iff_false}
use Rattle.cert_plans.specs.Knowing.{shows}
use Rattle.cert_plans.specs.Listed.{AreFlags}
use Rattle.cert_plans.specs.Needing.{told}
use Rattle.cert_prove.specs.declared.plan.End.TheVariants.{Complete, Stopped, Full}
use Rattle.cert_prove.specs.Searching.{ruled, gives_more, AreWaiting}
use Rattle.cert_prove.proofs.GapsWanted.{learnt_on, all_learnt}
use Rattle.cert_prove.proofs.SearchingAwaiting.{none_rest, none_left, left_on, knows_all, waits_on}
use Rattle.cert_prove.proofs.Planned.{SoFar, begins, given_then, goes_on, passes, stops, completes, followed}
use Rattle.cert_prove.proofs.plan.follow_order.Goals as goal

pub more-init : goal.more-init
more-init c =
    let known = c.in_ok-known in
    let agenda = c.in_ok-agenda in
    let first = c.first_missing-missing.ensures in (
      subst (λ z. SoFar c.args.version c.args.direction c.args.table.now c.args.sizes.now c.args.format.now z known.known) (sym (c.from_vec-steps.ensures ∙ c.in_ok-with_capacity.ensures.items))
          (begins c.args.version c.args.direction c.args.table.now c.args.sizes.now c.args.format.now known.known known.ensures.known known.ensures.width),
      none_rest (shows known.known) c.args.format.now c.as_slice-possible.result.now agenda.agenda.waits.due agenda.agenda.waits.noted agenda.ensures.due agenda.ensures.rows agenda.ensures.few,
      none_left c.args.format.now c.as_slice-possible.result.now (shows known.known) agenda.agenda.needs.items agenda.ensures.needs,
      first.learnt,
      first.missing,
      agenda.ensures.listed,
    )

pub first_missing-missing-requires-in-more-clause-flags : goal.first_missing-missing-requires-in-more-clause-flags
first_missing-missing-requires-in-more-clause-flags c = subst (AreFlags c.args.format.now) (sym c.as_slice-in-more.ensures) c.more.invariant.5

pub first_missing-missing-requires-in-more-clause-learnt : goal.first_missing-missing-requires-in-more-clause-learnt
first_missing-missing-requires-in-more-clause-learnt c =
    let known = c.more.known in
    let new = c.learn_all.new.self in
    learnt_on c.args.direction c.args.format.now (shows known) (shows new) c.more.missing (knows_all known new c.as_slice-gives.result.now c.learn_all.ensures.known) c.more.invariant.3

pub returns : goal.returns
returns c =
    let so = c.more.invariant.0 in
    let format = c.args.format.now in
    let met = all_learnt c.args.direction format c.more.known c.more.missing (subst (λ z. z ≤ c.more.missing) c.len-fields.ensures c.more-test.false) c.more.invariant.3 _ so.knows in
    let steps = c.more.steps in
    followed c.args.version c.args.direction c.args.table.now c.args.sizes.now format steps c.more.known so c.in_ok-found.found Complete c.in_ok-found.ensures.steps
    (completes c.args.version c.args.direction c.args.table.now c.args.sizes.now format steps c.more.known so met)

pub returns-then-is_full : goal.returns-then-is_full
returns-then-is_full c =
    let so = c.more.invariant.0 in
    let format = c.args.format.now in
    let here : c.more.missing < length format.fields = subst (λ z. c.more.missing < z) c.len-fields.ensures c.more-test.true in
    let steps = c.more.steps in
    followed c.args.version c.args.direction c.args.table.now c.args.sizes.now format steps c.more.known so c.in_ok-found.found Full c.in_ok-found.ensures.steps
    (passes c.args.version c.args.direction c.args.table.now c.args.sizes.now format steps c.more.known so (c.more.invariant.4 here _ so.knows) (c.if-is_full.ensures.0 refl))

pub returns-in_default : goal.returns-in_default
returns-in_default c =
    let known = c.more.known in
    let so = c.more.invariant.0 in
    let format = c.args.format.now in
    let possible = ap (map (ruled format)) c.as_slice-possible.ensures ∙ c.in_ok-found.ensures.steps in
    let here : c.more.missing < length format.fields = subst (λ z. c.more.missing < z) c.len-fields.ensures c.more-test.true in
    let unmet = c.more.invariant.4 here _ so.knows in
    let found = sym (ap (find (λ p. gives_more (shows known) p.rule)) possible) ∙ (sym c.in_ok-next.ensures.next ∙ ap (λ o. option_map (ruled format) (option_copied o)) c.in_default.is) in
    let steps = c.more.steps in
    followed c.args.version c.args.direction c.args.table.now c.args.sizes.now format steps known so c.in_ok-found.found Stopped c.in_ok-found.ensures.steps
    (stops c.args.version c.args.direction c.args.table.now c.args.sizes.now format steps known so unmet found)

pub more-preserved : goal.more-preserved
more-preserved c =
    let known = c.more.known in
    let new = c.learn_all.new.self in
    let gives = c.as_slice-gives.result.now in
    let so = c.more.invariant.0 in
    let format = c.args.format.now in
    let possible = ap (map (ruled format)) c.as_slice-possible.ensures ∙ c.in_ok-found.ensures.steps in
    let here : c.more.missing < length format.fields = subst (λ z. c.more.missing < z) c.len-fields.ensures c.more-test.true in
    let unmet = c.more.invariant.4 here _ so.knows in
    let found = sym (ap (find (λ p. gives_more (shows known) p.rule)) possible) ∙ (sym c.in_ok-next.ensures.next ∙ ap (λ o. option_map (ruled format) (option_copied o)) c.in-Some.is) in
    let waits = c.next_step.new.waits in
    let next = ruled format c.in-Some.next.now in
    let same = c.as_slice-gives.ensures ∙ c.written-written.ensures in
    let learns = c.learn_all.ensures.known in
    let are = subst (λ o. AreWaiting (shows known) format c.as_slice-possible.result.now waits.due waits.noted (option_map (λ p. told format p.rule) (option_copied o))) c.in-Some.is c.in_ok-next.ensures.waits in
    let given = given_then c.args.version c.args.direction c.args.table.now c.args.sizes.now format c.more.steps known so next new gives found same learns in (
      goes_on c.args.version c.args.direction c.args.table.now c.args.sizes.now format c.more.steps known so next new gives found same learns c.push.new.self c.possible_steps.ensures.numbers unmet
          (iff_false c.is_full.ensures c.if-is_full.false) c.in_ok-push.ensures.ok c.learn_all.ensures.width,
      waits_on known new gives learns format c.as_slice-possible.result.now waits.due waits.noted c.wake_all.new.waits.due c.wake_all.new.waits.noted next.rule are c.wake_all.ensures given,
      left_on format c.as_slice-possible.result.now (shows known) (shows new) c.next_step.new.needs.items (knows_all known new gives learns) c.in_ok-next.ensures.left,
      c.first_missing-missing-in-more.ensures.learnt,
      c.first_missing-missing-in-more.ensures.missing,
      c.more.invariant.5,
    )
