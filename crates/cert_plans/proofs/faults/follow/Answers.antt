use Rattle.std.proofs.Common.{◌∙◌, ◌++◌, sym, ap, subst}
use Rattle.std.specs.Prelude.{option_map, nat_lt, ◌&&◌, ◌||◌}
use Rattle.cert_rules.specs.Facts.{has}
use Rattle.cert_rules.specs.Plans as plans
use Rattle.cert_plans.specs.Knowing.{field_of, shows, width, Knows}
use Rattle.cert_plans.specs.Needing.{told}
use Rattle.cert_plans.specs.Judging.{GivesWithin}
use Rattle.cert_plans.proofs.KnowingFollowing.{enables_is, knows_more}
use Rattle.cert_plans.proofs.faults.follow.Goals as goal

pub returns-then-not-enables-clause-enabled : goal.returns-then-not-enables-clause-enabled
returns-then-not-enables-clause-enabled c = λ facts k. sym c.if-not-enables.true ∙ c.enables.ensures ∙ enables_is c.args.known.now facts k (told c.args.format.now c.in-Some.rule) ∙ ap (λ z. plans.enabled facts (option_map (told c.args.format.now) z)) (sym c.in-Some.is)

pub returns-clause-enabled : goal.returns-clause-enabled
returns-clause-enabled c = λ facts k. sym c.if-not-enables.false ∙ c.enables.ensures ∙ enables_is c.args.known.now facts k (told c.args.format.now c.in-Some.rule) ∙ ap (λ z. plans.enabled facts (option_map (told c.args.format.now) z)) (sym c.in-Some.is)

pub returns-clause-learnt : goal.returns-clause-learnt
returns-clause-learnt c = λ facts k within e.
    let old = c.args.known.now in
    let new = c.learn_all.new.self in
    let shown = told c.args.format.now in
    subst (λ z. Knows new (plans.learnt (option_map shown z) ++ facts)) (sym c.in-Some.is)
    (knows_more old new (shown c.in-Some.rule) facts (λ x. c.learn_all.ensures.known x ∙ ap (λ z. (has z x && nat_lt (field_of x) (width old)) || shows old x) (c.as_slice.ensures ∙ c.written.ensures))
    (subst (λ z. GivesWithin (width old) (option_map shown z)) c.in-Some.is within) k)
