use Rattle.std.proofs.Common.{sym, ◌∙◌, ap, subst}
use Rattle.std.specs.Option.{option_copied}
use Rattle.sem_profile.specs.Resolved.{IsSound}
use Rattle.cert_rules.specs.Counts.{entry_at}
use Rattle.cert_rules.specs.Plans.{known_at_start, IsPlan}
use Rattle.walk_read.specs.Walking.{way_from}
use Rattle.walk_read.proofs.PlansPicking.{none_planned, none_here, plan_is}
use Rattle.walk_read.proofs.plans.plan_of.Goals as goal

pub returns-in_default-clause-none : goal.returns-in_default-clause-none
returns-in_default-clause-none c = λ format at.
    none_planned c.args.place.now.accepted.now c.keeps.ensures (subst IsSound c.profile.ensures c.keeps-2.ensures) c.args.place.now.frame.method c.args.format format at
    (ap (λ z. entry_at z c.args.place.now.frame.method) (sym (c.methods.ensures ∙ ap (λ z. z.methods) c.certificate.ensures)) ∙ (sym c.entry_at.ensures ∙ ap option_copied c.in_default.is))

pub returns-in_default-plans_at-clause-none : goal.returns-in_default-plans_at-clause-none
returns-in_default-plans_at-clause-none c = λ format at.
    none_here c.args.place.now.accepted.now c.keeps.ensures (subst IsSound c.profile.ensures c.keeps-2.ensures) c.args.place.now.frame.method c.args.format format at c.in-Some.entry.now
    (ap (λ z. entry_at z c.args.place.now.frame.method) (sym (c.methods.ensures ∙ ap (λ z. z.methods) c.certificate.ensures)) ∙ (sym c.entry_at.ensures ∙ ap option_copied c.in-Some.is))
    (sym c.plans_at.ensures ∙ ap option_copied c.in_default-plans_at.is)

pub returns-clause-found : goal.returns-clause-found
returns-clause-found c = λ format sizes at sized.
    subst (λ z. IsPlan (way_from sizes format (known_at_start format)) z) (sym c.as_slice.ensures)
    (plan_is c.args.place.now.accepted.now c.keeps.ensures (subst IsSound c.profile.ensures c.keeps-2.ensures) c.args.place.now.frame.method c.args.format format at c.in-Some.entry.now
    (ap (λ z. entry_at z c.args.place.now.frame.method) (sym (c.methods.ensures ∙ ap (λ z. z.methods) c.certificate.ensures)) ∙ (sym c.entry_at.ensures ∙ ap option_copied c.in-Some.is))
    c.in-Some-plans_at.plans.now (sym c.plans_at.ensures ∙ ap option_copied c.in-Some-plans_at.is) sizes sized)
