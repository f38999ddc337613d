use Rattle.std.proofs.Common.{◌≡◌, ◌∙◌, sym, ap, subst, refl, rules, ◌<ℤ◌, ◌-ℤ◌, Some, to_z, of_z}
use mir.Syntax.{w128}
use Rattle.sem_expr.specs.Values.{remainder}
use Rattle.cert_rules.specs.Rules.{remainder_given}
use Rattle.std.specs.Prelude.{IfSome}
use Rattle.cert_rules.specs.Facts.{inputs}
use Rattle.cert_rules.proofs.RulesConstraints.{remainder_parts}
use Rattle.cert_rules.specs.Congruences.{shown}
use Rattle.walk_steps.specs.Partial.{gives_addend, gives_left}
use Rattle.walk_steps.proofs.LevelAsked.{knows_left, knows_right}
use Rattle.walk_steps.specs.Finding.{IsRemaining}
use Rattle.walk_steps.proofs.solutions.remaining.Goals as goal

pub value-more-requires : goal.value-more-requires
value-more-requires c =
    let given : remainder_given c.args.level.now.sizes c.args.field c.args.constraint.now ≡ Some (shown c.in-Some.given) = ap (λ z. remainder_given z c.args.field c.args.constraint.now) (sym c.sizes.ensures) ∙ sym c.in-Some.ensures in
    record { asked = gives_addend c.args.field c.args.number c.args.constraint.now (shown c.in-Some.given) c.requires (remainder_parts c.args.level.now.sizes c.args.field c.args.constraint.now (shown c.in-Some.given) given).is refl }

pub value-left-requires : goal.value-left-requires
value-left-requires c =
    let given : remainder_given c.args.level.now.sizes c.args.field c.args.constraint.now ≡ Some (shown c.in-Some.given) = ap (λ z. remainder_given z c.args.field c.args.constraint.now) (sym c.sizes.ensures) ∙ sym c.in-Some.ensures in
    record { asked = gives_left c.args.field c.args.number c.args.constraint.now (shown c.in-Some.given) c.requires (remainder_parts c.args.level.now.sizes c.args.field c.args.constraint.now (shown c.in-Some.given) given).is refl }

pub returns : goal.returns
returns c =
    let l = c.args.level.now in
    let by = c.in-Some.given.by in
    let more = inputs l.format c.in-Some.given.more.now in
    let left = inputs l.format c.in-Some.given.left.now in
    let kept : to_z w128 (of_z w128 by) ≡ by = (search rules) in
    let given : remainder_given l.sizes c.args.field c.args.constraint.now ≡ Some (shown c.in-Some.given) = ap (λ z. remainder_given z c.args.field c.args.constraint.now) (sym c.sizes.ensures) ∙ sym c.in-Some.ensures in
    subst (λ o. IfSome o (λ p. IsRemaining l p c.left_of.result)) (sym given)
    (λ known m n more_is left_is above below.
    c.left_of.ensures n m (c.value-left.ensures.shown (knows_right l.format l.slots more left known) ∙ left_is) (c.value-more.ensures.shown (knows_left l.format l.slots more left known) ∙ more_is) above
    (subst (λ b. n <ℤ b) (sym kept) below)
    ∙ ap (remainder (n -ℤ m)) kept)
