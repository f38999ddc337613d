use Rattle.std.proofs.Common.{rules, ◌∙◌, sym, subst, ℕ, ◌+◌}
use Rattle.sem_lint.specs.Marks.{IsNext, SomeMarked}
use Rattle.sem_lint.proofs.MarksLifeless.{started, ended, next, full, lifeless_method}
use Rattle.sem_lint.proofs.marks.all_marked.Goals as goal

pub loop-round-init : goal.loop-round-init
loop-round-init c =
    subst (λ ms. SomeMarked c.args.profile.now ms 0) (sym (c.in_ok-marks.ensures ∙ (search rules))) (started c.args.profile.now)

pub returns-in_default : goal.returns-in_default
returns-in_default c =
    ended c.args.profile.now c.args.own.now c.requires c.loop-round.marks c.loop-round._round c.loop-round.invariant
    (subst (λ ms. (k : ℕ) → IsNext c.args.profile.now c.args.own.now ms k → ⊥) (search rules) c.in_default.ensures)

pub set-requires : goal.set-requires
set-requires c =
    lifeless_method c.args.profile.now c.args.own.now c.loop-round.marks c.loop-round._round c.in-Some.method c.loop-round.invariant
    (subst (λ ms. IsNext c.args.profile.now c.args.own.now ms c.in-Some.method) (search rules) c.in-Some.ensures)

pub loop-round-preserved : goal.loop-round-preserved
loop-round-preserved c =
    subst (λ ms. SomeMarked c.args.profile.now ms (c.loop-round._round + 1)) (sym c.set.ensures)
    (next c.args.profile.now c.args.own.now c.requires c.loop-round.marks c.loop-round._round c.in-Some.method c.loop-round.invariant
    (subst (λ ms. IsNext c.args.profile.now c.args.own.now ms c.in-Some.method) (search rules) c.in-Some.ensures))

pub returns : goal.returns
returns c = full c.args.profile.now c.loop-round.marks c.loop-round._round (search rules) c.loop-round.invariant
