use Rattle.std.proofs.Common.{◌+◌, sym, subst}
use Rattle.sem_pages.specs.Prepared.{AreCovered}
use Rattle.sem_pages.proofs.Preparing.{covered_other, covered_settled, covered_test}
use Rattle.sem_pages.proofs.prepared.cover.Goals as goal

pub returns-then-is_settled : goal.returns-then-is_settled
returns-then-is_settled c = λ all here before.
    covered_settled c.args.fields.now all c.args.tests.now.lengths c.args.tests.now.others c.args.j c.args.constraint.now c.in-Some.test here c.in-Some.ensures (c.is_settled.ensures c.if-is_settled.true) before

pub returns-in_ok-push-in-Some-2 : goal.returns-in_ok-push-in-Some-2
returns-in_ok-push-in-Some-2 c = λ all here before.
    subst (λ z. AreCovered c.args.fields.now all z c.args.tests.now.others (c.args.j + 1)) (sym c.in_ok-push-in-Some-2.ensures.ok)
    (covered_test c.args.fields.now all c.args.tests.now.lengths c.args.tests.now.others c.args.j c.args.constraint.now c.in-Some.test here c.in-Some.ensures before)

pub returns-in_ok-push-in-None : goal.returns-in_ok-push-in-None
returns-in_ok-push-in-None c = λ all here before.
    subst (λ z. AreCovered c.args.fields.now all c.args.tests.now.lengths z (c.args.j + 1)) (sym c.in_ok-push-in-None.ensures.ok)
    (covered_other c.args.fields.now all c.args.tests.now.lengths c.args.tests.now.others c.args.j before)
