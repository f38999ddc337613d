use Rattle.std.proofs.Common.{sym, subst, take}
use Rattle.std.proofs.lemmas.List.{take_more}
use Rattle.cert_prove.specs.Marking.{AreWoken}
use Rattle.cert_prove.proofs.MarkingWoken.{fact_woken}
use Rattle.cert_prove.proofs.marks.wake_all.Goals as goal

pub loop-fact-preserved : goal.loop-fact-preserved
loop-fact-preserved c =
    let w = c.args.waits.now in
    let xs = c.args.facts.now in
    let i = c.loop-fact.fact-index in
    subst (λ z. AreWoken z w.due w.noted c.wake.new.waits.due c.wake.new.waits.noted) (sym (take_more xs i _ c.loop-fact-test.true))
    (fact_woken (take i xs) _ w.due w.noted c.loop-fact.waits.due c.loop-fact.waits.noted c.wake.new.waits.due c.wake.new.waits.noted c.loop-fact.invariant c.wake.ensures)
