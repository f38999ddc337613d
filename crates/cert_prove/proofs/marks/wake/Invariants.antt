use Rattle.cert_prove.proofs.MarkingWoken.{WokenTo}
use Rattle.cert_prove.proofs.marks.wake.Given as goal

abbrev pub invariant-loop-word : goal.invariant-loop-word
invariant-loop-word l = WokenTo l.fn.fact l.word l.fn.waits.due l.fn.waits.noted l.waits.due l.waits.noted
