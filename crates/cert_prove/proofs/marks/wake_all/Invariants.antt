use Rattle.std.proofs.Common.{take}
use Rattle.cert_prove.specs.Marking.{AreWoken}
use Rattle.cert_prove.proofs.marks.wake_all.Given as goal

abbrev pub invariant-loop-fact : goal.invariant-loop-fact
invariant-loop-fact l = AreWoken (take l.fact-index l.facts) l.fn.waits.due l.fn.waits.noted l.waits.due l.waits.noted
