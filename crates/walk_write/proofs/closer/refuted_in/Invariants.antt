use Rattle.std.proofs.Common.{drop}
use Rattle.walk_write.specs.Foresight.{HasSeen}
use Rattle.walk_write.proofs.closer.refuted_in.Given as goal

abbrev pub invariant-loop-step : goal.invariant-loop-step
invariant-loop-step l = HasSeen l.outlook.place.now l.outlook.index l.outlook.format.now l.outlook.source.now.asked.now (drop l.step-index l.plan) l.number l.digits l.choices.items
