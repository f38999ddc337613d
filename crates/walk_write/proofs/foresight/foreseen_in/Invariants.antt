use Rattle.std.proofs.Common.{drop}
use Rattle.walk_write.specs.Foresight.{HasSeen, PassesBy}
use Rattle.walk_write.proofs.foresight.foreseen_in.Given as goal

abbrev pub invariant-loop-step : goal.invariant-loop-step
invariant-loop-step l = HasSeen l.outlook.place.now l.outlook.index l.outlook.format.now l.outlook.source.now.asked.now (drop l.step-index l.plan) l.number l.digits l.choices.items × PassesBy l.outlook l.fn.number l.number
