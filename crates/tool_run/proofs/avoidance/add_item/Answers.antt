use Rattle.walk_engine.proofs.Searching.{packed_first}
use Rattle.tool_run.proofs.AvoidanceLemmas.{added_packed, added_refused, blames_any}
use Rattle.tool_run.proofs.avoidance.add_item.Goals as goal

pub fate_of-requires-clause-best : goal.fate_of-requires-clause-best
fate_of-requires-clause-best c =
    packed_first c.args.sought.now.accepted.now c.args.context.now c.args.item.now c.profile.result.now c.keeps-2.ensures c.profile.ensures c.keeps.ensures c.pack_from.result c.pack_from.ensures.packed c.in-Ok.best c.in-Ok.is

pub returns-in_ok-advance-in-Ok : goal.returns-in_ok-advance-in-Ok
returns-in_ok-advance-in-Ok c =
    let packed = packed_first c.args.sought.now.accepted.now c.args.context.now c.args.item.now c.profile.result.now c.keeps-2.ensures c.profile.ensures c.keeps.ensures c.pack_from.result c.pack_from.ensures.packed c.in-Ok.best c.in-Ok.is in
    added_packed c.args.sought.now c.args.context.now _ c.args.verdicts.now _ c.args.number c.args.item.now c.in-Ok.best.packed c.in_ok-fate-in-Ok.fate c.add.result packed c.in_ok-fate-in-Ok.ensures c.in_ok-advance-in-Ok.ensures.ok c.add.ensures

pub returns-in-Err : goal.returns-in-Err
returns-in-Err c = added_refused c.args.sought.now c.args.context.now c.args.verdicts.now _ c.args.number c.args.item.now c.in-Err._fault c.add-in-Err.result (blames_any c.args.sought.now.accepted.now c.args.context.now c.args.item.now c.in-Err._fault c.in-Err.ensures.fault) c.add-in-Err.ensures
