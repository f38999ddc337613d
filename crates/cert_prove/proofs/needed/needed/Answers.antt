use Rattle.cert_prove.proofs.NeededWritten.{take_more_is, need_more}
use Rattle.cert_prove.proofs.needed.needed.Goals as goal

pub loop-need-preserved : goal.loop-need-preserved
loop-need-preserved c =
    let xs = c.args.needs.now in
    let i = c.loop-need.need-index in
    let d = c.need-item.result in
    need_more c.args.format.now xs i d c.loop-need.facts c.push_need.new.facts c.loop-need.wholes c.push_need.new.wholes (take_more_is xs i d c.loop-need-test.true c.need-item.is) c.loop-need.invariant c.in_ok-push_need.ensures
