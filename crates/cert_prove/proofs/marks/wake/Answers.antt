use Rattle.std.proofs.Common.{◌≡◌, ◌+◌, ◌*◌, arith}
use Rattle.cert_prove.specs.Marking.{row_of}
use Rattle.cert_prove.proofs.MarkingWoken.{word_woken}
use Rattle.cert_prove.proofs.marks.wake.Goals as goal

pub loop-word-preserved : goal.loop-word-preserved
loop-word-preserved c =
    let w = c.wake_row.ensures in
    let row = c.row_in-row.ensures.row in
    let at : c.loop-word.word * 128 + c.row_in-row.result ≡ row_of c.loop-word.word c.args.fact = omega (arith, row) in
    word_woken c.args.fact c.loop-word.word (c.loop-word.word * 128 + c.row_in-row.result) c.args.waits.now.due c.args.waits.now.noted c.loop-word.waits.due c.loop-word.waits.noted c.wake_row.new.waits.due c.wake_row.new.waits.noted
    at c.loop-word.invariant w.many w.rows w.keeps w.woken w.others
