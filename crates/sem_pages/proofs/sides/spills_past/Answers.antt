use Rattle.std.proofs.Common.{rules}
use Rattle.sem_pages.proofs.Comparing.{come_further}
use Rattle.sem_pages.proofs.sides.spills_past.Goals as goal

pub returns : goal.returns
returns c is front come =
    let there = rw c.in-Some.is at c.peek.ensures in
    let within = there.0.1 in (
      within,
      come_further c.args.cursor.now.left c.args.compared.now.tail c.args.word.now c.filled-first.result.1 front c.args.compared.now.place c.filled-first.result.0 within (search rules) c.filled-first.ensures come.1,
    )
