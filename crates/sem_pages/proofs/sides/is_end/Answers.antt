use Rattle.std.proofs.Common.{rules}
use Rattle.sem_pages.proofs.Comparing.{come_to_end}
use Rattle.sem_pages.proofs.sides.is_end.Goals as goal

pub returns-then-found-value : goal.returns-then-found-value
returns-then-found-value c is front come =
    let there = rw c.in-Some.is at c.peek.ensures in
    come_to_end c.args.cursor.now.left c.args.compared.now.tail front c.args.compared.now.place c.len-count.result c.in-Some.found c.value.result c.rest-most.result c.len-count.ensures.value there.0.1 there.1 c.value.ensures (search rules) (search rules) c.rest-most.ensures.value come.1
