use Rattle.std.proofs.Common.{rules}
use Rattle.walk_pages.proofs.Judged.{read_by}
use Rattle.walk_pages.proofs.reader.read_page.Goals as goal

pub returns-clause-read : goal.returns-clause-read
returns-clause-read c =
    let is = rw c.in-Some.is at c.in_ok-found.ensures in
    read_by c.args.accepted.now c.args.context.now _ _ _ _ _ _ is (c.skip.ensures.skipped c.if-not-skip.false) (search rules)
