use Rattle.walk_pages.proofs.Judged.{written_by}
use Rattle.walk_pages.proofs.writer.write.Goals as goal

pub returns : goal.returns
returns c =
    let is = rw c.in-Some.is at c.in_ok-found.ensures in
    let asked = rw (c.methods.ensures, c.top.ensures, c.as_slice.ensures, c.profile-profile.ensures) at c.has_asked-has_values.ensures c.if-not-has_values.false in
    written_by c.args.accepted.now c.args.context.now c.args.item.now c.in-Some.found is asked
