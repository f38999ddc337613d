use Rattle.std.proofs.Common.{[], false, sym}
use Rattle.std.specs.Prelude.{unwrap_or}
use Rattle.sem_pages.proofs.InOrder.{next_added}
use Rattle.sem_pages.proofs.entries.add_next.Goals as goal

pub returns : goal.returns
returns c = (
  c.is_below.ensures c.if-not-is_below.false,
  next_added false c.args.context.now c.args.progress.now c.pass.new.progress c.args.part c.in-Some.here.now (unwrap_or c.args.bits.now []) c.in_default.not-Local
      (c.in_ok-pass.ensures false c.args.context.now c.in-Some.here.now (sym c.in-Some.ensures.entry)),
)
