use Rattle.std.proofs.Common.{[], refl, true, sym}
use Rattle.std.specs.Prelude.{unwrap_or}
use Rattle.sem_pages.proofs.InOrder.{known_added, stays}
use Rattle.sem_pages.proofs.entries.renew_own.Goals as goal

pub returns : goal.returns
returns c = λ is here.
    known_added c.args.context.now c.args.progress.now c.pass.new.progress c.args.part here _ _ (unwrap_or c.args.bits.now []) c.in_default.not-Local (sym c.in-Some.ensures.entry)
    (c.in_ok-pass.ensures true c.args.context.now _ (sym c.in-Some.ensures.entry))
