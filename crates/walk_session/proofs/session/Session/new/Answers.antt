use Rattle.walk_session.specs.Pages.{KeepsReceived, KeepsSent}
use Rattle.walk_session.proofs.PagesKept.{none_kept}
use Rattle.walk_session.proofs.session.Session.new.Goals as goal

pub invariant_of-result : goal.invariant_of-result
invariant_of-result c = (none_kept (KeepsSent c.args.accepted) _ _ c.new.ensures.items, none_kept (KeepsReceived c.args.accepted) _ _ c.new-2.ensures.items)
