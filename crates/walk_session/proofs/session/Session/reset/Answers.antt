use Rattle.walk_session.specs.Pages.{KeepsReceived, KeepsSent}
use Rattle.walk_session.proofs.PagesKept.{others_kept}
use Rattle.walk_session.proofs.session.Session.reset.Goals as goal

pub invariant_of-self : goal.invariant_of-self
invariant_of-self c = (
  others_kept (KeepsSent c.self.inside.accepted) c.self.inside.flows.items c.self.inside.sent.items c.take_page-sent.new.pages.items c.args.flow c.new.result c.self.invariant.0 c.take_page-sent.ensures.left,
  others_kept (KeepsReceived c.self.inside.accepted) c.self.inside.flows.items c.self.inside.received.items c.take_page-received.new.pages.items c.args.flow c.new.result c.self.invariant.1 c.take_page-received.ensures.left,
)
