use Rattle.std.proofs.Common.{◌≡◌, ◌<◌, refl, length, arith}
use Rattle.std.specs.Prelude.{slice_get, Some}
use Rattle.std.proofs.lemmas.Option.{slice_get_read}
use Rattle.walk_session.specs.declared.ends.Ends.{Ends}
use Rattle.walk_session.specs.declared.ends.Sending.TheVariants.{Robust}
use Rattle.walk_session.specs.Pages.{KeepsReceived, KeepsSent}
use Rattle.walk_session.proofs.PagesKept.{others_kept, still_kept}
use Rattle.walk_session.proofs.session.Session.endure.Goals as goal

pub invariant_of-self : goal.invariant_of-self
invariant_of-self c =
    let within : c.args.flow < length c.self.inside.flows.items = omega (arith, c.if-flow-len.false, c.len.ensures) in
    let there : slice_get c.self.inside.flows.items c.args.flow ≡ Some c.index_mut.result.now =
    slice_get_read c.self.inside.flows.items (length c.self.inside.flows.items) c.args.flow c.index_mut.result.now refl within c.index_mut.ensures.value in
    let ends : Ends = record { sending = Robust c.in_ok-robust.robust; receiving = c.index_mut.result.now.receiving } in (
      others_kept (KeepsSent c.self.inside.accepted) c.self.inside.flows.items c.self.inside.sent.items c.take_page-sent.new.pages.items c.args.flow ends c.self.invariant.0 c.take_page-sent.ensures.left,
      still_kept (KeepsReceived c.self.inside.accepted) c.self.inside.flows.items c.self.inside.received.items c.args.flow c.index_mut.result.now ends c.self.invariant.1 there (λ p kept. kept),
    )
