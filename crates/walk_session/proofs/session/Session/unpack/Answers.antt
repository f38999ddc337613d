use Rattle.std.proofs.Common.{◌≡◌, ◌<◌, ◌≤◌, refl, length, arith}
use Rattle.std.specs.Prelude.{slice_get, Some}
use Rattle.std.proofs.lemmas.Option.{slice_get_read}
use Rattle.walk_session.specs.declared.ends.Ends.{Ends}
use Rattle.walk_session.specs.Pages.{KeepsReceived, KeepsSent}
use Rattle.walk_session.proofs.PagesKept.{still_kept, taken_kept, with_kept}
use Rattle.walk_session.proofs.Steps.{if_ok_more, if_err_more, unpacked_at, unpack_nowhere, unpack_not_received}
use Rattle.walk_session.proofs.session.Session.unpack.Goals as goal

pub returns-then-flow-len-clause-fault : goal.returns-then-flow-len-clause-fault
returns-then-flow-len-clause-fault c =
    let beyond : length c.self.inside.flows.items ≤ c.args.flow = omega (arith, c.if-flow-len.true, c.len.ensures) in
    unpack_nowhere c.self.inside.accepted c.self.inside.flows.items c.args.self.now c.args.flow c.args.packed.now c.args.packed_bits (length c.args.header.now) (length c.args.asked.now) c.self.view_is beyond

pub returns-clause-ok : goal.returns-clause-ok
returns-clause-ok c =
    let within : c.args.flow < length c.self.inside.flows.items = omega (arith, c.if-flow-len.false, c.len.ensures) in
    let there : slice_get c.self.inside.flows.items c.args.flow ≡ Some c.index_mut-ends.result.now =
    slice_get_read c.self.inside.flows.items (length c.self.inside.flows.items) c.args.flow c.index_mut-ends.result.now refl within c.index_mut-ends.ensures.value in
    if_ok_more _ _ c.receive-taken.result
    (λ t received. unpacked_at c.self.inside.accepted c.self.inside.flows.items c.args.self.now c.args.flow c.index_mut-ends.result.now c.receive-taken.new.context c.args.packed.now c.args.packed_bits c.args.header.now c.receive-taken.new.header
    c.args.asked.now c.receive-taken.new.asked t there c.self.view_is received)
    c.receive-taken.ensures.ok

pub returns-clause-fault : goal.returns-clause-fault
returns-clause-fault c =
    let within : c.args.flow < length c.self.inside.flows.items = omega (arith, c.if-flow-len.false, c.len.ensures) in
    let there : slice_get c.self.inside.flows.items c.args.flow ≡ Some c.index_mut-ends.result.now =
    slice_get_read c.self.inside.flows.items (length c.self.inside.flows.items) c.args.flow c.index_mut-ends.result.now refl within c.index_mut-ends.ensures.value in
    if_err_more _ _ c.receive-taken.result
    (λ e blames. unpack_not_received c.self.inside.accepted c.self.inside.flows.items c.args.self.now c.args.flow c.index_mut-ends.result.now c.args.packed.now c.args.packed_bits (length c.args.header.now) (length c.args.asked.now) e
    there c.self.view_is blames)
    c.receive-taken.ensures.fault

pub receive-taken-requires : goal.receive-taken-requires
receive-taken-requires c =
    let within : c.args.flow < length c.self.inside.flows.items = omega (arith, c.if-flow-len.false, c.len.ensures) in
    let there : slice_get c.self.inside.flows.items c.args.flow ≡ Some c.index_mut-ends.result.now =
    slice_get_read c.self.inside.flows.items (length c.self.inside.flows.items) c.args.flow c.index_mut-ends.result.now refl within c.index_mut-ends.ensures.value in
    taken_kept (KeepsReceived c.self.inside.accepted) c.self.inside.flows.items c.self.inside.received.items c.args.flow c.index_mut-ends.result.now c.take_page-page.result c.self.invariant.1 there c.take_page-page.ensures.taken

pub invariant_of-self : goal.invariant_of-self
invariant_of-self c =
    let within : c.args.flow < length c.self.inside.flows.items = omega (arith, c.if-flow-len.false, c.len.ensures) in
    let there : slice_get c.self.inside.flows.items c.args.flow ≡ Some c.index_mut-ends.result.now =
    slice_get_read c.self.inside.flows.items (length c.self.inside.flows.items) c.args.flow c.index_mut-ends.result.now refl within c.index_mut-ends.ensures.value in
    let ends : Ends = record { sending = c.index_mut-ends.result.now.sending; receiving = c.receive-taken.new.context } in (
      still_kept (KeepsSent c.self.inside.accepted) c.self.inside.flows.items c.self.inside.sent.items c.args.flow c.index_mut-ends.result.now ends c.self.invariant.0 there (λ p kept. kept),
      with_kept (KeepsReceived c.self.inside.accepted) c.self.inside.flows.items c.self.inside.received.items c.take_page-page.new.pages.items c.keep_page.new.pages.items c.args.flow ends c.receive-taken.new.page c.self.invariant.1
          c.take_page-page.ensures.left c.keep_page.ensures c.receive-taken.ensures.kept,
    )
