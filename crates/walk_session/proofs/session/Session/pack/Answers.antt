use Rattle.std.proofs.Common.{◌≡◌, ◌∙◌, ◌<◌, ◌≤◌, ap, refl, length, arith}
use Rattle.std.specs.Prelude.{slice_get, Some}
use Rattle.std.proofs.lemmas.Option.{slice_get_read}
use Rattle.walk_session.specs.declared.ends.Ends.{Ends}
use Rattle.walk_session.specs.Pages.{KeepsReceived, KeepsSent}
use Rattle.walk_session.proofs.PagesKept.{still_kept, taken_kept, with_kept}
use Rattle.walk_session.proofs.Steps.{if_ok_more, if_err_more, packed_at, pack_nowhere, pack_not_given, pack_not_sent}
use Rattle.walk_session.proofs.session.Session.pack.Goals as goal

pub returns-then-flow-len-clause-fault : goal.returns-then-flow-len-clause-fault
returns-then-flow-len-clause-fault c =
    let beyond : length c.self.inside.flows.items ≤ c.args.flow = omega (arith, c.if-flow-len.true, c.len.ensures) in
    pack_nowhere c.self.inside.accepted c.self.inside.flows.items c.args.self.now c.args.flow c.args.header.now c.args.header_bits c.args.asked.now (length c.args.room.now) c.self.view_is beyond

pub returns-in-Err-clause-fault : goal.returns-in-Err-clause-fault
returns-in-Err-clause-fault c =
    pack_not_given c.self.inside.accepted c.self.inside.flows.items c.args.self.now c.args.flow c.asked-fields.result.now c.args.header.now c.args.header_bits c.args.asked.now (length c.args.room.now) c.in-Err.refusal c.self.view_is
    (c.asked-fields.ensures ∙ ap (λ p. p.asked) c.profile.ensures) c.in-Err.ensures.fault

pub returns-clause-ok : goal.returns-clause-ok
returns-clause-ok c =
    let within : c.args.flow < length c.self.inside.flows.items = omega (arith, c.if-flow-len.false, c.len.ensures) in
    let there : slice_get c.self.inside.flows.items c.args.flow ≡ Some c.index_mut-ends.result.now =
    slice_get_read c.self.inside.flows.items (length c.self.inside.flows.items) c.args.flow c.index_mut-ends.result.now refl within c.index_mut-ends.ensures.value in
    if_ok_more _ _ c.send-sent.result
    (λ n sent. packed_at c.self.inside.accepted c.self.inside.flows.items c.args.self.now c.args.flow c.index_mut-ends.result.now c.send-sent.new.sending c.in-Ok.item c.asked-fields.result.now c.args.header.now c.args.header_bits c.args.asked.now
    c.args.room.now c.send-sent.new.room n there c.self.view_is (c.asked-fields.ensures ∙ ap (λ p. p.asked) c.profile.ensures) c.in-Ok.ensures.ok sent)
    c.send-sent.ensures.ok

pub returns-clause-fault : goal.returns-clause-fault
returns-clause-fault c =
    let within : c.args.flow < length c.self.inside.flows.items = omega (arith, c.if-flow-len.false, c.len.ensures) in
    let there : slice_get c.self.inside.flows.items c.args.flow ≡ Some c.index_mut-ends.result.now =
    slice_get_read c.self.inside.flows.items (length c.self.inside.flows.items) c.args.flow c.index_mut-ends.result.now refl within c.index_mut-ends.ensures.value in
    if_err_more _ _ c.send-sent.result
    (λ e blames. pack_not_sent c.self.inside.accepted c.self.inside.flows.items c.args.self.now c.args.flow c.index_mut-ends.result.now c.in-Ok.item c.asked-fields.result.now c.args.header.now c.args.header_bits c.args.asked.now
    (length c.args.room.now) e there c.self.view_is (c.asked-fields.ensures ∙ ap (λ p. p.asked) c.profile.ensures) c.in-Ok.ensures.ok blames)
    c.send-sent.ensures.fault

pub send-sent-requires : goal.send-sent-requires
send-sent-requires c =
    let within : c.args.flow < length c.self.inside.flows.items = omega (arith, c.if-flow-len.false, c.len.ensures) in
    let there : slice_get c.self.inside.flows.items c.args.flow ≡ Some c.index_mut-ends.result.now =
    slice_get_read c.self.inside.flows.items (length c.self.inside.flows.items) c.args.flow c.index_mut-ends.result.now refl within c.index_mut-ends.ensures.value in
    taken_kept (KeepsSent c.self.inside.accepted) c.self.inside.flows.items c.self.inside.sent.items c.args.flow c.index_mut-ends.result.now c.take_page.result c.self.invariant.0 there c.take_page.ensures.taken

pub invariant_of-self : goal.invariant_of-self
invariant_of-self c =
    let within : c.args.flow < length c.self.inside.flows.items = omega (arith, c.if-flow-len.false, c.len.ensures) in
    let there : slice_get c.self.inside.flows.items c.args.flow ≡ Some c.index_mut-ends.result.now =
    slice_get_read c.self.inside.flows.items (length c.self.inside.flows.items) c.args.flow c.index_mut-ends.result.now refl within c.index_mut-ends.ensures.value in
    let ends : Ends = record { sending = c.send-sent.new.sending; receiving = c.index_mut-ends.result.now.receiving } in (
      with_kept (KeepsSent c.self.inside.accepted) c.self.inside.flows.items c.self.inside.sent.items c.take_page.new.pages.items c.keep_page.new.pages.items c.args.flow ends c.send-sent.new.last.page c.self.invariant.0
          c.take_page.ensures.left c.keep_page.ensures c.send-sent.ensures.kept,
      still_kept (KeepsReceived c.self.inside.accepted) c.self.inside.flows.items c.self.inside.received.items c.args.flow c.index_mut-ends.result.now ends c.self.invariant.1 there (λ p kept. kept),
    )
