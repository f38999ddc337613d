use Rattle.std.proofs.Common.{◌≡◌, ◌∙◌, refl, ◌<◌, length, arith}
use Rattle.std.specs.Prelude.{slice_get, Some}
use Rattle.std.proofs.lemmas.Option.{slice_get_read}
use Rattle.walk_line.specs.Lines.Act.{Send, Reset}
use Rattle.walk_frames.proofs.Puttings.{if_err_more, is_put, not_put, on_ok_more, reset_put}
use Rattle.walk_frames.proofs.sender.Sender.send.Goals as goal

pub returns-clause-ok : goal.returns-clause-ok
returns-clause-ok c =
    let place : c.from-place.result ≡ c.args.flow = c.from-place.ensures ∙ c.number.ensures.value in
    let small = c.number.ensures.below in
    let count = c.self.invariant in
    let there : slice_get c.self.inside.senders.items c.from-place.result ≡ Some c.index_mut-sender.result.now =
    slice_get_read c.self.inside.senders.items (length c.self.inside.senders.items) c.from-place.result c.index_mut-sender.result.now refl (omega (arith, place, small, count)) c.index_mut-sender.ensures.value in
    on_ok_more c.put_packet.result
    (λ put. is_put c.self.inside.accepted.now c.self.inside.senders.items c.args.self.now c.args.flow c.from-place.result c.number-2.result c.index_mut-sender.result.now c.put_packet.new.sender (Send c.args.item.now)
    c.args.out.now.items c.put_packet.new.out.items there place c.number-2.ensures.value c.self.view_is (put))
    c.put_packet.ensures.ok

pub returns-clause-fault : goal.returns-clause-fault
returns-clause-fault c =
    let place : c.from-place.result ≡ c.args.flow = c.from-place.ensures ∙ c.number.ensures.value in
    let small = c.number.ensures.below in
    let count = c.self.invariant in
    let there : slice_get c.self.inside.senders.items c.from-place.result ≡ Some c.index_mut-sender.result.now =
    slice_get_read c.self.inside.senders.items (length c.self.inside.senders.items) c.from-place.result c.index_mut-sender.result.now refl (omega (arith, place, small, count)) c.index_mut-sender.ensures.value in
    if_err_more _ _ c.put_packet.result
    (λ e blames. not_put c.self.inside.accepted.now c.self.inside.senders.items c.args.self.now c.args.flow c.from-place.result c.index_mut-sender.result.now (Send c.args.item.now) e there place c.self.view_is blames)
    c.put_packet.ensures.fault
