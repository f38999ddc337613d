use Rattle.std.proofs.Common.{◌≡◌, ◌∙◌, refl, rules, sym, ◌<◌, [], ◌∷◌, length, drop, arith}
use Rattle.std.proofs.lemmas.List.{append-nil}
use Rattle.std.specs.Prelude.{slice_get, Some}
use Rattle.std.proofs.lemmas.Option.{slice_get_read}
use Rattle.walk_line.proofs.LinesBegun.{fresh, heard_awaited, heard_taken, heard_reset, packet_fault, start_fault}
use Rattle.walk_line.proofs.packet.hear.Goals as goal

pub returns-in_default-clause-err : goal.returns-in_default-clause-err
returns-in_default-clause-err c =
    let e = c.first.ensures in
    (refl, start_fault c.args.accepted.now c.args.contexts.now.items c.args.begun.now (drop 1 c.args.begun.now) c.first.result c.len.result (search rules) e c.in_default.ensures)

pub returns-in-Reset-clause-ok : goal.returns-in-Reset-clause-ok
returns-in-Reset-clause-ok c =
    let e = c.first.ensures in
    let starts = rw c.in-Reset.is at c.in-Some.ensures in (
      [],
      sym (append-nil c.args.out.now.items),
      heard_reset c.args.accepted.now c.args.contexts.now.items c.args.begun.now (drop 1 c.args.begun.now) c.clear-in-Reset.new.self c.first.result c.in-Reset.flow c.from-in-Reset.result c.len.result
          c.new.result c.requires.new (search rules) e starts.0 starts.1 (c.from-in-Reset.ensures ∙ c.number-in-Reset.ensures.value) c.new.ensures c.clear-in-Reset.ensures,
    )

pub try_packet-requires : goal.try_packet-requires
try_packet-requires c =
    let e = c.first.ensures in
    let starts = rw c.in-Packet.is at c.in-Some.ensures in
    let same : c.from.result ≡ c.first.result = c.from.ensures ∙ c.number.ensures.value ∙ sym starts.0 in
    let count : length c.args.contexts.now.items ≡ c.len.result = search rules in
    let below : c.in-Packet.flow < c.len.result = starts.1 in
    let place : c.from.result ≡ c.in-Packet.flow = c.from.ensures ∙ c.number.ensures.value in
    let there : slice_get c.args.contexts.now.items c.from.result ≡ Some c.index_mut-context.result.now =
    slice_get_read c.args.contexts.now.items (length c.args.contexts.now.items) c.from.result c.index_mut-context.result.now refl (omega arith) c.index_mut-context.ensures.value in
    fresh c.args.accepted.now c.args.contexts.now.items c.args.begun.now (drop 1 c.args.begun.now) c.first.result c.from.result c.index_mut-context.result.now c.requires.new e same there

pub returns-in_ok-push-in-Ok-clause-ok : goal.returns-in_ok-push-in-Ok-clause-ok
returns-in_ok-push-in-Ok-clause-ok c =
    let e = c.first.ensures in
    let starts = rw c.in-Packet.is at c.in-Some.ensures in
    let same : c.from.result ≡ c.first.result = c.from.ensures ∙ c.number.ensures.value ∙ sym starts.0 in
    let count : length c.args.contexts.now.items ≡ c.len.result = search rules in
    let below : c.in-Packet.flow < c.len.result = starts.1 in
    let place : c.from.result ≡ c.in-Packet.flow = c.from.ensures ∙ c.number.ensures.value in
    let there : slice_get c.args.contexts.now.items c.from.result ≡ Some c.index_mut-context.result.now =
    slice_get_read c.args.contexts.now.items (length c.args.contexts.now.items) c.from.result c.index_mut-context.result.now refl (omega arith) c.index_mut-context.ensures.value in
    let taken = rw c.in-Some-tried.is at c.in-Ok.ensures.ok in (
      (c.in-Packet.flow, c.in-Some-tried.item) ∷ [],
      c.in_ok-push-in-Ok.ensures.items,
      heard_taken c.args.accepted.now c.args.contexts.now.items c.args.begun.now (drop 1 c.args.begun.now) c.clear.new.self c.first.result c.from.result c.in-Packet.flow
          c.index_mut-context.result.now c.try_packet.new.context c.in-Some-tried.item e same (sym starts.0) there taken c.clear.ensures,
    )

pub returns-in_default-tried-clause-ok : goal.returns-in_default-tried-clause-ok
returns-in_default-tried-clause-ok c =
    let e = c.first.ensures in
    let starts = rw c.in-Packet.is at c.in-Some.ensures in
    let same : c.from.result ≡ c.first.result = c.from.ensures ∙ c.number.ensures.value ∙ sym starts.0 in
    let count : length c.args.contexts.now.items ≡ c.len.result = search rules in
    let below : c.in-Packet.flow < c.len.result = starts.1 in
    let place : c.from.result ≡ c.in-Packet.flow = c.from.ensures ∙ c.number.ensures.value in
    let there : slice_get c.args.contexts.now.items c.from.result ≡ Some c.index_mut-context.result.now =
    slice_get_read c.args.contexts.now.items (length c.args.contexts.now.items) c.from.result c.index_mut-context.result.now refl (omega arith) c.index_mut-context.ensures.value in
    let awaited = rw c.in_default-tried.is at c.in-Ok.ensures.ok in (
      [],
      sym (append-nil c.args.out.now.items),
      heard_awaited c.args.accepted.now c.args.contexts.now.items c.args.begun.now (drop 1 c.args.begun.now) c.first.result c.from.result c.index_mut-context.result.now c.try_packet.new.context e same there awaited,
    )

pub returns-in-Err-clause-err : goal.returns-in-Err-clause-err
returns-in-Err-clause-err c =
    let e = c.first.ensures in
    let starts = rw c.in-Packet.is at c.in-Some.ensures in
    let same : c.from.result ≡ c.first.result = c.from.ensures ∙ c.number.ensures.value ∙ sym starts.0 in
    let count : length c.args.contexts.now.items ≡ c.len.result = search rules in
    let below : c.in-Packet.flow < c.len.result = starts.1 in
    let place : c.from.result ≡ c.in-Packet.flow = c.from.ensures ∙ c.number.ensures.value in
    let there : slice_get c.args.contexts.now.items c.from.result ≡ Some c.index_mut-context.result.now =
    slice_get_read c.args.contexts.now.items (length c.args.contexts.now.items) c.from.result c.index_mut-context.result.now refl (omega arith) c.index_mut-context.ensures.value in
    (refl, packet_fault c.args.accepted.now c.args.contexts.now.items c.args.begun.now (drop 1 c.args.begun.now) c.first.result c.from.result c.index_mut-context.result.now c.in-Err.fault e same there c.in-Err.ensures.err)
