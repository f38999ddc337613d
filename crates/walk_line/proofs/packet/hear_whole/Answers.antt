use Rattle.std.proofs.Common.{◌≡◌, ◌∙◌, refl, rules, sym, ◌+◌, ◌-◌, ◌<◌, [], ◌∷◌, length, get_or, arith}
use Rattle.std.proofs.lemmas.Option.{slice_get_read}
use Rattle.std.specs.Prelude.{slice_get, Some}
use Rattle.walk_line.proofs.LinesBegun.{heard_whole}
use Rattle.walk_line.proofs.PagesKept.{others_kept, taken_kept, with_kept}
use Rattle.walk_line.proofs.packet.hear_whole.Goals as goal

pub returns-in_ok-push-in-Some-heard-clause-some : goal.returns-in_ok-push-in-Some-heard-clause-some
returns-in_ok-push-in-Some-heard-clause-some c =
    let octets = c.args.octets.now in
    let first = get_or octets 0 0 in
    let starts = rw c.in-Packet.is at c.in-Some.ensures in
    let same : c.from-place.result ≡ first = c.from-place.ensures ∙ c.number.ensures.value ∙ sym starts.0 in
    let count : length c.args.contexts.now.items ≡ c.len.result = search rules in
    let below : c.in-Packet.flow < c.len.result = starts.1 in
    let place : c.from-place.result ≡ c.in-Packet.flow = c.from-place.ensures ∙ c.number.ensures.value in
    let there : slice_get c.args.contexts.now.items c.from-place.result ≡ Some c.index_mut-context.result.now =
    slice_get_read c.args.contexts.now.items (length c.args.contexts.now.items) c.from-place.result c.index_mut-context.result.now refl (omega arith) c.index_mut-context.ensures.value in
    let whole = rw c.in-Some-heard.is at c.in_ok-heard.ensures.some in (
      (c.in-Packet.flow, c.in-Some-heard.whole.0) ∷ [],
      c.in_ok-push-in-Some-heard.ensures.items,
      heard_whole c.args.accepted.now c.args.contexts.now.items octets _ first c.from-place.result c.in-Packet.flow c.in-Some-heard.whole.1 c.index_mut-context.result.now c.whole_packet.new.context c.in-Some-heard.whole.0
          c.requires.some refl ((1 + c.min-ahead.result) - 1) refl whole.0 same (sym starts.0) there whole.1,
    )

pub whole_packet-requires : goal.whole_packet-requires
whole_packet-requires c =
    let starts = rw c.in-Packet.is at c.in-Some.ensures in
    let count : length c.args.contexts.now.items ≡ c.len.result = search rules in
    let below : c.in-Packet.flow < c.len.result = starts.1 in
    let place : c.from-place.result ≡ c.in-Packet.flow = c.from-place.ensures ∙ c.number.ensures.value in
    let there : slice_get c.args.contexts.now.items c.from-place.result ≡ Some c.index_mut-context.result.now =
    slice_get_read c.args.contexts.now.items (length c.args.contexts.now.items) c.from-place.result c.index_mut-context.result.now refl (omega arith) c.index_mut-context.ensures.value in
    taken_kept c.args.accepted.now c.args.contexts.now.items c.args.pages.now.items c.from-place.result c.index_mut-context.result.now c.take_page-page.result c.requires.kept there c.take_page-page.ensures.taken

pub returns-in_err-heard-clause-kept : goal.returns-in_err-heard-clause-kept
returns-in_err-heard-clause-kept c =
    others_kept c.args.accepted.now c.args.contexts.now.items c.args.pages.now.items c.take_page-page.new.pages.items c.from-place.result c.whole_packet.new.context c.requires.kept c.take_page-page.ensures.left

pub returns-in_err-push-in-Some-heard-clause-kept : goal.returns-in_err-push-in-Some-heard-clause-kept
returns-in_err-push-in-Some-heard-clause-kept c =
    with_kept c.args.accepted.now c.args.contexts.now.items c.args.pages.now.items c.take_page-page.new.pages.items c.keep_page.new.pages.items c.from-place.result c.whole_packet.new.context c.whole_packet.new.page c.requires.kept
    c.take_page-page.ensures.left c.keep_page.ensures c.in_ok-heard.ensures.kept

pub returns-in_ok-push-in-Some-heard-clause-kept : goal.returns-in_ok-push-in-Some-heard-clause-kept
returns-in_ok-push-in-Some-heard-clause-kept c =
    with_kept c.args.accepted.now c.args.contexts.now.items c.args.pages.now.items c.take_page-page.new.pages.items c.keep_page.new.pages.items c.from-place.result c.whole_packet.new.context c.whole_packet.new.page c.requires.kept
    c.take_page-page.ensures.left c.keep_page.ensures c.in_ok-heard.ensures.kept

pub returns-in-None-clause-kept : goal.returns-in-None-clause-kept
returns-in-None-clause-kept c =
    with_kept c.args.accepted.now c.args.contexts.now.items c.args.pages.now.items c.take_page-page.new.pages.items c.keep_page.new.pages.items c.from-place.result c.whole_packet.new.context c.whole_packet.new.page c.requires.kept
    c.take_page-page.ensures.left c.keep_page.ensures c.in_ok-heard.ensures.kept
