use Rattle.std.proofs.Common.{◌≡◌, refl, rules, subst, sym, ◌<◌, length, arith}
use Rattle.std.specs.Prelude.{slice_get, Some}
use Rattle.std.proofs.lemmas.Option.{slice_get_read}
use Rattle.walk_line.specs.Lines.Act.{Send}
use Rattle.walk_line.specs.States.{Sending}
use Rattle.walk_line.proofs.PagesKept.{taken_kept, with_kept}
use Rattle.walk_line.proofs.LinesSends.{on_ok_more, if_err_more, send_put, send_fault, none_there}
use Rattle.walk_line.proofs.sender.Sender.send.Goals as goal

pub returns-in_default-clause-fault : goal.returns-in_default-clause-fault
returns-in_default-clause-fault c = none_there c.args.self.now (record { flow = c.args.flow; act = Send c.args.item.now }) c.in_default.ensures

pub returns-clause-ok : goal.returns-clause-ok
returns-clause-ok c =
    let same : c.in-Some.place ≡ c.args.flow = c.in-Some.ensures.1 in
    let below : c.args.flow < length c.self.inside.contexts.items = subst (λ (s : Sending). c.args.flow < length s.contexts) (sym c.self.view_is) c.in-Some.ensures.0 in
    let there : slice_get c.self.inside.contexts.items c.in-Some.place ≡ Some c.index_mut-context.result.now =
    slice_get_read c.self.inside.contexts.items (length c.self.inside.contexts.items) c.in-Some.place c.index_mut-context.result.now refl (omega arith) c.index_mut-context.ensures.value in
    on_ok_more c.put_packet-put.result
    (λ packed. send_put c.self.inside.accepted.now c.self.inside.contexts.items c.args.self.now c.args.flow c.in-Some.place c.number-number.result c.index_mut-context.result.now c.put_packet-put.new.context c.args.item.now
    c.args.out.now.items c.put_packet-put.new.out.items there same c.number-number.ensures.value c.self.view_is packed)
    c.put_packet-put.ensures.ok

pub returns-clause-fault : goal.returns-clause-fault
returns-clause-fault c =
    let same : c.in-Some.place ≡ c.args.flow = c.in-Some.ensures.1 in
    let below : c.args.flow < length c.self.inside.contexts.items = subst (λ (s : Sending). c.args.flow < length s.contexts) (sym c.self.view_is) c.in-Some.ensures.0 in
    let there : slice_get c.self.inside.contexts.items c.in-Some.place ≡ Some c.index_mut-context.result.now =
    slice_get_read c.self.inside.contexts.items (length c.self.inside.contexts.items) c.in-Some.place c.index_mut-context.result.now refl (omega arith) c.index_mut-context.ensures.value in
    if_err_more _ _ c.put_packet-put.result
    (λ e blames. send_fault c.self.inside.accepted.now c.self.inside.contexts.items c.args.self.now c.args.flow c.in-Some.place c.index_mut-context.result.now c.args.item.now e there same c.self.view_is blames)
    c.put_packet-put.ensures.fault

pub put_packet-put-requires : goal.put_packet-put-requires
put_packet-put-requires c =
    let below : c.args.flow < length c.self.inside.contexts.items = subst (λ (s : Sending). c.args.flow < length s.contexts) (sym c.self.view_is) c.in-Some.ensures.0 in
    let same : c.in-Some.place ≡ c.args.flow = c.in-Some.ensures.1 in
    let there : slice_get c.self.inside.contexts.items c.in-Some.place ≡ Some c.index_mut-context.result.now =
    slice_get_read c.self.inside.contexts.items (length c.self.inside.contexts.items) c.in-Some.place c.index_mut-context.result.now refl (omega arith) c.index_mut-context.ensures.value in
    taken_kept c.self.inside.accepted.now c.self.inside.contexts.items c.self.inside.pages.items c.in-Some.place c.index_mut-context.result.now c.take_page.result c.self.invariant.1 there c.take_page.ensures.taken

pub invariant_of-self : goal.invariant_of-self
invariant_of-self c = (
  (search rules),
  with_kept c.self.inside.accepted.now c.self.inside.contexts.items c.self.inside.pages.items c.take_page.new.pages.items c.keep_page.new.pages.items c.in-Some.place c.put_packet-put.new.context c.put_packet-put.new.last.page
      c.self.invariant.1 c.take_page.ensures.left c.keep_page.ensures c.put_packet-put.ensures.kept,
)
