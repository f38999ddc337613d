use Rattle.std.proofs.Common.{refl, sym, ap, ◌∙◌}
use Rattle.std.proofs.lemmas.Option.{slice_get_read}
use Rattle.text_methods.specs.Constraints.{is_at}
use Rattle.text_methods.proofs.encodings.own_fault.Goals as goal

pub item_fault-requires : goal.item_fault-requires
item_fault-requires c = λ is.
    let here = slice_get_read c.args.own.now.items.now _ c.loop-place.place c.item-item.result refl c.loop-place-test.true c.item-item.is in
    c.requires c.copied.result c.loop-place.place c.item-item.result (sym (c.is_at-is_fine.ensures ∙ ap (is_at c.args.own.now.number c.loop-place.place) c.choice_of.ensures) ∙ is) here
