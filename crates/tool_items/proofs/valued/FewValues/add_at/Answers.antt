use Rattle.std.proofs.Common.{refl, ◌∙◌, ap, get_or, ◌+◌}
use Rattle.tool_items.specs.declared.valued.ValueCount.{ValueCount}
use Rattle.tool_items.proofs.ValuesCounting.{added_at, read_at}
use Rattle.tool_items.proofs.valued.FewValues.add_at.Goals as goal

pub returns : goal.returns
returns c =
    let read = ap (λ xs. get_or xs c.args.place c.index-as_slice-place.result) c.as_slice.ensures ∙ read_at c.args.self.now.kept c.args.place c.requires.0 c.index-as_slice-place.result c.requires.1 in
    added_at c.args.value.now c.args.self.now _ c.args.place c.requires.0 _ c.requires.1 c.requires.2 c.in_ok-bits.ensures (c.in_ok-count.ensures ∙ ap (λ (e : ValueCount). e.count + 1) read) c.set.ensures refl
