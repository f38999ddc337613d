use Rattle.std.proofs.Common.{rules, ◌∙◌, ◌++◌, [], ap, sym}
use Rattle.std.specs.Option.{option_copied}
use Rattle.std.proofs.lemmas.List.{append-nil}
use Rattle.std.specs.Prelude.{flat_map}
use Rattle.std.specs.List.{enumerate_from}
use Rattle.tool_names.specs.Names.{encoding_at}
use Rattle.tool_items.proofs.FieldObjectsListed.{adds, called_inside, format_in, none_called, none_inside, tokens_are, tokens_at}
use Rattle.tool_items.proofs.field_objects.+add_fields.Goals as goal
use Rattle.tool_items.proofs.field_objects.+add_fields.Goals.{in-Some+in-Some-callee+in_ok-further+in_ok-add_fields, in-Some+in_default-callee, in_default}

pub loop-i-init : goal.loop-i-init
loop-i-init t c =
    ap (λ tokens. c.args.object.now ++ tokens)
    (ap (λ fs. flat_map (λ p. tokens_at c.args.methods.now (encoding_at c.args.methods.now c.args.method (format_in c.args.filling.now) p.0) c.args.depth p.1) (enumerate_from 0 fs)) c.as_slice-field-items.ensures ∙ sym (tokens_are c.args.methods.now c.args.filling.now c.args.method c.args.depth))

pub loop-i-preserved : goal.loop-i-preserved
loop-i-preserved t c =
    let methods = c.args.methods.now in
    let k = c.args.method in
    let format = format_in c.args.filling.now in
    let depth = c.args.depth in
    let e = option_copied c.encoding_at-encoding.result in
    elim c.match-field.branch [
      | in-Some+in-Some-callee+in_ok-further+in_ok-add_fields w ↦
          adds methods k format depth c.as_slice-field-items.result.now c.loop-i.i _ e _ c.add_field.new.object _ _ _ c.loop-i-test.true c.field-item.is c.loop-i.invariant c.encoding_at-encoding.ensures c.in_ok-add_field.ensures
          (called_inside methods k format depth e _ w.in-Some-callee.callee w.in_ok-further.further w.in-Some.inner (sym w.callee.ensures ∙ w.in-Some-callee.is) (search (rules)) w.in_ok-further.ensures)
          (w.object-is ∙ w.in_ok-add_fields.ensures)
      | in-Some+in_default-callee w ↦
          adds methods k format depth c.as_slice-field-items.result.now c.loop-i.i _ e _ c.add_field.new.object _ _ [] c.loop-i-test.true c.field-item.is c.loop-i.invariant c.encoding_at-encoding.ensures c.in_ok-add_field.ensures
          (none_called methods k format depth e _ (sym w.callee.ensures ∙ w.in_default-callee.is))
          (w.object-is ∙ sym (append-nil c.add_field.new.object))
      | in_default w ↦
          adds methods k format depth c.as_slice-field-items.result.now c.loop-i.i _ e _ c.add_field.new.object _ _ [] c.loop-i-test.true c.field-item.is c.loop-i.invariant c.encoding_at-encoding.ensures c.in_ok-add_field.ensures
          (none_inside methods k format depth e _ (search (rules)))
          (w.object-is ∙ sym (append-nil c.add_field.new.object))
    ]
