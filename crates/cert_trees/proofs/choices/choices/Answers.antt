use Rattle.cert_trees.proofs.Counting.{choices_more}
use Rattle.cert_trees.proofs.choices.choices.Goals as goal

pub loop-field-preserved : goal.loop-field-preserved
loop-field-preserved c =
    choices_more c.args.format.now c.as_slice-field-items.result.now c.loop-field.field-index c.len.result c.field-item.result c.loop-field.found c.push.new.self c.field_choice.result c.as_slice-field-items.ensures
    c.loop-field-test.true c.field-item.is c.len.ensures c.field_choice.ensures c.in_ok-push.ensures.ok c.loop-field.invariant
