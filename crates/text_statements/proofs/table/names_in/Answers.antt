use Rattle.std.proofs.Common.{◌≡◌, ◌+◌, take, ◌∙◌}
use Rattle.text_statements.specs.Constants.{constant_names}
use Rattle.text_statements.proofs.ConstantsListing.{more_names, same_names}
use Rattle.text_statements.proofs.table.names_in.Goals as goal
use Rattle.text_statements.proofs.table.names_in.Goals.{in-Constant+in_ok-insert-in-Constant, in-Method}

pub loop-part-preserved : goal.loop-part-preserved
loop-part-preserved c =
    elim c.match-part.branch as (λ _. c.match-part.names ≡ constant_names c.args.text.now (take (c.loop-part.part-index + 1) c.args.parts.now)) [
      | in-Constant+in_ok-insert-in-Constant w ↦
          more_names c.args.text.now c.args.parts.now c.loop-part.part-index c.part-item.result w.in-Constant.constant c.loop-part.names c.match-part.names
          c.requires c.loop-part-test.true c.part-item.is w.in-Constant.is c.loop-part.invariant
          (w.names-is ∙ (rw w.word.ensures at w.in_ok-insert-in-Constant.ensures.ok))
      | in-Method w ↦
          w.names-is ∙ c.loop-part.invariant
          ∙ same_names c.args.text.now c.args.parts.now c.loop-part.part-index c.part-item.result w.in-Method.field-0 c.loop-part-test.true c.part-item.is w.in-Method.is
    ]
