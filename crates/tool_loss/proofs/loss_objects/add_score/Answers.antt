use Rattle.std.specs.Prelude.{◌++◌, codes}
use Rattle.tool_names.specs.Objects.{number}
use Rattle.tool_items.proofs.ObjectChains.{at_last, then_more}
use Rattle.tool_loss.proofs.loss_objects.add_score.Goals as goal

pub returns : goal.returns
returns c =
    let packets = number (codes "packets") c.args.score.packets in
    let right = number (codes "right") c.args.score.right in
    let refused = number (codes "refused") c.args.score.refused in
    let wrong = number (codes "wrong") c.args.score.wrong in
    let two = then_more c.args.object.now packets right _ _ c.in_ok-number.ensures c.in_ok-number-2.ensures in
    let three = then_more c.args.object.now (packets ++ right) refused _ _ two c.in_ok-number-3.ensures in
    at_last c.args.object.now ((packets ++ right) ++ refused) wrong _ _ c.number-4.result three c.number-4.ensures
