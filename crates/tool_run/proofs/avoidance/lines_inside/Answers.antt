use Rattle.std.proofs.Common.{◌≡◌, ◌∙◌, ap, subst}
use Rattle.sem_reasons.specs.Reasons.{IsVerdict}
use Rattle.tool_run.proofs.AvoidanceLemmas.{points_hold}
use Rattle.tool_run.specs.Avoidance.{part_setting, points}
use Rattle.tool_run.proofs.avoidance.lines_inside.Goals as goal

pub returns : goal.returns
returns c =
    let ranges : c.as_slice-ranges-2.result.now ≡ points c.args.part.now.arguments = c.as_slice-ranges-2.ensures.value ∙ c.in_ok-points.ensures ∙ ap points c.as_slice-2.ensures in (
      points c.args.part.now.arguments,
      points_hold c.args.part.now.arguments,
      subst (λ rs. IsVerdict (part_setting c.args.sought.now.accepted.now c.args.context.now c.args.part.now rs) c.args.format c.in_ok-lines_under.field-0) ranges c.in_ok-lines_under.ensures,
    )
