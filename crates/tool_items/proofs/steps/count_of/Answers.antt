use Rattle.std.proofs.Common.{rules, to_z, of_z, ◌≡◌, ◌∙◌, ap}
use mir.Syntax.{w64}
use Rattle.std.specs.BTreeMap.{get}
use Rattle.std.specs.Map.{count_at}
use Rattle.std.specs.Option.{unwrap_or}
use Rattle.std.specs.Ordering.{int_cmp}
use Rattle.tool_items.proofs.steps.count_of.Goals as goal

pub returns-in-Some : goal.returns-in-Some
returns-in-Some c =
    let step : to_z w64 (of_z w64 c.args.step) ≡ c.args.step = (search rules) in
    ap (λ o. unwrap_or o 0) c.in-Some.ensures.value ∙ ap (count_at (get int_cmp c.args.counts.now)) step

pub returns-in-None : goal.returns-in-None
returns-in-None c =
    let step : to_z w64 (of_z w64 c.args.step) ≡ c.args.step = (search rules) in
    ap (λ o. unwrap_or o 0) c.in-None.ensures.value ∙ ap (count_at (get int_cmp c.args.counts.now)) step
