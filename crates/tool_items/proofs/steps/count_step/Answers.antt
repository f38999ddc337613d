use Rattle.std.proofs.Common.{rules, to_z, of_z, ◌≡◌, ◌∙◌, ap}
use mir.Syntax.{w64}
use Rattle.std.specs.BTreeMap.{get, insert_entry}
use Rattle.std.specs.Map.{count_at}
use Rattle.std.specs.Ordering.{int_cmp}
use Rattle.tool_items.specs.Steps.{counted}
use Rattle.tool_items.proofs.StepsCounting.{once}
use Rattle.tool_items.proofs.steps.count_step.Goals as goal

pub returns : goal.returns
returns c = λ test.
    let step : to_z w64 (of_z w64 c.args.step) ≡ c.args.step = (search rules) in
    let there = c.in_ok-insert.ensures.entries ∙ (λ i. insert_entry int_cmp c.args.counts.now.entries (step i) (c.in_ok-count.ensures i)) in
    let before = c.count_of.ensures ∙ ap (count_at (get int_cmp c.args.counts.now)) step in
    ap (counted test) there ∙ once test c.args.step c.count_of.result c.args.counts.now.entries c.insert.ensures.was_ordered before
