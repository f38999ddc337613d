use Rattle.std.proofs.Common.{◌∙◌, ap, subst, map}
use Rattle.std.specs.Prelude.{Some}
use Rattle.tool_items.specs.Steps.{AddSteps, step}
use Rattle.tool_items.specs.Trends.{AddsNext, lengths_with}
use Rattle.tool_items.proofs.TrendsGrowing.{added_value}
use Rattle.tool_items.proofs.trends.Trend.add.Goals as goal

pub returns : goal.returns
returns c =
    added_value c.args.lost c.args.value.now c.args.self.now _ (ap Some (c.lengths_with.ensures ∙ ap (lengths_with c.args.self.now.lengths) c.len.ensures.value)) c.in_ok-add.ensures
    (subst (λ rs. AddsNext rs c.args.value.now c.args.self.now.next c.add_next.new.next) c.as_slice.ensures.value c.in_ok-add_next.ensures)
    (subst (λ rs. AddSteps (map (λ r. step r c.args.value.now) rs) c.args.self.now.all c.add_from.new.self) c.as_slice-2.ensures.value c.in_ok-add_from.ensures)
    c.in_ok-keep.ensures
