use Rattle.tool_items.proofs.TrendsGrowing.{at_none, at_some}
use Rattle.tool_items.proofs.trends.add_field.Goals as goal

pub returns-in_ok-add-in-Some : goal.returns-in_ok-add-in-Some
returns-in_ok-add-in-Some c = at_some c.args.lost c.args.place c.args.filling.now c.in-Some.field.now c.args.trend.now _ c.in-Some.ensures.value c.in_ok-add-in-Some.ensures

pub returns-in-None : goal.returns-in-None
returns-in-None c = at_none c.args.lost c.args.place c.args.filling.now c.args.trend.now c.in-None.ensures.value
