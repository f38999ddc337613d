use Rattle.std.proofs.Common.{refl}
use Rattle.tool_items.proofs.TrendsGrowing.{adds_filling}
use Rattle.tool_items.proofs.trends.Trends.add.Goals as goal

pub returns : goal.returns
returns c = adds_filling c.args.filling.now c.args.self.now _ refl c.in_ok-self.ensures c.in_ok-add_fields.ensures
