use Rattle.tool_items.proofs.TrendsGrowing.{FieldsSoFar}
use Rattle.tool_items.proofs.trends.add_fields.Given as goal

abbrev pub invariant-loop-place : goal.invariant-loop-place
invariant-loop-place l = FieldsSoFar l.lost l.filling l.fn.fields.items l.place l.fields.items
