use Rattle.tool_items.proofs.TrendsGrowing.{Nones}
use Rattle.tool_items.proofs.trends.Trends.new.Given as goal

abbrev pub invariant-loop : goal.invariant-loop
invariant-loop l = Nones l.fields.items l.counter
