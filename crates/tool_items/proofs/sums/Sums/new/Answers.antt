use Rattle.std.proofs.Common.{sym, subst, []}
use Rattle.tool_items.specs.Sums.{AreBelow}
use Rattle.tool_items.proofs.SumsLaws.{none_summed}
use Rattle.tool_items.proofs.SumsRolled.{level_none}
use Rattle.tool_items.proofs.sums.Sums.new.Goals as goal

pub returns-clause-sums : goal.returns-clause-sums
returns-clause-sums c = subst (AreBelow []) (sym (level_none _ _ c.none.ensures c.new.ensures.items)) none_summed
