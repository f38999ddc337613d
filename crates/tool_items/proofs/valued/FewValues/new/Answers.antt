use Rattle.std.proofs.Common.{refl}
use Rattle.tool_items.proofs.ValuesCounting.{none_yet}
use Rattle.tool_items.proofs.valued.FewValues.new.Goals as goal

pub returns : goal.returns
returns c = none_yet _ c.new.ensures refl
