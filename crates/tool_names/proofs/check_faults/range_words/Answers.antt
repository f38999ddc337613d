use Rattle.std.proofs.Common.{rules, append_assoc}
use Rattle.tool_names.proofs.check_faults.range_words.Goals as goal

pub returns : goal.returns
returns c = search (rules, append_assoc)
