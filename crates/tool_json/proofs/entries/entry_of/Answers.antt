use Rattle.tool_json.proofs.EntriesParted.{entry_joins}
use Rattle.tool_json.proofs.entries.entry_of.Goals as goal

pub returns-clause-whole : goal.returns-clause-whole
returns-clause-whole c =
    entry_joins c.args.line.now c.in_ok-path.path.now c.in_ok-path.bits.now c.in_ok-count.count.now c.in_ok-count.digits.now c.in_ok-number_of.field-0 c.in_ok-path.ensures c.in_ok-count.ensures c.in_ok-number_of.ensures
