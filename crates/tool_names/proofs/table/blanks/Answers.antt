use Rattle.std.proofs.Common.{◌∙◌}
use Rattle.tool_names.proofs.TableBlanks.{cut, ends_at}
use Rattle.tool_names.proofs.table.blanks.Goals as goal

pub range-requires-clause-end_boundary : goal.range-requires-clause-end_boundary
range-requires-clause-end_boundary c = ends_at c.args.count c.requires

pub returns : goal.returns
returns c = c.range.ensures.value ∙ cut c.args.count c.requires
