use Rattle.std.proofs.Common.{rules}
use Rattle.tool_names.proofs.CandidatesCapped.{many_bits}
use Rattle.tool_names.proofs.candidates.power.Goals as goal

pub returns-then-bits-ge64 : goal.returns-then-bits-ge64
returns-then-bits-ge64 c = search (rules, many_bits)
