use Rattle.std.proofs.Common.{◌≡◌, ◌-◌, ◌*◌, ◌++◌, replicate, string_bytes}
use Rattle.tool_names.proofs.table.push_blanks.Given as goal

abbrev pub invariant-loop : goal.invariant-loop
invariant-loop l = string_bytes l.output ++ replicate (l.count - 64 * l.counter) 32 ≡ string_bytes l.fn.output ++ replicate l.count 32
