use Rattle.std.proofs.Common.{◌<◌}
use Rattle.std.specs.Prelude.{◌^◌}
use Rattle.rows_calls.proofs.library.register.Given as goal

abbrev pub invariant-loop : goal.invariant-loop
invariant-loop l = l.register < 2 ^ 8
