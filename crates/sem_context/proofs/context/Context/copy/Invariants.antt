use Rattle.std.proofs.Common.{◌≡◌, ◌++◌, drop}
use Rattle.sem_context.specs.Placing.{shown}
use Rattle.sem_context.proofs.context.Context.copy.Given as goal

abbrev pub invariant-loop-path : goal.invariant-loop-path
invariant-loop-path l = l.copy ++ shown (drop l.path-index l.path-items) ≡ l.self
