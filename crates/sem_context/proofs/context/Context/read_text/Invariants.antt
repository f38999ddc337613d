use Rattle.std.proofs.Common.{map, take}
use Rattle.sem_context.specs.Text.{IsReading}
use Rattle.sem_context.proofs.context.Context.read_text.Given as goal

abbrev pub invariant-loop-line : goal.invariant-loop-line
invariant-loop-line l = IsReading (map (λ x. (x.number, x.text.now)) (take l.line-index l.line-items)) l.context
