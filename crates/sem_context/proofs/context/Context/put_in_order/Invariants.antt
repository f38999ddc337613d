use Rattle.std.proofs.Common.{◌≡◌, drop}
use Rattle.sem_context.proofs.EntriesInOrder.{IsPending}
use Rattle.sem_context.proofs.context.Context.put_in_order.Given as goal

abbrev pub invariant-loop-place : goal.invariant-loop-place
invariant-loop-place l = (drop l.place l.values.items ≡ drop l.place l.fn.values.items) × IsPending l.fn.self l.fn.values.items l.place l.self
