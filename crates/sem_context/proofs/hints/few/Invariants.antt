use Rattle.sem_context.proofs.hints.few.Given as goal

abbrev pub invariant-loop-octet : goal.invariant-loop-octet
invariant-loop-octet l = Unit {0}
