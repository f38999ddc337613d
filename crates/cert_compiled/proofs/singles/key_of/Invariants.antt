use Rattle.cert_compiled.proofs.singles.key_of.Given as goal

abbrev pub invariant-loop-constraint : goal.invariant-loop-constraint
invariant-loop-constraint l = Unit {0}
