use Rattle.sem_filling.proofs.Each.{Before}
use Rattle.cert_compiled.specs.Single.{IsStepTold}
use Rattle.cert_compiled.proofs.singles.are_steps_told.Given as goal

abbrev pub invariant-loop-step : goal.invariant-loop-step
invariant-loop-step l = Before (λ n s. IsStepTold l.tellers l.fn.format s) l.steps l.step-index
