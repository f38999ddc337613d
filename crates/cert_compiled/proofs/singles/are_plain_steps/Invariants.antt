use Rattle.sem_filling.proofs.Each.{Before}
use Rattle.cert_compiled.specs.Single.{IsPlain}
use Rattle.cert_compiled.proofs.singles.are_plain_steps.Given as goal

abbrev pub invariant-loop-step : goal.invariant-loop-step
invariant-loop-step l = Before (λ n s. IsPlain s) l.steps l.step-index
