use Rattle.std.proofs.Common.{◌≡◌, drop}
use Rattle.sem_reasons.specs.Figures.{has_input}
use Rattle.sem_reasons.proofs.figures.has_input.Given as goal

abbrev pub invariant-loop-figure : goal.invariant-loop-figure
invariant-loop-figure l = has_input l.input (drop l.figure-index l.figures) ≡ has_input l.fn.input l.fn.figures
