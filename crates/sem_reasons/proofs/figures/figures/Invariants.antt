use Rattle.std.proofs.Common.{◌≡◌, drop}
use Rattle.sem_expr.specs.Bounds.{bounding_of}
use Rattle.sem_reasons.specs.Figures.{figures, figures_from}
use Rattle.sem_reasons.proofs.figures.figures.Given as goal

abbrev pub invariant-loop-input : goal.invariant-loop-input
invariant-loop-input l = figures_from (bounding_of l.ranges) l.found (drop l.input-index l.input-items) ≡ figures (bounding_of l.fn.ranges) l.fn.condition
