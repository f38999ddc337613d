use Rattle.std.proofs.Common.{◌≡◌, ◌++◌, drop}
use Rattle.std.specs.Prelude.{option_map}
use Rattle.sem_filling.specs.Fits.{vals}
use Rattle.sem_pages.specs.Pages.{numbers_seen}
use Rattle.sem_pages.proofs.expressions.add_values.Given as goal

abbrev pub invariant-loop-expr : goal.invariant-loop-expr
invariant-loop-expr l = option_map (λ vs. l.found.items ++ vs) (vals (numbers_seen l.view) (drop l.expr-index l.exprs)) ≡ vals (numbers_seen l.view) l.exprs
