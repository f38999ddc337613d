use Rattle.std.proofs.Common.{◌≡◌, ◌++◌, drop}
use Rattle.std.specs.Prelude.{option_map}
use Rattle.sem_filling.specs.Fits.{vals}
use Rattle.walk_write.specs.Premises.{numbers}
use Rattle.walk_write.proofs.premises.tells_values.Given as goal

abbrev pub invariant-loop-expr : goal.invariant-loop-expr
invariant-loop-expr l =
    option_map (λ vs. l.values.items ++ vs) (vals (numbers l.told) (drop l.expr-index l.exprs)) ≡ vals (numbers l.told) l.exprs
