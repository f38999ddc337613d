use Rattle.std.proofs.Common.{◌≡◌, take}
use Rattle.std.specs.Prelude.{None}
use Rattle.sem_profile.specs.declared.profile.Format.{Format}
use Rattle.sem_profile.specs.BoundsFaults.{earliest}
use Rattle.sem_bounds.specs.Glance.{judge}
use Rattle.sem_bounds.proofs.glance.all_quiet.Given as goal

abbrev pub invariant-loop-expr : goal.invariant-loop-expr
invariant-loop-expr l = (format : Format) → earliest (judge l.sizes l.parameters format) (take l.expr-index l.exprs) ≡ None
