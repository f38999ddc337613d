use Rattle.std.proofs.Common.{◌∙◌, ap, sym, List}
use Rattle.sem_expr.specs.declared.expr.Expr.{Expr}
use Rattle.sem_profile.specs.BoundsFaults.{earliest}
use Rattle.sem_bounds.specs.Glance.{judge}
use Rattle.sem_bounds.proofs.glance.constraint_quiet.Goals as goal

pub returns-in-Bracket : goal.returns-in-Bracket
returns-in-Bracket c =
    rw c.in-Bracket.is
    (λ t format. ap (λ (es : List Expr). earliest (judge c.args.sizes.now c.args.parameters.now format) es) (sym c.as_slice.ensures) ∙ c.all_quiet.ensures t format)
