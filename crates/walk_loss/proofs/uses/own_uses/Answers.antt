use Rattle.std.proofs.Common.{◌∙◌, sym, ap, subst, [], ◌∷◌, ◌++◌}
use Rattle.sem_expr.specs.Known.{assignment_of}
use Rattle.walk_loss.specs.Uses.{UsesBy}
use Rattle.walk_loss.proofs.Walking.{none_by, one_by}
use Rattle.walk_loss.proofs.uses.own_uses.Goals as goal

pub returns-in_default : goal.returns-in_default
returns-in_default c =
    subst (UsesBy c.args.path.now c.args.field.now (assignment_of c.args.known.now) c.args.library.now c.args.filled.now) (sym c.new.ensures)
    (none_by c.args.path.now c.args.field.now (assignment_of c.args.known.now) c.args.library.now c.args.filled.now c.in_default.ensures)

pub returns : goal.returns
returns c =
    subst (UsesBy c.args.path.now c.args.field.now (assignment_of c.args.known.now) c.args.library.now c.args.filled.now)
    (sym (c.in_ok-push.ensures.ok ∙ ap (λ xs. xs ++ c.in_ok-one.one ∷ []) c.new-found.ensures ∙ ap (λ u. u ∷ []) c.in_ok-one.ensures))
    (one_by c.args.path.now c.args.field.now (assignment_of c.args.known.now) c.args.library.now c.args.filled.now c.in-Some.method c.in-Some.ensures)
