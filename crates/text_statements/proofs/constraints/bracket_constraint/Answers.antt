use Rattle.std.proofs.Common.{subst, sym}
use Rattle.std.proofs.lemmas.Result.{IfOk-weaker}
use Rattle.text_statements.specs.Constraints.{BracketMeans, variable, lengths}
use Rattle.text_statements.proofs.constraints.bracket_constraint.Goals as goal

pub returns-in-Variable-clause-means : goal.returns-in-Variable-clause-means
returns-in-Variable-clause-means c = rw c.in-Variable.is variable

pub returns-in_ok-lengths-in-Lengths-clause-means : goal.returns-in_ok-lengths-in-Lengths-clause-means
returns-in_ok-lengths-in-Lengths-clause-means c =
    let are = rw c.as_slice.ensures at c.in_ok-lengths-in-Lengths.ensures.means in
    rw c.in-Lengths.is (IfOk-weaker c.lengths_constraint.result _ _ (λ cs e. subst (BracketMeans c.args.scope.now c.args.side c.args.name _) (sym e) (lengths _ are)) c.lengths_constraint.ensures.means)
