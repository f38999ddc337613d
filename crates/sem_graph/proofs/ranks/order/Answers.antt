use Rattle.std.proofs.Common.{subst, ◌∙◌}
use Rattle.std.proofs.lemmas.Result.{IfOk-weaker}
use Rattle.sem_graph.specs.Order.{Orders}
use Rattle.sem_graph.specs.Sort.{IsByRank}
use Rattle.sem_graph.proofs.Ordered.{ordered}
use Rattle.sem_graph.proofs.ranks.order.Goals as goal

pub returns : goal.returns
returns c = IfOk-weaker c.by_rank.result (IsByRank c.as_slice.result.now) (Orders c.args.table.now)
    (λ order sorted. ordered c.args.table.now order (subst (λ ranks. IsByRank ranks order) (c.as_slice.ensures ∙ c.in_ok-ranks.ensures) sorted)) c.by_rank.ensures
