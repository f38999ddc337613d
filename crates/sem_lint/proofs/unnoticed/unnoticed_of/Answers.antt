use Rattle.std.proofs.Common.{◌∙◌, sym, ap, subst}
use Rattle.sem_graph.specs.Calls.{Within}
use Rattle.sem_lint.specs.Unnoticed.{graph_of}
use Rattle.sem_lint.proofs.UnnoticedReaching.{all_within, told_unnoticed}
use Rattle.sem_lint.proofs.unnoticed.unnoticed_of.Goals as goal

pub table-requires : goal.table-requires
table-requires c =
    subst (λ g. Within g) (sym (c.as_slice.ensures ∙ c.in_ok-graph.ensures ∙ ap (graph_of c.args.dead.now) c.methods-methods.ensures))
    (all_within c.args.profile.now c.args.dead.now c.keeps.ensures)

pub returns : goal.returns
returns c =
    told_unnoticed c.args.profile.now c.methods-methods.result.now c.args.dead.now c.in_ok-graph.graph c.in_ok-own.own c.in_ok-reached.reached c.top-top.result c.unnoticed_among.result c.requires
    c.methods-methods.ensures c.in_ok-graph.ensures c.in_ok-own.ensures (rw c.as_slice.ensures at c.in_ok-reached.ensures) c.top-top.ensures
    (rw (c.as_slice-2.ensures, c.as_slice-3.ensures) at c.unnoticed_among.ensures)
