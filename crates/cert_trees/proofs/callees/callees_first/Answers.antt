use Rattle.std.proofs.Common.{◌∙◌, map, sym, subst}
use Rattle.std.proofs.lemmas.Result.{IfOk-weaker}
use Rattle.sem_graph.specs.Calls.{Within}
use Rattle.sem_graph.specs.Order.{Orders}
use Rattle.sem_profile.specs.Methods.{IsOrder}
use Rattle.cert_trees.specs.Calling.{called}
use Rattle.cert_trees.proofs.CallingCallees.{graph_within, graph_ends, order_of_graph}
use Rattle.cert_trees.proofs.callees.callees_first.Goals as goal

pub table-requires : goal.table-requires
table-requires c = subst (λ rows. Within rows) (sym (c.as_slice.ensures ∙ c.in_ok-calls.ensures)) (graph_within c.args.methods.now c.requires.within)

pub returns : goal.returns
returns c =
    let same = c.as_slice.ensures ∙ c.in_ok-calls.ensures in
    let made = rw same at c.in_ok-table.ensures in
    IfOk-weaker c.order.result (Orders c.as_slice-2.result.now) (IsOrder c.args.methods.now)
    (λ o orders.
    let ordered = subst (λ rows. Orders rows o) c.as_slice-2.ensures orders in
    order_of_graph c.args.methods.now o (ordered (map called c.args.methods.now) (graph_within c.args.methods.now c.requires.within) made.0 made.1 (graph_ends c.args.methods.now c.requires.ordered)))
    c.order.ensures
