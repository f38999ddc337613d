use Rattle.std.proofs.Common.{◌∙◌, sym}
use Rattle.text_resolve.proofs.CallsSites.{calls_within}
use Rattle.text_resolve.proofs.RecursionReturns.{is_recursive, none_returns}
use Rattle.text_resolve.proofs.recursion.ordered.Goals as goal

pub table-requires : goal.table-requires
table-requires c = rw (c.as_slice.ensures, c.in_ok-calls.ensures) (calls_within c.args.text.now c.args.methods.now c.args.parts.now c.requires.names)

pub returns-in-Some-clause-refused : goal.returns-in-Some-clause-refused
returns-in-Some-clause-refused c =
    let each = rw (c.as_slice.ensures, c.in_ok-calls.ensures) at c.in_ok-table.ensures.1 in
    let back = rw c.as_slice-rows.ensures at c.in_ok-fault.ensures in
    is_recursive c.in_ok-table.table c.args.text.now c.args.methods.now c.args.parts.now c.in-Some.fault c.requires.names each (sym back ∙ c.in-Some.is)

pub returns-clause-order : goal.returns-clause-order
returns-clause-order c =
    let tables = rw (c.as_slice.ensures, c.in_ok-calls.ensures) at c.in_ok-table.ensures in
    let back = rw c.as_slice-rows.ensures at c.in_ok-fault.ensures in
    let orders = rw c.as_slice-3.ensures at c.in_ok-order.ensures in
    rw c.in_ok-calls.ensures (orders _ (calls_within c.args.text.now c.args.methods.now c.args.parts.now c.requires.names) tables.0 tables.1
    (none_returns c.in_ok-table.table c.args.text.now c.args.methods.now c.args.parts.now c.requires.names tables.1 (sym back ∙ c.in_default.is)))
