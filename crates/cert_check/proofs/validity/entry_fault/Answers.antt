use Rattle.cert_check.proofs.JudgedRefusing.{found_in, tree_refuses_as, tree_is_right, formats_refuse}
use Rattle.cert_check.proofs.validity.entry_fault.Goals as goal

pub returns-in-Some-clause-found : goal.returns-in-Some-clause-found
returns-in-Some-clause-found c =
    tree_refuses_as c.args.version c.args.table.now c.args.k c.args.method.now c.args.bounds.now c.args.entry.now _ _ c.in-Some.fault _ c.as_slice.ensures c.as_slice-2.ensures
    (found_in _ c.in_ok-fault.field-0 c.in-Some.fault c.in-Some.is c.in_ok-fault.ensures.found) c.of_tree.ensures

pub returns-clause-found : goal.returns-clause-found
returns-clause-found c = formats_refuse c.args.version c.args.table.now c.args.k c.args.method.now c.args.bounds.now c.args.entry.now c.formats_fault.result (tree_is_right c.args.method.now c.args.bounds.now c.args.entry.now _ _ c.in_ok-fault.field-0 c.in_default.is c.as_slice.ensures c.as_slice-2.ensures c.in_ok-fault.ensures.right) c.formats_fault.ensures.found
