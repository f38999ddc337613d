use Rattle.std.proofs.Common.{◌∙◌}
use Rattle.cert_trees.proofs.JudgedStacks.{never_empty, taken, next}
use Rattle.cert_trees.proofs.faults.judge.Goals as goal

pub returns-in_default : goal.returns-in_default
returns-in_default c = λ formats nodes told at so. absurd (never_empty formats c.args.sizes.now nodes c.args.place c.args.node c.args.sets.now at c.in_default.ensures.0 so)

pub returns-in-Some-node_fault : goal.returns-in-Some-node_fault
returns-in-Some-node_fault c = λ formats nodes told at so.
    let t = taken formats c.args.sizes.now nodes c.args.place c.args.node c.args.sets.now c.pop.new.self c.in-Some.set at c.in-Some.ensures so in
    c.in-Some-node_fault.ensures formats nodes t.reach (c.as_slice.ensures ∙ t.set_is) t.stands

pub returns : goal.returns
returns c = λ formats nodes told at so.
    let t = taken formats c.args.sizes.now nodes c.args.place c.args.node c.args.sets.now c.pop.new.self c.in-Some.set at c.in-Some.ensures so in
    let right = c.in_default-node_fault.ensures formats nodes t.reach (c.as_slice.ensures ∙ t.set_is) t.stands in
    next formats c.args.sizes.now nodes c.args.tolds.now c.args.place c.args.node c.pop.new.self c.push_branches.new.sets c.in-Some.set t right told c.in_ok-push_branches.ensures.offset
    (rw c.as_slice-2.ensures at c.in_ok-push_branches.ensures.pushed)
