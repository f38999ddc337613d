use Rattle.cert_trees.specs.Judged.{JudgedTo}
use Rattle.cert_trees.proofs.faults.tree_fault.Given as goal

abbrev pub invariant-loop-place : goal.invariant-loop-place
invariant-loop-place l = JudgedTo l.formats l.sizes l.nodes l.place l.sets
