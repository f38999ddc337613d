use Rattle.std.proofs.Common.{take}
use Rattle.cert_rules.specs.Facts.{inputs_of_all}
use Rattle.cert_prove.specs.Needed.{Adds}
use Rattle.cert_prove.proofs.needed.push_all.Given as goal

abbrev pub invariant-loop-expr : goal.invariant-loop-expr
invariant-loop-expr l = Adds l.format (inputs_of_all l.format (take l.expr-index l.exprs)) l.fn.facts l.fn.wholes l.facts l.wholes
