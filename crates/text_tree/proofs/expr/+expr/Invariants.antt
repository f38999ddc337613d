use Rattle.std.proofs.Common.{◌≡◌, suc, ◌+◌, ◌-◌, ◌*◌, length}
use Rattle.text_tree.specs.Rules.{all}
use Rattle.text_tree.specs.Expr as spec
use Rattle.text_tree.proofs.Exprs.{climb_from}
use Rattle.text_tree.proofs.expr.+expr.Given as goal

abbrev pub decreases-prim : goal.decreases-prim
decreases-prim l = 32 * l.depth + 1

abbrev pub decreases-group : goal.decreases-group
decreases-group l = 32 * l.depth + 28

abbrev pub decreases-denial : goal.decreases-denial
decreases-denial l = 32 * l.depth + 28

abbrev pub decreases-nested : goal.decreases-nested
decreases-nested l = 32 * l.depth + 29

abbrev pub decreases-tiers : goal.decreases-tiers
decreases-tiers l = 32 * l.depth + 4 * l.tier + 3

abbrev pub decreases-climb : goal.decreases-climb
decreases-climb l = 32 * l.depth + 4 * l.tier + 2

abbrev pub decreases-operation : goal.decreases-operation
decreases-operation l = 32 * l.depth + 4 * l.tier + 4

abbrev pub invariant-climb-loop-found : goal.invariant-climb-loop-found
invariant-climb-loop-found l = climb_from all l.depth (suc l.tier - l.least) l.least l.left l.tokens ≡ spec.climb all l.tier (spec.prim all l.depth) l.fn.first l.fn.tokens

abbrev pub decreases-climb-loop-found : goal.decreases-climb-loop-found
decreases-climb-loop-found l = length l.tokens
