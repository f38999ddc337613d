use Rattle.std.proofs.Common.{◌≡◌, refl, ap, subst, sym, None}
use Rattle.std.specs.BTreeMap.{get_by_text}
use Rattle.sem_context.specs.Placing.{ArePlaced, shown}
use Rattle.sem_context.proofs.PlacingPaths.{placed_none}
use Rattle.sem_context.proofs.context.Context.new.Goals as goal

pub invariant_of-result : goal.invariant_of-result
invariant_of-result c = subst (λ es. ArePlaced (shown es) (get_by_text c.new-2.result)) (sym c.new.ensures.items) (placed_none (get_by_text c.new-2.result) (λ path. cc (c.new-2.ensures.empty)))
