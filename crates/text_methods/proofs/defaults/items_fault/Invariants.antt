use Rattle.std.proofs.Common.{◌≡◌, fold, drop}
use Rattle.sem_profile.specs.Precedence.{earlier}
use Rattle.text_methods.specs.Defaults.{bound_fault}
use Rattle.text_methods.proofs.defaults.items_fault.Given as goal

abbrev pub invariant-loop-item : goal.invariant-loop-item
invariant-loop-item l = fold (λ f item. earlier f (bound_fault l.scope l.methods item)) l.fault (drop l.item-index l.items) ≡ fold (λ f item. earlier f (bound_fault l.scope l.methods item)) l.fn.found l.items
