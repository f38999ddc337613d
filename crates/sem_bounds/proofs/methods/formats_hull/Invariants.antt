use Rattle.std.proofs.Common.{◌≡◌, take, fold}
use Rattle.sem_profile.specs.Methods.{sides_hull}
use Rattle.sem_bounds.proofs.methods.formats_hull.Given as goal

abbrev pub invariant-loop-format : goal.invariant-loop-format
invariant-loop-format l = l.whole ≡ fold (λ s g. sides_hull s g.whole) l.initial.whole (take l.format-index l.rest)
