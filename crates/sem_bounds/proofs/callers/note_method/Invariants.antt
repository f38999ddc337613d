use Rattle.std.proofs.Common.{◌≡◌, take}
use Rattle.std.specs.List.{list_any}
use Rattle.sem_bounds.specs.Callers as spec
use Rattle.sem_profile.specs.Parameters.{calls}
use Rattle.sem_bounds.proofs.callers.note_method.Given as goal

abbrev pub invariant-loop-format : goal.invariant-loop-format
invariant-loop-format l = l.rows.items ≡ spec.noted l.place (λ k. list_any (calls k) (take l.format-index l.method.formats)) l.fn.rows.items
