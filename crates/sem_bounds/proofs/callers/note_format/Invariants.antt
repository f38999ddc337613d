use Rattle.std.proofs.Common.{◌≡◌, take}
use Rattle.std.specs.List.{list_any}
use Rattle.sem_bounds.specs.Callers as spec
use Rattle.sem_profile.specs.Parameters.{is_call}
use Rattle.sem_bounds.proofs.callers.note_format.Given as goal

abbrev pub invariant-loop-field : goal.invariant-loop-field
invariant-loop-field l = l.rows.items ≡ spec.noted l.place (λ k. list_any (λ d. is_call k d.encoding) (take l.field-index l.format.fields)) l.fn.rows.items
