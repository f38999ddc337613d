use Rattle.std.proofs.Common.{◌≡◌, drop}
use Rattle.std.specs.Prelude.{slice_get}
use Rattle.std.specs.List.{list_all}
use Rattle.sem_lint.specs.Unlike as spec
use Rattle.sem_lint.proofs.unlike.call_it.Given as goal

abbrev pub invariant-loop-format : goal.invariant-loop-format
invariant-loop-format l = list_all (λ g. spec.calls_it l.callee (slice_get g.fields l.place)) (drop l.format-index l.formats) ≡ spec.call_it l.place l.callee l.formats
