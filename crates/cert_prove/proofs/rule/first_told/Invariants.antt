use Rattle.std.proofs.Common.{◌≡◌, drop}
use Rattle.std.specs.Prelude.{slice_get}
use Rattle.std.specs.List.{find, flat_map}
use Rattle.cert_prove.specs.Known as spec
use Rattle.cert_prove.specs.Tried.{AreTried}
use Rattle.cert_prove.proofs.rule.first_told.Given as goal

abbrev pub invariant-loop-format : goal.invariant-loop-format
invariant-loop-format l = (
    find (spec.reference_parts l.tolds l.set) (flat_map (λ n. spec.told_references (slice_get l.tolds n)) (drop l.format-index l.set)) ≡
    find (spec.reference_parts l.tolds l.set) (flat_map (λ n. spec.told_references (slice_get l.tolds n)) l.set)) × AreTried (spec.reference_parts l.tolds l.set) l.tried
