use Rattle.std.proofs.Common.{◌≡◌, drop}
use Rattle.std.specs.Prelude.{slice_get}
use Rattle.std.specs.List.{find, flat_map}
use Rattle.cert_prove.specs.Known as spec
use Rattle.cert_prove.specs.Tried.{AreTried}
use Rattle.cert_prove.proofs.rule.first_equation.Given as goal

abbrev pub invariant-loop-format : goal.invariant-loop-format
invariant-loop-format l = (
    find (spec.equation_parts l.tolds l.ranges l.set) (flat_map (λ n. spec.told_equations (slice_get l.tolds n)) (drop l.format-index l.set)) ≡
    find (spec.equation_parts l.tolds l.ranges l.set) (flat_map (λ n. spec.told_equations (slice_get l.tolds n)) l.set)) × AreTried (spec.equation_parts l.tolds l.ranges l.set) l.tried
