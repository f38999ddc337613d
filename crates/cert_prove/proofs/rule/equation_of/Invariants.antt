use Rattle.std.proofs.Common.{◌≡◌, drop}
use Rattle.std.specs.List.{find}
use Rattle.cert_prove.specs.Known as spec
use Rattle.cert_prove.specs.Tried.{AreTried}
use Rattle.cert_prove.proofs.rule.equation_of.Given as goal

abbrev pub invariant-loop-equation : goal.invariant-loop-equation
invariant-loop-equation l = AreTried (spec.equation_parts l.tolds l.ranges l.set) l.fn.tried →
    (find (spec.equation_parts l.tolds l.ranges l.set) (drop l.equation-index l.equation-items) ≡ find (spec.equation_parts l.tolds l.ranges l.set) l.equation-items) × AreTried (spec.equation_parts l.tolds l.ranges l.set) l.tried
