use Rattle.std.proofs.Common.{None, refl}
use Rattle.std.proofs.lemmas.Int.{to_z-of_z}
use Rattle.std.specs.Int.{w128}
use Rattle.text_statements.specs.Initial.{not_spelled}
use Rattle.text_statements.proofs.initial.spelled.Goals as goal

pub returns-in-Some-clause-found : goal.returns-in-Some-clause-found
returns-in-Some-clause-found c =
    let only = rw (c.in-Some.is, c.new.ensures) at c.in_ok-bits.ensures None in
    rw (to_z-of_z w128 c.args.length c.ranges.length, to_z-of_z w128 c.args.value c.ranges.value) at only.0.0

pub returns-clause-refused : goal.returns-clause-refused
returns-clause-refused c =
    let none = rw (c.in-None.is, c.new.ensures) at c.in_ok-bits.ensures None in
    let none_such = rw (to_z-of_z w128 c.args.length c.ranges.length, to_z-of_z w128 c.args.value c.ranges.value) at none in
    rw c.no_value.ensures (not_spelled (λ bits spells. none_such bits (spells, refl)))
