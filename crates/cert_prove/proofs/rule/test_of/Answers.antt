use Rattle.std.proofs.Common.{◌≡◌, sym, rules, to_z, of_z}
use mir.Syntax.{w128}
use Rattle.cert_prove.proofs.KnownFinding.{is_wide, near_found, far_found, equation_found, reference_found, nothing_found}
use Rattle.cert_prove.proofs.rule.test_of.Goals as goal

pub returns-in-Some : goal.returns-in-Some
returns-in-Some c = λ formats reach known of first_at second_at.
    near_found c.args.version formats c.args.known.now.sizes.now c.args.known.now.tolds.now c.args.known.now.far.now c.args.set.now reach c.args.first c.args.second known of first_at second_at
    c.as_slice-bounds.result.now c.as_slice-bounds.ensures c.least-shortest.result c.least-shortest.type_inv c.least-shortest.ensures c.tried.result c.tried.ensures c.in-Some.offset
    c.in-Some.ensures.0 c.in-Some.ensures.1 c.in-Some.ensures.2

pub returns-then-far_bit_parts : goal.returns-then-far_bit_parts
returns-then-far_bit_parts c = λ formats reach known of first_at second_at.
    far_found c.args.version formats c.args.known.now.sizes.now c.args.known.now.tolds.now c.args.known.now.far.now c.args.set.now reach c.args.first c.args.second known of first_at second_at
    c.as_slice-bounds.result.now c.as_slice-bounds.ensures c.least-shortest.result c.least-shortest.type_inv c.least-shortest.ensures c.tried.result c.tried.ensures
    c.in_default.ensures (sym c.if-far_bit_parts.ensures)

pub returns-in-Some-first_equation : goal.returns-in-Some-first_equation
returns-in-Some-first_equation c = λ formats reach known of first_at second_at.
    let kept : to_z w128 (of_z w128 c.in-Some-first_equation.equation.constant) ≡ c.in-Some-first_equation.equation.constant = (search rules) in
    equation_found c.args.version formats c.args.known.now.sizes.now c.args.known.now.tolds.now c.args.known.now.far.now c.args.set.now reach c.args.first c.args.second known of first_at second_at
    c.as_slice-bounds.result.now c.as_slice-bounds.ensures c.least-shortest.result c.least-shortest.type_inv c.least-shortest.ensures c.tried.result c.tried.ensures
    c.in_default.ensures (sym c.if-far_bit_parts.ensures) c.as_slice.result.now c.as_slice.ensures c.in-Some-first_equation.equation (sym c.in-Some-first_equation.ensures) _ kept
    (is_wide (of_z w128 c.in-Some-first_equation.equation.constant))

pub returns-in-Some-first_reference : goal.returns-in-Some-first_reference
returns-in-Some-first_reference c = λ formats reach known of first_at second_at.
    let kept : to_z w128 (of_z w128 c.in-Some-first_reference.equation.constant) ≡ c.in-Some-first_reference.equation.constant = (search rules) in
    reference_found c.args.version formats c.args.known.now.sizes.now c.args.known.now.tolds.now c.args.known.now.far.now c.args.set.now reach c.args.first c.args.second known of first_at second_at
    c.as_slice-bounds.result.now c.as_slice-bounds.ensures c.least-shortest.result c.least-shortest.type_inv c.least-shortest.ensures c.tried.result c.tried.ensures
    c.in_default.ensures (sym c.if-far_bit_parts.ensures) c.as_slice.result.now c.as_slice.ensures (sym c.in_default-first_equation.ensures) c.in-Some-first_reference.equation (sym c.in-Some-first_reference.ensures) _ kept
    (is_wide (of_z w128 c.in-Some-first_reference.equation.constant))

pub returns-in-None : goal.returns-in-None
returns-in-None c = λ formats reach known of first_at second_at.
    nothing_found c.args.version formats c.args.known.now.sizes.now c.args.known.now.tolds.now c.args.known.now.far.now c.args.set.now reach c.args.first c.args.second known of first_at second_at
    c.as_slice-bounds.result.now c.as_slice-bounds.ensures c.least-shortest.result c.least-shortest.type_inv c.least-shortest.ensures c.tried.result c.tried.ensures
    c.in_default.ensures (sym c.if-far_bit_parts.ensures) c.as_slice.result.now c.as_slice.ensures (sym c.in_default-first_equation.ensures) (sym c.in-None.ensures)
