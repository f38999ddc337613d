use Rattle.std.proofs.Common.{◌≡◌, ◌∙◌, refl, rules, ap, ◌+◌, ◌++◌, length, arith}
use Rattle.std.proofs.lemmas.Result.{err_from_is_err_and}
use Rattle.std.proofs.lemmas.List.{length_push}
use Rattle.cert_prove.specs.Known.{subsets_by}
use Rattle.cert_prove.proofs.GrowingOutcome.{known_of, known_as, begun, whole, not_whole, next, shown_is, has_no_node, has_node}
use Rattle.cert_prove.proofs.tree.grown.Goals as goal

pub loop-place-init : goal.loop-place-init
loop-place-init c =
    let known = known_of c.args.version c.args.formats.now c.args.sizes.now c.in_ok-tolds.tolds.items _ c.in_ok-far.far _ c.as_slice.ensures c.in_ok-tolds.ensures c.as_slice-2.ensures.value c.in_ok-far.ensures in
    let long : c.len.result ≡ length c.in_ok-tolds.tolds.items = (search rules) in
    record {
      count = ap length c.new-nodes.ensures;
      so_far = begun c.args.version c.args.formats.now c.args.sizes.now c.in_ok-tolds.tolds.items c.in_ok-far.far c.new-nodes.result c.in_ok-all_numbers.field-0 c.new-sets.result c.push.new.self c.len.result known c.new-nodes.ensures long
          c.in_ok-all_numbers.ensures c.new-sets.ensures c.in_ok-push.ensures;
    }

pub returns-in_default-clause-grown : goal.returns-in_default-clause-grown
returns-in_default-clause-grown c =
    whole c.args.version c.args.formats.now c.args.sizes.now c.loop-place.nodes c.loop-place.sets c.in_default.ensures.0 (omega (arith, c.loop-place-test.true, c.loop-place.invariant.count)) c.loop-place.invariant.so_far

pub returns-in_err-node-clause-unparted : goal.returns-in_err-node-clause-unparted
returns-in_err-node-clause-unparted c =
    let p = err_from_is_err_and c.from_residual-in_err-node.result c.from_residual-in_err-node.ensures.1 in
    let known = known_of c.args.version c.args.formats.now c.args.sizes.now c.in_ok-tolds.tolds.items _ c.in_ok-far.far _ c.as_slice.ensures c.in_ok-tolds.ensures c.as_slice-2.ensures.value c.in_ok-far.ensures in
    let seen = known_as c.args.version c.args.formats.now c.args.sizes.now c.in_ok-tolds.tolds.items _ c.in_ok-far.far _ known c.as_slice-3.ensures.value c.as_slice-4.ensures in
    let n = next c.args.version c.args.formats.now c.args.sizes.now c.loop-place.nodes c.loop-place.sets c.pop.new.self c.in-Some.set _ c.in-Some.ensures c.as_slice-in-loop-place.ensures c.loop-place.invariant.so_far in
    rw (p.1, p.2)
    (has_no_node c.args.version c.args.formats.now c.args.sizes.now c.loop-place.nodes c.loop-place.sets c.pop.new.self c.in-Some.set _ c.in-Some.ensures c.as_slice-in-loop-place.ensures c.loop-place.invariant.so_far c.in_err-node.field-0.0 (omega (arith, c.loop-place-test.true, c.loop-place.invariant.count))
    (c.in_err-node.ensures c.args.formats.now n.reach seen
    (shown_is c.args.version c.args.formats.now c.args.sizes.now c.loop-place.nodes c.loop-place.sets c.pop.new.self c.in-Some.set _ c.in-Some.ensures c.as_slice-in-loop-place.ensures c.loop-place.invariant.so_far)))

pub loop-place-preserved : goal.loop-place-preserved
loop-place-preserved c =
    let known = known_of c.args.version c.args.formats.now c.args.sizes.now c.in_ok-tolds.tolds.items _ c.in_ok-far.far _ c.as_slice.ensures c.in_ok-tolds.ensures c.as_slice-2.ensures.value c.in_ok-far.ensures in
    let seen = known_as c.args.version c.args.formats.now c.args.sizes.now c.in_ok-tolds.tolds.items _ c.in_ok-far.far _ known c.as_slice-3.ensures.value c.as_slice-4.ensures in
    let n = next c.args.version c.args.formats.now c.args.sizes.now c.loop-place.nodes c.loop-place.sets c.pop.new.self c.in-Some.set _ c.in-Some.ensures c.as_slice-in-loop-place.ensures c.loop-place.invariant.so_far in
    let is = c.in_ok-node.ensures c.args.formats.now n.reach seen
    (shown_is c.args.version c.args.formats.now c.args.sizes.now c.loop-place.nodes c.loop-place.sets c.pop.new.self c.in-Some.set _ c.in-Some.ensures c.as_slice-in-loop-place.ensures c.loop-place.invariant.so_far) in
    let after = c.in_ok-push_subsets.ensures ∙ (λ i. subsets_by (c.as_slice-in-loop-place-2.ensures.value i) (c.as_slice-in-loop-place-3.ensures i) c.in_ok-node.node ++ c.pop.new.self) in
    record {
      count = ap length c.in_ok-push-2.ensures.ok ∙ (length_push c.loop-place.nodes c.in_ok-node.node ∙ ap (λ n. n + 1) c.loop-place.invariant.count);
      so_far = has_node c.args.version c.args.formats.now c.args.sizes.now c.loop-place.nodes c.loop-place.sets c.pop.new.self c.in-Some.set _ c.in-Some.ensures c.as_slice-in-loop-place.ensures c.loop-place.invariant.so_far
          c.in_ok-tolds.tolds.items c.in_ok-far.far c.push-in-loop-place.new.self c.in_ok-node.node c.push_subsets.new.sets known is c.in_ok-push-2.ensures.ok after;
    }

pub returns-then-is_empty-clause-grown : goal.returns-then-is_empty-clause-grown
returns-then-is_empty-clause-grown c =
    whole c.args.version c.args.formats.now c.args.sizes.now c.loop-place.nodes c.loop-place.sets (c.if-is_empty.ensures.0 refl) (omega (arith, c.loop-place.invariant.count)) c.loop-place.invariant.so_far

pub returns-clause-unparted : goal.returns-clause-unparted
returns-clause-unparted c =
    not_whole c.args.version c.args.formats.now c.args.sizes.now c.loop-place.nodes c.loop-place.sets (λ e. let wrong = c.if-is_empty.ensures.1 e in absurd (cc)) (omega (arith, c.loop-place-test.false, c.loop-place.invariant.count)) c.loop-place.invariant.so_far
