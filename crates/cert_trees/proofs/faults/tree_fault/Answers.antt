use Rattle.std.proofs.Common.{◌≡◌, ◌+◌, [], ◌∷◌, length, replicate, true, rules}
use Rattle.std.proofs.lemmas.Option.{slice_get-get_or, MatchOption-at_some, MatchOption-at_none}
use Rattle.cert_trees.specs.Faults.{IsTreeFault}
use Rattle.cert_trees.specs.Judged.{JudgedTo}
use Rattle.cert_trees.proofs.JudgedStacks.{begun, all_judged}
use Rattle.cert_trees.proofs.faults.tree_fault.Goals as goal

pub loop-place-init : goal.loop-place-init
loop-place-init c =
    let is : c.push.new.self ≡ replicate (length c.in_ok-tolds.tolds.items) true ∷ [] = (search rules) in
    begun c.in_ok-tolds.tolds.items _ _ _ _ (rw c.as_slice.ensures at c.in_ok-tolds.ensures) c.requires is

pub returns-in-Some-clause-found : goal.returns-in-Some-clause-found
returns-in-Some-clause-found c =
    let told = rw (c.as_slice.ensures, ← c.as_slice-in-loop-place.ensures.value) at c.in_ok-tolds.ensures in
    let h = c.in_ok-found.ensures c.args.formats.now c.args.nodes.now told (slice_get-get_or c.args.nodes.now c.loop-place.place _ c.loop-place-test.true) c.loop-place.invariant in
    MatchOption-at_some (JudgedTo c.args.formats.now c.args.sizes.now c.args.nodes.now (c.loop-place.place + 1) c.judge.new.sets) (IsTreeFault c.args.formats.now c.args.sizes.now c.args.nodes.now) c.in-Some.fault c.in-Some.is h

pub loop-place-preserved : goal.loop-place-preserved
loop-place-preserved c =
    let told = rw (c.as_slice.ensures, ← c.as_slice-in-loop-place.ensures.value) at c.in_ok-tolds.ensures in
    let h = c.in_ok-found.ensures c.args.formats.now c.args.nodes.now told (slice_get-get_or c.args.nodes.now c.loop-place.place _ c.loop-place-test.true) c.loop-place.invariant in
    MatchOption-at_none (JudgedTo c.args.formats.now c.args.sizes.now c.args.nodes.now (c.loop-place.place + 1) c.judge.new.sets) (IsTreeFault c.args.formats.now c.args.sizes.now c.args.nodes.now) c.in_default.is h

pub returns-clause-right : goal.returns-clause-right
returns-clause-right c = all_judged _ _ _ c.loop-place.place c.loop-place.sets c.loop-place-test.false c.requires c.loop-place.invariant
