use Rattle.std.proofs.Common.{rules, to_z, of_z, refl, ◌≡◌, subst, ◌≤ℤ◌, ◌<ℤ◌, pos, get_or, arith}
use mir.Syntax.{w64, w128}
use Rattle.std.proofs.lemmas.Int.{ints}
use Rattle.std.proofs.lemmas.List.{take_rest}
use Rattle.tool_items.proofs.NearestWindows.{PassedSoFar, passed_all, passed_here, passed_more}
use Rattle.tool_items.proofs.nearest.Front.pass.Goals as goal

pub returns-then-entry-bound : goal.returns-then-entry-bound
returns-then-entry-bound c =
    let bound : to_z w128 (of_z w128 c.args.bound) ≡ c.args.bound = (search rules) in
    let step : to_z w128 (of_z w128 (to_z w64 (of_z w64 (get_or c.args.self.now.left.now c.loop-place.place (pos 0, 0)).0))) ≡ (get_or c.args.self.now.left.now c.loop-place.place (pos 0, 0)).0 = (search rules) in
    let far : c.args.bound ≤ℤ (get_or c.args.self.now.left.now c.loop-place.place (pos 0, 0)).0 = omega (arith, ints, c.if-entry-bound.true, bound, step) in
    passed_here c.args.bound c.args.self.now _ c.loop-place.place c.loop-place.self.passed (pos 0, 0) (omega (arith, c.loop-place-test.true)) far (take_rest c.args.self.now.left.now c.loop-place.place) refl (subst (λ b. PassedSoFar b c.args.self.now.passed c.args.self.now.left.now c.loop-place.place c.loop-place.self.passed) bound c.loop-place.invariant)

pub loop-place-preserved : goal.loop-place-preserved
loop-place-preserved c =
    let bound : to_z w128 (of_z w128 c.args.bound) ≡ c.args.bound = (search rules) in
    let step : to_z w128 (of_z w128 (to_z w64 (of_z w64 (get_or c.args.self.now.left.now c.loop-place.place (pos 0, 0)).0))) ≡ (get_or c.args.self.now.left.now c.loop-place.place (pos 0, 0)).0 = (search rules) in
    let near : (get_or c.args.self.now.left.now c.loop-place.place (pos 0, 0)).0 <ℤ to_z w128 (of_z w128 c.args.bound) = omega (arith, ints, c.if-entry-bound.false, bound, step) in
    passed_more _ c.args.self.now.passed c.args.self.now.left.now c.loop-place.place c.loop-place.self.passed c.in_ok-self.field-0 (pos 0, 0) (omega (arith, c.loop-place-test.true)) near c.in_ok-self.ensures c.loop-place.invariant

pub returns : goal.returns
returns c =
    let bound : to_z w128 (of_z w128 c.args.bound) ≡ c.args.bound = (search rules) in
    passed_all c.args.bound c.args.self.now _ c.loop-place.place c.loop-place.self.passed (omega (arith, c.loop-place-test.false)) refl refl (subst (λ b. PassedSoFar b c.args.self.now.passed c.args.self.now.left.now c.loop-place.place c.loop-place.self.passed) bound c.loop-place.invariant)
