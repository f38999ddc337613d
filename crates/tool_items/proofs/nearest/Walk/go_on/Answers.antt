use Rattle.std.proofs.Common.{rules, to_z, of_z, refl, ◌≡◌, ◌∙◌, ap, subst, ◌≤◌, ◌^◌, ◌+ℤ◌, pos, arith}
use mir.Syntax.{w64, w128}
use Rattle.std.specs.Int.RustNames.{unsigned_abs}
use Rattle.std.proofs.lemmas.Int.{ints}
use Rattle.tool_items.specs.Nearest.{Passes}
use Rattle.tool_items.proofs.NearestBest.{as_good, better}
use Rattle.tool_items.proofs.nearest.Walk.go_on.Goals as goal

pub returns-then-taken-self : goal.returns-then-taken-self
returns-then-taken-self c =
    let step : to_z w128 (of_z w128 (to_z w64 (of_z w64 c.args.step))) ≡ c.args.step = (search rules) in
    let end : to_z w128 (of_z w128 c.end_of.result) ≡ c.end_of.result = (search rules) in
    let small : unsigned_abs c.args.step ≤ 2 ^ 64 = omega (arith, ints, c.ranges.step) in
    better c.args.bits c.args.step (to_z w128 (of_z w128 c.end_of.result)) c.args.self.now _ c.saturating_sub-taken.result
    (end ∙ c.end_of.ensures ∙ ap (λ z. z +ℤ pos (2 ^ c.args.bits)) step)
    (subst (λ z. Passes z c.args.self.now.start c.pass.new.self) step c.in_ok-pass.ensures) c.in_ok-pass-2.ensures c.saturating_sub-taken.ensures c.if-taken-self.true step refl small

pub returns-else-taken-self : goal.returns-else-taken-self
returns-else-taken-self c =
    let step : to_z w128 (of_z w128 (to_z w64 (of_z w64 c.args.step))) ≡ c.args.step = (search rules) in
    let end : to_z w128 (of_z w128 c.end_of.result) ≡ c.end_of.result = (search rules) in
    as_good c.args.bits c.args.step (to_z w128 (of_z w128 c.end_of.result)) c.args.self.now _ c.saturating_sub-taken.result
    (end ∙ c.end_of.ensures ∙ ap (λ z. z +ℤ pos (2 ^ c.args.bits)) step)
    (subst (λ z. Passes z c.args.self.now.start c.pass.new.self) step c.in_ok-pass.ensures) c.in_ok-pass-2.ensures c.saturating_sub-taken.ensures (omega (arith, c.if-taken-self.false)) refl
