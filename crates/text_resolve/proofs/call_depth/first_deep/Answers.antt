use Rattle.std.proofs.Common.{◌≡◌, ◌∙◌, ◌+◌, ℕ, drop, suc, sym, subst, arith}
use Rattle.text_resolve.specs.CallDepth.{first_deep}
use Rattle.text_resolve.proofs.CallDepthShallow.{passed}
use Rattle.text_resolve.proofs.call_depth.first_deep.Goals as goal

pub loop-place-preserved : goal.loop-place-preserved
loop-place-preserved c =
    let names = c.args.names.now in
    let ends = c.args.ends.now in
    let k = c.loop-place.place in
    let next : suc k ≡ k + 1 = omega arith in
    subst (λ n. first_deep ends n (drop n names) ≡ first_deep ends 0 names) next
    (sym (passed ends k names k c.loop-place-test.true (sym c.is_marked_at.ensures ∙ c.if-is_marked_at.false)) ∙ c.loop-place.invariant)
