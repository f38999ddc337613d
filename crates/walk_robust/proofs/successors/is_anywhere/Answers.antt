use Rattle.std.proofs.Common.{refl, arith}
use Rattle.sem_context.specs.Placing.{shown}
use Rattle.walk_robust.proofs.Comings.{length-shown, place_of_some, place_within, some_at}
use Rattle.walk_robust.proofs.successors.is_anywhere.Goals as goal

pub returns-then-is_at : goal.returns-then-is_at
returns-then-is_at c = ((λ t. some_at (shown c.args.left.now) c.loop-place.place c.args.path.now (c.is_at.ensures.0 c.if-is_at.true)), (λ some. refl))

pub returns : goal.returns
returns c = (
  (λ t. absurd (cc t)),
  (λ some.
      let r = place_of_some (shown c.args.left.now) c.args.path.now some in
      let l = place_within (shown c.args.left.now) r.0 c.args.path.now r.1 in
      absurd (c.loop-place.invariant r.0 (omega (arith, l, length-shown c.args.left.now, c.loop-place-test.false)) r.1)),
)
