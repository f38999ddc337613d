use Rattle.std.proofs.Common.{◌≡◌, ◌∙◌, ◌<◌, ℕ, Some, sym, length, arith, subst, ap}
use Rattle.std.specs.Prelude.{slice_get}
use Rattle.std.specs.Map.{keys_of}
use Rattle.sem_context.specs.Placing.{shown}
use Rattle.sem_context.proofs.PlacingPaths.{placed_at, nowhere, length-shown}
use Rattle.sem_context.proofs.context.place_among.Goals as goal

pub returns-then-is_at : goal.returns-then-is_at
returns-then-is_at c = sym (placed_at (shown c.args.kept.now) c.loop-place.place c.args.path.now c.requires (c.is_at.ensures.0 c.if-is_at.true))

pub returns : goal.returns
returns c = sym (nowhere (shown c.args.kept.now) c.args.path.now (λ i l. c.loop-place.invariant i (omega (arith, l, length-shown c.args.kept.now, c.loop-place-test.false))))
