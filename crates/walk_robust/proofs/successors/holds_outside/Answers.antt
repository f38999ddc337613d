use Rattle.std.proofs.Common.{◌≡◌, ◌∙◌, refl, sym, ap, Some, arith}
use Rattle.std.specs.Prelude.{slice_get}
use Rattle.std.specs.Map.{keys_of}
use Rattle.std.specs.Option.{option_copied}
use Rattle.sem_context.specs.Placing.{shown}
use Rattle.walk_robust.proofs.Comings.{holds_all, holds_not}
use Rattle.walk_robust.proofs.successors.holds_outside.Goals as goal

pub returns-then-not-are_equal : goal.returns-then-not-are_equal
returns-then-not-are_equal c =
    let at : slice_get (keys_of c.args.one.now) c.loop-place.place ≡ Some c.in-Some.path.now = sym c.path_at.ensures ∙ ap option_copied c.in-Some.is in (
      (λ t. absurd (cc t)),
      (λ holds.
          absurd (holds_not (shown c.args.left.now) c.args.one.now c.args.other.now c.loop-place.place c.in-Some.path.now at
          (λ some. let t = c.is_left.ensures.1 some in absurd (cc (c.if-not-is_left.true, t)))
          (λ e. let t = c.are_equal.ensures.1 (c.get.ensures ∙ e ∙ sym c.get-then-not-is_left.ensures) in absurd (cc (c.if-not-are_equal.true, t)))
          holds)),
    )

pub returns : goal.returns
returns c = (
  (λ t. holds_all (shown c.args.left.now) c.args.one.now c.args.other.now c.loop-place.place (omega (arith, c.loop-place-test.false, c.len-place-end.ensures.value)) c.loop-place.invariant),
  (λ h. refl),
)
