use Rattle.std.proofs.Common.{◌≡◌, ◌∙◌, Some, ap, sym}
use Rattle.std.specs.Prelude.{slice_get}
use Rattle.std.specs.Map.{keys_of}
use Rattle.sem_context.specs.Placing.{place_of, shown}
use Rattle.sem_context.proofs.PlacingPaths.{placed_at}
use Rattle.sem_context.proofs.context.Context.place_of.Goals as goal

pub returns-then-is_at : goal.returns-then-is_at
returns-then-is_at c =
    let items = c.self.inside.kept.items in
    let there : slice_get (keys_of (shown items)) c.get-hint.result ≡ Some c.args.path.now = ap (λ xs. slice_get (keys_of (shown xs)) c.get-hint.result) (sym c.as_slice-kept.ensures.value) ∙ c.is_at.ensures.0 c.if-is_at.true in
    sym (placed_at (shown items) c.get-hint.result c.args.path.now c.self.invariant.distinct there) ∙ ap (λ es. place_of es c.args.path.now) c.self.view_is
