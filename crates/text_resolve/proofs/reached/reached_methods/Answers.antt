use Rattle.std.proofs.Common.{◌≡◌, slice_set, true}
use Rattle.std.proofs.lemmas.Result.{IfOk-weaker}
use Rattle.text_resolve.specs.Reached.{marked_from}
use Rattle.sem_profile.specs.Uses.{AreReached}
use Rattle.text_resolve.proofs.ReachedKeeping.{used_within, reached_are_kept}
use Rattle.text_resolve.proofs.reached.reached_methods.Goals as goal

pub reached-requires-clause-within : goal.reached-requires-clause-within
reached-requires-clause-within c = rw c.requires.graph (used_within c.args.methods c.requires.within)

pub returns : goal.returns
returns c =
    let marks = rw c.requires.graph at c.in_ok-is_reached.ensures in
    let made = rw (c.as_slice.ensures, c.set.ensures) at c.marked_methods.ensures in
    IfOk-weaker c.marked_methods.result (λ kept. kept ≡ marked_from (slice_set c.in_ok-is_reached.is_reached c.args.top true) 0 c.args.methods) (AreReached c.args.methods c.args.top)
    (λ kept is. reached_are_kept c.args.methods c.args.top c.in_ok-is_reached.is_reached kept c.requires.top marks is) made
