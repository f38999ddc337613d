use Rattle.std.proofs.Common.{◌∙◌, ap, sym}
use Rattle.std.specs.Vec.Iter.{into_iter_items}
use Rattle.sem_pages.specs.Progress.{changed}
use Rattle.sem_pages.proofs.entries.put_changes.Goals as goal

pub loop-place-preserved : goal.loop-place-preserved
loop-place-preserved c = (
  tt,
  tt,
  ap (λ es. changed es (into_iter_items c.next.new.self)) c.set_bits.ensures ∙ ap (λ xs. changed c.loop-place.context xs) (sym c.in-Some.ensures.steps.0) ∙ c.loop-place.invariant.2,
)
