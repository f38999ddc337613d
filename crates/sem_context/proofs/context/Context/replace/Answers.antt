use Rattle.std.proofs.Common.{◌≡◌, ◌∙◌, ap, sym, subst, string_bytes}
use Rattle.std.specs.Vec.Iter.{into_iter_items}
use Rattle.sem_context.specs.Entries.{overridden, with_entry}
use Rattle.sem_context.specs.Placing.{HasPaths, shown}
use Rattle.sem_context.proofs.PlacingMissing.{stay}
use Rattle.sem_context.proofs.context.Context.replace.Goals as goal

pub loop-path-preserved : goal.loop-path-preserved
loop-path-preserved c =
    let left = shown (into_iter_items c.next.new.self) in
    let put = c.put_there.ensures ∙ ap (λ p. with_entry c.loop-path.self p c.in-Some.bits) c.as_str.ensures.value in
    let steps = c.in-Some.ensures.steps.0 in
    let there = subst (λ xs. HasPaths c.loop-path.self (shown xs)) steps c.loop-path.invariant.2 in (
      tt,
      tt,
      subst (λ es. HasPaths es left) (sym put) (stay c.loop-path.self left (string_bytes c.in-Some.path) c.in-Some.bits there.1),
      ap (λ es. overridden es left) put ∙ ap (λ xs. overridden c.loop-path.self (shown xs)) (sym steps) ∙ c.loop-path.invariant.3,
    )
