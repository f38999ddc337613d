use Rattle.std.proofs.Common.{rules, ◌≡◌, ◌<◌, ◌∙◌, Some, ap, sym, subst, length, refl, arith}
use Rattle.std.specs.Prelude.{slice_get}
use Rattle.std.specs.BTreeMap.{get_by_text}
use Rattle.std.proofs.lemmas.Option.{slice_get_read}
use Rattle.sem_context.specs.Entries.{with_bits_at}
use Rattle.sem_context.specs.Placing.{ArePlaced, shown}
use Rattle.sem_context.proofs.EntriesInOrder.{past_last}
use Rattle.sem_context.proofs.PlacingPaths.{length-shown, placed_set, shown-set}
use Rattle.sem_context.proofs.context.Context.exchange.Goals as goal

pub invariant_of-self : goal.invariant_of-self
invariant_of-self c =
    let items = c.self.inside.kept.items in
    let within : c.args.place < length items = search rules in
    let at : slice_get items c.args.place ≡ Some c.index_mut.result.now = slice_get_read items _ c.args.place c.index_mut.result.now refl within c.index_mut.ensures.value in
    subst (λ es. ArePlaced es (get_by_text c.self.inside.places)) (sym (shown-set items c.args.place c.index_mut.result.now c.swap.new.x at)) (placed_set (shown items) c.args.place c.swap.new.x (get_by_text c.self.inside.places) c.self.invariant)

pub returns-then-place-len-clause-put : goal.returns-then-place-len-clause-put
returns-then-place-len-clause-put c =
    let items = c.self.inside.kept.items in
    let within : c.args.place < length items = search rules in
    let at : slice_get items c.args.place ≡ Some c.index_mut.result.now = slice_get_read items _ c.args.place c.index_mut.result.now refl within c.index_mut.ensures.value in
    shown-set items c.args.place c.index_mut.result.now c.swap.new.x at ∙ ap (λ es. with_bits_at es c.args.place c.swap.new.x) c.self.view_is ∙ ap (with_bits_at c.args.self.now c.args.place) c.swap.ensures.x_after

pub returns-else-place-len-clause-put : goal.returns-else-place-len-clause-put
returns-else-place-len-clause-put c =
    let items = c.self.inside.kept.items in
    let count : length c.args.self.now ≡ length items = sym (ap length c.self.view_is) ∙ length-shown items in
    let past : c.args.place < length items → ⊥ = search rules in
    sym (past_last c.args.self.now c.args.place c.args.bits.now (λ h. past (subst (λ n. c.args.place < n) count h)))
