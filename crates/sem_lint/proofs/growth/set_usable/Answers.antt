use Rattle.std.proofs.Common.{inl, inr, sym, ◌∙◌}
use Rattle.sem_lint.proofs.NeedsAdding.{usable_is_new, usable_is_set}
use Rattle.sem_lint.proofs.growth.set_usable.Goals as goal

pub returns-then-len-place : goal.returns-then-len-place
returns-then-len-place c = usable_is_set c.args.place c.args.flags.now (inl (rw c.len.ensures at c.if-len-place.true))

pub returns-then-is_usable : goal.returns-then-is_usable
returns-then-is_usable c = usable_is_set c.args.place c.args.flags.now (inr (sym (rw c.as_slice.ensures at c.is_usable.ensures) ∙ c.if-is_usable.true))

pub returns : goal.returns
returns c =
    usable_is_new c.args.place c.args.flags.now _ c.is_reached-reached.result (rw c.len.ensures at c.if-len-place.false) (sym (rw c.as_slice.ensures at c.is_usable.ensures) ∙ c.if-is_usable.false) (rw c.as_slice-2.ensures at c.is_reached-reached.ensures)
    c.set.ensures
