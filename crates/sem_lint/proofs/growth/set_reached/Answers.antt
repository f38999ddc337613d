use Rattle.std.proofs.Common.{inl, inr, sym, ◌∙◌}
use Rattle.sem_lint.proofs.NeedsAdding.{reached_is_new, reached_is_set}
use Rattle.sem_lint.proofs.growth.set_reached.Goals as goal

pub returns-then-len-place : goal.returns-then-len-place
returns-then-len-place c = reached_is_set c.args.place c.args.flags.now (inl (rw c.len.ensures at c.if-len-place.true))

pub returns-then-is_reached : goal.returns-then-is_reached
returns-then-is_reached c = reached_is_set c.args.place c.args.flags.now (inr (sym (rw c.as_slice.ensures at c.is_reached.ensures) ∙ c.if-is_reached.true))

pub returns : goal.returns
returns c =
    reached_is_new c.args.place c.args.flags.now _ c.is_usable-usable.result (rw c.len.ensures at c.if-len-place.false) (sym (rw c.as_slice.ensures at c.is_reached.ensures) ∙ c.if-is_reached.false) (rw c.as_slice-2.ensures at c.is_usable-usable.ensures)
    c.set.ensures
