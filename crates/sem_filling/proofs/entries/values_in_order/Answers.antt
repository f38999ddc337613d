use Rattle.std.proofs.Common.{subst, ◌∙◌}
use Rattle.std.specs.Map.{keys_of}
use Rattle.sem_filling.specs.Entries.{entries, GoesOn}
use Rattle.sem_filling.proofs.EntriesInOrder.{from_first}
use Rattle.sem_filling.proofs.entries.values_in_order.Goals as goal

pub returns : goal.returns
returns c =
    from_first (keys_of c.args.context.now) c.add_in_order.new.values.items (entries c.args.filling.now)
    (subst (λ v. GoesOn (keys_of c.args.context.now) v c.add_in_order.new.values.items (entries c.args.filling.now)) (c.reserve.ensures.items ∙ c.requires) (c.in_ok-add_in_order.ensures c.if-not-branch.false))
