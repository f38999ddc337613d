use Rattle.std.proofs.Common.{refl}
use Rattle.sem_pages.proofs.InOrder.{begins_then, from_first}
use Rattle.sem_pages.proofs.Steadying.{all_there}
use Rattle.sem_pages.proofs.entries.changes_in_order.Goals as goal

pub returns-clause-next : goal.returns-clause-next
returns-clause-next c = λ f shown. from_first c.args.known c.args.context.now _ c.add_first.new.progress f c.len.ensures.distinct refl c.in_ok-with_capacity.ensures.items (c.in_ok-add_first.ensures c.if-not-branch.false f shown)

pub returns-clause-begins : goal.returns-clause-begins
returns-clause-begins c = λ f shown. begins_then c.args.known c.args.context.now _ c.add_first.new.progress f refl c.in_ok-with_capacity.ensures.items (c.in_ok-add_first.ensures c.if-not-branch.false f shown)

pub returns-clause-there : goal.returns-clause-there
returns-clause-there c = λ f shown. all_there c.args.known c.args.context.now _ c.add_first.new.progress f c.len.ensures.distinct refl c.in_ok-with_capacity.ensures.items (c.in_ok-add_first.ensures c.if-not-branch.false f shown)
