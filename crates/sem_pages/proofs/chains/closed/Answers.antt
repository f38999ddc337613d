use Rattle.std.proofs.Common.{refl}
use Rattle.sem_pages.proofs.Chaining.{closed_none, closed_one}
use Rattle.sem_pages.proofs.chains.closed.Goals as goal

pub returns-then-is_empty-clause-is : goal.returns-then-is_empty-clause-is
returns-then-is_empty-clause-is c = λ whole s. closed_none c.args.chains.now c.args.chains.now c.args.first c.args.links whole refl (c.is_empty.ensures.0 c.if-is_empty.true) s

pub returns-clause-is : goal.returns-clause-is
returns-clause-is c = λ whole s. closed_one c.args.chains.now c.push.new.self c.args.first c.args.links c.len-index.result whole c.in_ok-push.ensures.ok c.len-index.ensures s
