use Rattle.cert_candidates.proofs.ReadingSplitting.{next_is, last_carries}
use Rattle.cert_candidates.proofs.digits.Digits.next.Goals as goal

pub returns-clause-split : goal.returns-clause-split
returns-clause-split c = (search (next_is, c.requires.divides, c.requires.within))

pub returns-then-self-radix-clause-read : goal.returns-then-self-radix-clause-read
returns-then-self-radix-clause-read c = last_carries c.args.radix _ c.if-self-radix.true c.requires.within
