use Rattle.cert_rules.proofs.RulesReached.{below, above}
use Rattle.cert_rules.proofs.equations.is_reached.Goals as goal

pub returns-then-bits-lt127 : goal.returns-then-bits-lt127
returns-then-bits-lt127 c = below c.args.bits c.args.by c.ranges.by c.if-bits-lt127.true

pub returns-else-bits-lt127 : goal.returns-else-bits-lt127
returns-else-bits-lt127 c = above c.args.bits c.args.by c.ranges.by c.if-bits-lt127.false
