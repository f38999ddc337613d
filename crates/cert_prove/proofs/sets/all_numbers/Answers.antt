use Rattle.cert_prove.proofs.KnownTelling.{one_more_number}
use Rattle.cert_prove.proofs.sets.all_numbers.Goals as goal

pub loop-number-preserved : goal.loop-number-preserved
loop-number-preserved c = one_more_number c.loop-number.set c.push.new.self c.loop-number.number c.loop-number.invariant c.in_ok-push.ensures.ok
