use Rattle.cert_candidates.proofs.ReadingSplitting.{shares_up_to}
use Rattle.cert_candidates.proofs.digits.Digits.alike_up_to.Goals as goal

pub returns-clause-share : goal.returns-clause-share
returns-clause-share c = (search (shares_up_to, c.requires.within, c.requires.some))
