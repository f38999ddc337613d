use Rattle.walk_loss.proofs.Verdicts.{one_verdict}
use Rattle.walk_loss.proofs.laws.one_verdict.Goals as goal

pub returns : goal.returns
returns c = one_verdict
