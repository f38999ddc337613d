use Rattle.cert_text.proofs.DueRead.{one_due}
use Rattle.cert_text.proofs.TableSingle.{one_code}
use Rattle.cert_text.proofs.laws.one_code.Goals as goal

pub returns-clause-due : goal.returns-clause-due
returns-clause-due c = one_due

pub returns-clause-code : goal.returns-clause-code
returns-clause-code c = one_code
