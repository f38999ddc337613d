use Rattle.sem_lint.proofs.ColumnsStanding.{fields-stand-there}
use Rattle.sem_lint.proofs.column_laws.fields_stand_there.Goals as goal

pub returns : goal.returns
returns c = fields-stand-there
