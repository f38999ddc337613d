use Rattle.sem_lint.proofs.ColumnsStanding.{columns-are-offsets}
use Rattle.sem_lint.proofs.column_laws.columns_are_offsets.Goals as goal

pub returns : goal.returns
returns c = columns-are-offsets
