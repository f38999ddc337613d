use Rattle.sem_lint.proofs.SplitLengths.{are_split, is_found}
use Rattle.sem_lint.proofs.unfit.are_split.Goals as goal

pub returns : goal.returns
returns c = (are_split c.args.bounds, is_found c.args.bounds)
