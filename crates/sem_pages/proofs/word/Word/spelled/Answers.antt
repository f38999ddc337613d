use Rattle.std.proofs.Common.{rules}
use Rattle.sem_pages.proofs.Words.{word_says}
use Rattle.sem_pages.proofs.word.Word.spelled.Goals as goal

pub returns : goal.returns
returns c = word_says c.args.count c.args.value (search rules) (search rules)
