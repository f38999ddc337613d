use Rattle.sem_pages.proofs.Words.{word_length, word_short}
use Rattle.sem_pages.proofs.word.Word.len.Goals as goal

pub returns-clause-value : goal.returns-clause-value
returns-clause-value c = word_length c.self.inside.count c.self.inside.value c.args.self.now c.self.view_is

pub returns-clause-limit : goal.returns-clause-limit
returns-clause-limit c = word_short c.self.inside.count c.self.inside.value c.args.self.now c.self.view_is c.self.invariant.0
