use Rattle.sem_pages.proofs.Words.{word_number}
use Rattle.sem_pages.proofs.word.Word.value.Goals as goal

pub returns : goal.returns
returns c = word_number c.self.inside.count c.self.inside.value c.args.self.now c.self.view_is c.self.invariant.1
