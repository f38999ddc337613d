use Rattle.text_source.proofs.LexicalUnique as lemmas
use Rattle.text_source.proofs.laws.one_fault.Goals as goal

pub returns : goal.returns
returns c = lemmas.one_fault
