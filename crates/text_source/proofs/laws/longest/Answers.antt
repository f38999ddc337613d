use Rattle.text_source.proofs.LexicalLongest as lemmas
use Rattle.text_source.proofs.laws.longest.Goals as goal

pub returns : goal.returns
returns c = lemmas.longest
