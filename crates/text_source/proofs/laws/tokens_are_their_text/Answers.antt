use Rattle.text_source.proofs.LexicalSlices as lemmas
use Rattle.text_source.proofs.laws.tokens_are_their_text.Goals as goal

pub returns : goal.returns
returns c = lemmas.tokens_are_their_text
