use Rattle.text_source.proofs.LexicalSlices as lemmas
use Rattle.text_source.proofs.laws.spans_rise.Goals as goal

pub returns : goal.returns
returns c = lemmas.spans_rise
