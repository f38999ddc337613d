use Rattle.text_source.proofs.LexicalUnique as lemmas
use Rattle.text_source.proofs.laws.no_tokens_at_a_fault.Goals as goal

pub returns : goal.returns
returns c = lemmas.no_tokens
