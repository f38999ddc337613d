use Rattle.tool_input.proofs.Spelled.{bits_grown, word_fits}
use Rattle.tool_input.proofs.texts.push_bits.Goals as goal

pub push_word-requires-clause-below : goal.push_word-requires-clause-below
push_word-requires-clause-below c = word_fits c.args.bits.now c.len.result c.in-Some.word c.len.ensures.value c.in-Some.ensures.1

pub returns-in_ok-push_word-in-Some : goal.returns-in_ok-push_word-in-Some
returns-in_ok-push_word-in-Some c = bits_grown c.args.bits.now c.len.result c.in-Some.word _ _ c.len.ensures.value c.in-Some.ensures.1 c.in_ok-push_word-in-Some.ensures
