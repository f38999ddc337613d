use Rattle.std.proofs.Common.{rules}
use Rattle.sem_pages.proofs.Words.{word_within, word_is}
use Rattle.sem_pages.proofs.word.Word.of.Goals as goal

pub invariant_of-result : goal.invariant_of-result
invariant_of-result c = word_within c.args.bits.now c.len.result c.in_ok-value.field-0 c.len.ensures.value (search rules) (search rules)

pub returns : goal.returns
returns c = word_is c.args.bits.now c.len.result c.in_ok-value.field-0 c.len.ensures.value (search rules)
