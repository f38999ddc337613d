use Rattle.std.proofs.lemmas.Result.{IfOk-weaker}
use Rattle.text_statements.proofs.InitialCounted.{five_items}
use Rattle.text_statements.specs.Arguments.{are_crc}
use Rattle.text_statements.proofs.arguments.of_crc.Goals as goal

pub returns-in-len5-clause-means : goal.returns-in-len5-clause-means
returns-in-len5-clause-means c = rw (five_items c.args.arguments.now _ _ _ _ _ c.in-len5.len_at_least c.in-len5.len_below c.bits-item.is c.polynomial-item.is c.initial-item.is c.data-item.is c.length-item.is) (IfOk-weaker c.five.result _ _ (λ crc five. are_crc five) c.five.ensures.means)

pub returns-in-len5-clause-right : goal.returns-in-len5-clause-right
returns-in-len5-clause-right c = rw (five_items c.args.arguments.now _ _ _ _ _ c.in-len5.len_at_least c.in-len5.len_below c.bits-item.is c.polynomial-item.is c.initial-item.is c.data-item.is c.length-item.is) c.five.ensures.right

pub returns-in-len5-clause-refused : goal.returns-in-len5-clause-refused
returns-in-len5-clause-refused c = rw (five_items c.args.arguments.now _ _ _ _ _ c.in-len5.len_at_least c.in-len5.len_below c.bits-item.is c.polynomial-item.is c.initial-item.is c.data-item.is c.length-item.is) c.five.ensures.refused
