use Rattle.std.proofs.Common.{◌∙◌, sym}
use Rattle.cert_text.proofs.DraftsPieces.{node_two}
use Rattle.cert_text.proofs.words.node_of.Goals as goal

pub returns-in-len2 : goal.returns-in-len2
returns-in-len2 c = c.named_node.ensures ∙ sym (node_two c.args.version c.args.method.now c.args.word.now c.args.more.now _ c.in-len2.len_at_least c.in-len2.len_below)
