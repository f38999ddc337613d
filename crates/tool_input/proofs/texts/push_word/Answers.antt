use Rattle.tool_input.proofs.Spelled.{word_grown}
use Rattle.tool_input.proofs.texts.push_word.Goals as goal

pub returns : goal.returns
returns c = word_grown c.args.count c.args.word _ _ _ c.octets_of-octets.ensures c.in_ok-push_octets.ensures
