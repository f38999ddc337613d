use Rattle.std.proofs.Common.{arith}
use Rattle.std.proofs.lemmas.Str.Pattern.{strip_prefix_char}
use Rattle.tool_json.proofs.MessagesCut.{after_is}
use Rattle.tool_json.proofs.message.after_blank.Goals as goal

pub returns : goal.returns
returns c = after_is 32 c.args.text.now c.strip_prefix.result (strip_prefix_char 32 c.args.text.now c.strip_prefix.result c.strip_prefix.ensures.cases (omega arith))
