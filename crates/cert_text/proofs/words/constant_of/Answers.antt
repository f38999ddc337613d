use Rattle.std.proofs.Common.{sym}
use Rattle.cert_text.proofs.DraftsNumerals.{unparsed}
use Rattle.cert_text.proofs.words.constant_of.Goals as goal

pub returns-in_default : goal.returns-in_default
returns-in_default c = sym (unparsed c.args.word.now c.parse.result _ c.parse.ensures.value.0 c.in_default.is)
