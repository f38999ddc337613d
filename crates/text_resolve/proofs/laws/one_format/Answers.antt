use Rattle.text_resolve.proofs.PlainFormats.{one_format}
use Rattle.text_resolve.proofs.laws.one_format.Goals as goal

pub returns : goal.returns
returns c = one_format
