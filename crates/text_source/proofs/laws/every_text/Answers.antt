use Rattle.text_source.proofs.TokenTotal.{every_text}
use Rattle.text_source.proofs.laws.every_text.Goals as goal

pub returns : goal.returns
returns c = every_text
