use Rattle.text_resolve.proofs.PassesOneAnswer.{no_refusal}
use Rattle.text_resolve.proofs.laws.no_refusal.Goals as goal

pub returns : goal.returns
returns c = no_refusal
