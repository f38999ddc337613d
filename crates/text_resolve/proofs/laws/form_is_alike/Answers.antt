use Rattle.text_resolve.proofs.WellFormedAlikeFields.{form_is_alike, kept_is_alike}
use Rattle.text_resolve.proofs.laws.form_is_alike.Goals as goal

pub returns : goal.returns
returns c = record { form = form_is_alike; kept = kept_is_alike }
