use Rattle.text_resolve.proofs.PlainForms.{one_form}
use Rattle.text_resolve.proofs.laws.one_form.Goals as goal

pub returns : goal.returns
returns c = one_form
