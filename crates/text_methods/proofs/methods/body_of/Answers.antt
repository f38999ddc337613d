use Rattle.text_methods.proofs.MethodFormatsParts.{both_listed}
use Rattle.text_methods.proofs.methods.body_of.Goals as goal

pub returns : goal.returns
returns c = λ base default. both_listed c.args.setting.now _ c.in_ok-listed.listed.fault c.in_ok-defaults.defaults _ (c.in_ok-listed.ensures base default) c.in_ok-defaults.ensures c.earlier.ensures
