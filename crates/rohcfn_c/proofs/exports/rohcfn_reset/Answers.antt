use Rattle.std.proofs.Common.{rules}
use Rattle.rohcfn_c.proofs.exports.rohcfn_reset.Goals as goal

pub returns : goal.returns
returns c = (c.reset_told-told.result, search rules, search rules)
