use Rattle.std.proofs.Common.{rules}
use Rattle.rohcfn_c.proofs.exports.rohcfn_robust.Goals as goal

pub returns : goal.returns
returns c = (c.robust_told-told.result, search rules, search rules)
