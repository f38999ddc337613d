use Rattle.std.proofs.Common.{rules}
use Rattle.rohcfn_c.proofs.exports.rohcfn_open.Goals as goal

pub returns : goal.returns
returns c = (c.open-told.result, search rules, search rules)
