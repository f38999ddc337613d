use Rattle.std.proofs.Common.{rules}
use Rattle.rohcfn_c.proofs.exports.rohcfn_why.Goals as goal

pub returns : goal.returns
returns c = (c.why_told-told.result, search rules, search rules, search rules)
