use Rattle.std.proofs.Common.{List, sym, subst}
use Rattle.sem_profile.specs.declared.profile.Method.{Method}
use Rattle.cert_trees.specs.Calling.{CallsWithin}
use Rattle.cert_trees.proofs.CallingWithin.{calls_within}
use Rattle.tool_names.proofs.candidates.count_all.Goals as goal

pub callees_first-requires-clause-within : goal.callees_first-requires-clause-within
callees_first-requires-clause-within c = subst (λ (ms : List Method). CallsWithin ms) (sym c.methods-listed.ensures) (calls_within c.args.profile.now.methods c.keeps.ensures.well_formed)
