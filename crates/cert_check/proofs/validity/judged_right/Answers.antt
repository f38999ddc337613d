use Rattle.std.proofs.Common.{List, sym, subst}
use Rattle.sem_profile.specs.declared.profile.Method.{Method}
use Rattle.cert_trees.specs.Calling.{CallsWithin}
use Rattle.cert_trees.proofs.CallingWithin.{calls_within}
use Rattle.cert_check.proofs.JudgedRefusing.{right_verdict}
use Rattle.cert_check.proofs.validity.judged_right.Goals as goal

pub top_verdict-requires-clause-within : goal.top_verdict-requires-clause-within
top_verdict-requires-clause-within c = subst (λ (ms : List Method). CallsWithin ms) (sym c.methods-methods.ensures) (calls_within c.args.profile.now.methods c.keeps.ensures.well_formed)

pub returns : goal.returns
returns c =
    right_verdict c.args.profile.now.methods _ c.args.profile.now.sizes _ c.args.profile.now.top _ c.args.certificate.now _ c.top_verdict.result c.methods-methods.ensures c.sizes.ensures c.top.ensures c.methods-entries.ensures c.requires
    (c.top_verdict.ensures _)
