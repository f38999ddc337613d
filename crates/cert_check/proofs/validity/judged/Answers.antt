use Rattle.std.proofs.Common.{List, sym, subst}
use Rattle.sem_profile.specs.declared.profile.Method.{Method}
use Rattle.cert_trees.specs.Calling.{CallsWithin}
use Rattle.cert_trees.proofs.CallingWithin.{calls_within}
use Rattle.cert_check.proofs.JudgedRefusing.{whole_verdict, refused_as, found_in, none_in}
use Rattle.cert_check.proofs.validity.judged.Goals as goal

pub top_verdict-requires-clause-within : goal.top_verdict-requires-clause-within
top_verdict-requires-clause-within c = subst (λ (ms : List Method). CallsWithin ms) (sym c.methods-methods.ensures) (calls_within c.args.profile.now.methods c.keeps.ensures.well_formed)

pub returns : goal.returns
returns c =
    whole_verdict c.args.profile.now.methods _ c.args.profile.now.sizes _ c.args.profile.now.top _ c.args.certificate.now _ c.top_verdict.result c.methods-methods.ensures c.sizes-sizes.ensures c.top.ensures
    (λ i. record { version = c.version-version.ensures i; methods = c.methods-entries.ensures i })
    (none_in _ c.in_ok-fault.field-0 c.in_default.is c.in_ok-fault.ensures.right) (c.top_verdict.ensures _)

pub returns-in-Some : goal.returns-in-Some
returns-in-Some c =
    refused_as c.args.profile.now.methods _ c.args.profile.now.sizes _ c.args.certificate.now _ c.in-Some.fault c.methods-methods.ensures c.sizes-sizes.ensures (λ i. record { version = c.version-version.ensures i; methods = c.methods-entries.ensures i })
    (found_in _ c.in_ok-fault.field-0 c.in-Some.fault c.in-Some.is c.in_ok-fault.ensures.found) c.args.profile.now.top
