use Rattle.std.proofs.Common.{refl}
use Rattle.text_resolve.proofs.PartsForms.{formed}
use Rattle.text_resolve.proofs.methods.resolved_methods.Goals as goal

pub returns-in-Some-clause-refused : goal.returns-in-Some-clause-refused
returns-in-Some-clause-refused c =
    (formed c.args.text.now _ c.args.parts c.args.top c.in_ok-drafts.drafts c.in_ok-drafts.ensures
    (record { text_is = refl; constants_are = c.requires.head.names_are; values_are = rw c.as_slice-4.ensures c.requires.head.values_are; methods_are = c.requires.head.methods_are; arities_are = rw c.as_slice-3.ensures c.requires.head.arities_are })).cause
    c.in-Some.fault c.in-Some.is
