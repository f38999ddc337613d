use Rattle.std.proofs.Common.{subst}
use Rattle.std.specs.Prelude.{IfOk, IfErr}
use Rattle.cert_prove.specs.Proved.{IsProved, IsUnproved}
use Rattle.cert_prove.proofs.MadeLemmas.{bounded, sound_kept, sound_ordered}
use Rattle.cert_prove.proofs.certificate.prove.Goals as goal

pub all_entries-requires-clause-formats : goal.all_entries-requires-clause-formats
all_entries-requires-clause-formats c = bounded c.args.profile.now c.methods.result.now c.sizes.result.now c.keeps.ensures c.methods.ensures c.sizes.ensures

pub of-requires : goal.of-requires
of-requires c = sound_kept c.args.version c.args.profile.now c.methods.result.now c.sizes.result.now c.in-Ok.entries c.keeps.ensures c.methods.ensures c.sizes.ensures c.in-Ok.ensures.made

pub returns-in-Ok-clause-proved : goal.returns-in-Ok-clause-proved
returns-in-Ok-clause-proved c =
    subst (λ v. IfOk c.printed.result (IsProved v c.args.profile.now)) c.of.ensures.version
    (c.printed.ensures.proved c.args.profile.now
    (sound_ordered c.args.version c.args.profile.now c.methods.result.now c.sizes.result.now c.in-Ok.entries c.keeps.ensures c.methods.ensures c.sizes.ensures c.in-Ok.ensures.made c.of.result c.of.ensures.version c.of.ensures.methods))

pub returns-in-Ok-clause-unproved : goal.returns-in-Ok-clause-unproved
returns-in-Ok-clause-unproved c =
    subst (λ v. IfErr c.printed.result (IsUnproved v c.args.profile.now)) c.of.ensures.version
    (c.printed.ensures.unproved c.args.profile.now
    (sound_ordered c.args.version c.args.profile.now c.methods.result.now c.sizes.result.now c.in-Ok.entries c.keeps.ensures c.methods.ensures c.sizes.ensures c.in-Ok.ensures.made c.of.result c.of.ensures.version c.of.ensures.methods))
