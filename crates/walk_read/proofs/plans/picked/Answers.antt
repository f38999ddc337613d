use Rattle.std.proofs.Common.{sym, ap, ◌∙◌, subst, drop}
use Rattle.std.specs.Prelude.{slice_get}
use Rattle.cert_types.specs.Kept.{AreKept}
use Rattle.sem_context.specs.Entries as contexts
use Rattle.sem_filling.specs.declared.filling.Filling.{out-Filling}
use Rattle.sem_filling.specs.Fillings.{packed}
use Rattle.sem_profile.specs.Resolved.{IsSound, Resolved}
use Rattle.cert_rules.specs.Counts.{entry_at}
use Rattle.cert_rules.specs.Trees.{references}
use Rattle.cert_tables.specs.Picked.{arrival, formats_of, picks}
use Rattle.walk_read.specs.Walk as spec
use Rattle.walk_read.proofs.PlansPicking.{followed, leads_to, leads_nowhere, is_longer, few_tested}
use Rattle.walk_read.proofs.plans.picked.Goals as goal

pub returns-in-Format-clause-found : goal.returns-in-Format-clause-found
returns-in-Format-clause-found c =
    let a = c.args.place.now.accepted.now in
    let bits = drop c.args.from c.args.cursor.now.left in
    let ctx = contexts.bits_at c.args.place.now.frame.context.now in
    let w = arrival (entry_at a.certificate.methods c.args.place.now.frame.method) (references ctx c.args.place.now.frame.path.now (formats_of (slice_get a.profile.methods c.args.place.now.frame.method))) bits c.args.place.now.frame.arguments.now in
    let same = ap (λ (p : Resolved). picks a.certificate.methods c.args.place.now.frame.method (references ctx c.args.place.now.frame.path.now (formats_of (slice_get p.methods c.args.place.now.frame.method))) c.args.place.now.frame.arguments.now bits) c.requires.stands.profile_is in
    λ f h. leads_to (out-Filling f).format bits (packed f) c.in-Format.format w (sym (c.in_ok-format.ensures ∙ same) ∙ c.in-Format.is)
    (followed a c.keeps.ensures (subst IsSound c.profile.ensures c.keeps-2.ensures) ctx (spec.spot_of c.args.place.now bits) f h)

pub returns-in-Nothing-clause-fault : goal.returns-in-Nothing-clause-fault
returns-in-Nothing-clause-fault c =
    let a = c.args.place.now.accepted.now in
    let bits = drop c.args.from c.args.cursor.now.left in
    let ctx = contexts.bits_at c.args.place.now.frame.context.now in
    let w = arrival (entry_at a.certificate.methods c.args.place.now.frame.method) (references ctx c.args.place.now.frame.path.now (formats_of (slice_get a.profile.methods c.args.place.now.frame.method))) bits c.args.place.now.frame.arguments.now in
    let same = ap (λ (p : Resolved). picks a.certificate.methods c.args.place.now.frame.method (references ctx c.args.place.now.frame.path.now (formats_of (slice_get p.methods c.args.place.now.frame.method))) c.args.place.now.frame.arguments.now bits) c.requires.stands.profile_is in
    λ f h. leads_nowhere (out-Filling f).format bits (packed f) w (sym (c.in_ok-format.ensures ∙ same) ∙ c.in-Nothing.is)
    (followed a c.keeps.ensures (subst IsSound c.profile.ensures c.keeps-2.ensures) ctx (spec.spot_of c.args.place.now bits) f h)

pub returns-in-Short-clause-fault : goal.returns-in-Short-clause-fault
returns-in-Short-clause-fault c =
    let a = c.args.place.now.accepted.now in
    let bits = drop c.args.from c.args.cursor.now.left in
    let ctx = contexts.bits_at c.args.place.now.frame.context.now in
    let w = arrival (entry_at a.certificate.methods c.args.place.now.frame.method) (references ctx c.args.place.now.frame.path.now (formats_of (slice_get a.profile.methods c.args.place.now.frame.method))) bits c.args.place.now.frame.arguments.now in
    let same = ap (λ (p : Resolved). picks a.certificate.methods c.args.place.now.frame.method (references ctx c.args.place.now.frame.path.now (formats_of (slice_get p.methods c.args.place.now.frame.method))) c.args.place.now.frame.arguments.now bits) c.requires.stands.profile_is in
    λ f h. is_longer (out-Filling f).format bits (packed f) w (sym (c.in_ok-format.ensures ∙ same) ∙ c.in-Short.is)
    (followed a c.keeps.ensures (subst IsSound c.profile.ensures c.keeps-2.ensures) ctx (spec.spot_of c.args.place.now bits) f h)

pub returns-in-Short-clause-few : goal.returns-in-Short-clause-few
returns-in-Short-clause-few c =
    let a = c.args.place.now.accepted.now in
    let bits = drop c.args.from c.args.cursor.now.left in
    let ctx = contexts.bits_at c.args.place.now.frame.context.now in
    let same = ap (λ (p : Resolved). picks a.certificate.methods c.args.place.now.frame.method (references ctx c.args.place.now.frame.path.now (formats_of (slice_get p.methods c.args.place.now.frame.method))) c.args.place.now.frame.arguments.now bits) c.requires.stands.profile_is in
    few_tested a.certificate (subst AreKept c.certificate.ensures c.keeps-3.ensures) c.args.place.now.frame.method (references ctx c.args.place.now.frame.path.now (formats_of (slice_get a.profile.methods c.args.place.now.frame.method)))
    bits c.args.place.now.frame.arguments.now (sym (c.in_ok-format.ensures ∙ same) ∙ c.in-Short.is)
