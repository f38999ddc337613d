use Rattle.std.proofs.Common.{sym, ◌∙◌, ap, subst}
use Rattle.std.specs.Prelude.{Some, slice_get}
use Rattle.std.specs.Option.{option_copied}
use Rattle.sem_profile.specs.Resolved.{IsSound}
use Rattle.walk_write.proofs.StartLemmas.{spans_there, gone, started, all_begin}
use Rattle.walk_write.proofs.start.start_at.Goals as goal

pub returns-in_default-clause-there : goal.returns-in_default-clause-there
returns-in_default-clause-there c =
    let sound = subst IsSound c.profile.ensures c.keeps-2.ensures in
    let found = spans_there c.args.place.now.accepted.now c.keeps.ensures sound c.args.place.now.frame.method c.requires.within in
    absurd (gone c.at.result c.in_default.not-Some _ (c.at.ensures ∙ (ap (λ xs. slice_get xs c.args.place.now.frame.method) c.spans.ensures ∙ found.1)))

pub returns-clause-there : goal.returns-clause-there
returns-clause-there c =
    let sound = subst IsSound c.profile.ensures c.keeps-2.ensures in
    let here = sym (ap (λ xs. slice_get xs c.args.place.now.frame.method) c.spans.ensures) ∙ (sym c.at.ensures ∙ ap option_copied c.in-Some.is) in
    started c.args.place.now c.keeps.ensures sound c.as_slice.result.now (here ∙ ap Some (sym c.as_slice.ensures)) c.args.number c.requires.below c.start_of.result c.start_of.ensures.none

pub returns-clause-found : goal.returns-clause-found
returns-clause-found c =
    let sound = subst IsSound c.profile.ensures c.keeps-2.ensures in
    let here = sym (ap (λ xs. slice_get xs c.args.place.now.frame.method) c.spans.ensures) ∙ (sym c.at.ensures ∙ ap option_copied c.in-Some.is) in
    all_begin c.args.place.now c.keeps.ensures sound c.as_slice.result.now (here ∙ ap Some (sym c.as_slice.ensures)) c.args.number c.start_of.result c.start_of.ensures.found
