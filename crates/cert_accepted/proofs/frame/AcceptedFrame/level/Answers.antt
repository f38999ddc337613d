use Rattle.std.proofs.Common.{◌∙◌, sym, ap, subst}
use Rattle.std.specs.Option.{option_copied}
use Rattle.sem_profile.specs.Outcome.{AreSizes}
use Rattle.sem_filling.proofs.FitsJudged.{never_unsized}
use Rattle.sem_profile.specs.Resolved.{Resolved}
use Rattle.cert_accepted.proofs.FrameUnsent.{is_placed, never_started}
use Rattle.cert_accepted.proofs.frame.AcceptedFrame.level.Goals as goal

pub returns-in_default-sizes_of-clause-none : goal.returns-in_default-sizes_of-clause-none
returns-in_default-sizes_of-clause-none c = λ f fit is.
    let here = c.args.self.now in
    let p = here.accepted.now.profile in
    let are = subst (λ (r : Resolved). AreSizes r.methods r.sizes) c.profile.ensures c.keeps.ensures.sized in
    never_unsized p.methods p.sizes are here.frame.method c.args.format c.in-Some.found.now (sym c.format_of.ensures ∙ ap option_copied c.in-Some.is)
    (sym c.sizes_of.ensures ∙ ap option_copied c.in_default-sizes_of.is)

pub start-requires : goal.start-requires
start-requires c =
    let here = c.args.self.now in
    let are = subst (λ (r : Resolved). AreSizes r.methods r.sizes) c.profile.ensures c.keeps.ensures.sized in
    is_placed here.accepted.now.profile are here.frame.method c.args.format here.frame.arguments.now c.in-Some.found.now c.in-Some-sizes_of.sizes.now c.requires.stands.lie
    (sym c.format_of.ensures ∙ ap option_copied c.in-Some.is) (sym c.sizes_of.ensures ∙ ap option_copied c.in-Some-sizes_of.is)

pub returns-clause-none : goal.returns-clause-none
returns-clause-none c =
    let here = c.args.self.now in
    let are = subst (λ (r : Resolved). AreSizes r.methods r.sizes) c.profile.ensures c.keeps.ensures.sized in
    never_started here c.args.format c.in-Some.found.now c.in-Some-sizes_of.sizes.now are (sym c.format_of.ensures ∙ ap option_copied c.in-Some.is)
    (sym c.sizes_of.ensures ∙ ap option_copied c.in-Some-sizes_of.is) c.start.result c.start.ensures.none
