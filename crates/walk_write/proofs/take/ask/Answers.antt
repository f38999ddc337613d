use Rattle.std.proofs.Common.{sym, ◌∙◌, ap}
use Rattle.std.specs.Prelude.{slice_get}
use Rattle.std.specs.Option.{option_copied}
use Rattle.cert_types.specs.declared.certificate.Step.TheVariants as step
use Rattle.cert_types.specs.declared.certificate.Version.TheVariants.{Two}
use Rattle.cert_rules.specs.Rules.{write_rule}
use Rattle.cert_candidates.specs.Writing.{asked_before}
use Rattle.walk_write.proofs.WalkingChoosing.{asking, ask_none, ask_within, ask_learns, ask_blamed}
use Rattle.walk_write.proofs.take.ask.Goals as goal

pub returns-in_default-clause-fault : goal.returns-in_default-clause-fault
returns-in_default-clause-fault c =
    let table = c.args.level_frame.now.frame.profile.now.sizes in
    let l = c.args.level.now in
    let place = ap (slice_get c.args.asked.now) (c.asked_before.ensures ∙ ap (λ format. asked_before format c.args.field) c.format.ensures) in
    ask_none c.args.level_frame.now l c.args.field (write_rule Two table l.sizes l.format (step.Ask c.args.field)) (asking table l c.args.field c.requires.ready) c.args.asked.now (sym place ∙ (sym c.at.ensures ∙ ap option_copied c.in_default.is))

pub learn-requires-clause-within : goal.learn-requires-clause-within
learn-requires-clause-within c =
    let table = c.args.level_frame.now.frame.profile.now.sizes in
    let l = c.args.level.now in
    ask_within l c.args.field (write_rule Two table l.sizes l.format (step.Ask c.args.field)) c.keeps.ensures (asking table l c.args.field c.requires.ready)

pub returns-clause-learns : goal.returns-clause-learns
returns-clause-learns c =
    let table = c.args.level_frame.now.frame.profile.now.sizes in
    let l = c.args.level.now in
    let place = ap (slice_get c.args.asked.now) (c.asked_before.ensures ∙ ap (λ format. asked_before format c.args.field) c.format.ensures) in
    ask_learns c.args.level_frame.now l c.learn.new.level c.args.field (write_rule Two table l.sizes l.format (step.Ask c.args.field)) (asking table l c.args.field c.requires.ready) c.args.asked.now c.in-Some.value.now
    (sym place ∙ sym c.in-Some.ensures) c.in_ok-bits.bits c.in_ok-bits.ensures c.learn.result c.learn.ensures.learns

pub returns-clause-fault : goal.returns-clause-fault
returns-clause-fault c =
    let table = c.args.level_frame.now.frame.profile.now.sizes in
    let l = c.args.level.now in
    let place = ap (slice_get c.args.asked.now) (c.asked_before.ensures ∙ ap (λ format. asked_before format c.args.field) c.format.ensures) in
    ask_blamed c.args.level_frame.now l c.learn.new.level c.args.field (write_rule Two table l.sizes l.format (step.Ask c.args.field)) (asking table l c.args.field c.requires.ready) c.args.asked.now c.in-Some.value.now
    (sym place ∙ sym c.in-Some.ensures) c.in_ok-bits.bits c.in_ok-bits.ensures c.learn.result c.learn.ensures.fault
