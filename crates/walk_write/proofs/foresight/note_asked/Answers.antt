use Rattle.std.proofs.Common.{sym, subst}
use Rattle.cert_types.specs.declared.certificate.Step.TheVariants.{Ask}
use Rattle.walk_write.specs.Foresight.{SeesOn}
use Rattle.walk_write.proofs.ForesightLemmas.{asks, passes}
use Rattle.walk_write.proofs.foresight.note_asked.Goals as goal

pub returns-in_default : goal.returns-in_default
returns-in_default c = passes c.args.outlook.now.place.now c.args.outlook.now.index c.args.outlook.now.format.now c.args.outlook.now.source.now.asked.now c.args.number (Ask c.args.field) (λ i e. absurd (cc)) (λ i e. absurd (cc)) c.args.digits c.args.choices.now.items

pub returns : goal.returns
returns c =
    subst (λ z. SeesOn c.args.outlook.now.place.now c.args.outlook.now.index c.args.outlook.now.format.now c.args.outlook.now.source.now.asked.now (Ask c.args.field) c.args.number c.args.digits c.args.choices.now.items c.args.digits z) (sym c.in_ok-push.ensures.ok)
    (asks c.args.outlook.now.place.now c.args.outlook.now.index c.args.outlook.now.format.now c.args.outlook.now.source.now.asked.now c.args.number c.args.field c.in-Some.digit (rw c.in-Some.is at c.asked_digit.ensures) c.args.digits c.args.choices.now.items)
