use Rattle.std.proofs.Common.{sym, ◌∙◌, subst}
use Rattle.cert_candidates.specs.Reading.{Divides, IsNext, CarriesOn}
use Rattle.cert_types.specs.declared.certificate.Step.TheVariants.{Choose}
use Rattle.walk_write.specs.Foresight.{SeesOn}
use Rattle.walk_write.proofs.GoingChosen.{width_of}
use Rattle.walk_write.proofs.ForesightLemmas.{passes_choice, choice_parts, chooses}
use Rattle.walk_write.proofs.foresight.read_choice.Goals as goal

pub returns-in_default : goal.returns-in_default
returns-in_default c =
    passes_choice c.args.outlook.now.place.now c.args.outlook.now.index c.args.outlook.now.format.now c.args.outlook.now.source.now.asked.now c.args.number c.args.field (sym c.choice_of.ensures ∙ c.in_default.is) c.args.digits.now c.args.choices.now.items

pub next-digit-requires-clause-divides : goal.next-digit-requires-clause-divides
next-digit-requires-clause-divides c =
    let is = sym c.choice_of.ensures ∙ c.in-Some.is in
    subst (λ r. Divides r c.args.digits.now.span) (sym (width_of c.args.outlook.now.format.now c.args.field c.in-Some.width is))
    (choice_parts c.args.outlook.now.place.now c.args.outlook.now.index c.args.outlook.now.format.now c.args.outlook.now.source.now.asked.now c.args.number c.args.field c.in-Some.width is c.args.digits.now c.args.choices.now.items c.requires.stands)

pub returns : goal.returns
returns c =
    let is = sym c.choice_of.ensures ∙ c.in-Some.is in
    let width = width_of c.args.outlook.now.format.now c.args.field c.in-Some.width is in
    let on = chooses c.args.outlook.now.place.now c.args.outlook.now.index c.args.outlook.now.format.now c.args.outlook.now.source.now.asked.now c.args.number c.args.field c.in-Some.width is c.args.digits.now c.next-digit.new.self c.next-digit.result
    (subst (λ r. IsNext r c.args.digits.now c.next-digit.result c.next-digit.new.self) width c.next-digit.ensures.split)
    (subst (λ r. CarriesOn r c.args.digits.now c.next-digit.result c.next-digit.new.self) width c.next-digit.ensures.read) c.args.choices.now.items in
    subst (λ z. SeesOn c.args.outlook.now.place.now c.args.outlook.now.index c.args.outlook.now.format.now c.args.outlook.now.source.now.asked.now (Choose c.args.field) c.args.number c.args.digits.now c.args.choices.now.items c.next-digit.new.self z) (sym c.in_ok-push.ensures.ok) on
