use Rattle.std.proofs.Common.{sym, subst}
use Rattle.std.specs.Prelude.{OnOk}
use Rattle.cert_types.specs.declared.certificate.Step.TheVariants.{Call}
use Rattle.walk_write.specs.Foresight.{SeesOn}
use Rattle.walk_write.proofs.ForesightLemmas.{passes}
use Rattle.walk_write.proofs.closer.read_step.Goals as goal

pub returns-in-Call : goal.returns-in-Call
returns-in-Call c =
    subst (λ z. SeesOn c.args.outlook.now.place.now c.args.outlook.now.index c.args.outlook.now.format.now c.args.outlook.now.source.now.asked.now z c.args.number c.args.digits.now c.args.choices.now.items c.read_call.new.digits c.args.choices.now.items) (sym c.in-Call.is)
    (subst (λ xs. SeesOn c.args.outlook.now.place.now c.args.outlook.now.index c.args.outlook.now.format.now c.args.outlook.now.source.now.asked.now (Call c.in-Call.field) c.args.number c.args.digits.now xs c.read_call.new.digits xs) c.as_slice.ensures c.read_call.ensures)

pub returns-in-Choose : goal.returns-in-Choose
returns-in-Choose c =
    subst (λ z. OnOk c.read_choice.result (SeesOn c.args.outlook.now.place.now c.args.outlook.now.index c.args.outlook.now.format.now c.args.outlook.now.source.now.asked.now z c.args.number c.args.digits.now c.args.choices.now.items c.read_choice.new.digits c.read_choice.new.choices.items)) (sym c.in-Choose.is)
    c.read_choice.ensures

pub returns-in-Ask : goal.returns-in-Ask
returns-in-Ask c =
    subst (λ z. OnOk c.note_asked.result (SeesOn c.args.outlook.now.place.now c.args.outlook.now.index c.args.outlook.now.format.now c.args.outlook.now.source.now.asked.now z c.args.number c.args.digits.now c.args.choices.now.items c.args.digits.now c.note_asked.new.choices.items)) (sym c.in-Ask.is)
    c.note_asked.ensures

pub returns-in_default : goal.returns-in_default
returns-in_default c = passes c.args.outlook.now.place.now c.args.outlook.now.index c.args.outlook.now.format.now c.args.outlook.now.source.now.asked.now c.args.number c.args.step c.in_default.not-Call c.in_default.not-Choose c.args.digits.now c.args.choices.now.items
