use Rattle.std.proofs.Common.{◌≡◌, false, sym, subst}
use Rattle.std.specs.Prelude.{IfOk}
use Rattle.cert_types.specs.declared.certificate.Step.TheVariants.{Call}
use Rattle.walk_write.specs.Foresight.{SeesFrom, SeesOn}
use Rattle.walk_write.specs.Sources.{front}
use Rattle.walk_write.proofs.ForesightLemmas.{passes}
use Rattle.walk_write.proofs.WalkingPast.{none_passed}
use Rattle.walk_write.proofs.foresight.foreseen_step.Goals as goal

pub returns-in-Call-clause-on : goal.returns-in-Call-clause-on
returns-in-Call-clause-on c =
    let place = c.args.outlook.now.place.now in
    let format = c.args.outlook.now.format.now in
    let asked = c.args.outlook.now.source.now.asked.now in
    let choices = c.args.choices.now.items in
    let call = c.foreseen_call in
    subst (λ z. IfOk call.result (λ is. is ≡ false → SeesFrom place c.args.outlook.now.index format asked z c.args.number.now c.args.digits.now choices call.new.number call.new.digits choices)) (sym c.in-Call.is)
    (subst (λ xs. IfOk call.result (λ is. is ≡ false → SeesFrom place c.args.outlook.now.index format asked (Call c.in-Call.field) c.args.number.now c.args.digits.now xs call.new.number call.new.digits xs)) c.as_slice.ensures call.ensures.on)

pub returns-in-Choose-clause-on : goal.returns-in-Choose-clause-on
returns-in-Choose-clause-on c =
    let place = c.args.outlook.now.place.now in
    let format = c.args.outlook.now.format.now in
    let asked = c.args.outlook.now.source.now.asked.now in
    let choice = c.foreseen_choice in
    subst (λ z. IfOk choice.result (λ is. is ≡ false → SeesFrom place c.args.outlook.now.index format asked z c.args.number.now c.args.digits.now c.args.choices.now.items choice.new.number choice.new.digits choice.new.choices.items)) (sym c.in-Choose.is)
    choice.ensures.on

pub returns-in_ok-note_asked-in-Ask-clause-on : goal.returns-in_ok-note_asked-in-Ask-clause-on
returns-in_ok-note_asked-in-Ask-clause-on c = λ e.
    subst (λ z. SeesOn c.args.outlook.now.place.now c.args.outlook.now.index c.args.outlook.now.format.now c.args.outlook.now.source.now.asked.now z c.args.number.now c.args.digits.now c.args.choices.now.items c.args.digits.now c.note_asked.new.choices.items) (sym c.in-Ask.is)
    c.in_ok-note_asked-in-Ask.ensures

pub returns-in_default : goal.returns-in_default
returns-in_default c = record {
  past = none_passed c.args.outlook.now.place.now (front c.args.outlook.now.source.now) c.args.outlook.now.source.now.asked.now c.args.number.now;
  over = λ t. absurd (cc);
  on = λ e. passes c.args.outlook.now.place.now c.args.outlook.now.index c.args.outlook.now.format.now c.args.outlook.now.source.now.asked.now c.args.number.now c.args.step c.in_default.not-Call c.in_default.not-Choose c.args.digits.now c.args.choices.now.items;
}
