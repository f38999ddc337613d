use Rattle.std.proofs.Common.{sym, ◌∙◌, subst, drop}
use Rattle.cert_candidates.specs.Reading.{Divides, IsNext, CarriesOn}
use Rattle.walk_write.proofs.GoingChosen.{chosen_at, width_of, choice_divides, choice_goes, choice_fails}
use Rattle.walk_write.proofs.steps.choose_step.Goals as goal

pub next-digit-requires-clause-divides : goal.next-digit-requires-clause-divides
next-digit-requires-clause-divides c =
    let w = c.requires.goes in
    let is = chosen_at c.format.result.now c.args.level.now.format c.format.ensures c.args.field c.in-Some.width (sym c.choice_of.ensures ∙ c.in-Some.is) in
    subst (λ r. Divides r c.args.digits.now.span) (sym (width_of c.args.level.now.format c.args.field c.in-Some.width is))
    (choice_divides c.args.accepted.now c.args.level_frame.now (drop c.args.source.now.from c.args.source.now.cursor.now.left) c.args.source.now.asked.now w.serves c.args.field w.later w.number c.args.digits.now c.args.level.now w.going c.in-Some.width is)

pub returns-in-Err-clause-fault : goal.returns-in-Err-clause-fault
returns-in-Err-clause-fault c =
    let is = chosen_at c.format.result.now c.args.level.now.format c.format.ensures c.args.field c.in-Some.width (sym c.choice_of.ensures ∙ c.in-Some.is) in
    let width = width_of c.args.level.now.format c.args.field c.in-Some.width is in
    choice_fails c.args.accepted.now c.args.level_frame.now (drop c.args.source.now.from c.args.source.now.cursor.now.left) c.args.source.now.asked.now c.requires.goes.serves c.args.field c.in-Some.width c.next-digit.result c.args.digits.now c.next-digit.new.self
    c.args.level.now is (subst (λ r. IsNext r c.args.digits.now c.next-digit.result c.next-digit.new.self) width c.next-digit.ensures.split)
    (subst (λ r. CarriesOn r c.args.digits.now c.next-digit.result c.next-digit.new.self) width c.next-digit.ensures.read)
    c.in-Err.fault c.in-Err.ensures.fault c.alike-alike.result c.alike-alike.ensures.count c.alike-alike.ensures.share c.fault_of.result c.fault_of.ensures

pub returns-clause-on : goal.returns-clause-on
returns-clause-on c =
    let is = chosen_at c.format.result.now c.args.level.now.format c.format.ensures c.args.field c.in-Some.width (sym c.choice_of.ensures ∙ c.in-Some.is) in
    let width = width_of c.args.level.now.format c.args.field c.in-Some.width is in
    choice_goes c.args.accepted.now c.args.level_frame.now (drop c.args.source.now.from c.args.source.now.cursor.now.left) c.args.source.now.asked.now c.requires.goes.serves c.args.field c.in-Some.width c.next-digit.result c.args.digits.now c.next-digit.new.self
    c.args.level.now is (subst (λ r. IsNext r c.args.digits.now c.next-digit.result c.next-digit.new.self) width c.next-digit.ensures.split)
    (subst (λ r. CarriesOn r c.args.digits.now c.next-digit.result c.next-digit.new.self) width c.next-digit.ensures.read)
    c.choose.new.level c.in_default-choose.ensures.learns c.in_default-choose.ensures.known c.keeps.ensures
