use Rattle.std.proofs.Common.{◌≡◌, ◌∙◌, refl, sym, ap, subst, true, [], ◌∷◌}
use Rattle.std.proofs.lemmas.Option.{same_Some, none-some}
use Rattle.sem_expr.specs.declared.expr.Subject.TheVariants as subject
use Rattle.sem_expr.specs.declared.expr.Measure.TheVariants as measure
use Rattle.sem_expr.specs.Values.{val}
use Rattle.sem_library.specs.Methods.{IsOnly}
use Rattle.sem_profile.specs.declared.profile.Library.TheVariants as library
use Rattle.sem_filling.proofs.Coded.{ok_weaker}
use Rattle.cert_rules.specs.Facts.{side_facts, inputs_of_all}
use Rattle.cert_rules.specs.Reading.{known_sides}
use Rattle.cert_rules.specs.Slots.{knows_all}
use Rattle.cert_rules.specs.Steps.{DownIs}
use Rattle.walk_steps.specs.Finding.{shown_numbers}
use Rattle.walk_steps.specs.Methods.{SummedBy}
use Rattle.walk_steps.proofs.LibraryChecksums.{crc_only, values_summed, known_input, field_covered, whole_covered}
use Rattle.walk_steps.proofs.LevelAsked.{knows_left, knows_right}
use Rattle.walk_steps.proofs.library.summed.Goals as goal

pub value-bits-requires : goal.value-bits-requires
value-bits-requires c = record { asked = c.requires.asked 0 c.args.crc.now.bits refl }

pub value-polynomial-requires : goal.value-polynomial-requires
value-polynomial-requires c = record { asked = c.requires.asked 1 c.args.crc.now.polynomial refl }

pub value-initial-requires : goal.value-initial-requires
value-initial-requires c = record { asked = c.requires.asked 2 c.args.crc.now.initial refl }

pub value-len-requires : goal.value-len-requires
value-len-requires c = record { asked = c.requires.asked 3 c.args.crc.now.length refl }

pub returns-in-Some : goal.returns-in-Some
returns-in-Some c =
    let l = c.args.level.now in
    let crc = c.args.crc.now in
    let es = crc.bits ∷ crc.polynomial ∷ crc.initial ∷ crc.length ∷ [] in
    let a = shown_numbers l in
    let all = knows_right l.format l.slots (side_facts l.format crc.subject crc.side measure.Value) (inputs_of_all l.format es) c.requires.known in
    let n = c.value-bits.ensures.shown (known_input l.format l.slots es 0 crc.bits all refl) in
    let polynomial = c.value-polynomial.ensures.shown (known_input l.format l.slots es 1 crc.polynomial all refl) in
    let initial = c.value-initial.ensures.shown (known_input l.format l.slots es 2 crc.initial all refl) in
    let len = c.value-len.ensures.shown (known_input l.format l.slots es 3 crc.length all refl) in
    let covered = c.in-Some.covered.now in
    let r = c.checksum.result in
    let summed = values_summed r c.value-bits.result c.value-polynomial.result c.value-initial.result c.value-len.result (val a crc.bits) (val a crc.polynomial) (val a crc.initial) (val a crc.length) covered
    n polynomial initial len c.checksum.ensures in
    let is = field_covered l.format l.slots c.keeps.ensures.count c.in-Field.index crc.side covered (sym c.in-Some.ensures) ∙ ap (λ s. known_sides l.format l.slots s crc.side) (sym c.in-Field.is) in
    ok_weaker (IsOnly (SummedBy (val a crc.bits) (val a crc.polynomial) (val a crc.initial) (val a crc.length) covered)) (IsOnly (DownIs (known_sides l.format l.slots) a [] (library.Crc crc))) r
    (λ o. crc_only (known_sides l.format l.slots) a crc [] covered o is) summed

pub returns-in-Some-2 : goal.returns-in-Some-2
returns-in-Some-2 c =
    let l = c.args.level.now in
    let crc = c.args.crc.now in
    let es = crc.bits ∷ crc.polynomial ∷ crc.initial ∷ crc.length ∷ [] in
    let a = shown_numbers l in
    let all = knows_right l.format l.slots (side_facts l.format crc.subject crc.side measure.Value) (inputs_of_all l.format es) c.requires.known in
    let n = c.value-bits.ensures.shown (known_input l.format l.slots es 0 crc.bits all refl) in
    let polynomial = c.value-polynomial.ensures.shown (known_input l.format l.slots es 1 crc.polynomial all refl) in
    let initial = c.value-initial.ensures.shown (known_input l.format l.slots es 2 crc.initial all refl) in
    let len = c.value-len.ensures.shown (known_input l.format l.slots es 3 crc.length all refl) in
    let covered = c.in-Some-2.covered in
    let r = c.checksum-in-This.result in
    let summed = values_summed r c.value-bits.result c.value-polynomial.result c.value-initial.result c.value-len.result (val a crc.bits) (val a crc.polynomial) (val a crc.initial) (val a crc.length) covered
    n polynomial initial len c.checksum-in-This.ensures in
    let facts = knows_left l.format l.slots (side_facts l.format crc.subject crc.side measure.Value) (inputs_of_all l.format es) c.requires.known in
    let known = subst (λ s. knows_all l.format l.slots (side_facts l.format s crc.side measure.Value) ≡ true) c.in-This.is facts in
    let found = sym c.in-Some-2.is ∙ (c.in_ok-covered-in-This.ensures ∙ whole_covered l.format l.slots c.keeps.ensures.count crc.side known) in
    let is = same_Some covered (known_sides l.format l.slots subject.This crc.side) found ∙ ap (λ s. known_sides l.format l.slots s crc.side) (sym c.in-This.is) in
    ok_weaker (IsOnly (SummedBy (val a crc.bits) (val a crc.polynomial) (val a crc.initial) (val a crc.length) covered)) (IsOnly (DownIs (known_sides l.format l.slots) a [] (library.Crc crc))) r
    (λ o. crc_only (known_sides l.format l.slots) a crc [] covered o is) summed

pub returns-in_default-2 : goal.returns-in_default-2
returns-in_default-2 c =
    let l = c.args.level.now in
    let crc = c.args.crc.now in
    let facts = knows_left l.format l.slots (side_facts l.format crc.subject crc.side measure.Value) (inputs_of_all l.format (crc.bits ∷ crc.polynomial ∷ crc.initial ∷ crc.length ∷ [])) c.requires.known in
    let known = subst (λ s. knows_all l.format l.slots (side_facts l.format s crc.side measure.Value) ≡ true) c.in-This.is facts in
    absurd (none-some _ (sym c.in_default-2.is ∙ (c.in_ok-covered-in-This.ensures ∙ whole_covered l.format l.slots c.keeps.ensures.count crc.side known)))
