use Rattle.std.proofs.Common.{◌≡◌, refl, sym, subst, true, [], ◌∷◌, ◌++◌}
use Rattle.cert_types.specs.declared.rule.Fact.TheVariants.{BitsOf}
use Rattle.std.specs.Prelude.{IfOk}
use Rattle.sem_expr.specs.Values.{val}
use Rattle.sem_expr.specs.declared.expr.Side.TheVariants.{Compressed}
use Rattle.sem_library.specs.Methods.{IsOnly}
use Rattle.cert_rules.specs.Facts.{inputs}
use Rattle.cert_rules.specs.Rules.{up_needs}
use Rattle.cert_rules.specs.Slots.{knows_all, bits_of, learnt_at}
use Rattle.cert_rules.specs.Steps.{UpIs}
use Rattle.walk_steps.specs.Finding.{shown_numbers, reference_at}
use Rattle.walk_steps.specs.Methods.{SpelledBy, LsbBy}
use Rattle.std.specs.Option.{option_copied}
use Rattle.walk_steps.proofs.LevelAsked.{knows_left, knows_right}
use Rattle.walk_steps.proofs.FindingSides.{argument_asked, whole_bits}
use Rattle.walk_steps.proofs.library.upward.Goals as goal

pub value-requires : goal.value-requires
value-requires c = record { asked = argument_asked c.args.level.now 0 c.requires.asked c.in-UncompressedValue.is refl }

pub value-requires-in-UncompressedValue : goal.value-requires-in-UncompressedValue
value-requires-in-UncompressedValue c = record { asked = argument_asked c.args.level.now 1 c.requires.asked c.in-UncompressedValue.is refl }

pub value-requires-in-Lsb : goal.value-requires-in-Lsb
value-requires-in-Lsb c = record { asked = argument_asked c.args.level.now 0 c.requires.asked c.in-Lsb.is refl }

pub value-requires-in-Lsb-2 : goal.value-requires-in-Lsb-2
value-requires-in-Lsb-2 c = record { asked = argument_asked c.args.level.now 1 c.requires.asked c.in-Lsb.is refl }

pub returns-in-UncompressedValue : goal.returns-in-UncompressedValue
returns-in-UncompressedValue c =
    let l = c.args.level.now in
    let known = subst (λ m. knows_all l.format l.slots (up_needs l.format c.args.field m) ≡ true) c.in-UncompressedValue.is c.requires.known in
    let len = c.value.ensures.shown (knows_left l.format l.slots (inputs l.format c.in-UncompressedValue.length) (inputs l.format c.in-UncompressedValue.value) known) in
    let number = c.value-in-UncompressedValue.ensures.shown (knows_right l.format l.slots (inputs l.format c.in-UncompressedValue.length) (inputs l.format c.in-UncompressedValue.value) known) in
    subst (λ m. IfOk c.spelled.result (IsOnly (UpIs (shown_numbers l) (reference_at c.args.level_frame.now c.args.coded.now) (bits_of (learnt_at l.slots c.args.field Compressed)) m))) (sym c.in-UncompressedValue.is)
    (subst (λ x. IfOk c.spelled.result (IsOnly (SpelledBy x (val (shown_numbers l) c.in-UncompressedValue.value)))) len (subst (λ y. IfOk c.spelled.result (IsOnly (SpelledBy c.value.result y))) number c.spelled.ensures))

pub returns-in_ok-reference-in-Lsb : goal.returns-in_ok-reference-in-Lsb
returns-in_ok-reference-in-Lsb c =
    let l = c.args.level.now in
    let r = c.lsb_found.result in
    let ref = reference_at c.args.level_frame.now c.args.coded.now in
    let own = bits_of (learnt_at l.slots c.args.field Compressed) in
    let known = subst (λ m. knows_all l.format l.slots (up_needs l.format c.args.field m) ≡ true) c.in-Lsb.is c.requires.known in
    let later = knows_right l.format l.slots (BitsOf Compressed c.args.field ∷ []) (inputs l.format c.in-Lsb.bits ++ inputs l.format c.in-Lsb.offset) known in
    let k = c.value-in-Lsb.ensures.shown (knows_left l.format l.slots (inputs l.format c.in-Lsb.bits) (inputs l.format c.in-Lsb.offset) later) in
    let offset = c.value-in-Lsb-2.ensures.shown (knows_right l.format l.slots (inputs l.format c.in-Lsb.bits) (inputs l.format c.in-Lsb.offset) later) in
    let bits = whole_bits (learnt_at l.slots c.args.field Compressed) c.in-Some.compressed.now (sym c.in-Some.ensures) in
    subst (λ m. IfOk r (IsOnly (UpIs (shown_numbers l) ref own m))) (sym c.in-Lsb.is)
    (subst (λ x. IfOk r (IsOnly (LsbBy x (val (shown_numbers l) c.in-Lsb.offset) ref own))) k
    (subst (λ y. IfOk r (IsOnly (LsbBy c.value-in-Lsb.result y ref own))) offset
    (subst (λ z. IfOk r (IsOnly (LsbBy c.value-in-Lsb.result c.value-in-Lsb-2.result z own))) c.in_ok-reference-in-Lsb.ensures
    (subst (λ z. IfOk r (IsOnly (LsbBy c.value-in-Lsb.result c.value-in-Lsb-2.result (option_copied c.in_ok-reference-in-Lsb.reference) z))) (sym bits) c.lsb_found.ensures))))
