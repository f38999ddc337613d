use Rattle.std.proofs.Common.{◌≡◌, ◌∙◌, ap, refl, sym, subst, ◌≤◌, true, length, [], ◌∷◌}
use Rattle.std.specs.Prelude.{IfOk}
use Rattle.cert_types.specs.declared.rule.Fact.TheVariants.{BitsOf}
use Rattle.sem_expr.specs.Values.{val}
use Rattle.sem_expr.specs.declared.expr.Side.TheVariants.{Uncompressed}
use Rattle.sem_library.specs.Methods.{IsOnly}
use Rattle.sem_profile.specs.declared.profile.CrcArguments.{CrcArguments}
use Rattle.sem_profile.specs.declared.profile.Library.TheVariants as library
use Rattle.sem_profile.specs.BoundsLaws.{library_exprs}
use Rattle.sem_filling.proofs.Coded.{ok_weaker}
use Rattle.cert_rules.specs.Facts.{inputs}
use Rattle.cert_rules.specs.Reading.{known_sides}
use Rattle.cert_rules.specs.Rules.{down_needs}
use Rattle.cert_rules.specs.Slots.{knows_all, bits_of, learnt_at}
use Rattle.cert_rules.specs.Steps.{DownIs}
use Rattle.walk_steps.specs.Finding.{AllAsked, shown_numbers}
use Rattle.walk_steps.specs.Methods.{SpelledBy, LowBy}
use Rattle.walk_steps.proofs.LevelAsked.{knows_left, knows_right}
use Rattle.walk_steps.proofs.FindingSides.{argument_asked, whole_bits}
use Rattle.walk_steps.proofs.library.downward.Goals as goal

pub value-requires : goal.value-requires
value-requires c = record { asked = argument_asked c.args.level.now 0 c.requires.asked c.in-CompressedValue.is refl }

pub value-requires-in-CompressedValue : goal.value-requires-in-CompressedValue
value-requires-in-CompressedValue c = record { asked = argument_asked c.args.level.now 1 c.requires.asked c.in-CompressedValue.is refl }

pub value-requires-in-Lsb : goal.value-requires-in-Lsb
value-requires-in-Lsb c = record { asked = argument_asked c.args.level.now 0 c.requires.asked c.in-Lsb.is refl }

pub summed-requires-clause-asked : goal.summed-requires-clause-asked
summed-requires-clause-asked c =
    subst (λ m. AllAsked c.args.level.now (library_exprs m)) (c.in-Crc.is ∙ ap (λ (crc : CrcArguments). library.Crc crc) (sym c.get.ensures)) c.requires.asked

pub returns-in-CompressedValue : goal.returns-in-CompressedValue
returns-in-CompressedValue c =
    let l = c.args.level.now in
    let own = bits_of (learnt_at l.slots c.args.field Uncompressed) in
    let r = c.spelled.result in
    let known = subst (λ m. knows_all l.format l.slots (down_needs l.format c.args.field m) ≡ true) c.in-CompressedValue.is c.requires.known in
    let len = c.value.ensures.shown (knows_left l.format l.slots (inputs l.format c.in-CompressedValue.length) (inputs l.format c.in-CompressedValue.value) known) in
    let number = c.value-in-CompressedValue.ensures.shown (knows_right l.format l.slots (inputs l.format c.in-CompressedValue.length) (inputs l.format c.in-CompressedValue.value) known) in
    let found = subst (λ x. IfOk r (IsOnly (SpelledBy x (val (shown_numbers l) c.in-CompressedValue.value)))) len (subst (λ y. IfOk r (IsOnly (SpelledBy c.value.result y))) number c.spelled.ensures) in
    subst (λ m. IfOk r (λ o. length own ≤ 64 → IsOnly (DownIs (known_sides l.format l.slots) (shown_numbers l) own m) o)) (sym c.in-CompressedValue.is)
    (ok_weaker (IsOnly (SpelledBy (val (shown_numbers l) c.in-CompressedValue.length) (val (shown_numbers l) c.in-CompressedValue.value)))
    (λ o. length own ≤ 64 → IsOnly (DownIs (known_sides l.format l.slots) (shown_numbers l) own (library.CompressedValue c.in-CompressedValue.length c.in-CompressedValue.value)) o) r (λ o only short. only) found)

pub returns-in-Some : goal.returns-in-Some
returns-in-Some c =
    let l = c.args.level.now in
    let own = bits_of (learnt_at l.slots c.args.field Uncompressed) in
    let r = c.low_part.result in
    let known = subst (λ m. knows_all l.format l.slots (down_needs l.format c.args.field m) ≡ true) c.in-Lsb.is c.requires.known in
    let k = c.value-in-Lsb.ensures.shown (knows_right l.format l.slots (BitsOf Uncompressed c.args.field ∷ []) (inputs l.format c.in-Lsb.bits) known) in
    let bits = whole_bits (learnt_at l.slots c.args.field Uncompressed) c.in-Some.uncompressed.now (sym c.in-Some.ensures) in
    subst (λ m. IfOk r (λ o. length own ≤ 64 → IsOnly (DownIs (known_sides l.format l.slots) (shown_numbers l) own m) o)) (sym c.in-Lsb.is)
    (subst (λ x. IfOk r (λ o. length own ≤ 64 → IsOnly (LowBy x own) o)) k (subst (λ u. IfOk r (λ o. length u ≤ 64 → IsOnly (LowBy c.value-in-Lsb.result u) o)) (sym bits) c.low_part.ensures))

pub returns-in-Crc : goal.returns-in-Crc
returns-in-Crc c =
    let l = c.args.level.now in
    let own = bits_of (learnt_at l.slots c.args.field Uncompressed) in
    let r = c.summed.result in
    let is = c.in-Crc.is ∙ ap (λ (crc : CrcArguments). library.Crc crc) (sym c.get.ensures) in
    subst (λ m. IfOk r (λ o. length own ≤ 64 → IsOnly (DownIs (known_sides l.format l.slots) (shown_numbers l) own m) o)) (sym is)
    (ok_weaker (IsOnly (DownIs (known_sides l.format l.slots) (shown_numbers l) [] (library.Crc c.get.result.now)))
    (λ o. length own ≤ 64 → IsOnly (DownIs (known_sides l.format l.slots) (shown_numbers l) own (library.Crc c.get.result.now)) o) r (λ o only short. only) c.summed.ensures)
