use Rattle.std.proofs.Common.{rules, ◌≡◌, ap, ◌∙◌, sym, subst, refl, drop, to_z, of_z}
use Rattle.std.specs.Prelude.{Some, None}
use Rattle.std.specs.Option.{option_copied}
use mir.Syntax.{w128}
use Rattle.sem_library.specs.Methods.{lsb}
use Rattle.walk_write.specs.Refutation.{IsElse, reference_at}
use Rattle.walk_write.proofs.RefutationFronts.{far, none_lsb, told}
use Rattle.walk_write.proofs.refutation.is_far.Goals as goal

pub returns-in_default-2 : goal.returns-in_default-2
returns-in_default-2 c = λ t known.
    let k = c.in-Number in
    let offset = c.in-Number-offset in
    let bits = drop c.args.begin c.args.source.now.left in
    let is : None ≡ reference_at c.args.place.now c.args.field.now = ap option_copied (sym c.in_default-2.is) ∙ c.in_ok-reference.ensures in
    far c.args.place.now.accepted.now.profile known c.args.bits.now c.args.offset.now k.field-0 offset.field-0 k.count offset.ahead k.count offset.ahead (reference_at c.args.place.now c.args.field.now) bits k.is offset.is refl refl
    (subst (λ r. IsElse (lsb k.count offset.ahead) r bits) is (none_lsb k.count offset.ahead bits))

pub returns : goal.returns
returns c =
    let k = c.in-Number in
    let offset = c.in-Number-offset in
    let bits = drop c.args.begin c.args.source.now.left in
    let is : Some c.in-Some.reference.now ≡ reference_at c.args.place.now c.args.field.now = ap option_copied (sym c.in-Some.is) ∙ c.in_ok-reference.ensures in
    let count_kept : to_z w128 (of_z w128 k.count) ≡ k.count = (search rules) in
    let ahead_kept : to_z w128 (of_z w128 offset.ahead) ≡ offset.ahead = (search rules) in
    told c.is_beyond.result
    (λ h known. far c.args.place.now.accepted.now.profile known c.args.bits.now c.args.offset.now k.field-0 offset.field-0 k.count offset.ahead (to_z w128 (of_z w128 k.count)) (to_z w128 (of_z w128 offset.ahead)) (reference_at c.args.place.now c.args.field.now) bits k.is offset.is
    count_kept ahead_kept (subst (λ r. IsElse (lsb (to_z w128 (of_z w128 k.count)) (to_z w128 (of_z w128 offset.ahead))) r bits) is h))
    c.is_beyond.ensures
