use Rattle.std.proofs.Common.{◌+◌, sym, ◌∙◌, refl, ap, subst, drop, get_or, [], arith, rules}
use Rattle.std.specs.Prelude.{slice_get}
use Rattle.sem_bits.proofs.CursorLists.{drop_add}
use Rattle.walk_write.specs.Refutation.{operand, HasFalse, FieldLacks, Lacks, of_constraint}
use Rattle.walk_write.specs.Premises.{numbers, told_numbers}
use Rattle.walk_write.proofs.RefutationFronts.{told, lacks_by}
use Rattle.walk_write.proofs.header_constants.+lacking.Goals as goal

pub lacks_field-lacks-requires : goal.lacks_field-lacks-requires
lacks_field-lacks-requires t c =
    let few = c.in-Some-offset_at.ensures.0 in
    let rest = c.rest.ensures.value in
    let within = c.requires.within in
    (search rules, omega (arith, few, rest, within))

pub lacks_field-returns-then-has_other : goal.lacks_field-returns-then-has_other
lacks_field-returns-then-has_other t c = λ is sizes right.
    let known = numbers c.args.told.now in
    let p = c.args.accepted.now.profile in
    let index = get_or c.as_slice-index-items.result.now c.loop-index.index-index 0 in
    let field = c.in-Some.field.now in
    let offset = c.in-Some-offset_at.offset in
    record {
      index = index;
      offset = offset;
      field = field;
      before = right index offset c.in-Some-offset_at.ensures.1;
      field_is = ap (λ z. slice_get z index) (sym c.as_slice.ensures) ∙ sym c.in-Some.ensures;
      in_header = sym c.is_header.ensures ∙ c.if-not-is_header.false;
      lacks = subst (Lacks p known field.encoding) (drop_add c.args.from offset c.args.source.now.left)
          (subst (λ z. Lacks p known z (drop (c.args.from + offset) c.args.source.now.left)) c.get.ensures (c.in_ok-has_other.ensures c.if-has_other.true));
    }

pub lacks_inside-returns-then-has_false : goal.lacks_inside-returns-then-has_false
lacks_inside-returns-then-has_false t c = λ is.
    let format = c.in-Some.format.now in
    let values = c.in_ok-are_told.ensures c.if-not-are_told.false in
    of_constraint c.args.call.now.method c.tells_values.new.values.items format
    (record { exprs = c.args.call.now.arguments.now; encoding_is = refl; args_are = values; format_is = sym c.in-Some.ensures; alone = c.has_more.ensures c.if-has_more.false })
    (subst (λ z. HasFalse (operand z) format.constraints) c.as_slice-2.ensures (subst (HasFalse (operand c.as_slice-2.result.now)) c.as_slice.ensures (c.if-has_false.ensures is)))

pub lacks_inside-returns : goal.lacks_inside-returns
lacks_inside-returns t c =
    let p = c.args.accepted.now.profile in
    let format = c.in-Some.format.now in
    let bits = drop c.args.begin c.args.source.now.left in
    let values = c.in_ok-are_told.ensures c.if-not-are_told.false in
    let looked = c.in-Some-looks_of.ensures format (sym c.in-Some.ensures) in
    told c.lacks_field.result
    (λ h. lacks_by p (numbers c.args.told.now) c.args.call.now.method c.args.call.now.arguments.now bits c.tells_values.new.values.items format looked.sizes
    (record { exprs = c.args.call.now.arguments.now; encoding_is = refl; args_are = values; format_is = sym c.in-Some.ensures; alone = c.has_more.ensures c.if-has_more.false }) looked.sizes_are
    (subst (λ z. FieldLacks p (told_numbers format z []) format.fields looked.sizes.fields bits) c.as_slice-3.ensures (h looked.sizes.fields looked.right)))
    c.lacks_field.ensures
