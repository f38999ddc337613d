use Rattle.std.proofs.Common.{sym, ◌∙◌, ap, subst, get_or, arith}
use Rattle.std.specs.Prelude.{slice_get}
use Rattle.sem_bits.proofs.CursorLists.{drop_add}
use Rattle.walk_write.specs.Premises.{numbers}
use Rattle.walk_write.specs.Refutation.{IsOther, reference_at}
use Rattle.walk_write.proofs.refutation.differs.Goals as goal

pub is_other-requires : goal.is_other-requires
is_other-requires c =
    let few = c.in-Some-offset_at.ensures.0 in
    let rest = c.rest.ensures.value in
    let within = c.requires.within in
    omega (arith, few, rest, within)

pub returns-then-has_other : goal.returns-then-has_other
returns-then-has_other c = λ t sizes right.
    let known = numbers c.args.told.now in
    let place = c.args.place.now in
    let index = get_or c.listed_fields-index-items.result.now c.loop-index.index-index 0 in
    let field = c.in-Some.field.now in
    let offset = c.in-Some-offset_at.offset in
    record {
      index = index;
      offset = offset;
      field = field;
      before = right index offset c.in-Some-offset_at.ensures.1;
      field_is = ap (λ z. slice_get z index) (sym c.as_slice.ensures) ∙ sym c.in-Some.ensures;
      in_header = sym c.is_header.ensures ∙ c.if-not-is_header.false;
      other = subst (IsOther place.accepted.now.profile known field.encoding (reference_at place field)) (drop_add c.args.from offset c.args.source.now.left) (c.in_ok-has_other.ensures c.if-has_other.true);
    }
