use Rattle.std.proofs.Common.{◌∙◌, ap, sym, length, refl, subst}
use Rattle.std.specs.Prelude.{IsTrue}
use Rattle.sem_filling.specs.Fillings.{fields_of}
use Rattle.sem_filling.specs.Level.{FieldsLie}
use Rattle.sem_holds.proofs.ShapeLemmas.{lengths_lie, fields_lie_not}
use Rattle.sem_holds.proofs.shape.is_bounded.Goals as goal

pub returns-then-are_bounded : goal.returns-then-are_bounded
returns-then-are_bounded c =
    let fields : FieldsLie c.args.sizes.now.fields (fields_of c.args.filling.now) =
    subst (λ xs. FieldsLie xs (fields_of c.args.filling.now)) c.as_slice.ensures (subst (λ ys. FieldsLie c.as_slice.result.now ys) c.as_slice-2.ensures (c.if-are_bounded.ensures.0 refl)) in
    lengths_lie c.args.sizes.now c.args.filling.now _ _ _ fields (c.len.ensures.value ∙ ap length c.requires.header) (c.len-then-are_bounded.ensures.value ∙ ap length c.requires.packed) c.sides_lie.ensures

pub returns-else-are_bounded : goal.returns-else-are_bounded
returns-else-are_bounded c =
    let back : FieldsLie c.args.sizes.now.fields (fields_of c.args.filling.now) → IsTrue c.are_bounded.result = λ all.
    c.are_bounded.ensures.1 (subst (λ xs. FieldsLie xs c.as_slice-2.result.now) (sym c.as_slice.ensures) (subst (λ ys. FieldsLie c.args.sizes.now.fields ys) (sym c.as_slice-2.ensures) all)) in
    fields_lie_not c.args.sizes.now c.args.filling.now c.are_bounded.result back c.if-are_bounded.false
