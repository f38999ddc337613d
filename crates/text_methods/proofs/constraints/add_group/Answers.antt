use Rattle.std.proofs.Common.{◌++◌, ◌+◌, ◌∙◌, sym, drop, refl, arith}
use Rattle.std.proofs.lemmas.Option.{slice_get_read}
use Rattle.sem_expr.specs.declared.expr.Side.TheVariants.{Uncompressed}
use Rattle.text_methods.specs.Constraints.{of_group}
use Rattle.text_methods.proofs.ConstraintsNumbering.{next, last, opened, skipped}
use Rattle.text_methods.proofs.constraints.add_group.Goals.{then-is_in+in_ok-add_base, else-is_in}
use Rattle.text_methods.proofs.constraints.add_group.Goals as goal

pub add_base-requires : goal.add_base-requires
add_base-requires c =
    let here = slice_get_read c.args.sections.now _ c.loop-number.number c.index-sections-number.result refl c.loop-number-test.true c.index-sections-number.is in
    rw c.as_slice.ensures (c.requires c.loop-number.number c.index-sections-number.result here)

pub loop-number-preserved : goal.loop-number-preserved
loop-number-preserved c = λ rest whole so.
    let here = slice_get_read c.args.sections.now _ c.loop-number.number c.index-sections-number.result refl c.loop-number-test.true c.index-sections-number.is in
    let before = next (of_group Uncompressed c.args.group) c.args.sections.now c.loop-number.number c.index-sections-number.result rest here (c.loop-number.invariant rest whole so) in
    let others = of_group Uncompressed c.args.group (drop (c.loop-number.number + 1) c.args.sections.now) in
    elim c.if-is_in.branch [
      | then-is_in+in_ok-add_base w ↦
          rw w.all-is ((rw w.as_slice.ensures at w.in_ok-add_base.ensures) (others ++ rest) whole (opened _ _ others rest (sym c.is_in.ensures ∙ w.if-is_in.true) before))
      | else-is_in w ↦ rw w.all-is (skipped _ _ others rest (sym c.is_in.ensures ∙ w.if-is_in.false) before)
    ]

pub returns : goal.returns
returns c = λ rest whole so. last (of_group Uncompressed c.args.group) c.args.sections.now c.loop-number.number rest (omega arith) (c.loop-number.invariant rest whole so)
