use Rattle.std.proofs.Common.{◌++◌, ◌+◌, ◌∙◌, sym, drop, refl, arith}
use Rattle.std.proofs.lemmas.Option.{slice_get_read}
use Rattle.text_methods.specs.Constraints.{defaults_from}
use Rattle.text_methods.proofs.ConstraintsNumbering.{next, last, opened, skipped}
use Rattle.text_methods.proofs.constraints.add_defaults.Goals.{then-is_in+in_ok-add_used, else-is_in}
use Rattle.text_methods.proofs.constraints.add_defaults.Goals as goal

pub loop-place-preserved : goal.loop-place-preserved
loop-place-preserved c = λ rest whole so.
    let here = slice_get_read c.args.sections.now _ c.loop-place.place c.index-sections-place.result refl c.loop-place-test.true c.index-sections-place.is in
    let from = defaults_from c.args.scope.now c.args.chosen.now in
    let before = next (from c.loop-place.place) c.args.sections.now c.loop-place.place c.index-sections-place.result rest here (c.loop-place.invariant rest whole so) in
    let others = from (c.loop-place.place + 1) (drop (c.loop-place.place + 1) c.args.sections.now) in
    elim c.if-is_in.branch [
      | then-is_in+in_ok-add_used w ↦
          rw w.all-is ((rw w.as_slice.ensures at w.in_ok-add_used.ensures) (others ++ rest) whole (opened _ _ others rest (sym c.is_in.ensures ∙ w.if-is_in.true) before))
      | else-is_in w ↦ rw w.all-is (skipped _ _ others rest (sym c.is_in.ensures ∙ w.if-is_in.false) before)
    ]

pub returns : goal.returns
returns c = λ rest whole so. last (defaults_from c.args.scope.now c.args.chosen.now c.loop-place.place) c.args.sections.now c.loop-place.place rest (omega arith) (c.loop-place.invariant rest whole so)
