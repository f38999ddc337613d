use Rattle.std.proofs.Common.{◌++◌, ◌+◌, ◌∙◌, sym, drop, refl, arith}
use Rattle.std.proofs.lemmas.Option.{slice_get_read}
use Rattle.text_methods.specs.Constraints.{used_from}
use Rattle.text_methods.proofs.ConstraintsNumbering.{next, last, opened, skipped}
use Rattle.text_methods.proofs.constraints.add_used.Goals.{then-is_used+in_ok-add_statement, else-is_used}
use Rattle.text_methods.proofs.constraints.add_used.Goals as goal

pub loop-place-preserved : goal.loop-place-preserved
loop-place-preserved c = λ rest whole so.
    let here = slice_get_read c.args.items.now _ c.loop-place.place c.index-items-place.result refl c.loop-place-test.true c.index-items-place.is in
    let from = used_from c.args.scope.now c.args.chosen.now c.args.section in
    let before = next (from c.loop-place.place) c.args.items.now c.loop-place.place c.index-items-place.result rest here (c.loop-place.invariant rest whole so) in
    let others = from (c.loop-place.place + 1) (drop (c.loop-place.place + 1) c.args.items.now) in
    elim c.if-is_used.branch [
      | then-is_used+in_ok-add_statement w ↦
          rw w.all-is (w.in_ok-add_statement.ensures (others ++ rest) whole (opened _ _ others rest (sym c.is_used.ensures ∙ w.if-is_used.true) before))
      | else-is_used w ↦ rw w.all-is (skipped _ _ others rest (sym c.is_used.ensures ∙ w.if-is_used.false) before)
    ]

pub returns : goal.returns
returns c = λ rest whole so. last (used_from c.args.scope.now c.args.chosen.now c.args.section c.loop-place.place) c.args.items.now c.loop-place.place rest (omega arith) (c.loop-place.invariant rest whole so)
