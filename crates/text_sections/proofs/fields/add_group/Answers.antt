use Rattle.std.proofs.Common.{refl, ◌∙◌, sym, ◌++◌, ◌+◌, take}
use Rattle.std.proofs.lemmas.Option.{slice_get_read}
use Rattle.text_sections.specs.Mentions.{mentions_in}
use Rattle.text_sections.specs.Tables.{IsTable}
use Rattle.text_sections.proofs.TablesInserting.{section_inserted, section_passed}
use Rattle.text_sections.proofs.fields.add_group.Goals.{then-is_in+in_ok-add_items, else-is_in}
use Rattle.text_sections.proofs.fields.add_group.Goals as goal

pub loop-place-preserved : goal.loop-place-preserved
loop-place-preserved c = λ before is.
    let here = slice_get_read _ _ c.loop-place.place c.index-sections-place.result refl c.loop-place-test.true c.index-sections-place.is in
    elim c.if-is_in.branch as (λ _. IsTable c.args.text.now (before ++ mentions_in c.args.text.now c.args.group 0 (take (c.loop-place.place + 1) c.args.sections.now)) c.if-is_in.fields) [
      | then-is_in+in_ok-add_items w ↦
          rw w.fields-is (section_inserted c.args.text.now c.args.group before c.args.sections.now c.loop-place.place c.index-sections-place.result _ here (sym c.is_in.ensures ∙ w.if-is_in.true)
          (rw w.as_slice.ensures at (w.in_ok-add_items.ensures _ (c.loop-place.invariant before is))))
      | else-is_in w ↦
          rw w.fields-is (section_passed c.args.text.now c.args.group before c.args.sections.now c.loop-place.place c.index-sections-place.result _ here (sym c.is_in.ensures ∙ w.if-is_in.false) (c.loop-place.invariant before is))
    ]
