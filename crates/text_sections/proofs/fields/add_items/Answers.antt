use Rattle.std.proofs.Common.{refl, ◌∙◌, sym, ◌++◌, ◌+◌, take}
use Rattle.std.proofs.lemmas.Option.{slice_get_read}
use Rattle.text_sections.specs.Mentions.{mentions_of}
use Rattle.text_sections.specs.Tables.{IsTable}
use Rattle.text_sections.proofs.TablesInserting.{item_inserted, item_passed}
use Rattle.text_sections.proofs.fields.add_items.Goals.{in-Some+in_ok-insert, in_default}
use Rattle.text_sections.proofs.fields.add_items.Goals as goal

pub loop-place-preserved : goal.loop-place-preserved
loop-place-preserved c = λ before is.
    let here = slice_get_read _ _ c.loop-place.place c.index-items-place.result refl c.loop-place-test.true c.index-items-place.is in
    elim c.match-mention_of.branch as (λ _. IsTable c.args.text.now (before ++ mentions_of c.args.text.now c.args.section (take (c.loop-place.place + 1) c.args.items.now)) c.match-mention_of.fields) [
      | in-Some+in_ok-insert w ↦
          rw w.fields-is (item_inserted c.args.text.now c.args.section before c.args.items.now c.loop-place.place c.index-items-place.result _ _ here (sym c.mention_of.ensures ∙ w.in-Some.is)
          (w.in_ok-insert.ensures _ (c.loop-place.invariant before is)))
      | in_default w ↦
          rw w.fields-is (item_passed c.args.text.now c.args.section before c.args.items.now c.loop-place.place c.index-items-place.result _ here (sym c.mention_of.ensures ∙ w.in_default.is) (c.loop-place.invariant before is))
    ]
