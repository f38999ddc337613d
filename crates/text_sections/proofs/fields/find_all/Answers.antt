use Rattle.text_sections.specs.Tables.{find_in}
use Rattle.text_sections.proofs.Tabled.{read_at}
use Rattle.text_sections.proofs.FieldsOwned.{by_more}
use Rattle.text_sections.proofs.fields.find_all.Goals as goal

pub loop-place-preserved : goal.loop-place-preserved
loop-place-preserved c =
    by_more c.args.text.now (find_in c.args.base.now) (find_in c.args.default.now) c.args.fields.now c.args.own.now c.loop-place.place _ _ _ _ _ _ (read_at _ _ _ c.loop-place-test.true) c.choice_at-own.ensures c.encoding.ensures c.in_ok-push.ensures.ok
    c.loop-place.invariant
