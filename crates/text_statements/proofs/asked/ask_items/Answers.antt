use Rattle.std.proofs.Common.{◌∙◌, ap, sym, refl, ◌+◌, take}
use Rattle.std.proofs.lemmas.Option.{slice_get_read}
use Rattle.sem_profile.specs.Words.{word}
use Rattle.text_statements.specs.Asked.{AskedOn}
use Rattle.text_statements.proofs.ItemsAsked.{asked_none, asked_one, asked_no_more, ask_more}
use Rattle.text_statements.proofs.asked.ask_items.Goals as goal
use Rattle.text_statements.proofs.asked.ask_items.Goals.{in-Some+in_ok-insert, in_default}

pub loop-item-init : goal.loop-item-init
loop-item-init c = asked_none c.args.scope.now c.args.set.now c.args.asked.now

pub loop-item-preserved : goal.loop-item-preserved
loop-item-preserved c =
    let here = slice_get_read c.args.items.now _ c.loop-item.item-index c.item-item.result refl c.loop-item-test.true c.item-item.is in
    elim c.match-branch-2.branch as (λ _. AskedOn c.args.scope.now c.args.set.now (take (c.loop-item.item-index + 1) c.args.items.now) c.args.asked.now c.match-branch-2.asked) [
      | in-Some+in_ok-insert w ↦
          rw w.asked-is (ask_more c.args.scope.now c.args.set.now c.args.items.now c.loop-item.item-index c.item-item.result c.args.asked.now c.loop-item.asked _ here c.loop-item.invariant
          (asked_one c.args.scope.now c.args.set.now c.item-item.result w.in-Some.name w.word.result.now c.loop-item.asked _ (rw w.in-Some.is at c.in_ok-name.ensures)
          (w.word.ensures ∙ ap (λ text. word text w.in-Some.name) (sym c.requires)) w.in_ok-insert.ensures.ok))
      | in_default w ↦
          rw w.asked-is (ask_more c.args.scope.now c.args.set.now c.args.items.now c.loop-item.item-index c.item-item.result c.args.asked.now c.loop-item.asked _ here c.loop-item.invariant
          (asked_no_more c.args.scope.now c.args.set.now c.item-item.result c.loop-item.asked (rw w.in_default.is at c.in_ok-name.ensures)))
    ]
