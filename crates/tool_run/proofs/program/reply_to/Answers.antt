use Rattle.std.proofs.Common.{◌∙◌, ℕ, refl, ap, map, List, Bor, Some, None}
use Rattle.std.proofs.lemmas.Result.{IfOk-weaker}
use Rattle.tool_input.specs.Bundle.{shown_name}
use Rattle.tool_run.proofs.ProgramReplies.{none_refused, part_refused, replied, words_given, words_read}
use Rattle.tool_run.proofs.program.reply_to.Goals as goal

pub returns-in-Err : goal.returns-in-Err
returns-in-Err c = IfOk-weaker c.refused_bundle.result _ _ (λ reply says. part_refused _ c.args.input.now c.in-Err.bad (shown_name c.in-Err.bad) reply c.requires c.in-Err.ensures.bad refl says) c.refused_bundle.ensures

pub returns-then-not-is_empty : goal.returns-then-not-is_empty
returns-then-not-is_empty c =
    let given = map (λ word. word.now) c.args.given.now in
    IfOk-weaker c.reply_by.result _ _ (λ reply says. replied given c.args.input.now given c.in-Ok.parts reply c.requires c.in-Ok.ensures.bundle c.in-Ok.ensures.parts (words_given c.args.given.now c.args.input.now c.is_empty.result c.is_empty.ensures c.if-not-is_empty.true) says) c.reply_by.ensures

pub returns-in-Some : goal.returns-in-Some
returns-in-Some c =
    let given = map (λ word. word.now) c.args.given.now in
    let words = map (λ word. word.now) c.as_slice.result.now in
    let read = rw c.in-Some.is at c.in_ok-words.ensures in
    IfOk-weaker c.reply_by-in-Some.result _ _ (λ reply says. replied given c.args.input.now words c.in-Ok.parts reply c.requires c.in-Ok.ensures.bundle c.in-Ok.ensures.parts (words_read c.args.given.now c.args.input.now c.is_empty.result c.in-Ok.parts (Some words) c.is_empty.ensures c.if-not-is_empty.false c.in-Ok.ensures.parts (ap (λ (ws : List (Bor (List ℕ))). Some (map (λ w. w.now) ws)) c.as_slice.ensures.value ∙ read)) says) c.reply_by-in-Some.ensures

pub returns-in-None : goal.returns-in-None
returns-in-None c =
    let given = map (λ word. word.now) c.args.given.now in
    let read = rw c.in-None.is at c.in_ok-words.ensures in
    IfOk-weaker c.refused_part.result _ _ (λ reply says. none_refused given c.args.input.now reply c.requires c.in-Ok.ensures.bundle (words_read c.args.given.now c.args.input.now c.is_empty.result c.in-Ok.parts None c.is_empty.ensures c.if-not-is_empty.false c.in-Ok.ensures.parts read) says) c.refused_part.ensures
