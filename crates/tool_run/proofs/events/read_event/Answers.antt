use Rattle.std.proofs.Common.{◌∙◌, sym, arith}
use Rattle.std.specs.Prelude.{Some, None}
use Rattle.std.proofs.lemmas.Str.Pattern.{split_parts}
use Rattle.sem_context.proofs.Paths.{Lacks-from}
use Rattle.tool_run.proofs.EventWords.{lone_word, no_event, no_reset, no_send, resets, sends}
use Rattle.tool_input.proofs.InputLines.{more_words, one_word}
use Rattle.tool_run.proofs.events.read_event.Goals as goal

pub returns-in_default-clause-none : goal.returns-in_default-clause-none
returns-in_default-clause-none c =
    let lacks = split_parts 32 c.args.line.now None (rw c.in_default.is at c.split_once.ensures.cases) (omega arith) in
    lone_word _ c.args.line.now (one_word c.args.line.now (Lacks-from 32 c.args.line.now lacks))

pub returns-in-Some-2-clause-found : goal.returns-in-Some-2-clause-found
returns-in-Some-2-clause-found c =
    let parts = split_parts 32 c.args.line.now (Some (c.in-Some.word, c.in-Some.more)) c.in-Some.ensures.cases (omega arith) in
    let words = more_words c.args.line.now c.in-Some.word.now c.in-Some.more.now parts.0 (Lacks-from 32 c.in-Some.word.now parts.1) in
    sends _ _ c.in-Some.word.now _ _ words (sym c.eq.ensures ∙ c.if-eq.true) (rw c.in-Some-2.is at c.in_ok-sent.ensures.found)

pub returns-in-None-clause-none : goal.returns-in-None-clause-none
returns-in-None-clause-none c =
    let parts = split_parts 32 c.args.line.now (Some (c.in-Some.word, c.in-Some.more)) c.in-Some.ensures.cases (omega arith) in
    let words = more_words c.args.line.now c.in-Some.word.now c.in-Some.more.now parts.0 (Lacks-from 32 c.in-Some.word.now parts.1) in
    no_send _ _ c.in-Some.word.now words (sym c.eq.ensures ∙ c.if-eq.true) (rw c.in-None.is at c.in_ok-sent.ensures.none)

pub returns-in-Some-3-clause-found : goal.returns-in-Some-3-clause-found
returns-in-Some-3-clause-found c =
    let parts = split_parts 32 c.args.line.now (Some (c.in-Some.word, c.in-Some.more)) c.in-Some.ensures.cases (omega arith) in
    let words = more_words c.args.line.now c.in-Some.word.now c.in-Some.more.now parts.0 (Lacks-from 32 c.in-Some.word.now parts.1) in
    resets _ _ c.in-Some.word.now _ words (sym c.eq-else-eq.ensures ∙ c.if-eq-2.true) (rw c.in-Some-3.is at c.in_ok-flow.ensures.found)

pub returns-in-None-2-clause-none : goal.returns-in-None-2-clause-none
returns-in-None-2-clause-none c =
    let parts = split_parts 32 c.args.line.now (Some (c.in-Some.word, c.in-Some.more)) c.in-Some.ensures.cases (omega arith) in
    let words = more_words c.args.line.now c.in-Some.word.now c.in-Some.more.now parts.0 (Lacks-from 32 c.in-Some.word.now parts.1) in
    no_reset _ _ c.in-Some.word.now words (sym c.eq-else-eq.ensures ∙ c.if-eq-2.true) (rw c.in-None-2.is at c.in_ok-flow.ensures.none)

pub returns-else-eq-2-clause-none : goal.returns-else-eq-2-clause-none
returns-else-eq-2-clause-none c =
    let parts = split_parts 32 c.args.line.now (Some (c.in-Some.word, c.in-Some.more)) c.in-Some.ensures.cases (omega arith) in
    let words = more_words c.args.line.now c.in-Some.word.now c.in-Some.more.now parts.0 (Lacks-from 32 c.in-Some.word.now parts.1) in
    no_event _ _ c.in-Some.word.now words (sym c.eq.ensures ∙ c.if-eq.false) (sym c.eq-else-eq.ensures ∙ c.if-eq-2.false)
