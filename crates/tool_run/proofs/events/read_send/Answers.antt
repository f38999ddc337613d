use Rattle.std.proofs.Common.{sym, subst, arith}
use Rattle.std.specs.Prelude.{Some, None}
use Rattle.std.proofs.lemmas.Str.Pattern.{split_parts}
use Rattle.sem_context.proofs.Paths.{Lacks-from}
use Rattle.tool_run.specs.Events.{AreSendWords}
use Rattle.tool_run.proofs.EventWords.{lone_send}
use Rattle.tool_input.proofs.InputLines.{more_words, one_word}
use Rattle.tool_run.proofs.events.read_send.Goals as goal

pub returns-in_default-clause-none : goal.returns-in_default-clause-none
returns-in_default-clause-none c =
    let lacks = split_parts 32 c.args.words.now None (rw c.in_default.is at c.split_once.ensures.cases) (omega arith) in
    lone_send _ c.args.words.now (one_word c.args.words.now (Lacks-from 32 c.args.words.now lacks))

pub returns-in_default-read_flow-clause-none : goal.returns-in_default-read_flow-clause-none
returns-in_default-read_flow-clause-none c = λ n it h.
    let parts = split_parts 32 c.args.words.now (Some (c.in-Some.flow, c.in-Some.item)) c.in-Some.ensures.cases (omega arith) in
    let words = more_words c.args.words.now c.in-Some.flow.now c.in-Some.item.now parts.0 (Lacks-from 32 c.in-Some.flow.now parts.1) in
    c.in_default-read_flow.ensures.none n (subst (λ ws. AreSendWords ws n it) words h).0

pub returns-in-Some-2-clause-found : goal.returns-in-Some-2-clause-found
returns-in-Some-2-clause-found c =
    let parts = split_parts 32 c.args.words.now (Some (c.in-Some.flow, c.in-Some.item)) c.in-Some.ensures.cases (omega arith) in
    let words = more_words c.args.words.now c.in-Some.flow.now c.in-Some.item.now parts.0 (Lacks-from 32 c.in-Some.flow.now parts.1) in
    subst (λ ws. AreSendWords ws c.in-Some-read_flow.flow c.in-Some-2.item) (sym words) (c.in-Some-read_flow.ensures.found, rw c.in-Some-2.is at c.in_ok-item.ensures.found)

pub returns-in-None-clause-none : goal.returns-in-None-clause-none
returns-in-None-clause-none c = λ n it h.
    let parts = split_parts 32 c.args.words.now (Some (c.in-Some.flow, c.in-Some.item)) c.in-Some.ensures.cases (omega arith) in
    let words = more_words c.args.words.now c.in-Some.flow.now c.in-Some.item.now parts.0 (Lacks-from 32 c.in-Some.flow.now parts.1) in
    (rw c.in-None.is at c.in_ok-item.ensures.none) it (subst (λ ws. AreSendWords ws n it) words h).1
