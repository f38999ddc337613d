use Rattle.std.proofs.Common.{◌∙◌, ◌∷◌, Some, None, ap, length, length-append, rules, arith}
use Rattle.std.proofs.lemmas.Str.Pattern.{split_parts}
use Rattle.sem_context.proofs.Paths.{Lacks-from}
use Rattle.tool_input.proofs.InputLines.{more_words, one_word, words_start, words_more, words_none, words_end}
use Rattle.tool_input.proofs.inputs.read_values.Goals as goal

pub loop-word-init : goal.loop-word-init
loop-word-init c = (c.utf8.words, words_start _ _ (c.from_vec-values.ensures ∙ c.in_ok-with_capacity.ensures.items))

pub returns-in-None-clause-none : goal.returns-in-None-clause-none
returns-in-None-clause-none c =
    let parts = split_parts 32 c.loop-word.rest.now (Some (c.in-Some.word, c.in-Some.more)) c.in-Some.ensures.cases (omega arith) in
    let here = more_words c.loop-word.rest.now c.in-Some.word.now c.in-Some.more.now parts.0 (Lacks-from 32 c.in-Some.word.now parts.1) in
    words_none _ _ _ c.in-Some.word.now c.loop-word.values here c.loop-word.invariant.1 (rw c.in-None.is at c.in_ok-value.ensures.none)

pub loop-word-smaller : goal.loop-word-smaller
loop-word-smaller c =
    let parts = split_parts 32 c.loop-word.rest.now (Some (c.in-Some.word, c.in-Some.more)) c.in-Some.ensures.cases (omega arith) in
    omega (arith, ap length parts.0 ∙ length-append c.in-Some.word.now (32 ∷ c.in-Some.more.now))

pub loop-word-preserved : goal.loop-word-preserved
loop-word-preserved c =
    let parts = split_parts 32 c.loop-word.rest.now (Some (c.in-Some.word, c.in-Some.more)) c.in-Some.ensures.cases (omega arith) in
    let here = more_words c.loop-word.rest.now c.in-Some.word.now c.in-Some.more.now parts.0 (Lacks-from 32 c.in-Some.word.now parts.1) in
    let so_far = words_more _ _ _ c.in-Some.word.now c.loop-word.values c.push.new.self c.in-Some-2.value here c.loop-word.invariant.1 (rw c.in-Some-2.is at c.in_ok-value.ensures.found) c.in_ok-push-in-Some-2.ensures.ok in
    (search rules, so_far)

pub returns-in-None-2-clause-none : goal.returns-in-None-2-clause-none
returns-in-None-2-clause-none c =
    let lacks = split_parts 32 c.loop-word.rest.now None (rw c.in_default.is at c.split_once.ensures.cases) (omega arith) in
    let here = one_word c.loop-word.rest.now (Lacks-from 32 c.loop-word.rest.now lacks) in
    words_none _ _ _ c.loop-word.rest.now c.loop-word.values here c.loop-word.invariant.1 (rw c.in-None-2.is at c.in_ok-value-2.ensures.none)

pub returns-clause-found : goal.returns-clause-found
returns-clause-found c =
    let lacks = split_parts 32 c.loop-word.rest.now None (rw c.in_default.is at c.split_once.ensures.cases) (omega arith) in
    let here = one_word c.loop-word.rest.now (Lacks-from 32 c.loop-word.rest.now lacks) in
    words_end _ _ c.loop-word.rest.now c.loop-word.values c.push-in-Some-3.new.self c.in-Some-3.value here c.loop-word.invariant.1 (rw c.in-Some-3.is at c.in_ok-value-2.ensures.found) c.in_ok-push-in-Some-3.ensures.ok
