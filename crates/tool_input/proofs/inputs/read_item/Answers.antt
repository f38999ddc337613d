use Rattle.std.proofs.Common.{List, ℕ, sym, subst, arith}
use Rattle.std.specs.Prelude.{Some, None, IfOk, IfSome, IfNone}
use Rattle.std.proofs.lemmas.Str.Pattern.{split_parts}
use Rattle.sem_context.proofs.Paths.{Lacks-from}
use Rattle.sem_filling.specs.declared.filling.Item.{Item}
use Rattle.tool_input.specs.Inputs.{AreItemWords}
use Rattle.tool_input.proofs.InputLines.{more_words, one_word}
use Rattle.tool_input.proofs.inputs.read_item.Goals as goal

pub returns-in-Some-clause-found : goal.returns-in-Some-clause-found
returns-in-Some-clause-found c =
    let parts = split_parts 32 c.args.line.now (Some (c.in-Some.header, c.in-Some.words)) c.in-Some.ensures.cases (omega arith) in
    let P : List (List ℕ) → Type 0 = λ words. IfOk c.item_in.result (λ o. IfSome o (AreItemWords words)) in
    subst P (sym (more_words c.args.line.now c.in-Some.header.now c.in-Some.words.now parts.0 (Lacks-from 32 c.in-Some.header.now parts.1))) c.item_in.ensures.found

pub returns-in-Some-clause-none : goal.returns-in-Some-clause-none
returns-in-Some-clause-none c =
    let parts = split_parts 32 c.args.line.now (Some (c.in-Some.header, c.in-Some.words)) c.in-Some.ensures.cases (omega arith) in
    let P : List (List ℕ) → Type 0 = λ words. IfOk c.item_in.result (λ o. IfNone o ((it : Item) → AreItemWords words it → ⊥)) in
    subst P (sym (more_words c.args.line.now c.in-Some.header.now c.in-Some.words.now parts.0 (Lacks-from 32 c.in-Some.header.now parts.1))) c.item_in.ensures.none

pub returns-in-None-clause-found : goal.returns-in-None-clause-found
returns-in-None-clause-found c =
    let lacks = split_parts 32 c.args.line.now None (rw c.in-None.is at c.split_once.ensures.cases) (omega arith) in
    let P : List (List ℕ) → Type 0 = λ words. IfOk c.item_without.result (λ o. IfSome o (AreItemWords words)) in
    subst P (sym (one_word c.args.line.now (Lacks-from 32 c.args.line.now lacks))) c.item_without.ensures.found

pub returns-in-None-clause-none : goal.returns-in-None-clause-none
returns-in-None-clause-none c =
    let lacks = split_parts 32 c.args.line.now None (rw c.in-None.is at c.split_once.ensures.cases) (omega arith) in
    let P : List (List ℕ) → Type 0 = λ words. IfOk c.item_without.result (λ o. IfNone o ((it : Item) → AreItemWords words it → ⊥)) in
    subst P (sym (one_word c.args.line.now (Lacks-from 32 c.args.line.now lacks))) c.item_without.ensures.none
