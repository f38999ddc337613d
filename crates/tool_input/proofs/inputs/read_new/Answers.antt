use Rattle.std.proofs.Common.{◌∙◌, ◌++◌, ◌∷◌, Some, None, ap, sym, subst, arith}
use Rattle.std.proofs.lemmas.Str.Pattern.{split_parts}
use Rattle.sem_context.proofs.Paths.{Lacks, Lacks-from, lacks_middle}
use Rattle.tool_input.specs.Inputs.{IsBits}
use Rattle.tool_input.proofs.InputLines.{named, not_named, value_cut}
use Rattle.tool_input.proofs.inputs.read_new.Goals as goal

pub returns-in_default-clause-none : goal.returns-in_default-clause-none
returns-in_default-clause-none c = λ v s.
    let lacks = split_parts 61 c.args.word.now None (rw c.in_default.is at c.split_once.ensures.cases) (omega arith) in
    lacks_middle 61 v.name s.spelled (subst (Lacks 61) s.parts (Lacks-from 61 c.args.word.now lacks))

pub returns-in_default-2-clause-none : goal.returns-in_default-2-clause-none
returns-in_default-2-clause-none c = λ v s.
    let parts = split_parts 61 c.args.word.now (Some (c.in-Some.name, c.in-Some.spelled)) c.in-Some.ensures.cases (omega arith) in
    let cut = value_cut c.args.word.now c.in-Some.name.now c.in-Some.spelled.now v parts.0 (Lacks-from 61 c.in-Some.name.now parts.1) s in
    not_named c.in-Some.name.now v.name c.in_ok-name.field-0 c.in_ok-name.ensures c.in_default-2.is cut.0 s.name_is

pub returns-in_default-3-clause-none : goal.returns-in_default-3-clause-none
returns-in_default-3-clause-none c = λ v s.
    let parts = split_parts 61 c.args.word.now (Some (c.in-Some.name, c.in-Some.spelled)) c.in-Some.ensures.cases (omega arith) in
    let cut = value_cut c.args.word.now c.in-Some.name.now c.in-Some.spelled.now v parts.0 (Lacks-from 61 c.in-Some.name.now parts.1) s in
    let none = rw c.in_default-3.is at c.in_ok-bits.ensures.none in
    none v.bits (subst (λ t. IsBits t v.bits) (sym cut.1) s.bits_are)

pub returns-clause-found : goal.returns-clause-found
returns-clause-found c =
    let parts = split_parts 61 c.args.word.now (Some (c.in-Some.name, c.in-Some.spelled)) c.in-Some.ensures.cases (omega arith) in
    let bits = rw c.in-Some-3.is at c.in_ok-bits.ensures.found in
    let is = named c.in-Some.name.now c.in-Some-2.name c.in_ok-name.field-0 c.in_ok-name.ensures c.in-Some-2.is in
    record {
      name_is = is.1;
      spelled = c.in-Some.spelled.now;
      parts = parts.0 ∙ ap (λ p. p ++ 61 ∷ c.in-Some.spelled.now) is.0;
      bits_are = bits;
    }
