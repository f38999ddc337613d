use Rattle.std.proofs.Common.{◌∙◌, ◌++◌, ◌∷◌, Some, None, ap, sym, subst, arith}
use Rattle.std.proofs.lemmas.Bool.{false≢true}
use Rattle.std.proofs.lemmas.Str.Pattern.{split_parts}
use Rattle.sem_bits.specs.Text.{ReadsAs}
use Rattle.sem_context.specs.Path.{IsPath}
use Rattle.sem_context.proofs.Paths.{Lacks, Lacks-from, lacks_middle}
use Rattle.sem_context.proofs.EntriesReadings.{entry_cut}
use Rattle.sem_context.proofs.text.read_entry.Goals as goal

pub returns-in_default-clause-none : goal.returns-in_default-clause-none
returns-in_default-clause-none c = λ e s.
    let lacks = split_parts 32 c.args.line.now None (rw c.in_default.is at c.split_once.ensures.cases) (omega arith) in
    lacks_middle 32 e.0 s.spelled (subst (Lacks 32) s.parts (Lacks-from 32 c.args.line.now lacks))

pub returns-then-not-is_path-clause-none : goal.returns-then-not-is_path-clause-none
returns-then-not-is_path-clause-none c = λ e s.
    let parts = split_parts 32 c.args.line.now (Some (c.in-Some.path, c.in-Some.spelled)) c.in-Some.ensures.cases (omega arith) in
    let cut = entry_cut c.args.line.now c.in-Some.path.now c.in-Some.spelled.now e parts.0 (Lacks-from 32 c.in-Some.path.now parts.1) s in
    false≢true (sym c.if-not-is_path.true ∙ c.is_path.ensures.1 (subst IsPath (sym cut.0) s.is_path))

pub returns-in_default-2-clause-none : goal.returns-in_default-2-clause-none
returns-in_default-2-clause-none c = λ e s.
    let parts = split_parts 32 c.args.line.now (Some (c.in-Some.path, c.in-Some.spelled)) c.in-Some.ensures.cases (omega arith) in
    let cut = entry_cut c.args.line.now c.in-Some.path.now c.in-Some.spelled.now e parts.0 (Lacks-from 32 c.in-Some.path.now parts.1) s in
    let none = rw c.in_default-2.is at c.in_ok-bits.ensures.none in
    none e.1 s.short (subst (λ t. ReadsAs t e.1) (sym cut.1) s.reads)

pub returns-clause-found : goal.returns-clause-found
returns-clause-found c =
    let parts = split_parts 32 c.args.line.now (Some (c.in-Some.path, c.in-Some.spelled)) c.in-Some.ensures.cases (omega arith) in
    let bits = rw c.in-Some-2.is at c.in_ok-bits.ensures.found in
    let text = c.in_ok-from_str.ensures.ok in
    record {
      is_path = subst IsPath (sym text) (c.is_path.ensures.0 c.if-not-is_path.false);
      spelled = c.in-Some.spelled.now;
      parts = parts.0 ∙ ap (λ p. p ++ 32 ∷ c.in-Some.spelled.now) (sym text);
      reads = bits.0;
      short = bits.1;
    }
