use Rattle.std.proofs.Common.{arith, ◌≡◌, refl, sym, ◌∙◌, ap, Some, List, ℕ, Bool}
use Rattle.std.proofs.lemmas.Option.{slice_get_read}
use Rattle.std.proofs.lemmas.List.{take_all}
use Rattle.sem_profile.specs.Words.{is_new}
use Rattle.text_statements.specs.Callees.{is_library}
use Rattle.sem_profile.proofs.Loops.{taken}
use Rattle.text_resolve.proofs.PartsSeen.{none_seen, constant_comes, method_comes, constant_refused, method_refused, library_refused}
use Rattle.text_resolve.proofs.parts.tables.Goals.{in-Constant+in_ok-insert-in-Constant+else-not-branch, in-Method+else-is_library+in_ok-insert-in-Method+else-not-branch-2}
use Rattle.text_resolve.proofs.parts.tables.Goals as goal

-- what a table answered of a word that is read
told : (names : List (List ℕ)) {name word : List ℕ} {added b : Bool} → added ≡ is_new names word → word ≡ name → added ≡ b → is_new names name ≡ b
told names e w a = ap (is_new names) (sym w) ∙ sym e ∙ a

pub loop-part-init : goal.loop-part-init
loop-part-init c = rw (c.new-constants.ensures, c.new-methods.ensures) (none_seen _)

pub returns-then-not-branch-clause-refused : goal.returns-then-not-branch-clause-refused
returns-then-not-branch-clause-refused c =
    let here = slice_get_read c.args.parts.now _ c.loop-part.part-index c.part-item.result refl c.loop-part-test.true c.part-item.is ∙ ap Some c.in-Constant.is in
    rw c.second.ensures (constant_refused _ _ _ _ _ _ here c.loop-part.invariant (told _ c.in_ok-insert-in-Constant.ensures.added c.word.ensures c.if-not-branch.true))

pub returns-then-is_library-clause-refused : goal.returns-then-is_library-clause-refused
returns-then-is_library-clause-refused c =
    let here = slice_get_read c.args.parts.now _ c.loop-part.part-index c.part-item.result refl c.loop-part-test.true c.part-item.is ∙ ap Some c.in-Method.is in
    rw c.second-then-is_library.ensures (library_refused _ _ _ _ here (ap is_library (sym c.word-in-Method.ensures) ∙ sym c.if-is_library.ensures))

pub returns-then-not-branch-2-clause-refused : goal.returns-then-not-branch-2-clause-refused
returns-then-not-branch-2-clause-refused c =
    let here = slice_get_read c.args.parts.now _ c.loop-part.part-index c.part-item.result refl c.loop-part-test.true c.part-item.is ∙ ap Some c.in-Method.is in
    rw c.second-then-not-branch-2.ensures (method_refused _ _ _ _ _ _ here c.loop-part.invariant (told _ c.in_ok-insert-in-Method.ensures.added c.word-in-Method-2.ensures c.if-not-branch-2.true))

pub loop-part-preserved : goal.loop-part-preserved
loop-part-preserved c =
    let here = slice_get_read c.args.parts.now _ c.loop-part.part-index c.part-item.result refl c.loop-part-test.true c.part-item.is in
    elim c.match-part.branch [
      | in-Constant+in_ok-insert-in-Constant+else-not-branch w ↦
          let at = here ∙ ap Some w.in-Constant.is in
          let read = w.word.ensures in
          let so = constant_comes _ _ _ _ _ c.loop-part.invariant (told _ w.in_ok-insert-in-Constant.ensures.added read w.if-not-branch.false) in
          rw (taken _ _ _ at, w.constants-is, w.methods-is, w.in_ok-insert-in-Constant.ensures.ok, read) so
      | in-Method+else-is_library+in_ok-insert-in-Method+else-not-branch-2 w ↦
          let at = here ∙ ap Some w.in-Method.is in
          let read = w.word-in-Method-2.ensures in
          let own = ap is_library (sym w.word-in-Method.ensures) ∙ sym w.if-is_library.ensures in
          let so = method_comes _ _ _ _ _ c.loop-part.invariant own (told _ w.in_ok-insert-in-Method.ensures.added read w.if-not-branch-2.false) in
          rw (taken _ _ _ at, w.constants-is, w.methods-is, w.in_ok-insert-in-Method.ensures.ok, read) so
    ]

pub returns-clause-found : goal.returns-clause-found
returns-clause-found c = rw (sym (take_all c.loop-part.part-index c.args.parts.now (omega arith))) c.loop-part.invariant
