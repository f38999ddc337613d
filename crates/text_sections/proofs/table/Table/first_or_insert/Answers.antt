use Rattle.std.proofs.Common.{◌∙◌, refl, subst, ◌≡◌}
use Rattle.std.specs.Prelude.{None}
use Rattle.text_sections.specs.Tables.{find_in}
use Rattle.text_sections.proofs.Tabled.{grown, unchanged, put_new, put_old, not_found}
use Rattle.text_sections.proofs.table.Table.first_or_insert.Goals as goal

pub returns-then-branch-clause-found : goal.returns-then-branch-clause-found
returns-then-branch-clause-found c =
    let fresh = put_new c.args.self.now.words c.word-name.result.now _ (c.in_ok-insert.ensures {u = tt}).added c.if-branch.true in
    subst (λ name. None ≡ find_in c.args.self.now name) c.word-name.ensures (not_found c.args.self.now c.word-name.result.now fresh.0)

pub returns-then-branch-clause-table : goal.returns-then-branch-clause-table
returns-then-branch-clause-table c =
    let fresh = put_new c.args.self.now.words c.word-name.result.now _ (c.in_ok-insert.ensures {u = tt}).added c.if-branch.true in
    let words = (c.in_ok-insert.ensures {u = tt}).ok ∙ fresh.1 in
    λ mentions is. grown c.args.text.now mentions c.args.mention c.args.self.now (record { words = c.insert.new.self; firsts = c.push.new.self }) is (rw c.word-name.ensures at fresh.0) (rw c.word-name.ensures at words) (c.in_ok-push.ensures {u = tt}).ok

pub returns-clause-table : goal.returns-clause-table
returns-clause-table c =
    let old = put_old c.args.self.now.words c.word-name.result.now _ (c.in_ok-insert.ensures {u = tt}).added c.if-branch.false in
    λ mentions is. unchanged c.args.text.now mentions c.args.mention c.args.self.now (record { words = c.insert.new.self; firsts = c.args.self.now.firsts }) is (rw c.word-name.ensures at old.0) ((c.in_ok-insert.ensures {u = tt}).ok ∙ old.1) refl
