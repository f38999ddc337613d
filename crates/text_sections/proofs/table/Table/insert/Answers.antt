use Rattle.std.proofs.Common.{◌∙◌, refl}
use Rattle.text_sections.proofs.Tabled.{grown, unchanged, put_new, put_old}
use Rattle.text_sections.proofs.table.Table.insert.Goals as goal

pub returns-in_ok-push : goal.returns-in_ok-push
returns-in_ok-push c =
    let fresh = put_new c.args.self.now.words c.word.result.now _ c.in_ok-insert.ensures.added c.if-branch.true in
    let words = c.in_ok-insert.ensures.ok ∙ fresh.1 in
    λ mentions is. grown c.args.text.now mentions c.args.mention c.args.self.now (record { words = c.insert.new.self; firsts = c.push.new.self }) is (rw c.word.ensures at fresh.0) (rw c.word.ensures at words) c.in_ok-push.ensures.ok

pub returns-else-branch : goal.returns-else-branch
returns-else-branch c =
    let old = put_old c.args.self.now.words c.word.result.now _ c.in_ok-insert.ensures.added c.if-branch.false in
    λ mentions is. unchanged c.args.text.now mentions c.args.mention c.args.self.now (record { words = c.insert.new.self; firsts = c.args.self.now.firsts }) is (rw c.word.ensures at old.0) (c.in_ok-insert.ensures.ok ∙ old.1) refl
