use Rattle.std.proofs.Common.{◌≡◌, sym, subst}
use Rattle.std.specs.Int.{bit_at}
use Rattle.cert_prove.specs.Marking.{bit_in}
use Rattle.cert_prove.proofs.MarkingBits.{or_keeps, or_has}
use Rattle.cert_prove.proofs.marks.wake_row.Goals as goal

pub returns-then-woken-ne0-clause-keeps : goal.returns-then-woken-ne0-clause-keeps
returns-then-woken-ne0-clause-keeps c = λ k bit e.
    subst (λ z. bit_in z k bit ≡ 1) (sym c.set.ensures) (or_keeps c.args.waits.now.due c.args.word c.word_at.result c.word_at-woken.result c.requires.word c.word_at.ensures k bit e)

pub returns-then-woken-ne0-clause-woken : goal.returns-then-woken-ne0-clause-woken
returns-then-woken-ne0-clause-woken c = λ bit e.
    subst (λ z. bit_in z c.args.word bit ≡ 1) (sym c.set.ensures)
    (or_has c.args.waits.now.due c.args.word c.word_at.result c.word_at-woken.result c.requires.word c.word_at.ensures bit (subst (λ z. bit_at z bit ≡ 1) (sym c.word_at-woken.ensures) e))
