use Rattle.std.proofs.Common.{rules, arith}
use Rattle.cert_prove.proofs.MarkingBits.{first_before, first_onward}
use Rattle.cert_prove.proofs.marks.first_due.Goals as goal

pub returns-then-steps-ne0-clause-before : goal.returns-then-steps-ne0-clause-before
returns-then-steps-ne0-clause-before c =
    first_before c.args.waits.now.due c.loop-word.word c.word_at-steps.result c.loop-word.invariant c.word_at-steps.ensures (omega arith) (search rules)

pub returns-then-steps-ne0-clause-onward : goal.returns-then-steps-ne0-clause-onward
returns-then-steps-ne0-clause-onward c =
    first_onward c.args.waits.now.due c.loop-word.word c.word_at-steps.result c.loop-word.invariant c.word_at-steps.ensures (omega arith) (search rules) c.args.from c.requires.before
