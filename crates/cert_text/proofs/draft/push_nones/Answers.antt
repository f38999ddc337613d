use Rattle.std.proofs.Common.{◌∙◌, ◌++◌, ap, ◌-◌, ◌+◌}
use Rattle.cert_text.specs.Drafts.{nones}
use Rattle.cert_text.proofs.DraftsPieces.{nones_more}
use Rattle.cert_text.proofs.draft.push_nones.Goals as goal

pub loop-preserved : goal.loop-preserved
loop-preserved c = ap (λ e. e ++ nones (c.args.to - (c.loop.counter + 1))) c.in_ok-push.ensures.ok ∙ (nones_more c.loop.entries c.args.to c.loop.counter c.loop-test.true ∙ c.loop.invariant)
