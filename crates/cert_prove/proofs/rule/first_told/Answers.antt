use Rattle.std.proofs.Common.{◌∙◌, sym}
use Rattle.cert_prove.proofs.RuleElements.{found_in, not_in}
use Rattle.cert_prove.proofs.rule.first_told.Goals as goal

pub returns-in-Some : goal.returns-in-Some
returns-in-Some c = sym (found_in _ _ c.args.set.now c.loop-format.format-index _ c.in-Some.equation c.loop-format-test.true (sym (c.in-Some.ensures.first c.loop-format.invariant.1))) ∙ c.loop-format.invariant.0

pub loop-format-preserved : goal.loop-format-preserved
loop-format-preserved c = (
  sym (not_in _ _ c.args.set.now c.loop-format.format-index _ c.loop-format-test.true (sym (c.in_default.ensures.first c.loop-format.invariant.1))) ∙ c.loop-format.invariant.0,
  c.in_default.ensures.tried c.loop-format.invariant.1,
)
