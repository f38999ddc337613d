use Rattle.std.proofs.Common.{sym, subst, drop}
use Rattle.std.specs.Prelude.{OnOk}
use Rattle.cert_types.specs.declared.certificate.Step.TheVariants as steps
use Rattle.cert_types.specs.declared.certificate.Version.TheVariants.{Two}
use Rattle.cert_rules.specs.Rules.{write_rule}
use Rattle.walk_steps.specs.Finding as finding
use Rattle.walk_write.specs.Walking.{IsHere, HasAsked, LearnsOf, BlamesStep}
use Rattle.walk_write.proofs.WalkingPassing.{is_common, ready_common, learns_common, blames_common, asked_learns, asked_blames, on_ok, if_err}
use Rattle.walk_write.proofs.steps.learn_step.Goals as goal

pub common_step-requires : goal.common_step-requires
common_step-requires c = record {
  at = c.requires.at;
  ready = ready_common c.args.level_frame.now.frame.profile.now.sizes c.args.level.now c.args.step (is_common c.args.step c.requires.plain c.in_default.not-Take c.in_default.not-Ask) c.requires.ready;
}

pub returns-in-Ask-clause-learns : goal.returns-in-Ask-clause-learns
returns-in-Ask-clause-learns c =
    let rule = write_rule Two c.args.level_frame.now.frame.profile.now.sizes c.args.level.now.sizes c.args.level.now.format in
    let bits = drop c.args.source.now.from c.args.source.now.cursor.now.left in
    subst (λ z. OnOk c.ask.result (LearnsOf (IsHere c.args.level_frame.now c.args.level.now bits c.args.source.now.asked.now) (rule z) c.args.level.now c.ask.new.level)) (sym c.in-Ask.is)
    (on_ok _ _ c.ask.result (asked_learns c.args.level_frame.now bits c.args.source.now.asked.now (rule (steps.Ask c.in-Ask.field)) c.args.level.now c.ask.new.level) c.ask.ensures.learns)

pub returns-in-Ask-clause-fault : goal.returns-in-Ask-clause-fault
returns-in-Ask-clause-fault c =
    let bits = drop c.args.source.now.from c.args.source.now.cursor.now.left in
    if_err (λ e. BlamesStep e (HasAsked c.args.level_frame.now c.args.level.now c.args.source.now.asked.now)) (λ e. BlamesStep e (IsHere c.args.level_frame.now c.args.level.now bits c.args.source.now.asked.now)) c.ask.result
    (λ e. asked_blames e c.args.level_frame.now bits c.args.source.now.asked.now c.args.level.now) c.ask.ensures.fault

pub returns-in_default : goal.returns-in_default
returns-in_default c =
    let bits = drop c.args.source.now.from c.args.source.now.cursor.now.left in
    let common = is_common c.args.step c.requires.plain c.in_default.not-Take c.in_default.not-Ask in
    record {
      learns = on_ok _ _ c.common_step.result (learns_common c.args.level_frame.now bits c.args.source.now.asked.now c.args.level.now c.common_step.new.level c.args.step common) c.common_step.ensures.learns;
      fault = if_err (λ e. finding.Blames e c.args.level_frame.now c.args.level.now) (λ e. BlamesStep e (IsHere c.args.level_frame.now c.args.level.now bits c.args.source.now.asked.now)) c.common_step.result
          (λ e. blames_common e c.args.level_frame.now bits c.args.source.now.asked.now c.args.level.now) c.common_step.ensures.fault;
    }
