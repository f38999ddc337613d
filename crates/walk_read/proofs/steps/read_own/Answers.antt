use Rattle.std.proofs.Common.{drop}
use Rattle.cert_types.specs.declared.certificate.Version.TheVariants.{Two}
use Rattle.cert_rules.specs.Rules.{read_rule, common_rule}
use Rattle.walk_steps.specs.Finding.{Learns}
use Rattle.walk_steps.specs.Finding as finding
use Rattle.walk_steps.proofs.FindingGaining.{on_ok}
use Rattle.walk_read.specs.Walk as spec
use Rattle.walk_read.proofs.WalkSharing.{on_err, shared_rule, learns_ahead, blames_ahead, none_few}
use Rattle.walk_read.proofs.steps.read_own.Goals as goal

pub returns-in_default : goal.returns-in_default
returns-in_default c =
    let level_frame = c.args.level_frame.now in
    let l = c.args.level.now in
    let new = c.common_step.new.level in
    let bits = drop c.args.from c.args.cursor.now.left in
    let same = shared_rule l.sizes l.format c.args.step c.requires.own c.in_default.not-Take in
    record {
      learns = on_ok c.common_step.result (Learns level_frame (common_rule Two l.sizes l.format c.args.step) l new) (spec.LearnsAhead level_frame bits (read_rule Two l.sizes l.format c.args.step) l new)
          (learns_ahead level_frame l new bits (common_rule Two l.sizes l.format c.args.step) (read_rule Two l.sizes l.format c.args.step) same) c.common_step.ensures.learns;
      fault = on_err (λ e. finding.Blames e level_frame l) (λ e. spec.BlamesStep e level_frame l bits) c.common_step.result (blames_ahead level_frame l new bits) c.common_step.ensures.fault;
      few = on_err (λ e. finding.Blames e level_frame l) (λ e. spec.AreFewLeft e bits) c.common_step.result (none_few level_frame l new bits) c.common_step.ensures.fault;
    }
