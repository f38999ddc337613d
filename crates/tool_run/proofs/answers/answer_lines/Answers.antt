use Rattle.std.proofs.Common.{refl, subst}
use Rattle.tool_run.specs.Line.{Lined}
use Rattle.tool_run.specs.Frames.{Framed}
use Rattle.tool_words.specs.declared.words.End.TheVariants.{Sending, Receiving}
use Rattle.tool_run.specs.declared.stats.Survey.TheVariants as survey
use Rattle.tool_run.specs.Printed.{Answered, AnsweredRun, LintedWith, no_profile, shown, linted, drawn, checked, proved, check_explained, prove_explained, ran, told, explained, lined, frames_sent, frames_received, stated, lost_told, advice_told, avoided_told, robust_packed, robust_explained, robust_stated, robust_told, Stated, DrawnWith}
use Rattle.tool_run.specs.declared.packets.Shape.TheVariants.{Line, Tree, Why}
use Rattle.tool_report.specs.Explained.{Explained}
use Rattle.tool_report.specs.Reports.{CheckedOctets, ProvedOctets, ShownBy}
use Rattle.tool_input.proofs.RefusalsHeld.{passed_on, refusal_is}
use Rattle.tool_run.proofs.answers.answer_lines.Goals as goal

pub returns-in_default : goal.returns-in_default
returns-in_default c = refusal_is (Answered c.args.order.now c.args.parts.now) _ _ c.refusal.result (no_profile c.in_default.is) refl c.refusal.ensures

pub returns-in-Show : goal.returns-in-Show
returns-in-Show c =
    passed_on (ShownBy c.args.order.now.top.now c.in-Some.profile.now) (Answered c.args.order.now c.args.parts.now) c.answer_listing.result (λ s out h. shown c.in-Some.profile c.in-Some.is c.in-Show.is h) c.answer_listing.ensures

pub returns-in-Lint : goal.returns-in-Lint
returns-in-Lint c =
    passed_on (LintedWith c.args.order.now c.in-Some.profile.now c.args.parts.now) (Answered c.args.order.now c.args.parts.now) c.lint_by.result (λ s out h. linted c.in-Some.profile c.in-Some.is c.in-Lint.is h) c.lint_by.ensures

pub returns-in-Draw : goal.returns-in-Draw
returns-in-Draw c =
    passed_on (DrawnWith c.args.order.now c.in-Some.profile.now) (Answered c.args.order.now c.args.parts.now) c.draw_by.result (λ s out h. drawn c.in-Some.profile c.in-Some.is c.in-Draw.is h) c.draw_by.ensures

pub returns-in-Check : goal.returns-in-Check
returns-in-Check c =
    passed_on (CheckedOctets c.args.order.now.top.now c.in-Some.profile.now c.of-origin.result) (Answered c.args.order.now c.args.parts.now) c.answer_check.result
    (λ s out h. checked c.in-Some.profile c.in-Some.is c.in-Check.is (subst (λ o. CheckedOctets c.args.order.now.top.now c.in-Some.profile.now o s out) c.of-origin.ensures h)) c.answer_check.ensures

pub returns-in-Prove : goal.returns-in-Prove
returns-in-Prove c =
    passed_on (ProvedOctets c.args.order.now.version c.args.order.now.top.now c.in-Some.profile.now) (Answered c.args.order.now c.args.parts.now) c.answer_prove.result (λ s out h. proved c.in-Some.profile c.in-Some.is c.in-Prove.is h) c.answer_prove.ensures

pub returns-in-ExplainCheck : goal.returns-in-ExplainCheck
returns-in-ExplainCheck c =
    passed_on (Explained (CheckedOctets c.args.order.now.top.now c.in-Some.profile.now c.of-origin-in-ExplainCheck.result)) (Answered c.args.order.now c.args.parts.now) c.explain_check.result
    (λ s out h. check_explained c.in-Some.profile c.in-Some.is c.in-ExplainCheck.is (subst (λ o. Explained (CheckedOctets c.args.order.now.top.now c.in-Some.profile.now o) s out) c.of-origin-in-ExplainCheck.ensures h)) c.explain_check.ensures

pub returns-in-ExplainProve : goal.returns-in-ExplainProve
returns-in-ExplainProve c =
    passed_on (Explained (ProvedOctets c.args.order.now.version c.args.order.now.top.now c.in-Some.profile.now)) (Answered c.args.order.now c.args.parts.now) c.explain_prove.result (λ s out h. prove_explained c.in-Some.profile c.in-Some.is c.in-ExplainProve.is h) c.explain_prove.ensures

pub returns-in-Run : goal.returns-in-Run
returns-in-Run c =
    passed_on (AnsweredRun c.in-Run.direction Line c.args.order.now c.in-Some.profile.now c.args.parts.now) (Answered c.args.order.now c.args.parts.now) c.answer_run.result (λ s out h. ran c.in-Some.profile c.in-Run.direction c.in-Some.is c.in-Run.is h) c.answer_run.ensures

pub returns-in-Fields : goal.returns-in-Fields
returns-in-Fields c =
    passed_on (AnsweredRun c.in-Fields.direction (Tree c.args.order.now.form) c.args.order.now c.in-Some.profile.now c.args.parts.now) (Answered c.args.order.now c.args.parts.now) c.answer_run-in-Fields.result (λ s out h. told c.in-Some.profile c.in-Fields.direction c.in-Some.is c.in-Fields.is h) c.answer_run-in-Fields.ensures

pub returns-in-Why : goal.returns-in-Why
returns-in-Why c =
    passed_on (AnsweredRun c.in-Why.direction (Why c.in-Some.profile) c.args.order.now c.in-Some.profile.now c.args.parts.now) (Answered c.args.order.now c.args.parts.now) c.answer_run-in-Why.result (λ s out h. explained c.in-Some.profile c.in-Why.direction c.in-Some.is c.in-Why.is h) c.answer_run-in-Why.ensures

pub returns-in-Line : goal.returns-in-Line
returns-in-Line c =
    passed_on (Lined c.in-Line.end c.args.order.now c.in-Some.profile.now c.args.parts.now) (Answered c.args.order.now c.args.parts.now) c.answer_line.result (λ s out h. lined c.in-Some.profile c.in-Line.end c.in-Some.is c.in-Line.is h) c.answer_line.ensures

pub returns-in-Stats : goal.returns-in-Stats
returns-in-Stats c =
    passed_on (Stated (survey.Stats c.in-Stats.counting) c.args.order.now c.in-Some.profile.now c.args.parts.now) (Answered c.args.order.now c.args.parts.now) c.answer_stats.result (λ s out h. stated c.in-Some.profile c.in-Stats.counting c.in-Some.is c.in-Stats.is h) c.answer_stats.ensures

pub returns-in-Loss : goal.returns-in-Loss
returns-in-Loss c =
    passed_on (Stated (survey.Loss c.args.order.now.form c.in-Loss.most) c.args.order.now c.in-Some.profile.now c.args.parts.now) (Answered c.args.order.now c.args.parts.now) c.answer_stats-in-Loss.result (λ s out h. lost_told c.in-Some.profile c.in-Loss.most c.in-Some.is c.in-Loss.is h) c.answer_stats-in-Loss.ensures

pub returns-in-RobustPack : goal.returns-in-RobustPack
returns-in-RobustPack c =
    passed_on (Stated (survey.RobustPack Line c.args.order.now.shows_context c.in-RobustPack.lost) c.args.order.now c.in-Some.profile.now c.args.parts.now) (Answered c.args.order.now c.args.parts.now) c.answer_stats-in-RobustPack.result (λ s out h. robust_packed c.in-Some.profile c.in-RobustPack.lost c.in-Some.is c.in-RobustPack.is h) c.answer_stats-in-RobustPack.ensures

pub returns-in-RobustStats : goal.returns-in-RobustStats
returns-in-RobustStats c =
    passed_on (Stated (survey.RobustStats c.in-RobustStats.lost c.in-RobustStats.counting) c.args.order.now c.in-Some.profile.now c.args.parts.now) (Answered c.args.order.now c.args.parts.now) c.answer_stats-in-RobustStats.result (λ s out h. robust_stated c.in-Some.profile c.in-RobustStats.lost c.in-RobustStats.counting c.in-Some.is c.in-RobustStats.is h) c.answer_stats-in-RobustStats.ensures

pub returns-in-RobustLoss : goal.returns-in-RobustLoss
returns-in-RobustLoss c =
    passed_on (Stated (survey.RobustLoss c.args.order.now.form c.in-RobustLoss.most c.in-RobustLoss.lost) c.args.order.now c.in-Some.profile.now c.args.parts.now) (Answered c.args.order.now c.args.parts.now) c.answer_stats-in-RobustLoss.result (λ s out h. robust_told c.in-Some.profile c.in-RobustLoss.most c.in-RobustLoss.lost c.in-Some.is c.in-RobustLoss.is h) c.answer_stats-in-RobustLoss.ensures

pub returns-in-RobustWhy : goal.returns-in-RobustWhy
returns-in-RobustWhy c =
    passed_on (Stated (survey.RobustPack (Why c.in-Some.profile) c.args.order.now.shows_context c.in-RobustWhy.lost) c.args.order.now c.in-Some.profile.now c.args.parts.now) (Answered c.args.order.now c.args.parts.now) c.answer_stats-in-RobustWhy.result (λ s out h. robust_explained c.in-Some.profile c.in-RobustWhy.lost c.in-Some.is c.in-RobustWhy.is h) c.answer_stats-in-RobustWhy.ensures

pub returns-in-WhyNot : goal.returns-in-WhyNot
returns-in-WhyNot c =
    passed_on (Stated (survey.Avoid c.in-Some.profile c.args.order.now.avoided) c.args.order.now c.in-Some.profile.now c.args.parts.now) (Answered c.args.order.now c.args.parts.now) c.answer_stats-in-WhyNot.result (λ s out h. avoided_told c.in-Some.profile c.in-Some.is c.in-WhyNot.is h) c.answer_stats-in-WhyNot.ensures

pub returns-in-Advise : goal.returns-in-Advise
returns-in-Advise c =
    passed_on (Stated (survey.Advise c.args.order.now.form c.in-Advise.lost) c.args.order.now c.in-Some.profile.now c.args.parts.now) (Answered c.args.order.now c.args.parts.now) c.answer_stats-in-Advise.result (λ s out h. advice_told c.in-Some.profile c.in-Advise.lost c.in-Some.is c.in-Advise.is h) c.answer_stats-in-Advise.ensures

pub returns-in-SendFrames : goal.returns-in-SendFrames
returns-in-SendFrames c =
    passed_on (Framed Sending c.in-SendFrames.lost c.args.order.now c.in-Some.profile.now c.args.parts.now) (Answered c.args.order.now c.args.parts.now) c.answer_frames.result (λ s out h. frames_sent c.in-Some.profile c.in-SendFrames.lost c.in-Some.is c.in-SendFrames.is h) c.answer_frames.ensures

pub returns-in-ReceiveFrames : goal.returns-in-ReceiveFrames
returns-in-ReceiveFrames c =
    passed_on (Framed Receiving 0 c.args.order.now c.in-Some.profile.now c.args.parts.now) (Answered c.args.order.now c.args.parts.now) c.answer_frames-in-ReceiveFrames.result (λ s out h. frames_received c.in-Some.profile c.in-Some.is c.in-ReceiveFrames.is h) c.answer_frames-in-ReceiveFrames.ensures
