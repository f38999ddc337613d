use Rattle.std.proofs.Common.{ap, ◌∙◌, subst}
use Rattle.sem_lint.specs.Needs.{AreNeeding}
use Rattle.sem_lint.specs.Paths.{AreThose, IsUnknown}
use Rattle.tool_survey.proofs.WarningsLemmas.{all_warned, told}
use Rattle.tool_survey.proofs.warnings.warnings.Goals as goal

pub returns : goal.returns
returns c =
    all_warned _ _ _ _ _ _ _ _ _ _ (told c.in_ok-unknown.unknown) c.all_lines.result c.methods-methods.ensures
    (subst (λ ps. AreNeeding c.args.profile.now ps c.in_ok-needing.needing) (ap told c.as_slice.ensures ∙ c.in_ok-given.ensures) c.in_ok-needing.ensures) c.in_ok-misspelled.ensures c.in_ok-unnoticed.ensures c.in_ok-unlike.ensures c.in_ok-candidates.ensures c.as_str.ensures.value
    (subst (λ ps. AreThose (IsUnknown c.args.profile.now) ps (told c.in_ok-unknown.unknown)) (ap told c.as_slice-2.ensures ∙ c.in_ok-given.ensures) c.in_ok-unknown.ensures)
    (rw (c.as_slice-3.ensures, c.as_slice-4.ensures, c.as_slice-5.ensures, c.as_slice-6.ensures, c.as_slice-7.ensures) at c.all_lines.ensures)
