use Rattle.std.proofs.Common.{◌∙◌, ap, subst, sym}
use Rattle.std.specs.Prelude.{string_bytes}
use Rattle.tool_run.specs.Printed.{LintedWith, linted_by, strict_status}
use Rattle.tool_run.proofs.answers.lint_by.Goals as goal

pub returns : goal.returns
returns c =
    subst (λ s. LintedWith c.args.order.now c.args.profile.now c.args.parts.now s (string_bytes c.in_ok-status.field-0.output)) (sym (c.strict_status.ensures ∙ ap (strict_status c.args.order.now.is_strict c.in_ok-status.field-0.status) c.as_str.ensures.value)) (linted_by c.in_ok-status.ensures)
