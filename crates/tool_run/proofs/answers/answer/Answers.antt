use Rattle.std.proofs.Common.{◌∙◌, ap, subst, sym}
use Rattle.std.specs.Prelude.{string_bytes}
use Rattle.tool_json.specs.Lines.{as_objects}
use Rattle.tool_run.specs.Printed.{Shown, shown_as, shown_in}
use Rattle.tool_run.proofs.answers.answer.Goals as goal

pub returns-in-Text : goal.returns-in-Text
returns-in-Text c =
    subst (λ out. Shown c.args.order.now c.args.parts.now c.in_ok-status.field-0.status out)
    (ap (λ f. shown_in f c.args.order.now.command c.in_ok-status.field-0.status (string_bytes c.in_ok-status.field-0.output)) c.in-Text.is)
    (shown_as (string_bytes c.in_ok-status.field-0.output) c.in_ok-status.ensures)

pub returns-in_ok-as_objects-in-Json : goal.returns-in_ok-as_objects-in-Json
returns-in_ok-as_objects-in-Json c =
    subst (λ out. Shown c.args.order.now c.args.parts.now c.in_ok-status.field-0.status out)
    (ap (λ f. shown_in f c.args.order.now.command c.in_ok-status.field-0.status (string_bytes c.in_ok-status.field-0.output)) c.in-Json.is
    ∙ sym (c.in_ok-as_objects-in-Json.ensures ∙ ap (as_objects c.args.order.now.command c.in_ok-status.field-0.status) c.as_str.ensures.value))
    (shown_as (string_bytes c.in_ok-status.field-0.output) c.in_ok-status.ensures)
