use Rattle.std.proofs.Common.{◌≡◌, ◌∙◌, ℕ, List, ap, sym, subst}
use Rattle.std.specs.Prelude.{IfOk, string_bytes}
use Rattle.tool_input.specs.Bundle.{shown_text}
use Rattle.tool_input.proofs.BundleNames.{name_dash, name_text}
use Rattle.tool_input.proofs.bundle.name_shown.Goals as goal

pub returns-in-Ok : goal.returns-in-Ok
returns-in-Ok c =
    let P : List ℕ → Type 0 = λ text. IfOk c.text_shown.result (λ shown. string_bytes shown ≡ text) in
    subst P (ap shown_text c.in-Ok.ensures.cases.0 ∙ sym (name_text c.args.bad c.in-Named.name c.in-Named.is c.in-Ok.ensures.cases.1)) c.text_shown.ensures

pub returns-in-Err : goal.returns-in-Err
returns-in-Err c =
    let P : List ℕ → Type 0 = λ text. IfOk c.from_str-in-Err.result (λ shown. string_bytes shown ≡ text) in
    subst P (sym (name_dash c.args.bad c.in-Named.name c.in-Named.is c.in-Err.ensures.cases.0)) c.from_str-in-Err.ensures.ok
