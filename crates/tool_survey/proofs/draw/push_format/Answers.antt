use Rattle.std.proofs.Common.{◌++◌, ◌∙◌, ap}
use Rattle.tool_survey.specs.Draw.{diagram, heading}
use Rattle.tool_names.specs.Names.{format_name, method_name}
use Rattle.tool_survey.proofs.DrawLemmas.{two_pieces}
use Rattle.tool_survey.proofs.draw.push_format.Goals as goal

pub returns : goal.returns
returns c =
    let methods = c.methods-methods.ensures in
    let bounds = c.packed_bounds-bounds.ensures in
    let columns = c.as_slice.ensures ∙ c.in_ok-columns.ensures in
    let method = c.method_name.ensures ∙ ap (λ ms. method_name ms c.args.method) methods in
    let format = c.format_name.ensures ∙ ap (λ ms. format_name ms c.args.method c.args.format) methods in
    two_pieces c.push_diagram.result _ _ _ _ _ _ c.in_ok-push_heading.ensures
    (λ i. heading (method i) (format i) (bounds i) ++ diagram (methods i) c.args.method c.args.format (bounds i) (columns i)) c.push_diagram.ensures
