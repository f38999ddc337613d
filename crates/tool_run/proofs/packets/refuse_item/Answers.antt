use Rattle.std.proofs.Common.{◌∙◌, ◌∷◌, ◌++◌, [], ap}
use Rattle.std.specs.Prelude.{string_bytes}
use Rattle.tool_run.proofs.packets.refuse_item.Goals as goal

pub returns : goal.returns
returns c =
    (string_bytes c.in_ok-line.line, (c.in_ok-line.ensures.says, c.in_ok-line.ensures.line), c.in_ok-push_line.ensures ∙ ap (λ l. string_bytes c.args.output.now ++ l ++ 10 ∷ []) c.as_str.ensures.value)
