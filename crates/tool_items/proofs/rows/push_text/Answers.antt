use Rattle.std.proofs.Common.{◌≡◌, ◌∙◌, ◌++◌, ap, codes, refl, string_bytes}
use Rattle.tool_items.proofs.RowsPlaced.{none_text, text_on}
use Rattle.tool_items.proofs.rows.push_text.Goals as goal

pub returns-then-is_empty : goal.returns-then-is_empty
returns-then-is_empty c = c.in_ok-push_str.ensures.bytes ∙ ap (λ t. string_bytes c.args.output.now ++ t) (none_text c.args.bits.now (c.if-is_empty.ensures.0 refl))

pub returns : goal.returns
returns c = text_on c.args.bits.now _ _ c.in_ok-push_bits.ensures
