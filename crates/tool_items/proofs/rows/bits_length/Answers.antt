use Rattle.std.proofs.Common.{◌∙◌, ap, codes, length, rules, sym}
use Rattle.std.proofs.lemmas.List.{nil_from_length}
use Rattle.tool_items.proofs.RowsPlaced.{none_text, text_length}
use Rattle.tool_items.proofs.rows.bits_length.Goals as goal

pub returns-then-count-eq0 : goal.returns-then-count-eq0
returns-then-count-eq0 c = ap length (none_text c.args.bits.now (nil_from_length _ (sym c.len-count.ensures.value ∙ c.if-count-eq0.true)))

pub returns : goal.returns
returns c = rw (c.format.ensures.text, c.len-count.ensures.value) (text_length c.args.bits.now)
