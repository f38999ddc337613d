use Rattle.std.proofs.Common.{string_bytes}
use Rattle.tool_items.proofs.RowsPlaced.{line_made}
use Rattle.tool_items.proofs.rows.push_row.Goals as goal

pub returns : goal.returns
returns c =
    line_made c.args.widths c.args.row.now (string_bytes c.args.output.now) (string_bytes c.push_str.new.self) (string_bytes c.push_name.new.output) (string_bytes c.push_str-2.new.self)
    (string_bytes c.push_word.new.output) (string_bytes c.push_str-3.new.self) (string_bytes c.push_bits.new.output) (string_bytes c.push_str-4.new.self) (string_bytes c.push_bits-2.new.output)
    (string_bytes c.push_str-5.new.self) (string_bytes c.push_method.new.output)
    c.in_ok-push_str.ensures.bytes c.in_ok-push_name.ensures c.in_ok-push_str-2.ensures.bytes c.in_ok-push_word.ensures c.in_ok-push_str-3.ensures.bytes
    c.in_ok-push_bits.ensures c.in_ok-push_str-4.ensures.bytes c.in_ok-push_bits-2.ensures c.in_ok-push_str-5.ensures.bytes c.in_ok-push_method.ensures
