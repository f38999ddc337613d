use Rattle.std.proofs.Common.{◌∙◌, ◌++◌, ap, map, replicate, sym}
use Rattle.std.specs.Prelude.{flat_map}
use Rattle.std.specs.List.{enumerate_from}
use Rattle.tool_names.specs.Names.{encoding_at}
use Rattle.tool_items.specs.Rows.{row_of}
use Rattle.tool_items.proofs.FieldsListed.{format_in, rows_are, rows_at}
use Rattle.tool_items.proofs.fields.+add_rows.Goals as goal

pub loop-i-init : goal.loop-i-init
loop-i-init t c =
    let indent = replicate c.args.indent 32 in
    ap (λ rows. map row_of c.args.rows.now ++ rows)
    (ap (λ fs. flat_map (λ p. rows_at c.args.methods.now (encoding_at c.args.methods.now c.args.method (format_in c.args.filling.now) p.0) indent p.1) (enumerate_from 0 fs)) c.as_slice-field-items.ensures ∙ sym (rows_are c.args.methods.now c.args.filling.now c.args.method indent))
