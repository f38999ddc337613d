use Rattle.text_sections.proofs.Naming.{encodings_judged}
use Rattle.text_sections.proofs.names.judge_encodings.Goals as goal

pub returns : goal.returns
returns c =
    let base = rw (c.as_slice-4.ensures, c.in_ok-base.ensures, c.as_slice.ensures) at c.in_ok-table.ensures in
    encodings_judged c.args.text.now c.args.lists.now c.in_ok-table.table base
    (rw (c.as_slice-5.ensures, c.in_ok-formats.ensures, c.as_slice-2.ensures) at c.all_encoded_before-in_formats.ensures)
    (rw (c.as_slice-6.ensures, c.in_ok-defaults.ensures, c.as_slice-3.ensures) at c.all_encoded_before-in_defaults.ensures) c.earlier.ensures
