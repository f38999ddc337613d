use Rattle.text_sections.specs.Names.{for_all_formats}
use Rattle.text_sections.proofs.NamesWhole.{fields_judged}
use Rattle.text_sections.proofs.names.judge_fields.Goals as goal

pub returns : goal.returns
returns c =
    let shared = rw c.in_ok-lists.ensures at c.in_ok-shared.ensures in
    fields_judged c.args.text.now c.args.sections.now (rw c.in_ok-lists.ensures at c.in_ok-of_lists.ensures)
    (c.in_ok-own.ensures (for_all_formats c.args.text.now c.args.sections.now) shared) c.earlier.ensures
