use Rattle.text_sections.proofs.Naming.{bare_judged}
use Rattle.text_sections.proofs.names.judge_bare_among.Goals as goal

pub returns : goal.returns
returns c = λ encodings is.
    bare_judged c.args.text.now encodings c.args.own.now c.args.shared.now c.in_ok-table.table is (rw (c.as_slice.ensures, c.in_ok-bound.ensures) at c.in_ok-table.ensures) c.all_not_encoded.ensures
