use Rattle.text_sections.proofs.NamesWhole.{heads_judged}
use Rattle.text_sections.proofs.names.judge_heads.Goals as goal

pub returns : goal.returns
returns c = λ names is.
    heads_judged c.args.text.now names c.args.method.now c.incomplete-lack.ensures (rw c.as_slice.ensures at (c.in_ok-parameters.ensures names is))
    (rw (c.as_slice-2.ensures, c.in_ok-formats.ensures, c.as_slice-sections.ensures) at c.in_ok-named.ensures) c.earlier.ensures c.earlier-2.ensures
