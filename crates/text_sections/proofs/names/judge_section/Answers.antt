use Rattle.std.proofs.Common.{◌∙◌, sym}
use Rattle.std.proofs.lemmas.Result.{IfOk-weaker}
use Rattle.text_sections.proofs.Naming.{plain_judged, format_judged}
use Rattle.text_sections.proofs.NamesOwn.{of_format}
use Rattle.text_sections.proofs.names.judge_section.Goals as goal

pub returns-then-not-is_in : goal.returns-then-not-is_in
returns-then-not-is_in c = λ encodings is.
    let base = sym c.is_in.ensures ∙ c.if-is_in.false in
    let other = sym c.is_in-2.ensures ∙ c.if-not-is_in.true in
    IfOk-weaker c.second.result _ _ (λ o judged. plain_judged c.args.text.now encodings c.args.place c.args.section.now base other judged)
    (rw (c.as_slice.ensures, c.in_ok-own.ensures) at c.second.ensures)

pub returns : goal.returns
returns c = λ encodings is.
    let format = sym c.is_in-2.ensures ∙ c.if-not-is_in.false in
    let mine = of_format c.args.text.now c.args.place c.args.section.now c.args.own.now format c.requires in
    format_judged c.args.text.now encodings c.args.place c.args.section.now (sym c.is_in.ensures ∙ c.if-is_in.false) format
    (rw mine at c.in_ok-repeated.ensures) (rw mine at (c.in_ok-bare.ensures encodings is)) c.earlier.ensures
