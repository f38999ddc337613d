use Rattle.std.proofs.Common.{◌∙◌, sym, ap, subst, refl, map, rules}
use Rattle.std.proofs.lemmas.Result.{err_from_is_err_and}
use Rattle.cert_text.specs.Drafts.{read_lines, start}
use Rattle.cert_text.specs.Faults.{IsReading, too_long, cut_off}
use Rattle.cert_text.specs.Shapes.{Stops}
use Rattle.sem_bits.specs.Lines.{numbered_lines}
use Rattle.cert_text.proofs.DraftsOutcome.{blamed, is_cut_off, is_reading, is_kept}
use Rattle.cert_text.proofs.reader.read.Goals as goal

pub returns-then-text-gt-TEXT_LIMIT-clause-fault : goal.returns-then-text-gt-TEXT_LIMIT-clause-fault
returns-then-text-gt-TEXT_LIMIT-clause-fault c = too_long (search rules) refl

pub returns-in_err-draft-clause-fault : goal.returns-in_err-draft-clause-fault
returns-in_err-draft-clause-fault c =
    let p = err_from_is_err_and c.from_residual-in_err-draft.result c.from_residual-in_err-draft.ensures.1 in
    let all = ap (map (λ l. (l.number, l.text.now))) c.as_slice.ensures.value ∙ c.in_ok-lines.ensures in
    rw (p.1, p.2)
    (blamed c.args.profile.now.methods c.keeps.ensures.named c.keeps.ensures.words c.args.text.now c.in_err-draft.field-0.0 (search rules)
    (λ f n e. subst (λ ls. Stops c.args.profile.now.methods ls f n) all (subst (λ ms. Stops ms (map (λ l. (l.number, l.text.now)) c.as_slice.result.now) f n) c.methods.ensures (c.in_err-draft.ensures.fault f n e))))

pub returns-then-not-is_whole-clause-fault : goal.returns-then-not-is_whole-clause-fault
returns-then-not-is_whole-clause-fault c =
    let all = ap (map (λ l. (l.number, l.text.now))) c.as_slice.ensures.value ∙ c.in_ok-lines.ensures in
    let drafted = ap (λ ms. read_lines ms start (map (λ l. l.text.now) c.as_slice.result.now)) (sym c.methods.ensures) ∙ c.in_ok-draft.ensures.found in
    cut_off c.after_last.result (search rules) refl
    (is_cut_off (λ l. (l.number, l.text.now)) c.args.profile.now.methods c.keeps.ensures.named c.keeps.ensures.words c.args.text.now c.as_slice.result.now c.in_ok-draft.draft c.after_last.result all drafted (sym c.is_whole.ensures ∙ c.if-not-is_whole.true) c.after_last.ensures)

pub of-requires : goal.of-requires
of-requires c =
    is_kept c.methods.result.now (map (λ l. l.text.now) c.as_slice.result.now) c.in_ok-draft.draft c.in_ok-draft.ensures.found (sym c.is_whole.ensures ∙ c.if-not-is_whole.false)

pub returns-clause-found : goal.returns-clause-found
returns-clause-found c =
    let all = ap (map (λ l. (l.number, l.text.now))) c.as_slice.ensures.value ∙ c.in_ok-lines.ensures in
    let drafted = ap (λ ms. read_lines ms start (map (λ l. l.text.now) c.as_slice.result.now)) (sym c.methods.ensures) ∙ c.in_ok-draft.ensures.found in
    let read = is_reading (λ l. (l.number, l.text.now)) c.args.profile.now.methods c.args.text.now c.as_slice.result.now c.in_ok-draft.draft all drafted (sym c.is_whole.ensures ∙ c.if-not-is_whole.false) in
    subst (IsReading c.args.profile.now.methods (numbered_lines c.args.text.now)) (λ i. record { version = sym c.of.ensures.version i; methods = sym c.of.ensures.methods i }) read
