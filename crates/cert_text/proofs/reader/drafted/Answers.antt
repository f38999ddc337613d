use Rattle.std.proofs.Common.{◌∙◌, sym, ap, subst, map}
use Rattle.cert_text.specs.Drafts.{next, when}
use Rattle.cert_text.specs.Shapes.{fault_told, Stops}
use Rattle.cert_text.proofs.DraftsMeaning.{some_is}
use Rattle.cert_text.proofs.DraftsOutcome.{drafted_more, stops_at}
use Rattle.cert_text.proofs.reader.drafted.Goals as goal

pub returns-then-not-branch-clause-fault : goal.returns-then-not-branch-clause-fault
returns-then-not-branch-clause-fault c = λ f n e.
    let shown = ap (map (λ w. w.now)) c.as_slice.ensures.value ∙ c.in_ok-words.ensures in
    let again = ap (map (λ w. w.now)) c.as_slice-then-not-branch.ensures.value ∙ c.in_ok-words.ensures in
    let stopped = ap (next c.args.methods.now c.loop-line.draft) (sym shown) ∙ c.in_ok-next.ensures ∙ ap (λ b. when b c.next.new.self) c.if-not-branch.true in
    let same = some_is _ (f, n) (sym c.error_at.ensures ∙ e) in
    subst (λ p. Stops c.args.methods.now (map (λ l. (l.number, l.text.now)) c.args.lines.now) p.0 p.1) same
    (stops_at (λ l. (l.number, l.text.now)) c.args.methods.now c.args.lines.now c.loop-line.line-index _ c.loop-line.draft c.fault_of.result c.loop-line-test.true c.loop-line.invariant stopped
    (c.fault_of.ensures ∙ (λ i. fault_told (c.stands-place.ensures i) c.args.methods.now (again i))))

pub loop-line-preserved : goal.loop-line-preserved
loop-line-preserved c =
    let shown = ap (map (λ w. w.now)) c.as_slice.ensures.value ∙ c.in_ok-words.ensures in
    let taken = ap (next c.args.methods.now c.loop-line.draft) (sym shown) ∙ c.in_ok-next.ensures ∙ ap (λ b. when b c.next.new.self) c.if-not-branch.false in
    drafted_more (λ l. l.text.now) c.args.methods.now c.args.lines.now c.loop-line.line-index _ c.loop-line.draft c.next.new.self c.loop-line-test.true c.loop-line.invariant taken
