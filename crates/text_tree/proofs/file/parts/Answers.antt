use Rattle.std.proofs.Common.{sym, ap, refl, subst, ◌∙◌}
use Rattle.std.proofs.lemmas.Result.{err_from_is_err_and}
use Rattle.text_tree.specs.Rules.{all}
use Rattle.text_tree.specs.Counts.{tally_of, with_part}
use Rattle.text_tree.specs.Reading.{is_there, Fails}
use Rattle.text_tree.specs.File.{part, parts}
use Rattle.text_tree.proofs.FileLemmas.{consumes_part}
use Rattle.text_tree.proofs.ReadingMany.{many_stop, many_on, many_fails}
use Rattle.text_tree.proofs.Counted.{tally_more}
use Rattle.text_tree.proofs.file.parts.Goals as goal

pub more-init : goal.more-init
unfolding parts
more-init c = rw c.new-found.ensures (refl, refl)

pub more-preserved : goal.more-preserved
more-preserved c =
    let on = many_on is_there (λ found. consumes_part all (tally_of found)) c.more.found c.more.tokens c.part.new.tokens c.in_ok-next.next (sym c.has_more.ensures ∙ c.more-test.true)
    (ap (λ n. part all n c.more.tokens) (sym c.more.invariant.1) ∙ c.in_ok-next.ensures) in
    rw c.in_ok-push.ensures.ok
    (sym on ∙ c.more.invariant.0, c.with_part-tally.ensures ∙ ap (λ n. with_part c.in_ok-next.next n) c.more.invariant.1 ∙ sym (tally_more c.more.found c.in_ok-next.next))

pub more-smaller : goal.more-smaller
more-smaller c = (consumes_part all c.more.tally).shorter c.in_ok-next.next c.more.tokens c.part.new.tokens c.in_ok-next.ensures

pub returns-in_err-next : goal.returns-in_err-next
returns-in_err-next c =
    let p = err_from_is_err_and c.from_residual.result c.from_residual.ensures.1 in
    let failed : Fails c.in_err-next.field-0.0 (part all (tally_of c.more.found) c.more.tokens) =
    subst (λ n. Fails c.in_err-next.field-0.0 (part all n c.more.tokens)) c.more.invariant.1 c.in_err-next.ensures in
    rw (p.1, p.2, ← c.more.invariant.0) (many_fails is_there (λ found. consumes_part all (tally_of found)) c.more.found c.more.tokens c.in_err-next.field-0.0 (sym c.has_more.ensures ∙ c.more-test.true) failed)

pub returns : goal.returns
returns c = sym c.more.invariant.0 ∙ many_stop is_there (λ found. consumes_part all (tally_of found)) c.more.found c.more.tokens (sym c.has_more.ensures ∙ c.more-test.false)
