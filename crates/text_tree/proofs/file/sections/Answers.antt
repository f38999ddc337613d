use Rattle.std.proofs.Common.{not, sym, ap, refl, subst, ◌∙◌}
use Rattle.std.proofs.lemmas.Result.{err_from_is_err_and}
use Rattle.text_source.specs.declared.token.Mark.TheVariants as m
use Rattle.text_tree.specs.Rules.{all}
use Rattle.text_tree.specs.Counts.{seen_in, with_section}
use Rattle.text_tree.specs.Reading.{Fails}
use Rattle.text_tree.specs.File.{before, section, sections}
use Rattle.text_tree.proofs.FileLemmas.{consumes_section}
use Rattle.text_tree.proofs.ReadingMany.{many_stop, many_on, many_fails}
use Rattle.text_tree.proofs.Counted.{seen_more}
use Rattle.text_tree.proofs.file.sections.Goals as goal

pub more-init : goal.more-init
unfolding sections
more-init c = rw c.new-found.ensures (refl, refl)

pub more-preserved : goal.more-preserved
more-preserved c =
    let on = many_on (before m.CloseBrace) (λ found. consumes_section all (seen_in found)) c.more.found c.more.tokens c.section.new.tokens c.in_ok-next.next (ap not (sym c.sees.ensures ∙ c.more-test.true))
    (ap (λ n. section all n c.more.tokens) (sym c.more.invariant.1) ∙ c.in_ok-next.ensures) in
    rw c.in_ok-push.ensures.ok
    (sym on ∙ c.more.invariant.0, c.with_section-seen.ensures ∙ ap (λ n. with_section c.in_ok-next.next.kind n) c.more.invariant.1 ∙ sym (seen_more c.more.found c.in_ok-next.next))

pub more-smaller : goal.more-smaller
more-smaller c = (consumes_section all c.more.seen).shorter c.in_ok-next.next c.more.tokens c.section.new.tokens c.in_ok-next.ensures

pub returns-in_err-next : goal.returns-in_err-next
returns-in_err-next c =
    let p = err_from_is_err_and c.from_residual.result c.from_residual.ensures.1 in
    let failed : Fails c.in_err-next.field-0.0 (section all (seen_in c.more.found) c.more.tokens) =
    subst (λ n. Fails c.in_err-next.field-0.0 (section all n c.more.tokens)) c.more.invariant.1 c.in_err-next.ensures in
    rw (p.1, p.2, ← c.more.invariant.0) (many_fails (before m.CloseBrace) (λ found. consumes_section all (seen_in found)) c.more.found c.more.tokens c.in_err-next.field-0.0 (ap not (sym c.sees.ensures ∙ c.more-test.true)) failed)

pub returns : goal.returns
returns c = sym c.more.invariant.0 ∙ many_stop (before m.CloseBrace) (λ found. consumes_section all (seen_in found)) c.more.found c.more.tokens (ap not (sym c.sees.ensures ∙ c.more-test.false))
