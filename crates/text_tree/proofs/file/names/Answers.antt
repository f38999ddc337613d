use Rattle.std.proofs.Common.{rules, ℕ, sym, ap, refl, subst, ◌∙◌, length}
use Rattle.std.proofs.lemmas.Result.{err_from_is_err_and}
use Rattle.text_source.specs.declared.token.Mark.TheVariants as m
use Rattle.text_tree.specs.Rules.{all}
use Rattle.text_tree.specs.Reading.{is_next, Fails}
use Rattle.text_tree.specs.File.{next_name, names}
use Rattle.text_tree.proofs.FileLemmas.{consumes_next_name}
use Rattle.text_tree.proofs.ReadingMany.{many_stop, many_on, many_fails}
use Rattle.text_tree.proofs.file.names.Goals as goal

pub returns-in_err-name : goal.returns-in_err-name
unfolding names
returns-in_err-name c = search rules

pub more-init : goal.more-init
unfolding names
more-init c = rw (c.in_ok-push.ensures.ok, c.new-found.ensures, c.in_ok-name.ensures) refl

pub more-preserved : goal.more-preserved
more-preserved c =
    rw c.in_ok-push-2.ensures.ok
    (sym (many_on (is_next m.Comma) (λ found. consumes_next_name all (length found)) c.more.found c.more.tokens c.next_name.new.tokens c.in_ok-next_name.field-0 (sym c.sees.ensures ∙ c.more-test.true)
    (ap (λ (n : ℕ). next_name all n c.more.tokens) (sym c.len-count.ensures) ∙ c.in_ok-next_name.ensures)) ∙ c.more.invariant)

pub more-smaller : goal.more-smaller
more-smaller c = (consumes_next_name all c.len-count.result).shorter c.in_ok-next_name.field-0 c.more.tokens c.next_name.new.tokens c.in_ok-next_name.ensures

pub returns-in_err-next_name : goal.returns-in_err-next_name
returns-in_err-next_name c =
    let p = err_from_is_err_and c.from_residual-in_err-next_name.result c.from_residual-in_err-next_name.ensures.1 in
    let failed : Fails c.in_err-next_name.field-0.0 (next_name all (length c.more.found) c.more.tokens) =
    subst (λ (n : ℕ). Fails c.in_err-next_name.field-0.0 (next_name all n c.more.tokens)) c.len-count.ensures c.in_err-next_name.ensures in
    rw (p.1, p.2, ← c.more.invariant) (many_fails (is_next m.Comma) (λ found. consumes_next_name all (length found)) c.more.found c.more.tokens c.in_err-next_name.field-0.0 (sym c.sees.ensures ∙ c.more-test.true) failed)

pub returns : goal.returns
returns c = sym c.more.invariant ∙ many_stop (is_next m.Comma) (λ found. consumes_next_name all (length found)) c.more.found c.more.tokens (sym c.sees.ensures ∙ c.more-test.false)
