use Rattle.std.proofs.Common.{rules, ℕ, sym, ap, refl, subst, ◌∙◌, length}
use Rattle.std.proofs.lemmas.Result.{err_from_is_err_and}
use Rattle.text_source.specs.declared.token.Mark.TheVariants as m
use Rattle.text_tree.specs.Rules.{all}
use Rattle.text_tree.specs.Reading.{is_next, Fails}
use Rattle.text_tree.specs.File.{next_expr, exprs}
use Rattle.text_tree.proofs.FileLemmas.{consumes_next_expr}
use Rattle.text_tree.proofs.ReadingMany.{many_stop, many_on, many_fails}
use Rattle.text_tree.proofs.statement.exprs.Goals as goal

pub returns-in_err-whole : goal.returns-in_err-whole
unfolding exprs
returns-in_err-whole c = search rules

pub more-init : goal.more-init
unfolding exprs
more-init c = rw (c.in_ok-push.ensures.ok, c.from_vec-found.ensures, c.in_ok-with_capacity.ensures.items, c.in_ok-whole.ensures) refl

pub more-preserved : goal.more-preserved
more-preserved c =
    rw c.in_ok-push-2.ensures.ok
    (sym (many_on (is_next m.Comma) (λ found. consumes_next_expr all (length found)) c.more.found c.more.tokens c.next_expr.new.tokens c.in_ok-next_expr.field-0 (sym c.sees.ensures ∙ c.more-test.true)
    (ap (λ (n : ℕ). next_expr all n c.more.tokens) (sym c.len-count.ensures) ∙ c.in_ok-next_expr.ensures)) ∙ c.more.invariant)

pub more-smaller : goal.more-smaller
more-smaller c = (consumes_next_expr all c.len-count.result).shorter c.in_ok-next_expr.field-0 c.more.tokens c.next_expr.new.tokens c.in_ok-next_expr.ensures

pub returns-in_err-next_expr : goal.returns-in_err-next_expr
returns-in_err-next_expr c =
    let p = err_from_is_err_and c.from_residual-in_err-next_expr.result c.from_residual-in_err-next_expr.ensures.1 in
    let failed : Fails c.in_err-next_expr.field-0.0 (next_expr all (length c.more.found) c.more.tokens) =
    subst (λ (n : ℕ). Fails c.in_err-next_expr.field-0.0 (next_expr all n c.more.tokens)) c.len-count.ensures c.in_err-next_expr.ensures in
    rw (p.1, p.2, ← c.more.invariant) (many_fails (is_next m.Comma) (λ found. consumes_next_expr all (length found)) c.more.found c.more.tokens c.in_err-next_expr.field-0.0 (sym c.sees.ensures ∙ c.more-test.true) failed)

pub returns : goal.returns
returns c = sym c.more.invariant ∙ many_stop (is_next m.Comma) (λ found. consumes_next_expr all (length found)) c.more.found c.more.tokens (sym c.sees.ensures ∙ c.more-test.false)
