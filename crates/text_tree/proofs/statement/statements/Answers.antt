use Rattle.std.proofs.Common.{ℕ, not, sym, ap, refl, subst, ◌∙◌, length}
use Rattle.std.proofs.lemmas.Result.{err_from_is_err_and}
use Rattle.text_source.specs.declared.token.Mark.TheVariants as m
use Rattle.text_tree.specs.Rules.{all}
use Rattle.text_tree.specs.Reading.{Fails}
use Rattle.text_tree.specs.File.{before, statement, statements}
use Rattle.text_tree.proofs.FileLemmas.{consumes_statement}
use Rattle.text_tree.proofs.ReadingMany.{many_stop, many_on, many_fails}
use Rattle.text_tree.proofs.statement.statements.Goals as goal

pub more-init : goal.more-init
unfolding statements
more-init c = rw (c.from_vec-found.ensures, c.in_ok-with_capacity.ensures.items) refl

pub more-preserved : goal.more-preserved
more-preserved c =
    rw c.in_ok-push.ensures.ok
    (sym (many_on (before m.CloseBrace) (λ found. consumes_statement all c.args.only_bound (length found)) c.more.found c.more.tokens c.statement.new.tokens c.in_ok-statement.field-0 (ap not (sym c.sees.ensures ∙ c.more-test.true))
    (ap (λ (n : ℕ). statement all c.args.only_bound n c.more.tokens) (sym c.len-count.ensures) ∙ c.in_ok-statement.ensures)) ∙ c.more.invariant)

pub more-smaller : goal.more-smaller
more-smaller c = (consumes_statement all c.args.only_bound c.len-count.result).shorter c.in_ok-statement.field-0 c.more.tokens c.statement.new.tokens c.in_ok-statement.ensures

pub returns-in_err-statement : goal.returns-in_err-statement
returns-in_err-statement c =
    let p = err_from_is_err_and c.from_residual-in_err-statement.result c.from_residual-in_err-statement.ensures.1 in
    let failed : Fails c.in_err-statement.field-0.0 (statement all c.args.only_bound (length c.more.found) c.more.tokens) =
    subst (λ (n : ℕ). Fails c.in_err-statement.field-0.0 (statement all c.args.only_bound n c.more.tokens)) c.len-count.ensures c.in_err-statement.ensures in
    rw (p.1, p.2, ← c.more.invariant) (many_fails (before m.CloseBrace) (λ found. consumes_statement all c.args.only_bound (length found)) c.more.found c.more.tokens c.in_err-statement.field-0.0 (ap not (sym c.sees.ensures ∙ c.more-test.true)) failed)

pub returns : goal.returns
returns c = sym c.more.invariant ∙ many_stop (before m.CloseBrace) (λ found. consumes_statement all c.args.only_bound (length found)) c.more.found c.more.tokens (ap not (sym c.sees.ensures ∙ c.more-test.false))
