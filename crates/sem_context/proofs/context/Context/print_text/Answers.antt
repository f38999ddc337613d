use Rattle.std.proofs.Common.{◌∙◌, ◌+◌, [], ap, drop, get_or, sym, subst, refl, string_bytes, arith}
use Rattle.std.proofs.lemmas.List.{append-nil, drop_all, drop_more}
use Rattle.sem_context.specs.Placing.{shown}
use Rattle.sem_context.specs.Text.{IsContextText, AddsLine}
use Rattle.sem_context.proofs.TextLines.{print_more}
use Rattle.sem_context.proofs.context.Context.print_text.Goals as goal

pub loop-path-preserved : goal.loop-path-preserved
loop-path-preserved c =
    let items = c.deref-path-items.result.now in
    let i = c.loop-path.path-index in
    let e = get_or items i c.loop-path-item.result in
    let adds : AddsLine (string_bytes c.loop-path.text) (string_bytes e.0, e.1) (string_bytes c.push_line.new.text) =
    subst (λ x. AddsLine (string_bytes c.loop-path.text) x (string_bytes c.push_line.new.text)) (ap (λ p. (p, c.loop-path-item.result.1)) c.as_str.ensures.value ∙ ap (λ x. (string_bytes x.0, x.1)) c.loop-path-item.is) c.in_ok-push_line.ensures in
    print_more c.args.self.now (shown (drop i items)) (shown (drop (i + 1) items)) (string_bytes c.loop-path.text) (string_bytes c.push_line.new.text) (string_bytes e.0, e.1)
    (ap shown (drop_more items i c.loop-path-item.result c.loop-path-test.true)) c.loop-path.invariant adds

pub returns : goal.returns
returns c =
    let items = c.deref-path-items.result.now in
    subst (IsContextText c.args.self.now) (append-nil (string_bytes c.loop-path.text)) (c.loop-path.invariant [] (subst (λ xs. IsContextText (shown xs) []) (sym (drop_all c.loop-path.path-index items (omega (arith, c.loop-path-test.false)))) refl))
