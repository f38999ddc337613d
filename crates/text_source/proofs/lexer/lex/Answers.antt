use Rattle.std.proofs.Common.{◌≡◌, ℕ, List, sym, subst, ◌∙◌}
use Rattle.text_source.specs.Lexical.{Lexed}
use Rattle.text_source.proofs.LexicalUnique.{only_tokens}
use Rattle.text_source.proofs.lexer.lex.Goals as goal

pub returns-clause-only : goal.returns-clause-only
returns-clause-only c = λ ts h.
    let same : c.as_bytes.result.now ≡ c.args.source.now = c.as_bytes.ensures.value ∙ c.text.ensures.value in
    let lexed = subst (λ (us : List ℕ). Lexed us ts) (sym same) h in
    only_tokens (λ v. v.items) c.as_bytes.result.now c.tokens_of.result c.tokens_of.ensures.lexed c.tokens_of.ensures.fault ts lexed
