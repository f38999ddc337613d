use Rattle.std.proofs.Common.{◌≡◌, arith, sym, ap, rules, ◌∙◌}
use Rattle.std.specs.Prelude.{decimal}
use Rattle.std.proofs.lemmas.Fmt.{parse-decimal}
use Rattle.cert_text.proofs.DraftsNumerals.{below_some, below_none}
use Rattle.cert_text.proofs.words.number_below.Goals as goal

pub returns-in_default : goal.returns-in_default
returns-in_default c = sym (below_none c.args.limit c.args.word.now (λ n k l e. absurd (cc (parse-decimal 64 n _ _ (omega arith) (omega arith) e c.parse.ensures.value.0))))

pub returns-then-number-limit : goal.returns-then-number-limit
returns-then-number-limit c = sym (below_none c.args.limit c.args.word.now (λ n k l e.
    let read = parse-decimal 64 n _ _ (omega arith) (omega arith) e c.parse.ensures.value.0 in
    let same : n ≡ c.in-Ok.number = cc read in absurd (omega arith)))

pub returns-then-eq : goal.returns-then-eq
returns-then-eq c =
    let text : c.format.result.now ≡ c.args.word.now = search rules in
    sym (below_some c.args.limit c.in-Ok.number c.args.word.now (omega arith) (omega arith) (sym c.format.ensures.text ∙ text))

pub returns-else-eq : goal.returns-else-eq
returns-else-eq c = sym (below_none c.args.limit c.args.word.now (λ n k l e.
    let read = parse-decimal 64 n _ _ (omega arith) (omega arith) e c.parse.ensures.value.0 in
    let same : n ≡ c.in-Ok.number = cc read in
    let text : c.format.result.now ≡ c.args.word.now = c.format.ensures.text ∙ ap decimal (sym same) ∙ sym e in search rules))
