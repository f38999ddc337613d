use Rattle.std.proofs.Common.{◌≡◌, arith, sym, ap, rules, ◌∙◌}
use Rattle.std.specs.Prelude.{decimal}
use Rattle.std.proofs.lemmas.Fmt.{parse-decimal}
use Rattle.tool_words.proofs.WordsNumbers.{spelled_none, spelled_some}
use Rattle.tool_words.proofs.words.lost_spelled.Goals as goal

pub returns-in_default : goal.returns-in_default
returns-in_default c = sym (spelled_none c.args.text.now (λ n below e. absurd (cc (parse-decimal 8 n _ _ (omega arith) (omega arith) e c.parse.ensures.value.0))))

pub returns-then-lost-gt-MOST_LOST : goal.returns-then-lost-gt-MOST_LOST
returns-then-lost-gt-MOST_LOST c = sym (spelled_none c.args.text.now (λ n below e.
    let read = parse-decimal 8 n _ _ (omega arith) (omega arith) e c.parse.ensures.value.0 in
    let same : n ≡ c.in-Ok.lost = cc read in absurd (omega arith)))

pub returns-then-eq : goal.returns-then-eq
returns-then-eq c =
    let text : c.format.result.now ≡ c.args.text.now = search rules in
    sym (spelled_some c.in-Ok.lost c.args.text.now (omega arith) (sym c.format.ensures.text ∙ text))

pub returns-else-eq : goal.returns-else-eq
returns-else-eq c = sym (spelled_none c.args.text.now (λ n below e.
    let read = parse-decimal 8 n _ _ (omega arith) (omega arith) e c.parse.ensures.value.0 in
    let same : n ≡ c.in-Ok.lost = cc read in
    let text : c.format.result.now ≡ c.args.text.now = c.format.ensures.text ∙ ap decimal (sym same) ∙ sym e in search rules))
