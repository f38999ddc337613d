use Rattle.std.proofs.Common.{◌≡◌, arith, sym, ap, rules, ◌∙◌}
use Rattle.std.specs.Prelude.{decimal}
use Rattle.std.proofs.lemmas.Fmt.{parse-decimal}
use Rattle.tool_words.proofs.WordsNumbers.{bits_none, bits_some}
use Rattle.tool_words.proofs.words.bits_spelled.Goals as goal

pub returns-in_default : goal.returns-in_default
returns-in_default c = sym (bits_none c.args.text.now (λ n below e. absurd (cc (parse-decimal 32 n _ _ (omega arith) (omega arith) e c.parse.ensures.value.0))))

pub returns-then-bits-gt-MOST_BITS : goal.returns-then-bits-gt-MOST_BITS
returns-then-bits-gt-MOST_BITS c = sym (bits_none c.args.text.now (λ n below e.
    let read = parse-decimal 32 n _ _ (omega arith) (omega arith) e c.parse.ensures.value.0 in
    let same : n ≡ c.in-Ok.bits = cc read in absurd (omega arith)))

pub returns-then-eq : goal.returns-then-eq
returns-then-eq c =
    let text : c.format.result.now ≡ c.args.text.now = search rules in
    sym (bits_some c.in-Ok.bits c.args.text.now (omega arith) (sym c.format.ensures.text ∙ text))

pub returns-else-eq : goal.returns-else-eq
returns-else-eq c = sym (bits_none c.args.text.now (λ n below e.
    let read = parse-decimal 32 n _ _ (omega arith) (omega arith) e c.parse.ensures.value.0 in
    let same : n ≡ c.in-Ok.bits = cc read in
    let text : c.format.result.now ≡ c.args.text.now = c.format.ensures.text ∙ ap decimal (sym same) ∙ sym e in search rules))
