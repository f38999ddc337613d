use Rattle.std.proofs.Common.{◌≡◌, ◌∙◌, arith, sym, ap, rules}
use Rattle.std.specs.Prelude.{decimal}
use Rattle.std.proofs.lemmas.Fmt.{parse-decimal}
use Rattle.tool_json.proofs.MessagesCut.{number_some, number_none}
use Rattle.tool_json.proofs.message.number_of.Goals as goal

pub returns-in_default : goal.returns-in_default
returns-in_default c = sym (number_none c.args.text.now (λ n l e. absurd (cc (parse-decimal 64 n _ _ (omega arith) (omega arith) e c.parse.ensures.value.0))))

pub returns-then-eq : goal.returns-then-eq
returns-then-eq c =
    let text : c.format.result.now ≡ c.args.text.now = search rules in
    sym (number_some c.in-Ok.number c.args.text.now (omega arith) (sym c.format.ensures.text ∙ text))

pub returns-else-eq : goal.returns-else-eq
returns-else-eq c = sym (number_none c.args.text.now (λ n l e.
    let read = parse-decimal 64 n _ _ (omega arith) (omega arith) e c.parse.ensures.value.0 in
    let same : n ≡ c.in-Ok.number = cc read in
    let text : c.format.result.now ≡ c.args.text.now = c.format.ensures.text ∙ ap decimal (sym same) ∙ sym e in search rules))
