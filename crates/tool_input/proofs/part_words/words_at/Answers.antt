use Rattle.std.proofs.Common.{◌≡◌, map, length, rules}
use Rattle.tool_input.proofs.PartWordsThere.{none_in_other, one_of_text, words_there}
use Rattle.tool_input.proofs.part_words.words_at.Goals as goal

pub returns-in_default-from_utf8 : goal.returns-in_default-from_utf8
returns-in_default-from_utf8 c = words_there c.args.text c.in-Some.octets _ c.in-Some.is (none_in_other c.in-Some.octets.now c.in_default-from_utf8.ensures.cases.0)

pub returns : goal.returns
returns c =
    let one : length c.in_ok-lines.lines.items ≡ 1 = search rules in
    words_there c.args.text c.in-Some.octets _ c.in-Some.is (one_of_text c.in-Some.octets.now c.in-Ok.text.now c.in_ok-lines.lines.items c.in-Ok.ensures.cases.1 c.in-Ok.ensures.cases.0 c.in_ok-lines.ensures (map (λ word. word.now) c.in_ok-pieces.field-0.items) c.index.result.now one c.index.ensures c.in_ok-pieces.ensures)
