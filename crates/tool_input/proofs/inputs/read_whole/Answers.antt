use Rattle.std.proofs.Common.{Some, arith, rules}
use Rattle.std.proofs.lemmas.Str.Pattern.{split_parts}
use Rattle.tool_input.proofs.InputLines.{whole_found}
use Rattle.tool_input.proofs.inputs.read_whole.Goals as goal

pub returns : goal.returns
returns c =
    let parts = split_parts 58 c.args.text.now (Some (c.in-Some.front, c.in-Some.digits)) c.in-Some.ensures.cases (omega arith) in
    whole_found c.read_digits.result c.args.text.now c.in-Some.front.now c.in-Some.digits.now _ parts.0 (search rules) (omega (arith, c.if-many-gt64.false)) c.read_digits.ensures
