use Rattle.std.proofs.Common.{rules}
use Rattle.tool_input.proofs.InputLines.{digits_found}
use Rattle.tool_input.proofs.inputs.read_digits.Goals as goal

pub returns : goal.returns
returns c = digits_found c.from_octets.result c.args.digits.now _ _ c.args.count c.decode_to_slice.result c.decode_to_slice.ensures.value (search rules) c.from_octets.ensures.found
