use Rattle.std.proofs.Common.{rules}
use Rattle.std.proofs.lemmas.Str.{chars_from_encodes}
use Rattle.tool_input.proofs.bundle.is_long.Goals as goal

pub returns : goal.returns
returns c = search (rules, chars_from_encodes)
