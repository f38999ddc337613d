use Rattle.std.proofs.Common.{rules}
use Rattle.text_tree.specs.Reading.{expect}
use Rattle.text_tree.proofs.tokens.Tokens.expect.Goals as goal

pub returns-then-sees : goal.returns-then-sees
unfolding expect
returns-then-sees c = search rules

pub returns-else-sees : goal.returns-else-sees
unfolding expect
returns-else-sees c = search rules
