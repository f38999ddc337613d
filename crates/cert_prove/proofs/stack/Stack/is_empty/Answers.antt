use Rattle.std.proofs.Common.{ap, reverse, ◌∙◌, sym}
use Rattle.cert_prove.proofs.RuleElements.{reversed_empty}
use Rattle.cert_prove.proofs.stack.Stack.is_empty.Goals as goal

pub returns : goal.returns
returns g c = (λ t. sym c.self.view_is ∙ ap reverse (c.is_empty.ensures.0 t), λ e. c.is_empty.ensures.1 (reversed_empty c.self.inside.items (c.self.view_is ∙ e)))
