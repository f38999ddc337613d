use Rattle.std.proofs.Common.{◌≡◌, sym, subst}
use Rattle.std.specs.Prelude.{IfSome}
use Rattle.tool_json.specs.Messages.{told_text}
use Rattle.tool_json.proofs.MessagesWhole.{whole}
use Rattle.tool_json.proofs.message.read_message.Goals as goal

pub returns-in-Some-clause-whole : goal.returns-in-Some-clause-whole
returns-in-Some-clause-whole c = subst (λ o. IfSome o (λ t. told_text t ≡ c.args.line.now)) (sym c.in-Some.ensures) (whole c.args.telling c.args.line.now)
