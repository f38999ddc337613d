use Rattle.std.proofs.Common.{◌∙◌, sym}
use Rattle.text_resolve.proofs.RecursionReturns.{none_back}
use Rattle.text_resolve.proofs.recursion.first_back.Goals as goal

pub returns-then-not-is_any_back : goal.returns-then-not-is_any_back
returns-then-not-is_any_back c =
    none_back c.args.table.now c.args.text.now c.args.methods.now c.args.parts.now c.args.graph.now c.requires.graph (sym c.is_any_back.ensures ∙ c.if-not-is_any_back.true)
