use Rattle.std.proofs.Common.{subst, sym, length, ◌≤◌}
use Rattle.walk_line.specs.Lines.{Contexts, flow_limit}
use Rattle.walk_line.proofs.PagesKept.{none_kept}
use Rattle.walk_line.proofs.LinesSends.{few_entries}
use Rattle.walk_line.proofs.sender.Sender.new.Goals as goal

pub invariant_of-result : goal.invariant_of-result
invariant_of-result c = (
  subst (λ (s : Contexts). length s ≤ flow_limit) (sym c.in_ok-no_contexts.ensures) (few_entries c.args.version),
  none_kept c.args.accepted.now _ _ c.new.ensures.items,
)
