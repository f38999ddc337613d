use Rattle.walk_loss.specs.Journal.{AddsFirst}
use Rattle.walk_loss.proofs.journal.judge.Given as goal

-- what the first so many receivers add
abbrev pub invariant-loop-lost : goal.invariant-loop-lost
invariant-loop-lost l = AddsFirst l.accepted l.held l.number l.item l.sent l.lost l.fn.journal l.journal
