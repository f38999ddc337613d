use Rattle.std.specs.Prelude.{string_bytes}
use Rattle.tool_items.specs.Avoided.{count_line}
use Rattle.tool_items.proofs.AvoidedBlocks.{BlocksSoFar}
use Rattle.tool_items.proofs.avoided.avoided_text.Given as goal

-- the blocks so far, after the head
abbrev pub invariant-loop-place : goal.invariant-loop-place
invariant-loop-place l = BlocksSoFar l.octets l.profile l.items l.verdicts.kept (count_line l.name l.verdicts) (string_bytes l.text)
