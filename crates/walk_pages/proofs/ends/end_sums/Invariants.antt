use Rattle.walk_pages.specs.Drafts.{AreEnded}
use Rattle.walk_pages.proofs.ends.end_sums.Given as goal

abbrev pub invariant-loop-i : goal.invariant-loop-i
invariant-loop-i l = AreEnded l.format l.arguments l.header l.fn.fields l.fields
