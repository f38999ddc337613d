use Rattle.std.proofs.Common.{◌≡◌, drop}
use Rattle.std.specs.Prelude.{find}
use Rattle.walk_loss.specs.Journal.{first_case, is_case}
use Rattle.walk_loss.proofs.journal.case_of.Given as goal

-- the first of those that are left is the first of all
abbrev pub invariant-loop-case : goal.invariant-loop-case
invariant-loop-case l = find (is_case l.lost l.kind) (drop l.case-index l.cases) ≡ first_case l.lost l.kind l.cases
