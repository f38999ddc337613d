use Rattle.sem_lint.proofs.PathsLeading.{known_stays, unknown_added}
use Rattle.sem_lint.proofs.paths.add_unknown.Goals as goal

pub returns-then-branch : goal.returns-then-branch
returns-then-branch c = known_stays _ _ _ _ (rw c.as_bytes.ensures.value at (c.in_ok-leads_to_field.ensures.0 c.if-branch.true))

pub returns : goal.returns
returns c = unknown_added _ _ _ _ _ _ (rw c.as_bytes.ensures.value at c.in_ok-leads_to_field.ensures) c.if-branch.false c.in_ok-push_path.ensures
