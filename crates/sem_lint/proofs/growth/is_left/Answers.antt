use Rattle.std.proofs.Common.{refl, sym}
use Rattle.sem_lint.proofs.EntriesListed.{left_unlisted}
use Rattle.sem_lint.proofs.growth.is_left.Goals as goal

pub returns-in_default : goal.returns-in_default
returns-in_default c =
    left_unlisted c.args.ground.now c.args.known.now c.args.path.now c.args.name.now c.args.entry.now c.requires.listed c.requires.entry (sym (rw c.in_default.is at c.get.ensures.value))

pub returns-then-is_source : goal.returns-then-is_source
returns-then-is_source c = (λ e. rw c.as_slice-flags.ensures at (c.is_source.ensures c.if-is_source.true), λ left. refl)

pub returns : goal.returns
returns c = rw c.as_slice-flags.ensures at c.is_left_somewhere.ensures
