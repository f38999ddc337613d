use Rattle.sem_lint.proofs.growth.grow.Goals as goal

pub returns-clause-grown : goal.returns-clause-grown
returns-clause-grown c = record { begun = c.loop-changes.invariant.0; done = c.loop-changes.invariant.1 c.loop-changes-test.false }
