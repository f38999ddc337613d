use Rattle.sem_lint.proofs.PathsLeading.{noted_end, noted_next}
use Rattle.sem_lint.proofs.paths.unknown_paths.Goals as goal

pub loop-path-preserved : goal.loop-path-preserved
loop-path-preserved c =
    noted_next c.args.profile.now _ _ c.args.given.now c.loop-path.path-index _ _ _ c.methods.ensures c.top.ensures c.loop-path-test.true c.in_ok-add_unknown.ensures c.loop-path.invariant

pub returns : goal.returns
returns c = noted_end c.args.profile.now c.args.given.now c.loop-path.path-index _ c.loop-path-test.false c.loop-path.invariant
