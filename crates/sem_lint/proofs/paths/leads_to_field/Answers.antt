use Rattle.sem_lint.proofs.PathsLeading.{follows_on, follows_end}
use Rattle.sem_lint.proofs.paths.leads_to_field.Goals as goal

pub loop-place-preserved : goal.loop-place-preserved
loop-place-preserved c =
    follows_on c.args.methods.now c.args.top c.args.path.now c.loop-place.reached c.in_ok-reached.reached c.loop-place.rest.now _ _ c.loop-place.place _ c.requires c.loop-place.invariant c.loop-place-test.true c.before-in-loop-place.ensures c.behind-rest.ensures
    (rw c.as_slice.ensures at c.in_ok-reached.ensures) c.first_dot-place-in-loop-place.ensures.within c.first_dot-place-in-loop-place.ensures.front c.first_dot-place-in-loop-place.ensures.dot

pub returns : goal.returns
returns c = follows_end c.args.methods.now c.args.top c.args.path.now c.loop-place.reached c.loop-place.rest.now c.loop-place.place _ c.requires c.loop-place.invariant c.loop-place-test.false (rw c.as_slice-2.ensures at c.any_keeps.ensures)
