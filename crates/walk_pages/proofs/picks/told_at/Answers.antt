use Rattle.std.proofs.Common.{◌≡◌, rules}
use Rattle.std.specs.Prelude.{slice_get, Some}
use Rattle.walk_pages.proofs.Telling.{told_by}
use Rattle.walk_pages.proofs.picks.told_at.Goals as goal

pub returns : goal.returns
returns c = λ format there.
    let all = c.compiled.result.now.plan_acts in
    let plans : slice_get all c.args.method ≡ Some c.in_ok-plans.plans.now = (search rules) in
    let plan : slice_get c.in_ok-plans.plans.now c.args.index ≡ Some c.in_ok-plan.plan.now = (search rules) in
    told_by c.args.accepted.now.profile.methods c.args.accepted.now.profile.sizes all c.args.method c.args.index c.in_ok-plans.plans.now c.in_ok-plan.plan.now c.in-Some.prepared format c.compiled.ensures.plans plans plan c.in-Some.is there
