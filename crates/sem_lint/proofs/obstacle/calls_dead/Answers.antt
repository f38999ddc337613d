use Rattle.std.proofs.Common.{◌∙◌, sym, ap}
use Rattle.sem_filling.specs.Fits.{format_at}
use Rattle.sem_profile.specs.Resolved.{Resolved}
use Rattle.sem_lint.proofs.ObstaclesStanding.{call_hinders, no_call}
use Rattle.sem_lint.proofs.obstacle.calls_dead.Goals as goal

pub returns-in-Some-marked_call : goal.returns-in-Some-marked_call
returns-in-Some-marked_call c =
    call_hinders c.args.judged.now c.args.method c.args.format c.in-Some.found.now (ap (λ (q : Resolved). format_at q.methods c.args.method c.args.format) (sym c.profile.ensures) ∙ sym c.in-Some.ensures)
    c.as_slice.result.now c.as_slice.ensures c.lifeless.result.now c.lifeless.ensures.only c.in-Some-marked_call.field c.in-Some-marked_call.ensures

pub returns-in-None : goal.returns-in-None
returns-in-None c =
    no_call c.args.judged.now c.args.method c.args.format c.in-Some.found.now (ap (λ (q : Resolved). format_at q.methods c.args.method c.args.format) (sym c.profile.ensures) ∙ sym c.in-Some.ensures)
    c.as_slice.result.now c.as_slice.ensures c.lifeless.result.now c.lifeless.ensures.all c.in-None.ensures
