use Rattle.std.proofs.Common.{refl, sym, ap, subst, [], arith}
use Rattle.std.proofs.lemmas.Option.{slice_get_read}
use Rattle.sem_context.specs.Entries.{bits_at}
use Rattle.sem_elsewhere.specs.Held.{Holding}
use Rattle.sem_elsewhere.specs.Listed.{UsesAre}
use Rattle.walk_engine.specs.Reading.{Fitting}
use Rattle.sem_filling.proofs.Each.{before_end, before_next}
use Rattle.walk_loss.proofs.Unserving.{fits_where_all_serve}
use Rattle.walk_robust.proofs.lacks.lack_of.Goals as goal

pub loop-i-preserved : goal.loop-i-preserved
loop-i-preserved c =
    let a = c.args.accepted.now in
    let f = c.args.filling.now in
    let are = subst (UsesAre a.profile.methods a.profile.top [] [] f) (sym c.as_slice.ensures) c.in_ok-uses.ensures in
    let serve = rw c.in_default.is at c.in_ok-first.ensures.none in
    before_next (λ j h. Fitting a h.context f) c.args.others.now c.loop-i.i c.index-others-i.result
    (slice_get_read c.args.others.now _ c.loop-i.i c.index-others-i.result refl c.loop-i-test.true c.index-others-i.is)
    (subst (λ z. Fitting a z f) (ap (λ (h : Holding). h.context) c.other.view_is)
    ((fits_where_all_serve a c.other.inside.context f (record { context = bits_at c.args.own.now; fits = c.requires }) c.as_slice.result.now are).1 serve))
    c.loop-i.invariant

pub returns-clause-none : goal.returns-clause-none
returns-clause-none c = before_end (λ j h. Fitting c.args.accepted.now h.context c.args.filling.now) c.args.others.now c.loop-i.i (let past = c.loop-i-test.false in omega (arith, past)) c.loop-i.invariant
