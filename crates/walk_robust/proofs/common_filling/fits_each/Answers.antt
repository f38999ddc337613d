use Rattle.std.proofs.Common.{◌∙◌, refl, sym, ap, subst, [], arith}
use Rattle.std.proofs.lemmas.Bool.{eqb-true}
use Rattle.std.proofs.lemmas.Option.{slice_get_read}
use Rattle.sem_elsewhere.specs.Held.{Holding}
use Rattle.sem_elsewhere.specs.Listed.{UsesAre}
use Rattle.walk_engine.specs.Reading.{Fitting}
use Rattle.sem_filling.proofs.Each.{before_next}
use Rattle.walk_loss.proofs.Unserving.{fits_where_all_serve}
use Rattle.walk_robust.proofs.Searches.{anywhere, fits_alone, fits_in_all}
use Rattle.walk_robust.proofs.common_filling.fits_each.Goals as goal

pub returns-then-is_empty : goal.returns-then-is_empty
returns-then-is_empty c = (
  (λ t. fits_alone c.args.accepted.now c.args.own.now c.args.others.now c.args.filling.now (eqb-true _ 0 (sym c.is_empty.ensures ∙ c.if-is_empty.true)) c.requires),
  (λ all. refl),
)

pub returns-then-not-branch : goal.returns-then-not-branch
returns-then-not-branch c = (
  (λ t. absurd (cc t)),
  (λ all.
      let a = c.args.accepted.now in
      let f = c.args.filling.now in
      let are = subst (UsesAre a.profile.methods a.profile.top [] [] f) (sym c.as_slice.ensures) c.in_ok-uses.ensures in
      let serve = (fits_where_all_serve a c.args.own.now f (anywhere a c.args.own.now c.args.others.now f c.requires) c.as_slice.result.now are).0 all.0 in
      let t = c.in_ok-all_serve.ensures.1 serve in
      absurd (cc (t, c.if-not-branch.true))),
)

pub returns-then-not-branch-2 : goal.returns-then-not-branch-2
returns-then-not-branch-2 c = (
  (λ t. absurd (cc t)),
  (λ all.
      let a = c.args.accepted.now in
      let f = c.args.filling.now in
      let fit = all.1 c.loop-i.i c.index-others-i.result (slice_get_read c.args.others.now _ c.loop-i.i c.index-others-i.result refl (let l = c.loop-i-test.true in omega (arith, l)) c.index-others-i.is) in
      let are = subst (UsesAre a.profile.methods a.profile.top [] [] f) (sym c.as_slice-in-loop-i.ensures) c.in_ok-uses.ensures in
      let serve = (fits_where_all_serve a c.other.inside.context f (anywhere a c.args.own.now c.args.others.now f c.requires) c.as_slice-in-loop-i.result.now are).0
      (subst (λ z. Fitting a z f) (sym (ap (λ (h : Holding). h.context) c.other.view_is)) fit) in
      let t = c.in_ok-all_serve-2.ensures.1 serve in
      absurd (cc (t, c.if-not-branch-2.true))),
)

pub loop-i-preserved : goal.loop-i-preserved
loop-i-preserved c =
    let a = c.args.accepted.now in
    let f = c.args.filling.now in
    let are = subst (UsesAre a.profile.methods a.profile.top [] [] f) (sym c.as_slice-in-loop-i.ensures) c.in_ok-uses.ensures in
    before_next (λ j h. Fitting a h.context f) c.args.others.now c.loop-i.i c.index-others-i.result
    (slice_get_read c.args.others.now _ c.loop-i.i c.index-others-i.result refl (let l = c.loop-i-test.true in omega (arith, l)) c.index-others-i.is)
    (subst (λ z. Fitting a z f) (ap (λ (h : Holding). h.context) c.other.view_is)
    ((fits_where_all_serve a c.other.inside.context f (anywhere a c.args.own.now c.args.others.now f c.requires) c.as_slice-in-loop-i.result.now are).1 (c.in_ok-all_serve-2.ensures.0 c.if-not-branch-2.false)))
    c.loop-i.invariant

pub returns : goal.returns
returns c = (
  (λ t.
      let a = c.args.accepted.now in
      let f = c.args.filling.now in
      let are = subst (UsesAre a.profile.methods a.profile.top [] [] f) (sym c.as_slice.ensures) c.in_ok-uses.ensures in
      let own_fits = (fits_where_all_serve a c.args.own.now f (anywhere a c.args.own.now c.args.others.now f c.requires) c.as_slice.result.now are).1 (c.in_ok-all_serve.ensures.0 c.if-not-branch.false) in
      fits_in_all a c.args.own.now c.args.others.now f c.requires own_fits (λ j x l at. c.loop-i.invariant j x (let past = c.loop-i-test.false in omega (arith, l, past)) at)),
  (λ all. refl),
)
