use Rattle.std.proofs.Common.{◌+◌, refl, sym, ap, subst, arith}
use Rattle.std.proofs.lemmas.Option.{slice_get_read}
use Rattle.sem_filling.specs.Entries.{next}
use Rattle.sem_elsewhere.specs.Held.{Holding}
use Rattle.walk_robust.proofs.Comings.{ComeTo, come_all, known_step, new_step}
use Rattle.walk_robust.proofs.successors.others_of.Goals as goal

pub loop-i-preserved-then-is_known : goal.loop-i-preserved-then-is_known
loop-i-preserved-then-is_known c =
    known_step (next c.args.own.now c.args.filling.now) c.args.held.now c.args.filling.now c.loop-i.i c.loop-i.found.items c.index-held-i.result
    (slice_get_read c.args.held.now _ c.loop-i.i c.index-held-i.result refl c.loop-i-test.true c.index-held-i.is) c.loop-i.invariant
    _ _ _ c.requires c.as_slice.ensures.value (ap (λ (h : Holding). h.context) c.one.view_is)
    c.args.own.now refl (c.is_known.ensures.0 c.if-is_known.true)

pub loop-i-preserved : goal.loop-i-preserved
loop-i-preserved c =
    subst (ComeTo (next c.args.own.now c.args.filling.now) c.args.held.now c.args.filling.now (c.loop-i.i + 1)) (sym c.in_ok-push.ensures.items)
    (new_step (next c.args.own.now c.args.filling.now) c.args.held.now c.args.filling.now c.loop-i.i c.loop-i.found.items c.index-held-i.result
    (slice_get_read c.args.held.now _ c.loop-i.i c.index-held-i.result refl c.loop-i-test.true c.index-held-i.is) c.loop-i.invariant
    _ _ _ c.requires c.as_slice.ensures.value (ap (λ (h : Holding). h.context) c.one.view_is)
    c.args.own.now refl _ c.in_ok-context.ensures (λ known. let t = c.is_known.ensures.1 known in absurd (cc (c.if-is_known.false, t))))

pub returns : goal.returns
returns c = come_all (next c.args.own.now c.args.filling.now) c.args.held.now c.args.filling.now c.loop-i.i c.loop-i.found.items (omega (arith, c.loop-i-test.false)) c.loop-i.invariant
