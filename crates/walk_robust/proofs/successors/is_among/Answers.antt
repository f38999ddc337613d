use Rattle.std.proofs.Common.{refl, sym, ap, subst, arith}
use Rattle.std.proofs.lemmas.Option.{slice_get_read}
use Rattle.sem_context.specs.Placing.{shown}
use Rattle.sem_elsewhere.specs.Held.{Holding}
use Rattle.sem_filling.proofs.Each.{before_end, before_next}
use Rattle.walk_robust.specs.Sending.{SameOutside}
use Rattle.walk_robust.proofs.successors.is_among.Goals as goal

pub loop-i-preserved : goal.loop-i-preserved
loop-i-preserved c =
    let left = shown c.args.left.now in
    before_next (λ j g. SameOutside left g.context c.args.context.now → ⊥) c.args.found.now c.loop-i.i c.index-found-i.result
    (slice_get_read c.args.found.now _ c.loop-i.i c.index-found-i.result refl c.loop-i-test.true c.index-found-i.is)
    (λ same. let t = c.is_same_outside.ensures.1 (subst (λ z. SameOutside left z c.args.context.now) (sym (ap (λ (h : Holding). h.context) c.one.view_is)) same) in absurd (cc (c.if-is_same_outside.false, t)))
    c.loop-i.invariant

pub returns : goal.returns
returns c = (
  (λ t. absurd (cc t)),
  (λ among.
      absurd (before_end (λ j g. SameOutside (shown c.args.left.now) g.context c.args.context.now → ⊥) c.args.found.now c.loop-i.i (omega (arith, c.loop-i-test.false)) c.loop-i.invariant among.place among.one among.at among.same)),
)
