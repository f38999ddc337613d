use Rattle.std.proofs.Common.{refl, arith}
use Rattle.std.proofs.lemmas.Option.{slice_get_read}
use Rattle.sem_context.specs.Entries.{bits_at}
use Rattle.sem_elsewhere.specs.Uses.{Serves}
use Rattle.sem_filling.proofs.Each.{before_end, before_next}
use Rattle.walk_loss.proofs.unserved.all_serve.Goals as goal

pub loop-i-preserved : goal.loop-i-preserved
loop-i-preserved c =
    before_next (λ j u. Serves (bits_at c.args.context.now) u) c.args.uses.now c.loop-i.i c.index-uses-i.result
    (slice_get_read c.args.uses.now _ c.loop-i.i c.index-uses-i.result refl c.loop-i-test.true c.index-uses-i.is)
    (c.in_ok-serves_in.ensures.0 c.if-not-branch.false) c.loop-i.invariant

pub returns-then-not-branch : goal.returns-then-not-branch
returns-then-not-branch c = (
  (λ t. absurd (cc t)),
  (λ all.
      let served = c.in_ok-serves_in.ensures.1 (all c.index-uses-i.result (c.loop-i.i, slice_get_read c.args.uses.now _ c.loop-i.i c.index-uses-i.result refl c.loop-i-test.true c.index-uses-i.is)) in
      absurd (cc (served, c.if-not-branch.true))),
)

pub returns : goal.returns
returns c = (
  (λ t u among. before_end (λ j u. Serves (bits_at c.args.context.now) u) c.args.uses.now c.loop-i.i (omega (arith, c.loop-i-test.false)) c.loop-i.invariant among.0 u among.1),
  (λ all. refl),
)
