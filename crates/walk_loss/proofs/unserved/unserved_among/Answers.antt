use Rattle.std.proofs.Common.{◌+◌, refl, sym, subst, take, [], arith}
use Rattle.std.proofs.lemmas.Option.{slice_get_read}
use Rattle.sem_context.specs.Entries.{bits_at}
use Rattle.walk_loss.specs.Unserved.{AreUnserved, none_used}
use Rattle.walk_loss.proofs.Unserving.{all_looked_at, one_fails, one_serves}
use Rattle.walk_loss.proofs.unserved.unserved_among.Goals as goal

pub loop-i-init : goal.loop-i-init
loop-i-init c = subst (AreUnserved (bits_at c.args.context.now) []) (sym c.new-found.ensures) none_used

pub loop-i-preserved-then-branch : goal.loop-i-preserved-then-branch
loop-i-preserved-then-branch c =
    one_serves (bits_at c.args.context.now) c.args.uses.now c.loop-i.i c.index-uses-i.result c.loop-i.found
    (slice_get_read c.args.uses.now _ c.loop-i.i c.index-uses-i.result refl c.loop-i-test.true c.index-uses-i.is) c.loop-i.invariant
    (c.in_ok-serves_in.ensures.0 c.if-branch.true)

pub loop-i-preserved : goal.loop-i-preserved
loop-i-preserved c =
    subst (AreUnserved (bits_at c.args.context.now) (take (c.loop-i.i + 1) c.args.uses.now)) (sym c.in_ok-push.ensures.ok)
    (one_fails (bits_at c.args.context.now) c.args.uses.now c.loop-i.i c.index-uses-i.result c.loop-i.found c.in_ok-line.line
    (slice_get_read c.args.uses.now _ c.loop-i.i c.index-uses-i.result refl c.loop-i-test.true c.index-uses-i.is) c.loop-i.invariant
    (λ served. let t = c.in_ok-serves_in.ensures.1 served in absurd (cc (t, c.if-branch.false))) c.in_ok-line.ensures)

pub returns : goal.returns
returns c = all_looked_at (bits_at c.args.context.now) c.args.uses.now c.loop-i.i c.loop-i.found (omega (arith, c.loop-i-test.false)) c.loop-i.invariant
