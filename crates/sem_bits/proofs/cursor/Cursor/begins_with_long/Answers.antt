use Rattle.std.proofs.Common.{arith}
use Rattle.sem_bits.proofs.NumberNexts.{looks_agree, looks_differ}
use Rattle.sem_bits.proofs.cursor.Cursor.begins_with_long.Goals as goal

pub returns-then-ne : goal.returns-then-ne
returns-then-ne c = (
  λ t. absurd (cc),
  λ same. absurd (looks_differ c.args.self.now.left c.args.bits.now c.len-in-loop-done.result c.loop-done.done c.min-count.result c.peek.result c.peek-in-loop-done.result
      c.len-in-loop-done.ensures.value c.min-count.ensures (omega (arith, c.loop-done.invariant.0, c.len-in-loop-done.ensures.value))
      (omega (arith, c.requires, c.len-in-loop-done.ensures.value)) c.peek.ensures
      (rw c.loop-done.invariant.2 at c.peek-in-loop-done.ensures) c.if-ne.ensures same),
)

pub loop-done-preserved : goal.loop-done-preserved
loop-done-preserved c =
    let next = looks_agree c.args.self.now.left c.args.bits.now c.len-in-loop-done.result c.loop-done.done c.min-count.result c.peek.result c.peek-in-loop-done.result
    c.len-in-loop-done.ensures.value c.min-count.ensures (omega (arith, c.loop-done.invariant.0, c.len-in-loop-done.ensures.value))
    (omega (arith, c.requires, c.len-in-loop-done.ensures.value)) c.peek.ensures
    (rw c.loop-done.invariant.2 at c.peek-in-loop-done.ensures) c.if-ne.ensures c.loop-done.invariant.1 in
    (next.0, next.1, c.loop-done.invariant.2)
