use Rattle.std.proofs.Common.{Err, ap}
use Rattle.std.proofs.lemmas.Result.{err_from_is_err_and}
use Rattle.sem_filling.proofs.FillingsPacked.{fails_above, packed_more, packed_past, packed_room}
use Rattle.sem_filling.proofs.filling.Filling.packed.Goals.{in-Some+in_ok-append, in_default}
use Rattle.sem_filling.proofs.filling.Filling.packed.Goals as goal

pub returns-in_err-append : goal.returns-in_err-append
returns-in_err-append c =
    let p = err_from_is_err_and c.from_residual.result c.from_residual.ensures.1 in
    rw (p.1, p.2) (fails_above c.in_err-append.field-0.0 _ _ (λ q. c.in_err-append.ensures.full.0 (ap Err q))
    (packed_room _ _ _ _ _ _ c.loop-i-test.true c.in-Some.ensures.value c.loop-i.invariant))

pub loop-i-preserved : goal.loop-i-preserved
loop-i-preserved c = elim c.match-get.branch [
  | in-Some+in_ok-append w ↦ rw (w.packed-is, w.in_ok-append.ensures.ok) (packed_more _ _ _ _ _ _ c.loop-i-test.true w.in-Some.ensures.value c.loop-i.invariant)
  | in_default w ↦ rw w.packed-is (packed_past _ _ _ _ _ c.loop-i-test.true w.in_default.ensures.value c.loop-i.invariant)
]
