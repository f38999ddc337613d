use Rattle.std.proofs.Common.{◌≡◌, drop}
use Rattle.sem_reasons.specs.Places.{begin_of, behind, length_in}
use Rattle.sem_reasons.proofs.places.begin_of.Given as goal

abbrev pub invariant-loop-next : goal.invariant-loop-next
invariant-loop-next l = behind l.offset (begin_of (length_in l.lengths) l.field (drop l.next-index l.order)) ≡ begin_of (length_in l.lengths) l.fn.field l.fn.order
