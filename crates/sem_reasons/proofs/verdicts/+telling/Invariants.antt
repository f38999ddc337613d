use Rattle.std.proofs.Common.{◌≡◌, ◌+◌, ◌*◌, ◌<◌, ℕ}
use Rattle.std.specs.Prelude.{Some, slice_get}
use Rattle.sem_reasons.specs.Conflicts.{IsClearAt}
use Rattle.sem_reasons.specs.Settings.{setting_of}
use Rattle.sem_reasons.proofs.ReasonsMaking.{AllSoFar}
use Rattle.sem_reasons.proofs.verdicts.+telling.Given as goal

abbrev pub decreases-told_by_call : goal.decreases-told_by_call
decreases-told_by_call l = 7 * l.left + 7

abbrev pub decreases-all_told : goal.decreases-all_told
decreases-all_told l = 7 * l.left + 6

abbrev pub decreases-told : goal.decreases-told
decreases-told l = 7 * l.left + 5

abbrev pub decreases-told_by : goal.decreases-told_by
decreases-told_by l = 7 * l.left + 4

abbrev pub decreases-told_by_fields : goal.decreases-told_by_fields
decreases-told_by_fields l = 7 * l.left + 3

abbrev pub decreases-told_by_field : goal.decreases-told_by_field
decreases-told_by_field l = 7 * l.left + 2

abbrev pub decreases-told_by_encoding : goal.decreases-told_by_encoding
decreases-told_by_encoding l = 7 * l.left + 1

abbrev pub invariant-all_told-loop-format : goal.invariant-all_told-loop-format
invariant-all_told-loop-format l = AllSoFar (setting_of l.question) l.depth l.format l.lines

-- those of the order so far
abbrev pub invariant-told_by_fields-loop-next : goal.invariant-told_by_fields-loop-next
invariant-told_by_fields-loop-next l = (j i : ℕ) → j < l.next-index → slice_get l.sighted.look.order.now j ≡ Some i → IsClearAt l.sighted i

abbrev pub invariant-told_by_fields-loop-index : goal.invariant-told_by_fields-loop-index
invariant-told_by_fields-loop-index l = (i : ℕ) → i < l.index-counter → IsClearAt l.sighted i
