-- The few numbers and ranges of the tests: the numbers lie in the ranges.
use Rattle.std.proofs.Common.{◌≡◌, ℕ, zero, suc, [], ◌∷◌, pos, Some, None, IfSome}
use Rattle.std.specs.Prelude.{slice_get}
use Rattle.std.specs.Int.Signed.{le_z_yes}
use Rattle.sem_expr.specs.declared.known.Known.{Known}
use Rattle.sem_expr.specs.declared.ranges.Ranges.{Ranges}
use Rattle.sem_expr.specs.declared.expr.Subject.{Subject}
use Rattle.sem_expr.specs.declared.expr.Subject.TheVariants.{Field, This}
use Rattle.sem_expr.specs.declared.expr.Side.{Side}
use Rattle.sem_expr.specs.declared.expr.Side.TheVariants.{Uncompressed, Compressed}
use Rattle.sem_expr.specs.declared.expr.Measure.{Measure}
use Rattle.sem_expr.specs.declared.expr.Measure.TheVariants.{Value, Length}
use Rattle.sem_expr.specs.Known.{assignment_of, no_numbers, subject_numbers, side_numbers, measured}
use Rattle.sem_expr.specs.Bounds.{bounding_of, subject_intervals, side_intervals, interval_of}
use Rattle.sem_expr.specs.Rules.{IsIn, from_to}
use Rattle.sem_expr.specs.Spread.{LieIn}

module _ (k : Known) (r : Ranges) (fields : k.fields ≡ []) (uncompressed : k.whole.uncompressed ≡ record { value = Some (pos 5); length = None })
    (compressed : k.whole.compressed ≡ no_numbers) (parameters : k.parameters ≡ pos 3 ∷ [])
    (value : r.whole.uncompressed.value ≡ from_to (pos 0) (pos 7)) (ranges : r.parameters ≡ from_to (pos 1) (pos 4) ∷ []) where
  at_attribute : (s : Subject) (d : Side) (m : Measure) →
      IfSome (measured (side_numbers (subject_numbers k s) d) m) (IsIn (interval_of (side_intervals (subject_intervals r s) d) m))
  at_attribute (Field i) Uncompressed Value = rw fields tt
  at_attribute (Field i) Uncompressed Length = rw fields tt
  at_attribute (Field i) Compressed Value = rw fields tt
  at_attribute (Field i) Compressed Length = rw fields tt
  at_attribute This Uncompressed Value = rw (uncompressed, value) (record { above = le_z_yes tt; below = le_z_yes tt })
  at_attribute This Uncompressed Length = rw uncompressed tt
  at_attribute This Compressed Value = rw compressed tt
  at_attribute This Compressed Length = rw compressed tt

  at_parameter : (i : ℕ) → IfSome (slice_get k.parameters i) (IsIn ((bounding_of r).parameter i))
  at_parameter zero = rw (parameters, ranges) (record { above = le_z_yes tt; below = le_z_yes tt })
  at_parameter (suc i) = rw parameters tt

  pub few_lie : LieIn (assignment_of k) (bounding_of r)
  few_lie = record { attributes = λ t. at_attribute t.subject t.side t.measure; parameters = at_parameter }
