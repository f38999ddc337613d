use Rattle.std.proofs.Common.{◌^◌, ◌∙◌, arith}
use Rattle.std.specs.Prelude.{pos, ◌-ℤ◌}
use Rattle.std.specs.Int.{int_rem_euclid}
use Rattle.std.specs.Int.RustNames.{unsigned_abs}
use Rattle.sem_library.proofs.MethodsSpelling.{num_small}
use Rattle.sem_library.proofs.LsbStarts.{start_is}
use Rattle.sem_library.proofs.lsb.interval_start.Goals as goal

pub returns : goal.returns
returns c = (
  c.in-Some.ensures.0,
  start_is c.rem_euclid.result c.rem_euclid-2.result c.args.offset c.from.result c.in-Some.last c.len.result c.ranges.offset (record { sfits = c.rem_euclid-2.type_inv }) c.from.ensures
      (rw c.in-Some.ensures.1 (num_small c.args.reference.now c.in-Some.ensures.0)) (omega (arith, c.in-Some.ensures.0)) c.rem_euclid.ensures.value c.rem_euclid-2.ensures.value
      ∙ (λ i. unsigned_abs (int_rem_euclid (pos (c.in-Some.ensures.1 i) -ℤ c.args.offset) (pos (2 ^ c.len.ensures.value i)))),
)
