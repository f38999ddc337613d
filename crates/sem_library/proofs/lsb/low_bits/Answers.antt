use Rattle.std.proofs.Common.{◌%◌, ◌^◌}
use Rattle.sem_library.specs.Methods.{IsLowPart}
use Rattle.sem_library.proofs.MethodsSpelling.{from_passed, spelled_only_ok, low_part_spelled, low_part_spells}
use Rattle.sem_library.proofs.lsb.low_bits.Goals as goal

pub returns : goal.returns
returns c =
    let len = from_passed c.args.count c.in-Ok.len c.ranges.count c.in-Ok.ensures in
    spelled_only_ok (IsLowPart c.args.count c.args.value) c.in-Ok.len (c.args.value % 2 ^ c.in-Ok.len) c.from_value.result
    (λ x s. rw len (low_part_spelled c.in-Ok.len c.args.value x s)) (λ x s. low_part_spells c.in-Ok.len c.args.value x (rw (← len) s))
    (rw (← c.low_part.ensures) c.from_value.ensures)
