use Rattle.std.proofs.Common.{◌≡◌, ◌*◌, ◌-◌, ◌/◌, length, drop}
use Rattle.std.specs.Prelude.{fold}
use Rattle.sem_library.specs.Crc.{crc_step, crc_register, low_bits_first}
use Rattle.sem_library.proofs.crc.crc_of.Given as goal

abbrev pub invariant-loop-place : goal.invariant-loop-place
invariant-loop-place l = fold (crc_step l.polynomial) l.register (low_bits_first (length l.covered / 8 - l.place) (drop (8 * l.place) l.covered)) ≡ crc_register l.polynomial l.initial.register l.covered
