use Rattle.sem_bits.proofs.OctetsHeld.{bits_same, octets_same}
use Rattle.sem_bits.proofs.laws.octets_hold_one.Goals as goal

pub returns : goal.returns
returns c = record { bits = bits_same; octets = octets_same }
