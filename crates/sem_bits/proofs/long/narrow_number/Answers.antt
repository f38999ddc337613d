use Rattle.std.proofs.Common.{◌∙◌, ◌+◌, ◌*◌, arith}
use Rattle.sem_bits.specs.Octets.{bits_of}
use Rattle.sem_bits.proofs.Octets.{length-bits_of}
use Rattle.sem_bits.proofs.NumberWindows.{number_narrow}
use Rattle.sem_bits.proofs.long.narrow_number.Goals as goal

pub returns : goal.returns
returns c = rw c.from.ensures
    (number_narrow (bits_of c.args.octets.now) c.args.place c.args.count c.octet_at.result c.requires.most (omega (arith, c.requires.within, length-bits_of c.args.octets.now)) (omega arith) c.octet_at.ensures)
