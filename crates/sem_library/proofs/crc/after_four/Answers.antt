use Rattle.sem_library.proofs.CrcRegisters.{looked_up}
use Rattle.sem_library.proofs.crc.after_four.Goals as goal

pub returns : goal.returns
returns c = λ poly is. looked_up poly c.args.table.now c.args.mixed is
