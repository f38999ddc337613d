use Rattle.sem_library.proofs.CrcRegisters.{table_is}
use Rattle.sem_library.proofs.crc.table_of.Goals as goal

pub returns : goal.returns
returns c = table_is c.args.polynomial c.after_bit-four.result c.after_bit-two.result c.after_bit-one.result c.after_bit-four.ensures c.after_bit-two.ensures c.after_bit-one.ensures
