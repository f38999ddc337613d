use Rattle.std.proofs.Common.{◌∙◌, ap}
use Rattle.sem_library.specs.Crc.{four_steps}
use Rattle.sem_library.proofs.CrcRegisters.{octet_mixed}
use Rattle.sem_library.proofs.crc.after_octet.Goals as goal

pub returns : goal.returns
returns c = λ poly is.
    c.after_four-2.ensures poly is ∙ ap (four_steps poly) (c.after_four.ensures poly is) ∙ octet_mixed poly c.args.before c.args.octet c.from.result c.from.ensures c.ranges.octet.fits
