use Rattle.std.proofs.Common.{Bool, List}
use Rattle.sem_library.specs.Methods.{CrcHolds}
use Rattle.sem_library.proofs.MethodsSpelling.{passed_four}
use Rattle.sem_library.proofs.crc.crc_up.Goals as goal

pub returns-in_default : goal.returns-in_default
returns-in_default c = λ r x s.
    let none = rw c.in_default.is at c.register_of.ensures.none in
    passed_four (λ bits poly init len. (y : List Bool) → CrcHolds bits poly init c.args.covered.now len y → ⊥) c.args.bits c.args.polynomial c.args.initial c.args.length
    c.ranges.bits c.ranges.polynomial c.ranges.initial c.ranges.length none c.args.c.now s.1
