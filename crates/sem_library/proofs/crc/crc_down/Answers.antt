use Rattle.std.proofs.Common.{◌≡◌, ◌↔◌, Bool, List, length}
use Rattle.sem_bits.specs.Number.{num}
use Rattle.sem_library.specs.Methods.{CrcHolds}
use Rattle.sem_library.proofs.MethodsSpelling.{passed_four, crc_only}
use Rattle.sem_library.proofs.crc.crc_down.Goals as goal

pub returns-in_default : goal.returns-in_default
returns-in_default c = λ r x s.
    let none = rw c.in_default.is at c.register_of.ensures.none in
    passed_four (λ bits poly init len. (y : List Bool) → CrcHolds bits poly init c.args.covered.now len y → ⊥) c.args.bits c.args.polynomial c.args.initial c.args.length
    c.ranges.bits c.ranges.polynomial c.ranges.initial c.ranges.length none x s.1

pub returns : goal.returns
returns c =
    let found = rw c.in-Some.is at c.register_of.ensures.found in
    let fits = rw c.in-Some.is at c.register_of.ensures.fits in
    let sum = c.in-Some.sum in
    let holds = passed_four (λ bits poly init len. (y : List Bool) → CrcHolds bits poly init c.args.covered.now len y ↔ ((length y ≡ sum.bits) × (num y ≡ sum.register))) c.args.bits c.args.polynomial c.args.initial c.args.length
    c.ranges.bits c.ranges.polynomial c.ranges.initial c.ranges.length found in
    crc_only (λ x. CrcHolds c.args.bits c.args.polynomial c.args.initial c.args.covered.now c.args.length x) c.args.u.now sum.bits sum.register c.from_value.result
    (c.is_empty.ensures.0 c.if-not-is_empty.false) fits.0 holds c.from_value.ensures
