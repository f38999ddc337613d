use Rattle.std.proofs.Common.{◌≡◌, ◌∙◌, refl, ap, ◌+◌, ◌*◌, ◌-◌, ◌<◌, Some, None, arith, rules}
use Rattle.std.specs.Prelude.{slice_get}
use Rattle.std.proofs.lemmas.Option.{slice_get_read, slice_get_past}
use Rattle.walk_frames.proofs.Fronting.{begun_one, begun_two, begun_long, long_stands, over_stands, short_begun, short_stands}
use Rattle.walk_frames.proofs.front.packet_of.Goals as goal

pub returns-in_default : goal.returns-in_default
returns-in_default c =
    begun_one c.args.octets.now c.requires.first.0 c.args.flow c.requires.flow c.requires.first.1 (slice_get_past c.args.octets.now 1 c.in_default.ensures.lookup.3)

pub returns-then-to-octets : goal.returns-then-to-octets
returns-then-to-octets c = (
  omega arith,
  c.if-to-octets.true,
  short_stands c.args.octets.now c.requires.first.0 c.args.flow c.in-Some.second.now (2 + c.from-to.result) c.requires.flow c.requires.first.1
      (slice_get_read c.args.octets.now _ 1 c.in-Some.second.now refl c.in-Some.ensures.lookup.3.0 c.in-Some.ensures.lookup.1) c.if-high-lt128.true (ap (λ n. 2 + n) c.from-to.ensures) c.if-to-octets.true,
)

pub returns-else-to-octets : goal.returns-else-to-octets
returns-else-to-octets c =
    short_begun c.args.octets.now c.requires.first.0 c.args.flow c.in-Some.second.now (2 + c.from-to.result) c.requires.flow c.requires.first.1
    (slice_get_read c.args.octets.now _ 1 c.in-Some.second.now refl c.in-Some.ensures.lookup.3.0 c.in-Some.ensures.lookup.1) c.if-high-lt128.true (ap (λ n. 2 + n) c.from-to.ensures) c.if-to-octets.false

pub returns-in_default-get : goal.returns-in_default-get
returns-in_default-get c =
    begun_two c.args.octets.now c.requires.first.0 c.args.flow c.in-Some.second.now c.requires.flow c.requires.first.1
    (slice_get_read c.args.octets.now _ 1 c.in-Some.second.now refl c.in-Some.ensures.lookup.3.0 c.in-Some.ensures.lookup.1) c.if-high-lt128.false (search rules)
    (slice_get_past c.args.octets.now 2 c.in_default-get.ensures.lookup.3)

pub returns-then-count-octets : goal.returns-then-count-octets
returns-then-count-octets c =
    begun_long c.args.octets.now c.requires.first.0 c.args.flow c.in-Some.second.now c.in-Some-get.third.now (c.from.result * 256 + c.from-2.result) c.requires.flow c.requires.first.1
    (slice_get_read c.args.octets.now _ 1 c.in-Some.second.now refl c.in-Some.ensures.lookup.3.0 c.in-Some.ensures.lookup.1) c.if-high-lt128.false (search rules)
    (slice_get_read c.args.octets.now _ 2 c.in-Some-get.third.now refl c.in-Some-get.ensures.lookup.3.0 c.in-Some-get.ensures.lookup.1) (search rules)
    (λ i. c.from.ensures i * 256 + c.from-2.ensures i) c.if-count-octets.true

pub returns-then-count-lt128 : goal.returns-then-count-lt128
returns-then-count-lt128 c = (
  omega arith,
  c.if-count-octets.false,
  over_stands c.args.octets.now c.requires.first.0 c.args.flow c.in-Some.second.now c.in-Some-get.third.now (c.from.result * 256 + c.from-2.result) c.requires.flow c.requires.first.1
      (slice_get_read c.args.octets.now _ 1 c.in-Some.second.now refl c.in-Some.ensures.lookup.3.0 c.in-Some.ensures.lookup.1) c.if-high-lt128.false (search rules)
      (slice_get_read c.args.octets.now _ 2 c.in-Some-get.third.now refl c.in-Some-get.ensures.lookup.3.0 c.in-Some-get.ensures.lookup.1) (search rules)
      (λ i. c.from.ensures i * 256 + c.from-2.ensures i) c.if-count-octets.false c.if-count-lt128.true,
)

pub returns-else-count-lt128 : goal.returns-else-count-lt128
returns-else-count-lt128 c = (
  omega arith,
  c.if-count-octets.false,
  long_stands c.args.octets.now c.requires.first.0 c.args.flow c.in-Some.second.now c.in-Some-get.third.now (c.from.result * 256 + c.from-2.result) c.requires.flow c.requires.first.1
      (slice_get_read c.args.octets.now _ 1 c.in-Some.second.now refl c.in-Some.ensures.lookup.3.0 c.in-Some.ensures.lookup.1) c.if-high-lt128.false (search rules)
      (slice_get_read c.args.octets.now _ 2 c.in-Some-get.third.now refl c.in-Some-get.ensures.lookup.3.0 c.in-Some-get.ensures.lookup.1) (search rules)
      (λ i. c.from.ensures i * 256 + c.from-2.ensures i) c.if-count-octets.false c.if-count-lt128.false,
)
