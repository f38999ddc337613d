use Rattle.std.proofs.Common.{◌≡◌, refl, Some, None, arith}
use Rattle.std.specs.Prelude.{slice_get}
use Rattle.std.proofs.lemmas.Option.{slice_get_read, slice_get_past}
use Rattle.walk_frames.proofs.Fronting.{begun_none, first_is, no_flow, reset_stands}
use Rattle.walk_frames.proofs.front.front_of.Goals as goal

pub returns-in_default : goal.returns-in_default
returns-in_default c = begun_none c.args.octets.now (slice_get_past c.args.octets.now 0 c.in_default.ensures.lookup.3)

pub returns-then-flow-lt-FLOW_LIMIT-2 : goal.returns-then-flow-lt-FLOW_LIMIT-2
returns-then-flow-lt-FLOW_LIMIT-2 c =
    reset_stands c.args.octets.now c.in-Some.first.now (slice_get_read c.args.octets.now _ 0 c.in-Some.first.now refl c.in-Some.ensures.lookup.3.0 c.in-Some.ensures.lookup.1) c.if-flow-ge128.true c.if-flow-lt-FLOW_LIMIT-2.true
