use Rattle.std.proofs.Common.{refl}
use Rattle.rohcfn_c.specs.Steps.{unpacked}
use Rattle.rohcfn_c.proofs.Refusals.{unpack_refused}
use Rattle.rohcfn_c.proofs.steps.unpack.Goals as goal

pub returns-in-Ok : goal.returns-in-Ok
returns-in-Ok c = unpacked c.in-Ok.taken c.in-Ok.ensures.ok c.counts_of.ensures refl

pub returns-in-Err : goal.returns-in-Err
returns-in-Err c =
    unpack_refused c.args.opened.now c.unpack.new.self c.args.flow c.args.packet.now.octets.now c.args.packet.now.bits c.args.header.now c.unpack.new.header c.args.asked.now c.unpack.new.asked c.args.counts.now c.counts_told.result c.in-Err.refusal
    c.of_unpack.result c.of_unpack.ensures c.in-Err.ensures.fault c.in-Err.ensures.stays.0 c.in-Err.ensures.stays.1 c.in-Err.ensures.stays.2 c.counts_told.ensures
