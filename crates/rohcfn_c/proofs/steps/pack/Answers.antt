use Rattle.std.proofs.Common.{refl}
use Rattle.rohcfn_c.specs.Steps.{packed}
use Rattle.rohcfn_c.proofs.Refusals.{pack_refused}
use Rattle.rohcfn_c.proofs.steps.pack.Goals as goal

pub returns-in-Ok : goal.returns-in-Ok
returns-in-Ok c = packed c.in-Ok.ensures.ok refl

pub returns-in-Err : goal.returns-in-Err
returns-in-Err c =
    pack_refused c.args.opened.now c.pack.new.self c.args.flow c.args.item.now.header.now c.args.item.now.header_bits c.args.item.now.asked.now c.args.packed.now c.pack.new.room c.args.packed_bits.now c.bits_of.result c.in-Err.refusal c.of_pack.result
    c.of_pack.ensures c.in-Err.ensures.fault c.in-Err.ensures.stays.0 c.in-Err.ensures.stays.1 c.bits_of.ensures
