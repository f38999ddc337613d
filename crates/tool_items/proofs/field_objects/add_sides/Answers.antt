use Rattle.std.specs.Prelude.{codes}
use Rattle.sem_filling.specs.Fillings.{sides_of}
use Rattle.tool_names.specs.Objects.{bits}
use Rattle.tool_items.proofs.ObjectChains.{at_last}
use Rattle.tool_items.proofs.field_objects.add_sides.Goals as goal

pub returns : goal.returns
returns c =
    let s = sides_of c.args.field.now in
    at_last c.args.object.now (bits (codes "uncompressed") s.uncompressed) (bits (codes "compressed") s.compressed) _ _ c.bits-2.result c.in_ok-bits.ensures c.bits-2.ensures
