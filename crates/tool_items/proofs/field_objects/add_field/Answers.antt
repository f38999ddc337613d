use Rattle.std.proofs.Common.{rules, ◌≡◌}
use Rattle.std.specs.Option.{option_copied}
use Rattle.std.specs.Prelude.{◌++◌, option_map}
use Rattle.sem_filling.specs.Fillings.{inner_of, sides_of}
use Rattle.tool_items.specs.Fields.{part_word}
use Rattle.tool_items.specs.FieldObjects.{declared_tokens, method_members, sides_tokens}
use Rattle.tool_names.specs.Objects.{closed}
use Rattle.tool_items.proofs.ObjectChains.{at_last, then_more}
use Rattle.tool_items.proofs.FieldObjectsListed.{format_in}
use Rattle.tool_items.proofs.field_objects.add_field.Goals as goal

pub returns : goal.returns
returns c =
    let s = sides_of c.args.field.now in
    let declared = declared_tokens c.args.depth s.declared.name (part_word s.declared.part) in
    let sides = sides_tokens s.uncompressed s.compressed in
    let method = method_members c.args.methods.now (option_copied c.args.encoding) (option_map format_in (inner_of c.args.field.now)) in
    let one : c.add_declared.new.object ≡ c.args.object.now ++ declared = search (rules) in
    let three : c.add_method.new.object ≡ c.add_sides.new.object ++ method = search (rules) in
    let two = then_more c.args.object.now declared sides _ _ one c.in_ok-add_sides.ensures in
    at_last c.args.object.now ((declared ++ sides) ++ method) closed _ _ c.end_object.result (then_more c.args.object.now (declared ++ sides) method _ _ two three) c.end_object.ensures
