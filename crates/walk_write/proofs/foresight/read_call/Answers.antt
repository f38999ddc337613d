use Rattle.walk_write.proofs.ForesightLemmas.{calls, way_parts}
use Rattle.walk_write.proofs.foresight.read_call.Goals as goal

pub next-digit-requires-clause-divides : goal.next-digit-requires-clause-divides
next-digit-requires-clause-divides c =
    way_parts c.args.outlook.now.place.now c.args.outlook.now.index c.args.outlook.now.format.now c.args.outlook.now.source.now.asked.now c.args.number c.args.field c.ways_of.result c.ways_of.ensures c.args.digits.now c.args.choices.now c.requires.stands

pub returns : goal.returns
returns c =
    calls c.args.outlook.now.place.now c.args.outlook.now.index c.args.outlook.now.format.now c.args.outlook.now.source.now.asked.now c.args.number c.args.field c.ways_of.result c.ways_of.ensures c.args.digits.now c.next-digit.new.self c.next-digit.result c.next-digit.ensures.split
    c.next-digit.ensures.read c.args.choices.now
