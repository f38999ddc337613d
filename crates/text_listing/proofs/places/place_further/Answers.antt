use Rattle.std.proofs.Common.{◌+◌, refl, arith}
use Rattle.text_listing.proofs.PlainParts.{within}
use Rattle.text_listing.proofs.places.place_further.Goals as goal

pub returns-then-are_plain : goal.returns-then-are_plain
returns-then-are_plain c =
    within c.args.octets.now c.args.from (c.args.from + 16) 16 c.args.place _ c.requires.within (omega arith) (omega arith) c.requires.here (c.are_plain.ensures c.if-are_plain.true) refl (omega arith)
