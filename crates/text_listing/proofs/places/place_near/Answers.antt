use Rattle.std.proofs.Common.{◌-◌, ◌≤◌, length, refl, arith}
use Rattle.text_listing.proofs.PlainParts.{within}
use Rattle.text_listing.proofs.places.place_near.Goals as goal

pub returns-then-are_plain : goal.returns-then-are_plain
returns-then-are_plain c =
    let long : 16 ≤ length c.args.octets.now - c.args.from = c.if-octets-from-ge16.true in
    within c.args.octets.now c.args.from c.args.to 16 c.args.place _ (omega (arith, long)) c.requires.order c.requires.near c.requires.here (c.are_plain.ensures c.if-are_plain.true) refl refl
