use Rattle.std.proofs.Common.{◌≡◌, ◌+◌, ◌-◌, ◌<◌, drop, length, arith, sym, length-take}
use Rattle.text_listing.proofs.PlacesSteps.{after_end, after_other, first_counts, other_counts, read_in_part}
use Rattle.text_listing.proofs.places.place_after.Goals.{then-octet-eq10, else-octet-eq10+then-is_first, else-octet-eq10+else-is_first}
use Rattle.text_listing.proofs.places.place_after.Goals as goal

pub loop-octet-preserved : goal.loop-octet-preserved
loop-octet-preserved c =
    let so = c.loop-octet.invariant in
    let within : c.loop-octet.octet-index < c.args.to - c.args.from = omega (arith, c.loop-octet-test.true, length-take (c.args.to - c.args.from) (drop c.args.from c.args.octets.now)) in
    let inside : c.args.from + c.loop-octet.octet-index < length c.args.octets.now = omega (arith, within, c.requires.within) in
    let further : c.args.from + (c.loop-octet.octet-index + 1) ≡ c.args.from + c.loop-octet.octet-index + 1 = omega arith in
    let read = read_in_part c.args.octets.now c.args.from c.args.to c.loop-octet.octet-index within in
    elim c.if-octet-eq10.branch [
      | then-octet-eq10 w ↦ after_end _ _ _ _ _ _ _ _ inside further read so w.if-octet-eq10.true w.line-is w.column-is
      | else-octet-eq10+then-is_first w ↦ after_other _ _ _ _ _ _ _ _ inside further read so w.if-octet-eq10.false w.line-is (first_counts _ _ _ (sym w.if-is_first.ensures) w.column-is) (omega (arith, w.column-is))
      | else-octet-eq10+else-is_first w ↦ after_other _ _ _ _ _ _ _ _ inside further read so w.if-octet-eq10.false w.line-is (other_counts _ _ _ (sym w.if-is_first.ensures) w.column-is) (omega (arith, w.column-is))
    ]
