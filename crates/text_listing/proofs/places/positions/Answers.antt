use Rattle.std.proofs.Common.{◌≡◌, ℕ, ◌+◌, ◌*◌, arith, subst, sym}
use Rattle.text_source.specs.declared.source.Position.{Position}
use Rattle.text_listing.specs.Known.{IsPlace}
use Rattle.text_listing.proofs.KnownWalks.{known_on, count_on}
use Rattle.text_listing.proofs.places.positions.Goals as goal

pub loop-k-preserved : goal.loop-k-preserved
loop-k-preserved c =
    let before = c.loop-k.invariant in
    let pushed = c.in_ok-push-2.ensures.items in
    let next : c.loop-k.k * 16 + 16 ≡ (c.loop-k.k + 1) * 16 = omega arith in
    let here : IsPlace c.args.octets.now ((c.loop-k.k + 1) * 16) c.place_further-place.result = subst (λ (n : ℕ). IsPlace c.args.octets.now n c.place_further-place.result) next c.place_further-place.ensures in
    let kept = subst (λ (p : Position). IsPlace c.args.octets.now ((c.loop-k.k + 1) * 16) p) (sym c.spot_of-in-loop-k.ensures) here in
    record {
      here = here;
      known = known_on c.args.octets.now c.loop-k.table.items _ (c.loop-k.k + 1) c.spot_of-in-loop-k.result before.known before.count kept pushed;
      count = count_on c.loop-k.table.items _ _ (c.loop-k.k + 1) before.count pushed;
    }
