use Rattle.std.proofs.Common.{◌∙◌, ap, length, arith, refl}
use Rattle.std.proofs.lemmas.List.{length_push}
use Rattle.sem_bits.proofs.Octets.{IsBytes-push}
use Rattle.sem_bits.proofs.NumberWindows.{spell_more}
use Rattle.sem_bits.proofs.long.spell.Goals as goal

pub loop-i-preserved : goal.loop-i-preserved
loop-i-preserved c =
    let more = ap length c.push_reserved.ensures.items ∙ length_push c.loop-i.octets.items _ in (
      rw c.push_reserved.ensures.items (IsBytes-push c.loop-i.octets.items _ c.loop-i.invariant.0 (omega arith)),
      spell_more c.loop-i.octets.items _ _ _ c.loop-i.i _ c.loop-i-test.true c.loop-i.invariant.1 refl c.push_reserved.ensures.items,
      omega (arith, more, c.loop-i.invariant.2),
      c.push_reserved.ensures.capacity ∙ c.loop-i.invariant.3,
    )
