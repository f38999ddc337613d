-- The window of `lsb`, by the step that the number has gone on.
use Rattle.std.proofs.Common.{◌≡◌, ◌∙◌, refl, sym, ap, subst, ℕ, ◌^◌, Bool, List, length, arith}
use Rattle.std.specs.Prelude.{ℤ, pos, negsuc, ◌+ℤ◌, ◌-ℤ◌, ◌≤ℤ◌, ◌<ℤ◌}
use Rattle.std.specs.Int.{int_rem_euclid}
use Rattle.std.proofs.lemmas.Int.{ints}
use Rattle.sem_bits.specs.Number.{num}
use Rattle.sem_library.specs.Methods.{LsbHolds}
use Rattle.sem_elsewhere.specs.Laws.{IsInReach, Window}

-- the place in the window of a step
place_of : (z : ℤ) → pos 0 ≤ℤ z → (n : ℕ) × (pos n ≡ z)
place_of (pos n) h = (n, refl)
place_of (negsuc n) h = absurd (omega (arith, ints, h))

same_start : (r offset step : ℤ) (n : ℕ) → pos n ≡ step +ℤ offset → r -ℤ offset +ℤ pos n ≡ r +ℤ step
same_start r offset step n e = omega (arith, ints, e)

to_step : (k offset : ℤ) (ref u c : List Bool) → LsbHolds k offset ref u c → IsInReach k offset ref u c
to_step k offset ref u c h =
    let back : pos h.place ≡ (pos h.place -ℤ offset) +ℤ offset = omega (arith, ints) in
    record {
      as_long = h.as_long;
      short = h.short;
      bits_are = h.bits_are;
      within = h.within;
      low_part = h.low_part;
      step = pos h.place -ℤ offset;
      goes_on = h.at_place ∙ ap (λ z. int_rem_euclid z (pos (2 ^ length u))) (same_start (pos (num ref)) offset (pos h.place -ℤ offset) h.place back);
      from = subst (λ z. pos 0 ≤ℤ z) back (omega (arith, ints));
      to = subst (λ z. z <ℤ pos (2 ^ length c)) back (omega (arith, ints, h.in_interval));
    }

from_step : (k offset : ℤ) (ref u c : List Bool) → IsInReach k offset ref u c → LsbHolds k offset ref u c
from_step k offset ref u c h =
    let p = place_of (h.step +ℤ offset) h.from in
    record {
      as_long = h.as_long;
      short = h.short;
      bits_are = h.bits_are;
      within = h.within;
      place = p.0;
      in_interval = omega (arith, ints, subst (λ z. z <ℤ pos (2 ^ length c)) (sym p.1) h.to);
      at_place = h.goes_on ∙ sym (ap (λ z. int_rem_euclid z (pos (2 ^ length u))) (same_start (pos (num ref)) offset h.step p.0 p.1));
      low_part = h.low_part;
    }

pub window : Window
window k offset ref u c = (to_step k offset ref u c, from_step k offset ref u c)
