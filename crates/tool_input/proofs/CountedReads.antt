-- What is kept of reads, read by read.
use Rattle.std.proofs.Common.{◌≡◌, ◌∙◌, ℕ, ◌+◌, ◌==◌, Bool, true, false, not, Option, Some, None, Ok, refl, sym, ap, subst}
use Rattle.tool_input.specs.Counted.{Account, Counts, IsSoFar}

not_true : (b : Bool) → not b ≡ true → b ≡ false
not_true true e = sym e
not_true false e = refl

-- a read that gave some octets
pub counted_on : (E : Type 0) (old new : Option Account) (count before after : ℕ) → Counts {E = E} old new (Ok count) → IsSoFar old before → after ≡ before + count → not (count == 0) ≡ true → IsSoFar new after
counted_on E None new count before after is so_far sum some = subst (λ (a : Option Account). IsSoFar a after) (sym is) tt
counted_on E (Some a) new count before after is so_far sum some =
    subst (λ (x : Option Account). IsSoFar x after) (sym is) (ap (λ n. n + count) so_far.0 ∙ sym sum, not_true (count == 0) some)
