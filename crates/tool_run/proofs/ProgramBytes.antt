-- What reads and writes do to known bytes, over several calls.
use Rattle.std.proofs.Common.{◌≡◌, ◌∙◌, ℕ, ◌+◌, ◌==◌, Bool, true, false, List, ◌++◌, Option, None, Some, take, drop, refl, sym, ap, subst, take-append-drop, append-nil}
use Rattle.std.specs.Prelude.{Ok}
use Rattle.std.specs.Io.KnownBytes.{Appends, Keeps}
use Rattle.tool_input.specs.Counted.{CountsWrite, MayTake}
use Rattle.std.proofs.KnownBytes.{Appends-kept, Appends-trans}
use Rattle.std.proofs.lemmas.Bool.{eqb-true}
use Rattle.std.proofs.Math.Seq.{take-add}

-- what is sent is the front
pub sent_front : (old mid new : Option (List ℕ)) (at : ℕ) (output : List ℕ) → Appends old mid (take at output) → Keeps mid new → (sent : List ℕ) × (rest : List ℕ) × (output ≡ sent ++ rest) × Appends old new sent
sent_front old mid new at output sent keeps = (take at output, drop at output, sym (take-append-drop at output), Appends-kept old mid new (take at output) sent keeps)

-- a write more
pub sent_more : (old mid new : Option (List ℕ)) (at count : ℕ) (output rest : List ℕ) → rest ≡ drop at output → Appends old mid (take at output) → Appends mid new (take count rest) → Appends old new (take (at + count) output)
sent_more old mid new at count output rest is sent more =
    let whole : take at output ++ take count rest ≡ take (at + count) output = ap (λ r. take at output ++ take count r) is ∙ sym (take-add at count output) in
    subst (λ (bs : List ℕ). Appends old new bs) whole (Appends-trans old mid new (take at output) (take count rest) sent more)

-- a write that took nothing
pub Keeps-from_none : (old new : Option (List ℕ)) (buf : List ℕ) (count : ℕ) → count ≡ 0 → Appends old new (take count buf) → Keeps old new
Keeps-from_none None new buf count none p = tt
Keeps-from_none (Some xs) None buf count none p = absurd p
Keeps-from_none (Some xs) (Some ys) buf count none p = p ∙ ap (λ n. xs ++ take n buf) none ∙ append-nil xs

-- a write that took something
pub goes_on : (E : Type 0) (old new : Option Bool) (count : ℕ) → CountsWrite {E = E} old new (Ok count) → (count ≡ 0 → ⊥) → MayTake new
goes_on E None new count is some = subst MayTake (sym is) tt
goes_on E (Some over) new count is some = by (count == 0) refl
  where
    by : (b : Bool) → (count == 0) ≡ b → MayTake new
    by true e = absurd (some (eqb-true count 0 e))
    by false e = subst MayTake (sym is) e
