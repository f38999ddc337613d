-- Bits of words that are set, cleared and found.
use Rattle.std.proofs.Common.{◌≡◌, sym, ◌∙◌, ap, subst, ℕ, ◌+◌, ◌*◌, ◌/◌, ◌%◌, ◌^◌, ◌<◌, ◌≤◌, List, length, get_or, inl, inr, arith, w64}
use Rattle.std.specs.Prelude.{slice_set, bit_and, bit_or}
use Rattle.std.specs.Int.{bit_at, bit_not, trailing_zeros}
use Rattle.std.proofs.lemmas.Bool.{cases_eq, cases_lt}
use Rattle.std.proofs.lemmas.List.{get_or-set_same, get_or-set_other, get_or_past}
use Rattle.std.proofs.lemmas.Nat.Bits.{bit_at-zero, bit_at-lt, bit_at_or, bit_at_set_same, bit_at_clear_same, bit_at_clear_other, bit_at-trailing_zeros}
use Rattle.cert_types.specs.declared.rule.Fact.{Fact}
use Rattle.cert_types.specs.declared.rule.Fact.TheVariants.{LengthOf, BitsOf, Done}
use Rattle.cert_plans.specs.Knowing.{field_of}
use Rattle.cert_prove.specs.Marking.{bit_in, IsDue, kind_of, row_of, IsInRow}

module _ (words : List ℕ) (k v : ℕ) where
  -- in the word that was set
  pub set_here : (bit : ℕ) → k < length words → bit_in (slice_set words k v) k bit ≡ bit_at v bit
  set_here bit within = ap (λ z. bit_at z bit) (get_or-set_same words k v 0 within)

  -- in another
  pub set_there : (l bit : ℕ) → (l ≡ k → ⊥) → bit_in (slice_set words k v) l bit ≡ bit_in words l bit
  set_there l bit n = ap (λ z. bit_at z bit) (get_or-set_other words k l v 0 n)

-- what either has both together have
pub or_left : (a b bit : ℕ) → bit_at a bit ≡ 1 → bit_at (bit_or a b) bit ≡ 1
or_left a b bit e =
    let m = bit_at_or a b bit in
    let l = bit_at-lt b bit in
    omega (arith, m, l, e)

pub or_right : (a b bit : ℕ) → bit_at b bit ≡ 1 → bit_at (bit_or a b) bit ≡ 1
or_right a b bit e =
    let m = bit_at_or a b bit in
    let l = bit_at-lt a bit in
    omega (arith, m, l, e)

module _ (words : List ℕ) (k was more : ℕ) (within : k < length words) (reads : was ≡ get_or words k 0) where
  -- a word to which bits are added keeps its own
  pub or_keeps : (l bit : ℕ) → bit_in words l bit ≡ 1 → bit_in (slice_set words k (bit_or was more)) l bit ≡ 1
  or_keeps l bit e = elim (cases_eq l k) [
    | inl s ↦
        let own : bit_at was bit ≡ 1 = ap (λ z. bit_at z bit) (reads ∙ ap (λ z. get_or words z 0) (sym s)) ∙ e in
        subst (λ z. bit_in (slice_set words k (bit_or was more)) z bit ≡ 1) (sym s) (set_here words k (bit_or was more) bit within ∙ or_left was more bit own)
    | inr n ↦ set_there words k (bit_or was more) l bit n ∙ e
  ]

  -- and has those
  pub or_has : (bit : ℕ) → bit_at more bit ≡ 1 → bit_in (slice_set words k (bit_or was more)) k bit ≡ 1
  or_has bit e = set_here words k (bit_or was more) bit within ∙ or_right was more bit e

-- a step whose bit is cleared
module _ (due less : List ℕ) (step was : ℕ) (within : step < 64 * length due) (reads : was ≡ get_or due (step / 64) 0) (is : less ≡ slice_set due (step / 64) (bit_and was (bit_not w64 (1 * 2 ^ (step % 64) % 2 ^ 64)))) where
  abbrev word : ℕ
  word = bit_and was (bit_not w64 (1 * 2 ^ (step % 64) % 2 ^ 64))

  pub clear_gone : IsDue less step → ⊥
  clear_gone d =
      let zero : bit_in less (step / 64) (step % 64) ≡ 0 = ap (λ z. bit_in z (step / 64) (step % 64)) is ∙ (set_here due (step / 64) word (step % 64) (omega (arith, within)) ∙ bit_at_clear_same w64 was (step % 64) (omega arith)) in
      absurd (omega (arith, zero, d))

  pub clear_others : (i : ℕ) → (i ≡ step → ⊥) → bit_in less (i / 64) (i % 64) ≡ bit_in due (i / 64) (i % 64)
  clear_others i n = ap (λ z. bit_in z (i / 64) (i % 64)) is ∙ elim (cases_eq (i / 64) (step / 64)) [
    | inl e ↦
        subst (λ z. bit_in (slice_set due (step / 64) word) z (i % 64) ≡ bit_in due z (i % 64)) (sym e)
        (set_here due (step / 64) word (i % 64) (omega (arith, within)) ∙ (bit_at_clear_other w64 was (step % 64) (omega arith) (i % 64) (omega arith) (λ s. n (omega (arith, e, s))) ∙ ap (λ z. bit_at z (i % 64)) reads))
    | inr o ↦ set_there due (step / 64) word (i / 64) (i % 64) o
  ]

-- there are rows for two kinds of facts
pub kind_within : (x : Fact) → kind_of x < 2
kind_within (LengthOf side i) = omega arith
kind_within (BitsOf side i) = omega arith
kind_within (Done i) = omega arith

-- a step that is noted for a fact
module _ (noted more : List ℕ) (step : ℕ) (fact : Fact) (row was : ℕ) (room : step / 64 * 128 + 128 ≤ length noted) (at : row ≡ kind_of fact * 64 + field_of fact % 64) (reads : was ≡ get_or noted (step / 64 * 128 + row) 0)
    (is : more ≡ slice_set noted (step / 64 * 128 + row) (bit_or was (1 * 2 ^ (step % 64) % 2 ^ 64))) where
  within : step / 64 * 128 + row < length noted
  within = let k = kind_within fact in omega (arith, room, at, k)

  here : step / 64 * 128 + row ≡ row_of (step / 64) fact
  here = omega (arith, at)

  pub note_keeps : (x : Fact) (i : ℕ) → IsInRow noted x i → IsInRow more x i
  note_keeps x i h = subst (λ z. IsInRow z x i) (sym is) (or_keeps noted (step / 64 * 128 + row) was (1 * 2 ^ (step % 64) % 2 ^ 64) within reads (row_of (i / 64) x) (i % 64) h)

  pub note_noted : IsInRow more fact step
  note_noted = subst (λ z. bit_in more z (step % 64) ≡ 1) here (subst (λ z. bit_in z (step / 64 * 128 + row) (step % 64) ≡ 1) (sym is)
      (set_here noted (step / 64 * 128 + row) (bit_or was (1 * 2 ^ (step % 64) % 2 ^ 64)) (step % 64) within ∙ bit_at_set_same w64 was (step % 64) (omega arith)))

-- none is due before the word
module _ (due : List ℕ) (word steps : ℕ) (before : (i : ℕ) → i < word * 64 → IsDue due i → ⊥) (is : steps ≡ get_or due word 0) where
  -- nor in it
  pub none_in : steps ≡ 0 → (i : ℕ) → i < (word + 1) * 64 → IsDue due i → ⊥
  none_in none i h d = elim (cases_lt i (word * 64)) [
    | inl l ↦ before i l d
    | inr g ↦
        let at : i / 64 ≡ word = omega (arith, h, g) in
        let bit : bit_at 0 (i % 64) ≡ 1 = subst (λ z. bit_at z (i % 64) ≡ 1) (ap (λ z. get_or due z 0) at ∙ (sym is ∙ none)) d in
        let zero = bit_at-zero (i % 64) in
        absurd (omega (arith, bit, zero))
  ]

  module _ (some : 0 < steps) (fits : steps < 2 ^ 64) where
    abbrev bit : ℕ
    bit = trailing_zeros w64 steps

    -- or the lowest bit is the first
    pub first_before : (i : ℕ) → i < word * 64 + bit → IsDue due i → ⊥
    first_before i h d = elim (cases_lt i (word * 64)) [
      | inl l ↦ before i l d
      | inr g ↦
          let lowest = bit_at-trailing_zeros w64 steps some fits in
          let small = lowest.0 in
          let at : i / 64 ≡ word = omega (arith, h, g, small) in
          let zero : bit_at steps (i % 64) ≡ 0 = lowest.2 (i % 64) (omega (arith, h, g, small)) in
          let set : bit_at steps (i % 64) ≡ 1 = subst (λ z. bit_at z (i % 64) ≡ 1) (ap (λ z. get_or due z 0) at ∙ sym is) d in
          absurd (omega (arith, zero, set))
    ]

    pub lowest_due : IsDue due (word * 64 + bit)
    lowest_due =
        let lowest = bit_at-trailing_zeros w64 steps some fits in
        let small = lowest.0 in
        let at : (word * 64 + bit) / 64 ≡ word = omega (arith, small) in
        let here : (word * 64 + bit) % 64 ≡ bit = omega (arith, small) in
        subst (λ z. bit_in due z ((word * 64 + bit) % 64) ≡ 1) (sym at) (subst (λ z. bit_in due word z ≡ 1) (sym here) (subst (λ z. bit_at z bit ≡ 1) is lowest.1))

    -- and not before a place before which there is none
    pub first_onward : (from : ℕ) → ((i : ℕ) → i < from → IsDue due i → ⊥) → from ≤ word * 64 + bit
    first_onward from none = elim (cases_lt (word * 64 + bit) from) [
      | inl l ↦ absurd (none (word * 64 + bit) l lowest_due)
      | inr g ↦ omega (arith, g)
    ]

-- beyond the words there is none
pub none_due : (due : List ℕ) (word : ℕ) → ((i : ℕ) → i < word * 64 → IsDue due i → ⊥) → length due ≤ word → (i : ℕ) → IsDue due i → ⊥
none_due due word before past i d = elim (cases_lt i (word * 64)) [
  | inl l ↦ before i l d
  | inr g ↦
      let bit : bit_at 0 (i % 64) ≡ 1 = subst (λ z. bit_at z (i % 64) ≡ 1) (get_or_past due (i / 64) 0 (omega (arith, g, past))) d in
      let zero = bit_at-zero (i % 64) in
      absurd (omega (arith, bit, zero))
]
