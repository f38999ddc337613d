-- The lines that are told, up to a limit.
use Rattle.std.proofs.Common.{◌≡◌, sym, ◌∙◌, ap, ℕ, List, length, take, arith, inl, inr}
use Rattle.std.specs.Prelude.{min}
use Rattle.std.proofs.lemmas.Bool.{cases_lt}
use Rattle.std.proofs.lemmas.List.{take_all}

-- no more than there are are taken
pub taken : {X : Type 0} (most many : ℕ) (xs : List X) → many ≡ min most (length xs) → take many xs ≡ take most xs
taken most many xs e = elim (cases_lt most (length xs)) [
  | inl h ↦ let same : many ≡ most = omega (arith, e, h) in ap (λ n. take n xs) same
  | inr h ↦ take_all many xs (omega (arith, e, h)) ∙ sym (take_all most xs h)
]
