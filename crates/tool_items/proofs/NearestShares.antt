-- The fewest bits with which a share of the steps is taken.
use Rattle.std.proofs.Common.{◌≡◌, ◌∙◌, sym, subst, ℕ, ◌+◌, ◌*◌, ◌<◌, ◌≤◌, ◌^◌, ◌⊎◌, inl, inr, true, false, nat_le, List, arith}
use Rattle.std.specs.Prelude.{ℤ, pos, ◌-ℤ◌}
use Rattle.std.proofs.lemmas.Bool.{cases_eq, leb-false, leb-true}
use Rattle.tool_items.specs.Nearest.{every, IsBest, IsLeast, taken, within}
use Rattle.tool_items.specs.Steps.{counted}
use Rattle.tool_items.specs.declared.nearest.Near.{Near}
use Rattle.tool_items.specs.declared.nearest.Window.{Window}

-- with fewer bits none takes so many
abbrev pub NoFewer : ℕ → List (ℤ × ℕ) → ℕ → Type 0
NoFewer share es bits = (k : ℕ) (p : ℤ) → k < bits → 100 * taken k p es < share * counted every es

pub none_fewer : (share : ℕ) (es : List (ℤ × ℕ)) → NoFewer share es 0
none_fewer share es k p lt = absurd (omega (arith, lt))

under : (a b c : ℕ) → a ≤ b → 100 * b < c → 100 * a < c
under a b c h lt = omega (arith, h, lt)

pub one_fewer : (share : ℕ) (es : List (ℤ × ℕ)) (bits all : ℕ) (w : Window) → IsBest bits es w → all ≡ counted every es → nat_le (share * all) (100 * w.taken) ≡ false → NoFewer share es bits → NoFewer share es (bits + 1)
one_fewer share es bits all w best all_is short so k p lt = by (cases_eq k bits)
  where
    by : (k ≡ bits) ⊎ (k ≡ bits → ⊥) → 100 * taken k p es < share * counted every es
    by (inl same) =
        let here : 100 * w.taken < share * counted every es = subst (λ n. 100 * w.taken < share * n) all_is (leb-false _ _ short) in
        subst (λ j. 100 * taken j p es < share * counted every es) (sym same) (under _ _ _ (best.most (pos 0 -ℤ p)) here)
    by (inr apart) = so k p (omega (arith, lt, apart))

pub told : (share : ℕ) (es : List (ℤ × ℕ)) (bits all : ℕ) (w : Window) (n : Near) → bits < 65 → IsBest bits es w → all ≡ counted every es → nat_le (share * all) (100 * w.taken) ≡ true → NoFewer share es bits → n.bits ≡ bits → n.taken ≡ w.taken → pos 0 -ℤ n.offset ≡ w.first → IsLeast share es n
told share es bits all w n few best all_is enough so bits_are taken_are offset_is = record {
  few = subst (λ b. b ≤ 64) (sym bits_are) (omega (arith, few));
  taken_is = taken_are ∙ best.taken_is ∙ (λ i. counted (within (sym offset_is i) (2 ^ sym bits_are i)) es);
  enough = subst (λ t. share * counted every es ≤ 100 * t) (sym taken_are) (subst (λ n. share * n ≤ 100 * w.taken) all_is (leb-true _ _ enough));
  most = λ p. subst (λ t. taken n.bits p es ≤ t) (sym taken_are) (subst (λ b. taken b p es ≤ w.taken) (sym bits_are) (best.most (pos 0 -ℤ p)));
  no_fewer = λ k p lt. so k p (subst (λ b. k < b) bits_are lt);
}
