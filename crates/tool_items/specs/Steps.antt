-- Steps from values to later ones (docs/FORMATS.md, advise), and how many of each there are.
use Rattle.std.specs.Prelude.{◌≡◌, ℕ, ◌+◌, ◌-◌, ◌*◌, ◌%◌, ◌^◌, nat_eq, nat_le, nat_lt, Bool, List, [], ◌∷◌, ◌++◌, length, map, take, Option, Some, None, ◌&&◌, if◌then◌else◌, ℤ, pos, ◌-ℤ◌}
use Rattle.sem_bits.specs.Number.{num}
use Rattle.tool_items.specs.declared.steps.Steps.{Steps}

-- so many numbers further on of all; or where that is half of them or more, so many back
abbrev pub nearest : ℕ → ℕ → ℤ
nearest all ahead = if nat_lt (ahead * 2) all then pos ahead else pos ahead -ℤ pos all

-- the step from one number of n bits to another, modulo 2 ^ n
abbrev pub step_between : ℕ → ℕ → ℕ → ℤ
step_between n from to = nearest (2 ^ n) ((to + 2 ^ n - from) % 2 ^ n)

-- the step from one value to another, where both have as many bits, 64 at most
abbrev pub step : List Bool → List Bool → Option ℤ
step r u = if nat_eq (length r) (length u) && nat_le (length u) 64 then Some (step_between (length u) (num r) (num u)) else None

-- Of values, the last first: the steps to each of them from as many before it as are reached.
abbrev pub steps : ℕ → List (List Bool) → List (Option ℤ)
steps reach [] = []
steps reach (u ∷ before) = map (λ r. step r u) (take reach before) ++ steps reach before

-- how many of these pass a test, and how many pairs have no step
abbrev pub passing : (ℤ → Bool) → List (Option ℤ) → ℕ
passing test [] = 0
passing test (None ∷ ms) = passing test ms
passing test (Some s ∷ ms) = (if test s then 1 else 0) + passing test ms

abbrev pub without : List (Option ℤ) → ℕ
without [] = 0
without (None ∷ ms) = 1 + without ms
without (Some s ∷ ms) = without ms

-- of steps with their counts: how many are counted of those that pass a test
abbrev pub counted : (ℤ → Bool) → List (ℤ × ℕ) → ℕ
counted test [] = 0
counted test (e ∷ es) = (if test e.0 then e.1 else 0) + counted test es

-- These are counted, whatever is asked of them.
pub record AreCounted (ms : List (Option ℤ)) (s : Steps) : Type 0 where
  pub counts_are : (test : ℤ → Bool) → counted test s.counts.entries ≡ passing test ms
  pub without_is : s.without ≡ without ms

-- these are counted besides
pub record AddSteps (ms : List (Option ℤ)) (old new : Steps) : Type 0 where
  pub counts_add : (test : ℤ → Bool) → counted test new.counts.entries ≡ passing test ms + counted test old.counts.entries
  pub without_adds : new.without ≡ without ms + old.without

-- a step is counted once more
abbrev pub AddsStep : ℤ → List (ℤ × ℕ) → List (ℤ × ℕ) → Type 0
AddsStep s old new = (test : ℤ → Bool) → counted test new ≡ (if test s then 1 else 0) + counted test old
