-- Rows in which a number is noted.
use Rattle.std.proofs.Common.{◌≡◌, refl, sym, ◌∙◌, ap, ℕ, zero, suc, ◌+◌, ◌<◌, Bool, true, false, List, [], ◌∷◌, ◌++◌, length, take, drop, get_or, append_assoc, arith}
use Rattle.std.specs.Prelude.{Option, Some, slice_get, ◌&&◌, ◌||◌, not}
use Rattle.sem_profile.specs.declared.profile.Format.{Format}
use Rattle.cert_prove.specs.Linking.{is_this, is_among, number_if, IsNoted, telling}

-- the constraints before the n-th are noted
pub record RowsTo (format : Format) (n : ℕ) (rows : List (List ℕ)) : Type 0 where
  pub each : length rows ≡ length format.fields
  pub right : (i : ℕ) → i < length rows → get_or rows i [] ++ telling i n (drop n format.constraints) ≡ telling i 0 format.constraints

-- ---- several numbers

or_false : (b : Bool) → (b || false) ≡ b
or_false true = refl
or_false false = refl

or_later : (a b c : Bool) → (a || (b || c)) ≡ ((a || b) || c)
or_later true b c = refl
or_later false b c = refl

taken_more : (i : ℕ) (names : List (Option ℕ)) (place : ℕ) (name : Option ℕ) → slice_get names place ≡ Some name → is_among i (take (place + 1) names) ≡ (is_among i (take place names) || is_this i name)
taken_more i [] place name at = absurd (cc)
taken_more i (x ∷ xs) zero name at = let same : x ≡ name = cc in ap (λ z. is_this i z || false) same ∙ or_false (is_this i name)
taken_more i (x ∷ xs) (suc place) name at =
    let next : suc place + 1 ≡ suc (place + 1) = omega arith in
    ap (λ n. is_among i (take n (x ∷ xs))) next ∙ (ap (λ b. is_this i x || b) (taken_more i xs place name at) ∙ or_later (is_this i x) (is_among i (take place xs)) (is_this i name))

or_neither : (a b : Bool) (n : ℕ) → number_if (a || b) n ≡ number_if a n ++ number_if (b && not a) n
or_neither true true n = refl
or_neither true false n = refl
or_neither false true n = refl
or_neither false false n = refl

-- one more name, unless it stands before
pub noted_more : (names : List (Option ℕ)) (place : ℕ) (name : Option ℕ) (n : ℕ) (first old new : List (List ℕ)) → slice_get names place ≡ Some name →
    IsNoted (λ i. is_among i (take place names)) n first old → IsNoted (λ i. is_this i name && not (is_among i (take place names))) n old new → IsNoted (λ i. is_among i (take (place + 1) names)) n first new
noted_more names place name n first old new at so more = record {
  each = more.each ∙ so.each;
  right = λ i within.
      let there : i < length old = let e = so.each in omega (arith, e, within) in
      more.right i there ∙ (ap (λ xs. xs ++ number_if (is_this i name && not (is_among i (take place names))) n) (so.right i within) ∙
      (append_assoc (get_or first i []) (number_if (is_among i (take place names)) n) (number_if (is_this i name && not (is_among i (take place names))) n) ∙
      ap (λ xs. get_or first i [] ++ xs) (sym (or_neither (is_among i (take place names)) (is_this i name) n) ∙ ap (λ b. number_if b n) (sym (taken_more i names place name at)))));
}
