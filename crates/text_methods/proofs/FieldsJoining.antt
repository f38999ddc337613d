-- The fields of a format, one after the other.
use Rattle.std.proofs.Common.{◌≡◌, ◌∙◌, ap, refl, sym, ℕ, zero, suc, ◌+◌, List, [], ◌∷◌, ◌++◌, drop, get_or, arith, append_assoc, Some}
use Rattle.std.specs.Prelude.{slice_get}
use Rattle.sem_profile.proofs.Loops.{dropped}
use Rattle.sem_profile.specs.declared.profile.Encoding.{Encoding}
use Rattle.sem_profile.specs.declared.profile.Encoding.TheVariants.{Bare}
use Rattle.sem_profile.specs.declared.profile.Field.{Field}
use Rattle.text_sections.specs.declared.mention.Mention.{Mention}
use Rattle.text_methods.specs.declared.drafts.Setting.{Setting}
use Rattle.text_methods.specs.Fields.{field, joined}

first-left : {X : Type 0} (xs : List X) (i : ℕ) (d : X) → get_or (drop i xs) 0 d ≡ get_or xs i d
first-left [] zero d = refl
first-left [] (suc i) d = refl
first-left (x ∷ xs) zero d = refl
first-left (x ∷ xs) (suc i) d = first-left xs i d

rest-left : {X : Type 0} (xs : List X) (i : ℕ) → drop 1 (drop i xs) ≡ drop (suc i) xs
rest-left [] zero = refl
rest-left [] (suc i) = refl
rest-left (x ∷ xs) zero = refl
rest-left (x ∷ xs) (suc i) = rest-left xs i

next-place : (i : ℕ) → suc i ≡ i + 1
next-place i = omega arith

-- one field more
pub joined_more : (x : Setting) (ms : List Mention) (es : List Encoding) (i : ℕ) (m : Mention) (all new : List Field) (f : Field) → slice_get ms i ≡ Some m → f ≡ field x m (get_or es i Bare) → new ≡ all ++ f ∷ []
    → all ++ joined x (drop i ms) (drop i es) ≡ joined x ms es → new ++ joined x (drop (i + 1) ms) (drop (i + 1) es) ≡ joined x ms es
joined_more x ms es i m all new f here f_is new_is so =
    let rest = joined x (drop (suc i) ms) (drop (suc i) es) in
    let first : joined x (drop i ms) (drop i es) ≡ f ∷ rest =
    ap (λ left. joined x left (drop i es)) (dropped ms i m here)
    ∙ (λ j. field x m (first-left es i Bare j) ∷ joined x (drop (suc i) ms) (rest-left es i j))
    ∙ ap (λ g. g ∷ rest) (sym f_is) in
    ap (λ k. new ++ joined x (drop k ms) (drop k es)) (sym (next-place i))
    ∙ (ap (λ fs. fs ++ rest) new_is ∙ (append_assoc all (f ∷ []) rest ∙ (ap (λ fs. all ++ fs) (sym first) ∙ so)))
