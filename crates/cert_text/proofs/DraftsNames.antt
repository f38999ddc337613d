-- The places of names.
use Rattle.std.proofs.Common.{◌≡◌, ◌∙◌, sym, ap, subst, refl, ℕ, zero, suc, ◌+◌, Bool, true, false, ◌&&◌, cond, not, List, [], ◌∷◌, length, Some, None, nat_lt, arith}
use Rattle.std.specs.Prelude.{slice_get}
use Rattle.std.specs.List.{position_or_len, list_all}
use Rattle.std.specs.Str.{bytes_eq}
use Rattle.std.proofs.lemmas.Bool.{lt-ltb}
use Rattle.std.proofs.lemmas.Option.{slice_get_within}
use Rattle.std.proofs.lemmas.Slice.Eq.{bytes_eq-Decides}
use Rattle.sem_profile.specs.declared.profile.Format.{Format}
use Rattle.sem_profile.specs.declared.profile.Method.{Method}
use Rattle.sem_profile.specs.Words.{is_name}
use Rattle.sem_profile.specs.Named.{field_has_word, format_has_words, is_name_if_any, method_has_words}
use Rattle.sem_profile.specs.Named as profile
use Rattle.cert_text.specs.Drafts.{place_by}
use Rattle.cert_types.specs.Of.{IsWord, AreWords}
use Rattle.cert_text.proofs.DraftsNumerals.{both_true}

-- the place of the one element that passes
one_passes : {A : Type 0} (p : A → Bool) (xs : List A) (i : ℕ) (x : A) → slice_get xs i ≡ Some x → p x ≡ true → ((j : ℕ) (y : A) → slice_get xs j ≡ Some y → p y ≡ true → j ≡ i) → position_or_len p xs ≡ i
one_passes p [] i x h t once = absurd cc
one_passes p (y ∷ ys) zero x h t once = let same : y ≡ x = cc in ap (λ b. cond (not b) (1 + position_or_len p ys) 0) (ap p same ∙ t)
one_passes p (y ∷ ys) (suc i) x h t once = by (p y) refl (one_passes p ys i x h t (λ j z at q. omega (arith, once (suc j) z at q)))
  where
    by : (b : Bool) → p y ≡ b → position_or_len p ys ≡ i → cond (not (p y)) (1 + position_or_len p ys) 0 ≡ suc i
    by true e more = absurd (omega (arith, once 0 y refl e))
    by false e more = let n : 1 + position_or_len p ys ≡ suc i = omega (arith, more) in ap (λ b. cond (not b) (1 + position_or_len p ys) 0) e ∙ n

pub placed : {A : Type 0} (name_by : A → List ℕ) (xs : List A) (i : ℕ) (x : A) → slice_get xs i ≡ Some x → ((j : ℕ) (y : A) → slice_get xs j ≡ Some y → name_by y ≡ name_by x → j ≡ i) → place_by name_by (name_by x) xs ≡ Some i
placed name_by xs i x at once =
    let here : position_or_len (λ y. bytes_eq (name_by x) (name_by y)) xs ≡ i =
    one_passes (λ y. bytes_eq (name_by x) (name_by y)) xs i x at ((bytes_eq-Decides (name_by x) (name_by x)).1 refl) (λ j y e t. once j y e (sym ((bytes_eq-Decides (name_by x) (name_by y)).0 t))) in
    (λ k. cond (nat_lt (here k) (length xs)) (Some (here k)) None) ∙ ap (λ b. cond b (Some i) None) (lt-ltb i (length xs) (slice_get_within xs i x at))

-- ---- the names of a profile

all_at : {A : Type 0} (p : A → Bool) (xs : List A) (i : ℕ) (x : A) → list_all p xs ≡ true → slice_get xs i ≡ Some x → p x ≡ true
all_at p [] i x h at = absurd cc
all_at p (y ∷ ys) zero x h at = let same : y ≡ x = cc in ap p (sym same) ∙ (both_true (p y) (list_all p ys) h).0
all_at p (y ∷ ys) (suc i) x h at = all_at p ys i x (both_true (p y) (list_all p ys) h).1 at

one_word : (name : List ℕ) → is_name name ≡ true → IsWord name
one_word [] h = h
one_word (b ∷ bs) h = h

-- what a profile keeps of its names
pub worded : (methods : List Method) → profile.AreWords methods → AreWords methods
worded methods all = record {
  methods_are = λ k m at. one_word m.name (of_method m (at_method k m at)).0;
  parameters = λ k i m name at there. one_word name (all_at is_name m.parameters i name (of_method m (at_method k m at)).1 there);
  formats = λ k n m f name at there is. one_word name (subst (λ o. is_name_if_any o ≡ true) is (at_format k n m f at there).0);
  fields = λ k n i m f d at there on. one_word d.declared.name (all_at field_has_word f.fields i d (at_format k n m f at there).1 on);
}
  where
    at_method : (k : ℕ) (m : Method) → slice_get methods k ≡ Some m → method_has_words m ≡ true
    at_method k m at = all_at method_has_words methods k m all at

    of_method : (m : Method) → method_has_words m ≡ true → (is_name m.name ≡ true) × (list_all is_name m.parameters ≡ true) × (list_all format_has_words m.formats ≡ true)
    of_method m h =
        let b = both_true (is_name m.name) (list_all is_name m.parameters && list_all format_has_words m.formats) h in
        let c = both_true (list_all is_name m.parameters) (list_all format_has_words m.formats) b.1 in
        (b.0, c.0, c.1)

    at_format : (k n : ℕ) (m : Method) (f : Format) → slice_get methods k ≡ Some m → slice_get m.formats n ≡ Some f → (is_name_if_any f.name ≡ true) × (list_all field_has_word f.fields ≡ true)
    at_format k n m f at there = both_true (is_name_if_any f.name) (list_all field_has_word f.fields) (all_at format_has_words m.formats n f (of_method m (at_method k m at)).2 there)
