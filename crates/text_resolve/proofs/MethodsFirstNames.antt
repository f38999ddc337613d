-- Each mention of a format names one of its fields.
use Rattle.std.proofs.Common.{◌≡◌, ◌∙◌, ap, ℕ, ◌<◌, Bool, true, false, cond, List, [], ◌∷◌, ◌++◌, length, fold, map, refl}
use Rattle.std.specs.Prelude.{Option, Some, None, is_some, position, slice_get, unwrap_or, option_and_then}
use Rattle.std.specs.List.{AllByRecursion}
use Rattle.std.specs.Option.{option_or}
use Rattle.std.specs.Str.{bytes_eq}
use Rattle.std.proofs.lemmas.List.Folds.{find-append}
use Rattle.std.proofs.lemmas.Option.{slice_get_within}
use Rattle.std.proofs.lemmas.Slice.Eq.{bytes_eq-Decides}
use Rattle.sem_profile.specs.Words.{word}
use Rattle.text_sections.specs.declared.mention.Mention.{Mention}
use Rattle.text_sections.specs.Fields.{place}
use Rattle.text_sections.specs.Mentions.{first_of, firsts, names_of}
use Rattle.text_sections.proofs.Tabled.{looked_up}

-- one of the mentions has the name
abbrev IsNamed : List ℕ → List Mention → List ℕ → Type 0
IsNamed text mentions name = is_some (first_of text mentions name) ≡ true

abbrev step : List ℕ → List Mention → Mention → List Mention
step text kept m = cond (is_some (first_of text kept (word text m.name))) kept (kept ++ m ∷ [])

some_or : {X : Type 0} (o more : Option X) → is_some o ≡ true → is_some (option_or o more) ≡ true
some_or (Some x) more e = refl
some_or None more e = absurd cc

or_some : {X : Type 0} (o more : Option X) → is_some more ≡ true → is_some (option_or o more) ≡ true
or_some (Some x) more e = refl
or_some None more e = e

one_more : (text : List ℕ) (kept : List Mention) (m : Mention) (name : List ℕ) → first_of text (kept ++ m ∷ []) name ≡ option_or (first_of text kept name) (first_of text (m ∷ []) name)
one_more text kept m name = find-append (λ (m : Mention). bytes_eq name (word text m.name)) kept (m ∷ [])

its_own : (text : List ℕ) (m : Mention) → is_some (first_of text (m ∷ []) (word text m.name)) ≡ true
its_own text m = ap (λ b. is_some (cond b (Some m) None)) ((bytes_eq-Decides (word text m.name) (word text m.name)).1 refl)

still_named : (text : List ℕ) (kept : List Mention) (m : Mention) (name : List ℕ) → IsNamed text kept name → IsNamed text (step text kept m) name
still_named text kept m name named = by (is_some (first_of text kept (word text m.name)))
  where
    by : (b : Bool) → IsNamed text (cond b kept (kept ++ m ∷ [])) name
    by true = named
    by false = ap is_some (one_more text kept m name) ∙ some_or (first_of text kept name) (first_of text (m ∷ []) name) named

now_named : (text : List ℕ) (kept : List Mention) (m : Mention) → IsNamed text (step text kept m) (word text m.name)
now_named text kept m = by (is_some (first_of text kept (word text m.name))) refl
  where
    by : (b : Bool) → is_some (first_of text kept (word text m.name)) ≡ b → IsNamed text (cond b kept (kept ++ m ∷ [])) (word text m.name)
    by true e = e
    by false e = ap is_some (one_more text kept m (word text m.name)) ∙ or_some (first_of text kept (word text m.name)) (first_of text (m ∷ []) (word text m.name)) (its_own text m)

stays_named : (text : List ℕ) (kept mentions : List Mention) (name : List ℕ) → IsNamed text kept name → IsNamed text (fold (step text) kept mentions) name
stays_named text kept [] name named = named
stays_named text kept (m ∷ ms) name named = stays_named text (step text kept m) ms name (still_named text kept m name named)

all_named : (text : List ℕ) (kept mentions : List Mention) → AllByRecursion (λ (m : Mention). IsNamed text (fold (step text) kept mentions) (word text m.name)) mentions
all_named text kept [] = tt
all_named text kept (m ∷ ms) = (stays_named text (step text kept m) ms (word text m.name) (now_named text kept m), all_named text (step text kept m) ms)

all_after : {X : Type 0} (P : X → Type 0) (xs ys : List X) → AllByRecursion P (xs ++ ys) → AllByRecursion P ys
all_after P [] ys all = all
all_after P (x ∷ xs) ys all = all_after P xs ys all.1

-- a name that is found stands at a place among the names
named_place : (text : List ℕ) (mentions : List Mention) (m : Mention) → IsNamed text mentions (word text m.name) → place text (names_of text mentions) m < length mentions
named_place text mentions m named = by (position (bytes_eq (word text m.name)) (names_of text mentions)) (looked_up text (word text m.name) mentions)
  where
    is_there : (i : ℕ) (o : Option Mention) → slice_get mentions i ≡ o → is_some o ≡ true → i < length mentions
    is_there i (Some c) at e = slice_get_within mentions i c at
    is_there i None at e = absurd cc

    by : (o : Option ℕ) → option_and_then (slice_get mentions) o ≡ first_of text mentions (word text m.name) → unwrap_or o (length (names_of text mentions)) < length mentions
    by (Some i) e = is_there i (slice_get mentions i) refl (ap is_some e ∙ named)
    by None e = let wrong : is_some {T = Mention} None ≡ true = ap is_some e ∙ named in absurd cc

all_placed : (text : List ℕ) (mentions own : List Mention) → AllByRecursion (λ (m : Mention). IsNamed text mentions (word text m.name)) own
    → AllByRecursion (λ i. i < length mentions) (map (place text (names_of text mentions)) own)
all_placed text mentions [] all = tt
all_placed text mentions (m ∷ ms) all = (named_place text mentions m all.0, all_placed text mentions ms all.1)

pub last_are_placed : (text : List ℕ) (others own : List Mention)
    → AllByRecursion (λ i. i < length (firsts text (others ++ own))) (map (place text (names_of text (firsts text (others ++ own)))) own)
last_are_placed text others own =
    let whole = firsts text (others ++ own) in
    all_placed text whole own (all_after (λ (m : Mention). IsNamed text whole (word text m.name)) others own (all_named text [] (others ++ own)))
