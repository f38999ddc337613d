-- A table finds the first mention of each name.
use Rattle.std.proofs.Common.{◌≡◌, ◌∙◌, ap, ℕ, ◌+◌, ◌<◌, ◌≤◌, suc, zero, take, Bool, true, false, List, [], ◌∷◌, ◌++◌, ◌||◌, refl, sym, cond, fold, not, nat_lt, length, get_or, Some, None, Option, arith, rules, subst}
use Rattle.std.specs.Prelude.{is_some, position, option_and_then, slice_get}
use Rattle.std.specs.Option.{option_or}
use Rattle.std.specs.List.{list_any, position_or_len}
use Rattle.std.specs.Str.{bytes_eq}
use Rattle.std.proofs.lemmas.List.{map-append, length-map}
use Rattle.std.proofs.lemmas.List.Folds.{find-append, find_at}
use Rattle.std.proofs.lemmas.Bool.{ltb-false}
use Rattle.std.proofs.lemmas.Slice.Eq.{bytes_eq-Decides}
use Rattle.sem_profile.specs.Words.{word, with_word}
use Rattle.sem_profile.proofs.WordsTables.{any-position}
use Rattle.text_sections.specs.declared.mention.Mention.{Mention}
use Rattle.text_sections.specs.declared.table.Table.{Table}
use Rattle.text_sections.specs.Mentions.{first_of, firsts, names_of}
use Rattle.text_sections.specs.Tables.{IsTable, find_in}

same_name : (xs ys : List ℕ) → bytes_eq xs ys ≡ true → xs ≡ ys
same_name xs ys h = search (rules, bytes_eq-Decides)

place_same : (text : List ℕ) (name : List ℕ) (xs : List Mention) → position_or_len (bytes_eq name) (names_of text xs) ≡ position_or_len (λ m. bytes_eq name (word text m.name)) xs
place_same text name [] = refl
place_same text name (x ∷ xs) = ap (λ n. cond (not (bytes_eq name (word text x.name))) (1 + n) 0) (place_same text name xs)

past_end : {X : Type 0} (xs : List X) (k : ℕ) → length xs ≤ k → slice_get xs k ≡ None
past_end [] zero past = refl
past_end [] (suc k) past = refl
past_end (x ∷ xs) zero past = absurd (omega arith)
past_end (x ∷ xs) (suc k) past = past_end xs k (omega arith)

get_by : (xs : List Mention) (k : ℕ) (b : Bool) → nat_lt k (length xs) ≡ b → option_and_then (slice_get xs) (cond b (Some k) None) ≡ slice_get xs k
get_by xs k true e = refl
get_by xs k false e = sym (past_end xs k (ltb-false k (length xs) e))

pub looked_up : (text : List ℕ) (name : List ℕ) (xs : List Mention) → option_and_then (slice_get xs) (position (bytes_eq name) (names_of text xs)) ≡ first_of text xs name
looked_up text name xs =
    let place = place_same text name xs in
    let long : length (names_of text xs) ≡ length xs = length-map xs (λ (m : Mention). word text m.name) in
    let at : option_and_then (slice_get xs) (position (bytes_eq name) (names_of text xs)) ≡ slice_get xs (position_or_len (bytes_eq name) (names_of text xs)) =
    (λ i. option_and_then (slice_get xs) (cond (nat_lt (position_or_len (bytes_eq name) (names_of text xs)) (long i)) (Some (position_or_len (bytes_eq name) (names_of text xs))) None))
    ∙ get_by xs (position_or_len (bytes_eq name) (names_of text xs)) (nat_lt (position_or_len (bytes_eq name) (names_of text xs)) (length xs)) refl in
    at ∙ (ap (slice_get xs) place ∙ sym (find_at (λ (m : Mention). bytes_eq name (word text m.name)) xs))

-- what a table with parallel lists finds
pub finds_first : (text : List ℕ) (table : Table) (name : List ℕ) → table.words ≡ names_of text table.firsts → find_in table name ≡ first_of text table.firsts name
finds_first text table name same = ap (λ names. option_and_then (slice_get table.firsts) (position (bytes_eq name) names)) same ∙ looked_up text name table.firsts

any_found_by : (text : List ℕ) (x : Mention) (xs : List Mention) (name : List ℕ) (o : Option Mention) (b : Bool) → b || list_any (bytes_eq name) (names_of text xs) ≡ true
    → (list_any (bytes_eq name) (names_of text xs) ≡ true → option_or (first_of text xs name) o ≡ first_of text xs name) → option_or (cond b (Some x) (first_of text xs name)) o ≡ cond b (Some x) (first_of text xs name)
any_found_by text x xs name o true h more = refl
any_found_by text x xs name o false h more = more h

any_found : (text : List ℕ) (xs : List Mention) (name : List ℕ) (o : Option Mention) → list_any (bytes_eq name) (names_of text xs) ≡ true → option_or (first_of text xs name) o ≡ first_of text xs name
any_found text [] name o h = absurd cc
any_found text (x ∷ xs) name o h = any_found_by text x xs name o (bytes_eq name (word text x.name)) h (λ g. any_found text xs name o g)

or_none : {X : Type 0} (o : Option X) → option_or o None ≡ o
or_none None = refl
or_none (Some x) = refl

old_name_by : (text : List ℕ) (firsts : List Mention) (m : Mention) (name : List ℕ) (b : Bool) → bytes_eq name (word text m.name) ≡ b → list_any (bytes_eq (word text m.name)) (names_of text firsts) ≡ true
    → option_or (first_of text firsts name) (cond b (Some m) None) ≡ first_of text firsts name
old_name_by text firsts m name true e h = any_found text firsts name (Some m) (subst (λ n. list_any (bytes_eq n) (names_of text firsts) ≡ true) (sym (same_name name (word text m.name) e)) h)
old_name_by text firsts m name false e h = or_none (first_of text firsts name)

one_more : (text : List ℕ) (mentions : List Mention) (m : Mention) (name : List ℕ) → first_of text (mentions ++ m ∷ []) name ≡ option_or (first_of text mentions name) (cond (bytes_eq name (word text m.name)) (Some m) None)
one_more text mentions m name = find-append (λ (m : Mention). bytes_eq name (word text m.name)) mentions (m ∷ [])

abbrev step : List ℕ → List Mention → Mention → List Mention
step text kept m = cond (is_some (first_of text kept (word text m.name))) kept (kept ++ m ∷ [])

fold_more : (text : List ℕ) (kept mentions : List Mention) (m : Mention) → fold (step text) kept (mentions ++ m ∷ []) ≡ step text (fold (step text) kept mentions) m
fold_more text kept [] m = refl
fold_more text kept (x ∷ xs) m = fold_more text (step text kept x) xs m

there_by : (text : List ℕ) (x : Mention) (xs : List Mention) (name : List ℕ) (b : Bool) → list_any (bytes_eq name) (names_of text xs) ≡ is_some (first_of text xs name)
    → (b || list_any (bytes_eq name) (names_of text xs)) ≡ is_some (cond b (Some x) (first_of text xs name))
there_by text x xs name true more = refl
there_by text x xs name false more = more

there : (text : List ℕ) (xs : List Mention) (name : List ℕ) → list_any (bytes_eq name) (names_of text xs) ≡ is_some (first_of text xs name)
there text [] name = refl
there text (x ∷ xs) name = there_by text x xs name (bytes_eq name (word text x.name)) (there text xs name)

-- what is kept of one more mention
kept_of : (text : List ℕ) (mentions : List Mention) (m : Mention) (old : Table) (b : Bool) → IsTable text mentions old → list_any (bytes_eq (word text m.name)) old.words ≡ b
    → firsts text (mentions ++ m ∷ []) ≡ cond b old.firsts (old.firsts ++ m ∷ [])
kept_of text mentions m old b is h =
    let known : is_some (first_of text old.firsts (word text m.name)) ≡ b = sym (there text old.firsts (word text m.name)) ∙ (sym (ap (λ names. list_any (bytes_eq (word text m.name)) names) is.words_are) ∙ h) in
    fold_more text [] mentions m ∙ (ap (λ kept. step text kept m) (sym is.firsts_are) ∙ ap (λ b. cond b old.firsts (old.firsts ++ m ∷ [])) known)

-- both lists grow
pub grown : (text : List ℕ) (mentions : List Mention) (m : Mention) (old new : Table) → IsTable text mentions old → list_any (bytes_eq (word text m.name)) old.words ≡ false → new.words ≡ old.words ++ word text m.name ∷ [] → new.firsts ≡ old.firsts ++ m ∷ []
    → IsTable text (mentions ++ m ∷ []) new
grown text mentions m old new is fresh words more =
    let same : new.words ≡ names_of text new.firsts =
    words ∙ (ap (λ names. names ++ word text m.name ∷ []) is.words_are ∙ (sym (map-append (λ (m : Mention). word text m.name) old.firsts (m ∷ [])) ∙ sym (ap (names_of text) more))) in
    record {
      words_are = same;
      firsts_are = more ∙ sym (kept_of text mentions m old false is fresh);
      finds = λ name. finds_first text new name same ∙ (ap (λ xs. first_of text xs name) more ∙ (one_more text old.firsts m name
          ∙ (ap (λ o. option_or o (cond (bytes_eq name (word text m.name)) (Some m) None)) (sym (finds_first text old name is.words_are) ∙ is.finds name) ∙ sym (one_more text mentions m name))));
    }

-- the name was there
pub unchanged : (text : List ℕ) (mentions : List Mention) (m : Mention) (old new : Table) → IsTable text mentions old → list_any (bytes_eq (word text m.name)) old.words ≡ true → new.words ≡ old.words
    → new.firsts ≡ old.firsts → IsTable text (mentions ++ m ∷ []) new
unchanged text mentions m old new is old_name words more =
    let same : new.words ≡ names_of text new.firsts = words ∙ (is.words_are ∙ sym (ap (names_of text) more)) in
    let found : list_any (bytes_eq (word text m.name)) (names_of text old.firsts) ≡ true = subst (λ names. list_any (bytes_eq (word text m.name)) names ≡ true) is.words_are old_name in
    record {
      words_are = same;
      firsts_are = more ∙ sym (kept_of text mentions m old true is old_name);
      finds = λ name.
          let first : first_of text old.firsts name ≡ first_of text mentions name = sym (finds_first text old name is.words_are) ∙ is.finds name in
          finds_first text new name same ∙ (ap (λ xs. first_of text xs name) more ∙ (sym (old_name_by text old.firsts m name (bytes_eq name (word text m.name)) refl found)
          ∙ (ap (λ o. option_or o (cond (bytes_eq name (word text m.name)) (Some m) None)) first ∙ sym (one_more text mentions m name))));
    }

-- a name that is new is not found
pub not_found : (table : Table) (name : List ℕ) → list_any (bytes_eq name) table.words ≡ false → None ≡ find_in table name
not_found table name new = by (position (bytes_eq name) table.words) (any-position (bytes_eq name) table.words ∙ new)
  where
    by : (o : Option ℕ) → is_some o ≡ false → None ≡ option_and_then (slice_get table.firsts) o
    by None e = refl
    by (Some i) e = absurd cc

pub put_new : (names : List (List ℕ)) (name : List ℕ) (added : Bool) → added ≡ not (list_any (bytes_eq name) names) → added ≡ true → (list_any (bytes_eq name) names ≡ false) × (with_word names name ≡ names ++ name ∷ [])
put_new names name added is yes_added = by (list_any (bytes_eq name) names) (sym is ∙ yes_added)
  where
    by : (b : Bool) → not b ≡ true → (b ≡ false) × (cond b names (names ++ name ∷ []) ≡ names ++ name ∷ [])
    by true e = absurd cc
    by false e = (refl, refl)

pub put_old : (names : List (List ℕ)) (name : List ℕ) (added : Bool) → added ≡ not (list_any (bytes_eq name) names) → added ≡ false → (list_any (bytes_eq name) names ≡ true) × (with_word names name ≡ names)
put_old names name added is not_added = by (list_any (bytes_eq name) names) (sym is ∙ not_added)
  where
    by : (b : Bool) → not b ≡ false → (b ≡ true) × (cond b names (names ++ name ∷ []) ≡ names)
    by true e = (refl, refl)
    by false e = absurd cc

pub take_more : {X : Type 0} (xs : List X) (i : ℕ) (x : X) → slice_get xs i ≡ Some x → take (i + 1) xs ≡ take i xs ++ x ∷ []
take_more xs i x at = ap (λ n. take n xs) (one_on i) ∙ next xs i x at
  where
    one_on : (i : ℕ) → i + 1 ≡ suc i
    one_on i = omega arith

    next : {X : Type 0} (xs : List X) (i : ℕ) (x : X) → slice_get xs i ≡ Some x → take (suc i) xs ≡ take i xs ++ x ∷ []
    next [] zero x at = absurd cc
    next [] (suc i) x at = absurd cc
    next (y ∷ xs) zero x at = let same : y ≡ x = cc in ap (λ z. z ∷ []) same
    next (y ∷ xs) (suc i) x at = ap (λ zs. y ∷ zs) (next xs i x at)

pub read_at : {X : Type 0} (xs : List X) (k : ℕ) (d : X) → k < length xs → slice_get xs k ≡ Some (get_or xs k d)
read_at [] k d lt = absurd (omega arith)
read_at (x ∷ xs) zero d lt = refl
read_at (x ∷ xs) (suc k) d lt = read_at xs k d (omega arith)

pub tabled_more : (text : List ℕ) (mentions : List Mention) (i : ℕ) (m : Mention) (table : Table) → slice_get mentions i ≡ Some m → IsTable text (take i mentions ++ m ∷ []) table → IsTable text (take (i + 1) mentions) table
tabled_more text mentions i m table at is = subst (λ ms. IsTable text ms table) (sym (take_more mentions i m at)) is
