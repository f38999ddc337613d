-- The encodings that a format gives its fields, found by the places of its mentions.
use Rattle.std.proofs.Common.{◌≡◌, ◌∙◌, ap, ℕ, zero, suc, ◌+◌, ◌≤◌, Bool, true, false, cond, List, [], ◌∷◌, ◌++◌, refl, sym, fold, map, drop, length, get_or, replicate, not, nat_lt, Some, None, Option, arith, subst}
use Rattle.std.specs.Prelude.{is_some, slice_get, slice_set, unwrap_or}
use Rattle.std.specs.Option.{option_or}
use Rattle.std.specs.List.{position_or_len}
use Rattle.std.specs.Str.{bytes_eq}
use Rattle.std.proofs.lemmas.Bool.{ltb-false}
use Rattle.std.proofs.lemmas.List.{append_assoc}
use Rattle.std.proofs.lemmas.List.Folds.{find-append}
use Rattle.std.proofs.lemmas.Slice.Eq.{bytes_eq-Decides}
use Rattle.sem_profile.specs.Words.{word}
use Rattle.text_sections.specs.declared.mention.Mention.{Mention}
use Rattle.text_sections.specs.declared.table.Table.{Table}
use Rattle.text_sections.specs.Mentions.{first_of, firsts, names_of, encoded}
use Rattle.text_sections.specs.Tables.{IsTable}
use Rattle.sem_profile.proofs.Loops.{dropped}
use Rattle.text_sections.specs.Fields.{place, encoding, encodings_by, own_encoding, with_first, with_own}

-- ---- fields and their encodings side by side

first-left : {X : Type 0} (xs : List X) (i : ℕ) (d : X) → get_or (drop i xs) 0 d ≡ get_or xs i d
first-left [] zero d = refl
first-left [] (suc i) d = refl
first-left (x ∷ xs) zero d = refl
first-left (x ∷ xs) (suc i) d = first-left xs i d

one_on : (i : ℕ) → suc i ≡ i + 1
one_on i = omega arith

rest-left : {X : Type 0} (xs : List X) (i : ℕ) → drop 1 (drop i xs) ≡ drop (i + 1) xs
rest-left {X} xs i = by xs i ∙ ap (λ n. drop n xs) (one_on i)
  where
    by : (xs : List X) (i : ℕ) → drop 1 (drop i xs) ≡ drop (suc i) xs
    by [] zero = refl
    by [] (suc i) = refl
    by (x ∷ xs) zero = refl
    by (x ∷ xs) (suc i) = by xs i

pub by_more : (text : List ℕ) (base default : List ℕ → Option Mention) (fs : List Mention) (os : List (Option Mention)) (i : ℕ) (f : Mention) (own e : Option Mention) (made new whole : List (Option Mention))
    → slice_get fs i ≡ Some f → own ≡ get_or os i None → e ≡ encoding text base (λ name. own) default f → new ≡ made ++ e ∷ []
    → made ++ encodings_by text base default (drop i fs) (drop i os) ≡ whole → new ++ encodings_by text base default (drop (i + 1) fs) (drop (i + 1) os) ≡ whole
by_more text base default fs os i f own e made new whole here own_is e_is new_is before =
    let rest = encodings_by text base default (drop (i + 1) fs) (drop (i + 1) os) in
    let left : drop i fs ≡ f ∷ drop (i + 1) fs = dropped fs i f here ∙ ap (λ n. f ∷ drop n fs) (one_on i) in
    let first : encodings_by text base default (drop i fs) (drop i os) ≡ e ∷ rest =
    ap (λ fs. encodings_by text base default fs (drop i os)) left
    ∙ (λ j. encoding text base (λ name. first-left os i None j) default f ∷ encodings_by text base default (drop (i + 1) fs) (rest-left os i j))
    ∙ (λ j. encoding text base (λ name. sym own_is j) default f ∷ rest)
    ∙ ap (λ g. g ∷ rest) (sym e_is) in
    ap (λ fs. fs ++ rest) new_is ∙ (append_assoc made (e ∷ []) rest ∙ (ap (λ fs. made ++ fs) (sym first) ∙ before))

pub by_each : (text : List ℕ) (base own default : List ℕ → Option Mention) (fs : List Mention) → encodings_by text base default fs (map (λ (f : Mention). own (word text f.name)) fs) ≡ map (encoding text base own default) fs
by_each text base own default [] = refl
by_each text base own default (f ∷ fs) = ap (λ rest. encoding text base own default f ∷ rest) (by_each text base own default fs)

-- ---- a mention at the place of its field

pub put_there : (os : List (Option Mention)) (k : ℕ) (m : Mention) → slice_get os k ≡ Some None → slice_set os k (Some m) ≡ with_first os k m
put_there [] k m h = absurd cc
put_there (o ∷ os) zero m h = let same : o ≡ None = cc in ap (λ p. option_or p (Some m) ∷ os) (sym same)
put_there (o ∷ os) (suc k) m h = ap (λ rest. o ∷ rest) (put_there os k m h)

pub kept_there : (os : List (Option Mention)) (k : ℕ) (m n : Mention) → slice_get os k ≡ Some (Some n) → os ≡ with_first os k m
kept_there [] k m n h = refl
kept_there (o ∷ os) zero m n h = let same : o ≡ Some n = cc in ap (λ p. p ∷ os) same ∙ ap (λ p. option_or p (Some m) ∷ os) (sym same)
kept_there (o ∷ os) (suc k) m n h = ap (λ rest. o ∷ rest) (kept_there os k m n h)

pub past_there : (os : List (Option Mention)) (k : ℕ) (m : Mention) → slice_get os k ≡ None → os ≡ with_first os k m
past_there [] k m h = refl
past_there (o ∷ os) zero m h = absurd cc
past_there (o ∷ os) (suc k) m h = ap (λ rest. o ∷ rest) (past_there os k m h)

-- ---- names of fields are distinct

abbrev Distinct : List ℕ → List Mention → Type 0
Distinct text [] = text ≡ text
Distinct text (f ∷ fs) = (first_of text fs (word text f.name) ≡ None) × Distinct text fs

turned : (b : Bool) (xs ys : List ℕ) → bytes_eq xs ys ≡ b → bytes_eq ys xs ≡ b
turned true xs ys h = (bytes_eq-Decides ys xs).1 (sym ((bytes_eq-Decides xs ys).0 h))
turned false xs ys h = by (bytes_eq ys xs) refl
  where
    by : (b : Bool) → bytes_eq ys xs ≡ b → b ≡ false
    by true e = let wrong : true ≡ false = sym ((bytes_eq-Decides xs ys).1 (sym ((bytes_eq-Decides ys xs).0 e))) ∙ h in absurd cc
    by false e = refl

or_none : {X : Type 0} (o : Option X) → option_or o None ≡ o
or_none None = refl
or_none (Some x) = refl

-- a mention whose name is another one is not found
not_last : (text : List ℕ) (ms : List Mention) (m f : Mention) → bytes_eq (word text m.name) (word text f.name) ≡ false → first_of text (ms ++ m ∷ []) (word text f.name) ≡ first_of text ms (word text f.name)
not_last text ms m f apart =
    find-append (λ (x : Mention). bytes_eq (word text f.name) (word text x.name)) ms (m ∷ [])
    ∙ (ap (λ b. option_or (first_of text ms (word text f.name)) (cond b (Some m) None)) (turned false (word text m.name) (word text f.name) apart) ∙ or_none (first_of text ms (word text f.name)))

put_last : (text : List ℕ) (fs : List Mention) (m : Mention) → Distinct text fs → first_of text fs (word text m.name) ≡ None → Distinct text (fs ++ m ∷ [])
put_last text [] m d none = (refl, refl)
put_last text (f ∷ fs) m d none = by (bytes_eq (word text m.name) (word text f.name)) refl none (λ so. put_last text fs m d.1 so)
  where
    by : (b : Bool) → bytes_eq (word text m.name) (word text f.name) ≡ b → cond b (Some f) (first_of text fs (word text m.name)) ≡ None
        → (first_of text fs (word text m.name) ≡ None → Distinct text (fs ++ m ∷ [])) → Distinct text (f ∷ (fs ++ m ∷ []))
    by true e none more = let wrong : Some f ≡ None = none in absurd cc
    by false e none more = (not_last text fs m f e ∙ d.0, more none)

abbrev step : List ℕ → List Mention → Mention → List Mention
step text kept m = cond (is_some (first_of text kept (word text m.name))) kept (kept ++ m ∷ [])

kept_on : (text : List ℕ) (kept ms : List Mention) → Distinct text kept → Distinct text (fold (step text) kept ms)
kept_on text kept [] d = d
kept_on text kept (m ∷ ms) d = kept_on text (step text kept m) ms (by (first_of text kept (word text m.name)) refl)
  where
    by : (o : Option Mention) → first_of text kept (word text m.name) ≡ o → Distinct text (cond (is_some o) kept (kept ++ m ∷ []))
    by None e = put_last text kept m d e
    by (Some x) e = d

firsts_distinct : (text : List ℕ) (ms : List Mention) → Distinct text (firsts text ms)
firsts_distinct text ms = kept_on text [] ms refl

-- ---- one mention more

abbrev look : List ℕ → List Mention → Mention → Option Mention
look text ms f = first_of text ms (word text f.name)

abbrev at : List ℕ → List Mention → Mention → ℕ
at text fs m = position_or_len (bytes_eq (word text m.name)) (names_of text fs)

untold : (text : List ℕ) (fs ms : List Mention) (m : Mention) → first_of text fs (word text m.name) ≡ None → map (look text ms) fs ≡ map (look text (ms ++ m ∷ [])) fs
untold text [] ms m none = refl
untold text (f ∷ fs) ms m none = by (bytes_eq (word text m.name) (word text f.name)) refl none (λ so. untold text fs ms m so)
  where
    by : (b : Bool) → bytes_eq (word text m.name) (word text f.name) ≡ b → cond b (Some f) (first_of text fs (word text m.name)) ≡ None
        → (first_of text fs (word text m.name) ≡ None → map (look text ms) fs ≡ map (look text (ms ++ m ∷ [])) fs) → map (look text ms) (f ∷ fs) ≡ map (look text (ms ++ m ∷ [])) (f ∷ fs)
    by true e none more = let wrong : Some f ≡ None = none in absurd cc
    by false e none more = let rest = more none in (λ i. sym (not_last text ms m f e) i ∷ rest i)

one_before : (n : ℕ) → 1 + n ≡ suc n
one_before n = omega arith

told : (text : List ℕ) (fs ms : List Mention) (m : Mention) → Distinct text fs → with_first (map (look text ms) fs) (at text fs m) m ≡ map (look text (ms ++ m ∷ [])) fs
told text [] ms m d = refl
told text (f ∷ fs) ms m d = by (bytes_eq (word text m.name) (word text f.name)) refl (told text fs ms m d.1)
  where
    by : (b : Bool) → bytes_eq (word text m.name) (word text f.name) ≡ b → with_first (map (look text ms) fs) (at text fs m) m ≡ map (look text (ms ++ m ∷ [])) fs
        → with_first (look text ms f ∷ map (look text ms) fs) (cond (not b) (1 + at text fs m) 0) m ≡ look text (ms ++ m ∷ []) f ∷ map (look text (ms ++ m ∷ [])) fs
    by true e more =
        let same : word text m.name ≡ word text f.name = (bytes_eq-Decides (word text m.name) (word text f.name)).0 e in
        let here : look text (ms ++ m ∷ []) f ≡ option_or (look text ms f) (Some m) =
        find-append (λ (x : Mention). bytes_eq (word text f.name) (word text x.name)) ms (m ∷ [])
        ∙ ap (λ b. option_or (look text ms f) (cond b (Some m) None)) (turned true (word text m.name) (word text f.name) e) in
        let rest : map (look text ms) fs ≡ map (look text (ms ++ m ∷ [])) fs = untold text fs ms m (ap (first_of text fs) same ∙ d.0) in
        (λ i. sym here i ∷ rest i)
    by false e more = ap (λ k. with_first (look text ms f ∷ map (look text ms) fs) k m) (one_before (at text fs m)) ∙ (λ i. sym (not_last text ms m f e) i ∷ more i)

bounded : {X : Type 0} (p : X → Bool) (xs : List X) → position_or_len p xs ≤ length xs
bounded p [] = omega arith
bounded p (x ∷ xs) = by (p x) (bounded p xs)
  where
    by : (b : Bool) → position_or_len p xs ≤ length xs → cond (not b) (1 + position_or_len p xs) 0 ≤ suc (length xs)
    by true h = omega arith
    by false h = omega (arith, h)

within : {X : Type 0} (p : X → Bool) (xs : List X) → nat_lt (position_or_len p xs) (length xs) ≡ false → length xs ≡ position_or_len p xs
within p xs h = let up = bounded p xs in let down = ltb-false (position_or_len p xs) (length xs) h in omega (arith, up, down)

place_is : (text : List ℕ) (fs : List Mention) (m : Mention) → place text (names_of text fs) m ≡ at text fs m
place_is text fs m = by (nat_lt (at text fs m) (length (names_of text fs))) refl
  where
    by : (b : Bool) → nat_lt (at text fs m) (length (names_of text fs)) ≡ b → unwrap_or (cond b (Some (at text fs m)) None) (length (names_of text fs)) ≡ at text fs m
    by true e = refl
    by false e = within (bytes_eq (word text m.name)) (names_of text fs) e

-- ---- all mentions

no_more : {X : Type 0} (xs : List X) → xs ++ [] ≡ xs
no_more [] = refl
no_more (x ∷ xs) = ap (λ rest. x ∷ rest) (no_more xs)

owned : (text : List ℕ) (fs e own : List Mention) → Distinct text fs → fold (with_own text (names_of text fs)) (map (look text e) fs) own ≡ map (look text (e ++ encoded own)) fs
owned text fs e [] d = ap (λ ms. map (look text ms) fs) (sym (no_more e))
owned text fs e (m ∷ own) d = by m.is_encoded (owned text fs e own d) (owned text fs (e ++ m ∷ []) own d)
  where
    by : (b : Bool) → fold (with_own text (names_of text fs)) (map (look text e) fs) own ≡ map (look text (e ++ encoded own)) fs
        → fold (with_own text (names_of text fs)) (map (look text (e ++ m ∷ [])) fs) own ≡ map (look text ((e ++ m ∷ []) ++ encoded own)) fs
        → fold (with_own text (names_of text fs)) (cond b (with_first (map (look text e) fs) (place text (names_of text fs) m) m) (map (look text e) fs)) own ≡ map (look text (e ++ cond b (m ∷ encoded own) (encoded own))) fs
    by true without with_it =
        ap (λ os. fold (with_own text (names_of text fs)) os own) (ap (λ k. with_first (map (look text e) fs) k m) (place_is text fs m) ∙ told text fs e m d)
        ∙ (with_it ∙ ap (λ ms. map (look text ms) fs) (append_assoc e (m ∷ []) (encoded own)))
    by false without with_it = without

none_yet : (text : List ℕ) (fs : List Mention) → replicate (length fs) None ≡ map (look text []) fs
none_yet text [] = refl
none_yet text (f ∷ fs) = ap (λ rest. None ∷ rest) (none_yet text fs)

pub all_owned : (text : List ℕ) (all own : List Mention) (fields : Table) → IsTable text all fields
    → fold (with_own text fields.words) (replicate (length fields.firsts) None) own ≡ map (own_encoding text own) fields.firsts
all_owned text all own fields is =
    let apart : Distinct text fields.firsts = subst (Distinct text) (sym is.firsts_are) (firsts_distinct text all) in
    (λ i. fold (with_own text (is.words_are i)) (none_yet text fields.firsts i) own) ∙ owned text fields.firsts [] own apart

-- a loop over all of them ends with what is folded
pub ended : {X Y : Type 0} (f : Y → X → Y) (xs : List X) (i : ℕ) (found : Y) {whole : Y} → length xs ≤ i → fold f found (drop i xs) ≡ whole → found ≡ whole
ended {X} f xs i found past so = sym (ap (fold f found) (none xs i past)) ∙ so
  where
    none : (xs : List X) (i : ℕ) → length xs ≤ i → drop i xs ≡ []
    none [] zero past = refl
    none [] (suc i) past = refl
    none (x ∷ xs) zero past = absurd (omega arith)
    none (x ∷ xs) (suc i) past = none xs i (omega arith)
