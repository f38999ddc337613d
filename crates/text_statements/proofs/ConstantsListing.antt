-- The constants among the first parts of a file.
use Rattle.std.proofs.Common.{◌≡◌, ◌∙◌, ap, subst, sym, refl, ℕ, zero, suc, ◌+◌, ◌<◌, Bool, true, false, not, cond, List, [], ◌∷◌, ◌++◌, length, take, drop, get_or, map, arith, length-append}
use Rattle.std.specs.List.{list_any}
use Rattle.std.specs.Str.{bytes_eq}
use Rattle.std.proofs.Math.Seq.{drop-cons, get_or-append_seam}
use Rattle.std.proofs.Math.ListN.{get_or-append}
use Rattle.std.proofs.lemmas.List.Folds.{list_any_none}
use Rattle.std.proofs.lemmas.Slice.Eq.{bytes_eq-Decides}
use Rattle.std.specs.Bool.{Decides}
use Rattle.std.proofs.lemmas.List.{take-append-drop, append-nil, map-append}
use Rattle.std.proofs.lemmas.List.Elements.{filter_map-append}
use Rattle.text_tree.specs.declared.tree.Constant.{Constant}
use Rattle.text_tree.specs.declared.tree.Method.{Method}
use Rattle.text_tree.specs.declared.tree.Part.{Part}
use Rattle.text_tree.specs.declared.tree.Part.TheVariants as parts
use Rattle.sem_profile.specs.declared.fault.ResolveError.{ResolveError}
use Rattle.sem_profile.specs.declared.fault.ResolveError.TheVariants as errors
use Rattle.sem_profile.specs.Words.{word, is_new, with_word}
use Rattle.text_statements.specs.Constants.{constant_part, constants_in, constant_names, AreDistinct, AreValues, IsValue, next_value, IsFirstFault, ValueFault, Blames, earlier}

take_next : {A : Type 0} → (xs : List A) (i : ℕ) (x : A) → i < length xs → x ≡ get_or xs i x → take (suc i) xs ≡ take i xs ++ x ∷ []
take_next [] i x lt is = absurd (omega arith)
take_next (y ∷ xs) zero x lt is = ap (λ z. z ∷ []) (sym is)
take_next (y ∷ xs) (suc i) x lt is = ap (λ zs. y ∷ zs) (take_next xs i x (omega arith) is)

one_more : (file : List Part) (i : ℕ) (x : Part) → i < length file → x ≡ get_or file i x → constants_in (take (i + 1) file) ≡ constants_in (take i file) ++ constants_in (x ∷ [])
one_more file i x lt is =
    let next : i + 1 ≡ suc i = omega arith in
    ap (λ n. constants_in (take n file)) next ∙ ap constants_in (take_next file i x lt is) ∙ filter_map-append constant_part (take i file) (x ∷ [])

pub more_constant : (file : List Part) (i : ℕ) (x : Part) (c : Constant) → i < length file → x ≡ get_or file i x → x ≡ parts.Constant c
    → constants_in (take (i + 1) file) ≡ constants_in (take i file) ++ c ∷ []
more_constant file i x c lt is e = one_more file i x lt is ∙ ap (λ y. constants_in (take i file) ++ constants_in (y ∷ [])) e

pub no_constant : (file : List Part) (i : ℕ) (x : Part) (m : Method) → i < length file → x ≡ get_or file i x → x ≡ parts.Method m
    → constants_in (take (i + 1) file) ≡ constants_in (take i file)
no_constant file i x m lt is e = one_more file i x lt is ∙ ap (λ y. constants_in (take i file) ++ constants_in (y ∷ [])) e ∙ append-nil (constants_in (take i file))

split_at : (file : List Part) (i : ℕ) (x : Part) (c : Constant) → i < length file → x ≡ get_or file i x → x ≡ parts.Constant c
    → constants_in file ≡ constants_in (take i file) ++ c ∷ constants_in (drop (suc i) file)
split_at file i x c lt is e =
    ap constants_in (sym (take-append-drop i file)) ∙ filter_map-append constant_part (take i file) (drop i file)
    ∙ ap (λ us. constants_in (take i file) ++ constants_in us) (drop-cons file i x lt)
    ∙ ap (λ y. constants_in (take i file) ++ constants_in (y ∷ drop (suc i) file)) (sym is ∙ e)

-- ---- names

other : (a b : List ℕ) (r : Bool) → Decides r (a ≡ b) → (b ≡ a → ⊥) → r ≡ false
other a b true d differ = absurd (differ (sym (d.0 refl)))
other a b false d differ = refl

-- among distinct names each is new after those before it
new_here : (names before after : List (List ℕ)) (name : List ℕ) → AreDistinct names → names ≡ before ++ name ∷ after → is_new before name ≡ true
new_here names before after name distinct split =
    let pairs : AreDistinct (before ++ name ∷ after) = subst AreDistinct split distinct in
    ap not (list_any_none (bytes_eq name) before (λ k d lt.
    let longer : length before < length (before ++ name ∷ after) = omega (arith, length-append {A = List ℕ}) in
    other name (get_or before k d) (bytes_eq name (get_or before k d)) (bytes_eq-Decides name (get_or before k d))
    (λ same. pairs k (length before) d lt longer (get_or-append before (name ∷ after) d k lt ∙ same ∙ sym (get_or-append_seam before name after d)))))

with_new : (names : List (List ℕ)) (name : List ℕ) → is_new names name ≡ true → with_word names name ≡ names ++ name ∷ []
with_new names name h = by (list_any (bytes_eq name) names) h
  where
    by : (b : Bool) → not b ≡ true → cond b names (names ++ name ∷ []) ≡ names ++ name ∷ []
    by true h = absurd cc
    by false h = refl

pub more_names : (text : List ℕ) (file : List Part) (i : ℕ) (x : Part) (c : Constant) (names new : List (List ℕ)) → AreDistinct (constant_names text file)
    → i < length file → x ≡ get_or file i x → x ≡ parts.Constant c → names ≡ constant_names text (take i file) → new ≡ with_word names (word text c.name)
    → new ≡ constant_names text (take (i + 1) file)
more_names text file i x c names new distinct lt is e so more =
    let name : Constant → List ℕ = λ d. word text d.name in
    let placed : constant_names text file ≡ constant_names text (take i file) ++ name c ∷ constant_names text (drop (suc i) file) =
    ap (λ cs. map name cs) (split_at file i x c lt is e) ∙ map-append name (constants_in (take i file)) (c ∷ constants_in (drop (suc i) file)) in
    more ∙ ap (λ ns. with_word ns (name c)) so ∙ with_new (constant_names text (take i file)) (name c) (new_here (constant_names text file) (constant_names text (take i file)) (constant_names text (drop (suc i) file)) (name c) distinct placed)
    ∙ sym (ap (λ cs. map name cs) (more_constant file i x c lt is e) ∙ map-append name (constants_in (take i file)) (c ∷ []))

pub same_names : (text : List ℕ) (file : List Part) (i : ℕ) (x : Part) (m : Method) → i < length file → x ≡ get_or file i x → x ≡ parts.Method m
    → constant_names text (take i file) ≡ constant_names text (take (i + 1) file)
same_names text file i x m lt is e = ap (λ (cs : List Constant). map (λ c. word text c.name) cs) (sym (no_constant file i x m lt is e))

-- ---- values

pub more_values : (text : List ℕ) (names : List (List ℕ)) (file : List Part) (i : ℕ) (x : Part) (c : Constant) (values : List _) (v : _)
    → AreValues text names (constants_in (take i file)) values → i < length file → x ≡ get_or file i x → x ≡ parts.Constant c → IsValue (earlier text names values) c.value v
    → AreValues text names (constants_in (take (i + 1) file)) (values ++ v ∷ [])
more_values text names file i x c values v have lt is e value =
    subst (λ cs. AreValues text names cs (values ++ v ∷ [])) (sym (more_constant file i x c lt is e)) (next_value c have value)

pub first_fault : (text : List ℕ) (names : List (List ℕ)) (file : List Part) (i : ℕ) (x : Part) (c : Constant) (values : List _) (error : ResolveError)
    → AreValues text names (constants_in (take i file)) values → i < length file → x ≡ get_or file i x → x ≡ parts.Constant c
    → Blames (ValueFault (earlier text names values) c.value) error → Blames (IsFirstFault text names (constants_in file)) error
first_fault text names file i x c values (errors.Fault fault) have lt is e cause = record {
  before = constants_in (take i file);
  values = values;
  have = have;
  constant = c;
  after = constants_in (drop (suc i) file);
  split = split_at file i x c lt is e;
  cause = cause;
}
first_fault text names file i x c values errors.OutOfMemory have lt is e cause = tt
