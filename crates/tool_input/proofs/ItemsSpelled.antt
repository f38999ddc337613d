-- The text of an item.
use Rattle.std.proofs.Common.{◌≡◌, ◌∙◌, ℕ, List, [], ◌∷◌, ◌++◌, map, drop, get_or, length, ◌<◌, ◌≤◌, ◌+◌, codes, refl, ap, sym, subst, append_assoc}
use Rattle.std.proofs.lemmas.List.{append-nil, drop_more, drop_all}
use Rattle.sem_bits.specs.Text.{IsText}
use Rattle.sem_filling.specs.declared.filling.Item.{Item}
use Rattle.sem_filling.specs.declared.filling.AskedValue.{AskedValue}
use Rattle.sem_filling.specs.declared.filling.FilledField.{FilledField}
use Rattle.sem_filling.specs.Fillings.{asked_values, sides_of}
use Rattle.tool_input.specs.ItemTexts.{AreValuesText, HasMore, IsItemText, IsValueText}

pub item_grown : (it : Item) (values : List AskedValue) (before mid after : List ℕ) → HasMore (λ text. IsText text it.header) before mid → values ≡ it.asked → HasMore (AreValuesText values) mid after → HasMore (IsItemText it) before after
item_grown it values before mid after h same g =
    (h.0 ++ g.0, (h.0, g.0, h.1, subst (λ vs. AreValuesText vs g.0) same g.1, refl), g.2 ∙ ap (λ m. m ++ g.0) h.2 ∙ append_assoc before h.0 g.0)

-- the values so far are the front of all values
abbrev pub ValuesSoFar : List AskedValue → List AskedValue → List ℕ → List ℕ → Type 0
ValuesSoFar all left before now = HasMore (λ front. (rest : List ℕ) → AreValuesText left rest → AreValuesText all (front ++ rest)) before now

pub values_start : (all : List AskedValue) (text : List ℕ) → ValuesSoFar all (drop 0 all) text text
values_start all text = ([], λ rest h. h, sym (append-nil text))

pub values_more : (values : List AskedValue) (i : ℕ) (d v : AskedValue) (before text new : List ℕ) → i < length values → v ≡ get_or values i d → ValuesSoFar values (drop i values) before text → HasMore (IsValueText v) text new
    → ValuesSoFar values (drop (i + 1) values) before new
values_more values i d v before text new inside at so_far is =
    let here : drop i values ≡ v ∷ drop (i + 1) values = drop_more values i d inside ∙ ap (λ y. y ∷ drop (i + 1) values) (sym at) in (
      so_far.0 ++ is.0,
      λ rest more.
          let all : AreValuesText (drop i values) (is.0 ++ rest) = subst (λ vs. AreValuesText vs (is.0 ++ rest)) (sym here) (is.0, rest, is.1, more, refl) in
          subst (AreValuesText values) (sym (append_assoc so_far.0 is.0 rest)) (so_far.1 (is.0 ++ rest) all),
      is.2 ∙ ap (λ t. t ++ is.0) so_far.2 ∙ append_assoc before so_far.0 is.0,
    )

-- one value more, and none
pub one_more : (all left next : List AskedValue) (v : AskedValue) (before text new : List ℕ) → left ≡ v ∷ next → ValuesSoFar all left before text → HasMore (IsValueText v) text new → ValuesSoFar all next before new
one_more all left next v before text new here so_far is = (
  so_far.0 ++ is.0,
  λ rest more.
      let word : AreValuesText left (is.0 ++ rest) = subst (λ vs. AreValuesText vs (is.0 ++ rest)) (sym here) (is.0, rest, is.1, more, refl) in
      subst (AreValuesText all) (sym (append_assoc so_far.0 is.0 rest)) (so_far.1 (is.0 ++ rest) word),
  is.2 ∙ ap (λ t. t ++ is.0) so_far.2 ∙ append_assoc before so_far.0 is.0,
)

pub none_more : (all left next : List AskedValue) (before text : List ℕ) → left ≡ next → ValuesSoFar all left before text → ValuesSoFar all next before text
none_more all left next before text same so_far = subst (λ vs. ValuesSoFar all vs before text) same so_far

pub values_end : (values : List AskedValue) (i : ℕ) (before text : List ℕ) → length values ≤ i → ValuesSoFar values (drop i values) before text → HasMore (AreValuesText values) before text
values_end values i before text whole so_far =
    let last : AreValuesText (drop i values) [] = subst (λ vs. AreValuesText vs []) (sym (drop_all i values whole)) refl in
    (so_far.0, subst (AreValuesText values) (append-nil so_far.0) (so_far.1 [] last), so_far.2)

pub value_grown : (v : AskedValue) (name before mid after : List ℕ) → name ≡ v.name → mid ≡ before ++ codes " " ++ name ++ codes "=" → HasMore (λ spelled. IsText spelled v.bits) mid after → HasMore (IsValueText v) before after
value_grown v name before mid after same e h =
    (codes " " ++ v.name ++ codes "=" ++ h.0, (h.0, h.1, refl), h.2 ∙ ap (λ m. m ++ h.0) (e ∙ ap (λ n. before ++ codes " " ++ n ++ codes "=") same) ∙ (simp append_assoc))

-- after the last field
pub fields_end : (fields : List FilledField) (i : ℕ) (before text : List ℕ) → length fields ≤ i → ValuesSoFar (asked_values (map sides_of fields)) (asked_values (map sides_of (drop i fields))) before text
    → HasMore (AreValuesText (asked_values (map sides_of fields))) before text
fields_end fields i before text whole so_far =
    let all = asked_values (map sides_of fields) in
    let none : asked_values (map sides_of (drop i fields)) ≡ [] = ap (λ z. asked_values (map sides_of z)) (drop_all i fields whole) in
    let last : AreValuesText (asked_values (map sides_of (drop i fields))) [] = subst (λ vs. AreValuesText vs []) (sym none) refl in
    (so_far.0, subst (AreValuesText all) (append-nil so_far.0) (so_far.1 [] last), so_far.2)
