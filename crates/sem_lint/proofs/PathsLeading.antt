-- Following a path name by name.
use Rattle.std.proofs.Common.{◌≡◌, refl, ℕ, ◌+◌, ◌≤◌, ◌<◌, suc, zero, Bool, true, false, List, [], ◌∷◌, ◌++◌, length, take, drop, get_or, map, ap, sym, ◌∙◌, subst, append_assoc}
use Rattle.std.specs.Prelude.{Option, Some, None, ◌&&◌, ◌||◌, not, nat_eq, slice_get}
use Rattle.std.specs.Borrow.{Bor}
use Rattle.std.specs.Bool.{Decides}
use Rattle.std.specs.List.{list_all, list_any}
use Rattle.std.specs.Str.{bytes_eq}
use Rattle.std.proofs.lemmas.Slice.Eq.{bytes_eq-Decides}
use Rattle.std.proofs.lemmas.Bool.Decides.{Decides-eqb}
use Rattle.std.specs.Char.{is_ascii_alphabetic}
use Rattle.std.proofs.lemmas.List.{append-nil, drop_all, drop_more, take-append-drop, take_all}
use Rattle.text_source.specs.Names.{is_name, is_name_octet}
use Rattle.sem_profile.specs.declared.profile.Field.{Field}
use Rattle.sem_profile.specs.declared.profile.Format.{Format}
use Rattle.sem_profile.specs.declared.profile.Method.{Method}
use Rattle.sem_profile.specs.Resolved.{Resolved}
use Rattle.sem_profile.specs.Named.{AreWords, field_has_word, format_has_words, method_has_words}
use Rattle.sem_lint.specs.Paths.{AreThose, IsNoted, IsUnknown, added, known, no_more, not_that, that, LeadsToField, OneLeads, any_calls, calls, calls_by, calls_in, calls_of, has, inside, keeps, keeps_by, keeps_in, keeps_of, own}

both : (a b : Bool) → (a && b) ≡ true → (a ≡ true) × (b ≡ true)
both true b e = (refl, e)
both false b e = absurd (cc)

-- ---- an element that passes a test

pub record Passes {A : Type 0} (p : A → Bool) (xs : List A) : Type 0 where
  pub place : ℕ
  pub element : A
  pub at : slice_get xs place ≡ Some element
  pub passes : p element ≡ true

pub one_passes : {A : Type 0} (p : A → Bool) (xs : List A) → list_any p xs ≡ true → Passes p xs
one_passes p [] e = absurd (cc)
one_passes p (x ∷ xs) e = by (p x) refl e (one_passes p xs)
  where
    by : (b : Bool) → p x ≡ b → (b || list_any p xs) ≡ true → (list_any p xs ≡ true → Passes p xs) → Passes p (x ∷ xs)
    by true is e rest = record { place = 0; element = x; at = refl; passes = is }
    by false is e rest = let r = rest e in record { place = suc r.place; element = r.element; at = r.at; passes = r.passes }

pub any_passes : {A : Type 0} (p : A → Bool) (xs : List A) (i : ℕ) (x : A) → slice_get xs i ≡ Some x → p x ≡ true → list_any p xs ≡ true
any_passes p [] i x at e = absurd (let none : None ≡ Some x = at in cc)
any_passes p (y ∷ xs) zero x at e = let same : y ≡ x = cc in ap (λ b. b || list_any p xs) (ap p same ∙ e)
any_passes p (y ∷ xs) (suc i) x at e = by (p y) (any_passes p xs i x at e)
  where
    by : (b : Bool) → list_any p xs ≡ true → (b || list_any p xs) ≡ true
    by true e = refl
    by false e = e

pub each_passes : {A : Type 0} (p : A → Bool) (xs : List A) (i : ℕ) (x : A) → list_all p xs ≡ true → slice_get xs i ≡ Some x → p x ≡ true
each_passes p [] i x e at = absurd (let none : None ≡ Some x = at in cc)
each_passes p (y ∷ xs) zero x e at = let same : y ≡ x = cc in ap p (sym same) ∙ (both (p y) (list_all p xs) e).0
each_passes p (y ∷ xs) (suc i) x e at = each_passes p xs i x (both (p y) (list_all p xs) e).1 at

-- ---- names have no dot

abbrev pub has_no_dot : List ℕ → Bool
has_no_dot text = list_all (λ b. not (nat_eq b 46)) text

is_no_dot : (p : ℕ → Bool) (b : ℕ) → p 46 ≡ false → p b ≡ true → not (nat_eq b 46) ≡ true
is_no_dot p b never e = by (nat_eq b 46) refl
  where
    by : (d : Bool) → nat_eq b 46 ≡ d → not d ≡ true
    by false is = refl
    by true is = absurd (let wrong : p 46 ≡ true = subst (λ x. p x ≡ true) ((Decides-eqb b 46).0 is) e in cc)

octets_have_no_dot : (bs : List ℕ) → list_all is_name_octet bs ≡ true → has_no_dot bs ≡ true
octets_have_no_dot [] e = refl
octets_have_no_dot (b ∷ bs) e =
    let (first, rest) = both (is_name_octet b) (list_all is_name_octet bs) e in
    ap (λ x. x && has_no_dot bs) (is_no_dot is_name_octet b refl first) ∙ octets_have_no_dot bs rest

name_has_no_dot : (name : List ℕ) → is_name name ≡ true → has_no_dot name ≡ true
name_has_no_dot [] e = refl
name_has_no_dot (b ∷ bs) e =
    let (first, rest) = both (is_ascii_alphabetic b) (list_all is_name_octet bs) e in
    ap (λ x. x && has_no_dot bs) (is_no_dot is_ascii_alphabetic b refl first) ∙ octets_have_no_dot bs rest

-- a dot after no dot is the first one
no_dot_here : (front rest : List ℕ) → has_no_dot (front ++ 46 ∷ rest) ≡ true → ⊥
no_dot_here [] rest e = let wrong : false ≡ true = e in absurd (cc)
no_dot_here (x ∷ front) rest e = no_dot_here front rest (both (not (nat_eq x 46)) (has_no_dot (front ++ 46 ∷ rest)) e).1

one_cut : (a b c d : List ℕ) → has_no_dot a ≡ true → has_no_dot c ≡ true → a ++ 46 ∷ b ≡ c ++ 46 ∷ d → (a ≡ c) × (b ≡ d)
one_cut [] b [] d left right e = (refl, let same : b ≡ d = cc in same)
one_cut [] b (y ∷ c) d left right e = let first : 46 ≡ y = cc in absurd (no_dot_here [] c (subst (λ z. has_no_dot (z ∷ c) ≡ true) (sym first) right))
one_cut (x ∷ a) b [] d left right e = let first : x ≡ 46 = cc in absurd (no_dot_here [] a (subst (λ z. has_no_dot (z ∷ a) ≡ true) first left))
one_cut (x ∷ a) b (y ∷ c) d left right e =
    let first : x ≡ y = cc in
    let rest : a ++ 46 ∷ b ≡ c ++ 46 ∷ d = cc in
    let (same, more) = one_cut a b c d (both (not (nat_eq x 46)) (has_no_dot a) left).1 (both (not (nat_eq y 46)) (has_no_dot c) right).1 rest in
    (ap (λ xs. x ∷ xs) same ∙ ap (λ z. z ∷ c) first, more)

-- ---- the names of fields

-- the name of a field that a method has, by a test that looks at the name, is a name
module _ (methods : List Method) (words : AreWords methods) where
  word_of : (k : ℕ) (m : Method) (n : ℕ) (f : Format) (i : ℕ) (d : Field) → slice_get methods k ≡ Some m → slice_get m.formats n ≡ Some f → slice_get f.fields i ≡ Some d → is_name d.declared.name ≡ true
  word_of k m n f i d at_k at_n at_i =
      let of_method = each_passes method_has_words methods k m words at_k in
      let parts = both (is_name m.name) _ of_method in
      let formats = (both (list_all is_name m.parameters) (list_all format_has_words m.formats) parts.1).1 in
      let of_format = each_passes format_has_words m.formats n f formats at_n in
      each_passes field_has_word f.fields i d (both _ (list_all field_has_word f.fields) of_format).1 at_i

  kept_word_in : (k : ℕ) (name : List ℕ) (o : Option Method) → slice_get methods k ≡ o → keeps_of name o ≡ true → is_name name ≡ true
  kept_word_in k name None at e = absurd (let wrong : false ≡ true = e in cc)
  kept_word_in k name (Some m) at e =
      let f = one_passes (keeps_in name) m.formats e in
      let d = one_passes (keeps_by name) f.element.fields f.passes in
      let same = (both _ (bytes_eq d.element.declared.name name) d.passes).1 in
      subst (λ x. is_name x ≡ true) ((bytes_eq-Decides d.element.declared.name name).0 same) (word_of k m f.place f.element d.place d.element at f.at d.at)

  kept_word : (k : ℕ) (name : List ℕ) → keeps methods k name ≡ true → is_name name ≡ true
  kept_word k name e = kept_word_in k name (slice_get methods k) refl e

  called_word_in : (k m : ℕ) (name : List ℕ) (o : Option Method) → slice_get methods k ≡ o → calls_of name m o ≡ true → is_name name ≡ true
  called_word_in k m name None at e = absurd (let wrong : false ≡ true = e in cc)
  called_word_in k m name (Some method) at e =
      let f = one_passes (calls_in name m) method.formats e in
      let d = one_passes (calls_by name m) f.element.fields f.passes in
      let same = (both (bytes_eq d.element.declared.name name) _ d.passes).0 in
      subst (λ x. is_name x ≡ true) ((bytes_eq-Decides d.element.declared.name name).0 same) (word_of k method f.place f.element d.place d.element at f.at d.at)

  called_word : (k m : ℕ) (name : List ℕ) → calls methods k name m ≡ true → is_name name ≡ true
  called_word k m name e = called_word_in k m name (slice_get methods k) refl e

  -- ---- a name further

  -- a path with a dot leads into a method that its first name calls
  leads_inside : (k : ℕ) (name rest path : List ℕ) → has_no_dot name ≡ true → path ≡ name ++ 46 ∷ rest → LeadsToField methods k path → (m : ℕ) × (calls methods k name m ≡ true) × LeadsToField methods m rest
  leads_inside k name rest path clear e (own _ other kept) =
      absurd (no_dot_here name rest (subst (λ p. has_no_dot p ≡ true) e (name_has_no_dot other (kept_word k other kept))))
  leads_inside k name rest path clear e (inside _ m other more called leads) =
      let same = one_cut other more name rest (name_has_no_dot other (called_word k m other called)) clear e in
      (m, subst (λ x. calls methods k x m ≡ true) same.0 called, subst (LeadsToField methods m) same.1 leads)

  leads_inside_one : (reached found : List ℕ) (name rest path : List ℕ) → has_no_dot name ≡ true → path ≡ name ++ 46 ∷ rest → ((m : ℕ) → has found m ≡ any_calls methods reached name m) → OneLeads methods reached path → OneLeads methods found rest
  leads_inside_one reached found name rest path clear e same one =
      let on = leads_inside one.method name rest path clear e one.leads in
      let at = one_passes (λ k. nat_eq k one.method) reached one.is_reached in
      let called : calls methods at.element name on.0 ≡ true = subst (λ k. calls methods k name on.0 ≡ true) (sym ((Decides-eqb at.element one.method).0 at.passes)) on.1 in
      record { method = on.0; is_reached = same on.0 ∙ any_passes (λ k. calls methods k name on.0) reached at.place at.element at.at called; leads = on.2 }

  leads_back_one : (reached found : List ℕ) (name rest path : List ℕ) → path ≡ name ++ 46 ∷ rest → ((m : ℕ) → has found m ≡ any_calls methods reached name m) → OneLeads methods found rest → OneLeads methods reached path
  leads_back_one reached found name rest path e same one =
      let at = one_passes (λ k. calls methods k name one.method) reached (sym (same one.method) ∙ one.is_reached) in
      record {
        method = at.element;
        is_reached = any_passes (λ k. nat_eq k at.element) reached at.place at.element at.at ((Decides-eqb at.element at.element).1 refl);
        leads = subst (LeadsToField methods at.element) (sym e) (inside at.element one.method name rest at.passes one.leads);
      }

  -- ---- the last name

  -- a path without a dot is the name of an own field
  leads_here : (k : ℕ) (path : List ℕ) → has_no_dot path ≡ true → LeadsToField methods k path → keeps methods k path ≡ true
  leads_here k path clear (own _ _ kept) = kept
  leads_here k path clear (inside _ m name rest called leads) = absurd (no_dot_here name rest clear)

  leads_at_end : (reached : List ℕ) (path : List ℕ) → has_no_dot path ≡ true → OneLeads methods reached path → list_any (λ k. keeps methods k path) reached ≡ true
  leads_at_end reached path clear one =
      let at = one_passes (λ k. nat_eq k one.method) reached one.is_reached in
      any_passes (λ k. keeps methods k path) reached at.place at.element at.at
      (leads_here at.element path clear (subst (λ k. LeadsToField methods k path) (sym ((Decides-eqb at.element one.method).0 at.passes)) one.leads))

  ends_in_field : (reached : List ℕ) (path : List ℕ) → list_any (λ k. keeps methods k path) reached ≡ true → OneLeads methods reached path
  ends_in_field reached path e =
      let at = one_passes (λ k. keeps methods k path) reached e in
      record { method = at.element; is_reached = any_passes (λ k. nat_eq k at.element) reached at.place at.element at.at ((Decides-eqb at.element at.element).1 refl); leads = own at.element path at.passes }

-- ---- the loop

-- what is left of the path leads on from some method just where the path leads from the top; before the place there is no dot, and there is one unless it is the end
pub record Follows (methods : List Method) (top : ℕ) (path reached rest : List ℕ) (place : ℕ) : Type 0 where
  pub on : LeadsToField methods top path → OneLeads methods reached rest
  pub back : OneLeads methods reached rest → LeadsToField methods top path
  pub within : place ≤ length rest
  pub front : has_no_dot (take place rest) ≡ true
  pub dot : place < length rest → get_or rest place 0 ≡ 46

pub follows_start : (methods : List Method) (top : ℕ) (path reached : List ℕ) (place : ℕ) → reached ≡ top ∷ [] → place ≤ length path → has_no_dot (take place path) ≡ true → (place < length path → get_or path place 0 ≡ 46)
    → Follows methods top path reached path place
follows_start methods top path reached place is within front dot = record {
  on = λ leads. record { method = top; is_reached = ap (λ r. has r top) is ∙ ap (λ b. b || false) ((Decides-eqb top top).1 refl); leads = leads };
  back = λ one. let same = one_passes (λ k. nat_eq k one.method) (top ∷ []) (sym (ap (λ r. has r one.method) is) ∙ one.is_reached) in start_of same one.leads;
  within = within;
  front = front;
  dot = dot;
}
  where
    start_of : {m : ℕ} → Passes (λ k. nat_eq k m) (top ∷ []) → LeadsToField methods m path → LeadsToField methods top path
    start_of {m} s leads = at_zero s.place s.element s.at s.passes
      where
        at_zero : (i x : ℕ) → slice_get (top ∷ []) i ≡ Some x → nat_eq x m ≡ true → LeadsToField methods top path
        at_zero zero x at e = let same : top ≡ x = cc in subst (λ k. LeadsToField methods k path) (sym (same ∙ (Decides-eqb x m).0 e)) leads
        at_zero (suc i) x at e = absurd (let none : None ≡ Some x = at in cc)

pub follows_on : (methods : List Method) (top : ℕ) (path reached found rest name next : List ℕ) (place after : ℕ) → AreWords methods → Follows methods top path reached rest place → place < length rest → name ≡ take place rest → next ≡ drop (place + 1) rest
    → ((m : ℕ) → has found m ≡ any_calls methods reached name m) → after ≤ length next → has_no_dot (take after next) ≡ true → (after < length next → get_or next after 0 ≡ 46)
    → Follows methods top path found next after
follows_on methods top path reached found rest name next place after words so more is_name is_next same within front dot =
    let cut : rest ≡ name ++ 46 ∷ next = sym (take-append-drop place rest) ∙ ap (λ r. take place rest ++ r) (drop_more rest place 0 more) ∙ ap (λ x. take place rest ++ x ∷ drop (place + 1) rest) (so.dot more) ∙ ap (λ n. n ++ 46 ∷ drop (place + 1) rest) (sym is_name) ∙ ap (λ r. name ++ 46 ∷ r) (sym is_next) in
    let clear : has_no_dot name ≡ true = ap has_no_dot is_name ∙ so.front in
    record {
      on = λ leads. leads_inside_one methods words reached found name next rest clear cut same (so.on leads);
      back = λ one. so.back (leads_back_one methods words reached found name next rest cut same one);
      within = within;
      front = front;
      dot = dot;
    }

pub follows_end : (methods : List Method) (top : ℕ) (path reached rest : List ℕ) (place : ℕ) (b : Bool) → AreWords methods → Follows methods top path reached rest place → length rest ≤ place → b ≡ list_any (λ k. keeps methods k rest) reached
    → Decides b (LeadsToField methods top path)
follows_end methods top path reached rest place b words so over is =
    let clear : has_no_dot rest ≡ true = ap has_no_dot (sym (take_all place rest over)) ∙ so.front in
    (λ e. so.back (ends_in_field methods words reached rest (sym is ∙ e)), λ leads. is ∙ leads_at_end methods words reached rest clear (so.on leads))

-- ---- what is noted

pub known_stays : (methods : List Method) (top : ℕ) (path : List ℕ) (found : List (List ℕ)) → LeadsToField methods top path → IsNoted methods top path found found
known_stays methods top path found leads = known leads

pub unknown_added : (methods : List Method) (top : ℕ) (path : List ℕ) (found new : List (List ℕ)) (b : Bool) → Decides b (LeadsToField methods top path) → b ≡ false → new ≡ found ++ path ∷ [] → IsNoted methods top path found new
unknown_added methods top path found new b told is e =
    let none : LeadsToField methods top path → ⊥ = λ leads. let wrong : true ≡ false = sym (told.1 leads) ∙ is in absurd (cc) in
    subst (IsNoted methods top path found) (sym e) (added none)

-- ---- all paths

abbrev texts : List (Bor (List ℕ)) → List (List ℕ)
texts given = map (λ (p : Bor (List ℕ)). p.now) given

module _ (p : Resolved) where
  step : (path : List ℕ) (rest found new all : List (List ℕ)) → IsNoted p.methods p.top path found new → ((more : List (List ℕ)) → AreThose (IsUnknown p) (path ∷ rest) more → AreThose (IsUnknown p) all (found ++ more))
      → (more : List (List ℕ)) → AreThose (IsUnknown p) rest more → AreThose (IsUnknown p) all (new ++ more)
  step path rest found _ all (added none) so more h = subst (AreThose (IsUnknown p) all) (sym (append_assoc found (path ∷ []) more)) (so (path ∷ more) (that none h))
  step path rest found _ all (known leads) so more h = so more (not_that (λ none. none leads) h)

  pub noted_next : (methods : List Method) (top : ℕ) (given : List (Bor (List ℕ))) (i : ℕ) (d : Bor (List ℕ)) (found new : List (List ℕ)) → methods ≡ p.methods → top ≡ p.top → i < length given → IsNoted methods top (get_or given i d).now found new
      → ((more : List (List ℕ)) → AreThose (IsUnknown p) (texts (drop i given)) more → AreThose (IsUnknown p) (texts given) (found ++ more))
      → (more : List (List ℕ)) → AreThose (IsUnknown p) (texts (drop (i + 1) given)) more → AreThose (IsUnknown p) (texts given) (new ++ more)
  noted_next methods top given i d found new same at within noted so =
      let here : texts (drop i given) ≡ (get_or given i d).now ∷ texts (drop (i + 1) given) = ap texts (drop_more given i d within) in
      let noted : IsNoted p.methods p.top (get_or given i d).now found new = rw (sym same, sym at) noted in
      step (get_or given i d).now (texts (drop (i + 1) given)) found new (texts given) noted (λ more h. so more (subst (λ xs. AreThose (IsUnknown p) xs more) (sym here) h))

  pub noted_end : (given : List (Bor (List ℕ))) (i : ℕ) (found : List (List ℕ)) → length given ≤ i → ((more : List (List ℕ)) → AreThose (IsUnknown p) (texts (drop i given)) more → AreThose (IsUnknown p) (texts given) (found ++ more))
      → AreThose (IsUnknown p) (texts given) found
  noted_end given i found over so =
      let none : texts (drop i given) ≡ [] = ap texts (drop_all i given over) in
      subst (AreThose (IsUnknown p) (texts given)) (append-nil found) (so [] (subst (λ xs. AreThose (IsUnknown p) xs []) (sym none) no_more))
