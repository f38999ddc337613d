-- The names seen so far, as the constants and methods come.
use Rattle.std.proofs.Common.{rules, ◌≡◌, ◌∙◌, ap, ℕ, Bool, true, false, List, [], ◌∷◌, ◌++◌, refl, sym, subst, map, cond, not, suc, zero, take, drop}
use Rattle.std.specs.Prelude.{slice_get, Some, None, Contains}
use Rattle.std.specs.List.{IsDistinct, list_any}
use Rattle.std.specs.Str.{bytes_eq}
use Rattle.std.proofs.lemmas.Cmp.{nat_list_eq_equiv}
use Rattle.std.proofs.lemmas.List.{map-append}
use Rattle.std.proofs.lemmas.List.Elements.{filter_map-append}
use Rattle.std.proofs.lemmas.Map.Keys.{IsDistinct-push}
use Rattle.std.proofs.lemmas.Map.Views.{Contains-from_any}
use Rattle.std.proofs.lemmas.Slice.Eq.{bytes_eq-Decides}
use Rattle.text_tree.specs.declared.tree.Constant.{Constant}
use Rattle.text_tree.specs.declared.tree.Method.{Method}
use Rattle.text_tree.specs.declared.tree.Part.{Part}
use Rattle.text_tree.specs.declared.tree.Part.TheVariants as part
use Rattle.sem_profile.specs.Words.{word, with_word, is_new}
use Rattle.sem_profile.proofs.Loops.{parted}
use Rattle.text_statements.specs.Callees.{is_library}
use Rattle.text_resolve.specs.Parts.{as_constant, as_method, constants_of, methods_of, constant_names, method_names, twice_at}
use Rattle.text_resolve.specs.Twice.{AreTables, Twice, constant_twice, method_twice, library_twice}

constant_last : (text : List ℕ) (front : List Part) (c : Constant) → constant_names text (front ++ part.Constant c ∷ []) ≡ constant_names text front ++ word text c.name ∷ []
constant_last text front c = ap (map (λ d. word text d.name)) (filter_map-append as_constant front (part.Constant c ∷ [])) ∙ map-append _ (constants_of front) (c ∷ [])

constant_none : (text : List ℕ) (front : List Part) (m : Method) → constant_names text (front ++ part.Method m ∷ []) ≡ constant_names text front
constant_none text front m = ap (map (λ d. word text d.name)) (filter_map-append as_constant front (part.Method m ∷ [])) ∙ map-append _ (constants_of front) [] ∙ search rules

new_word : (names : List (List ℕ)) (name : List ℕ) → is_new names name ≡ true → (list_any (bytes_eq name) names ≡ false) × (with_word names name ≡ names ++ name ∷ [])
new_word names name h = by (list_any (bytes_eq name) names) refl h
  where
    by : (b : Bool) → list_any (bytes_eq name) names ≡ b → not b ≡ true → (list_any (bytes_eq name) names ≡ false) × (with_word names name ≡ names ++ name ∷ [])
    by true e n = absurd cc
    by false e n = (e, ap (λ t. cond t names (names ++ name ∷ [])) e)

same_word : (x y : List ℕ) → bytes_eq x y ≡ true → x ≡ y
same_word x y h = (bytes_eq-Decides x y).0 h

old_word : (names : List (List ℕ)) (name : List ℕ) → is_new names name ≡ false → Contains names name
old_word names name h = by (list_any (bytes_eq name) names) refl h
  where
    by : (b : Bool) → list_any (bytes_eq name) names ≡ b → not b ≡ false → Contains names name
    by true e n = Contains-from_any same_word name names e
    by false e n = absurd cc

-- of the methods of a list and one more
last_of : {A : Type 0} (P : A → Type 0) (xs : List A) (y : A) → ((k : ℕ) (x : A) → slice_get xs k ≡ Some x → P x) → P y → (k : ℕ) (x : A) → slice_get (xs ++ y ∷ []) k ≡ Some x → P x
last_of P [] y each p zero x h = let same : y ≡ x = cc in subst P same p
last_of P [] y each p (suc k) x h = let wrong : None ≡ Some x = h in absurd cc
last_of P (z ∷ xs) y each p zero x h = each 0 x h
last_of P (z ∷ xs) y each p (suc k) x h = last_of P xs y (λ j w at. each (suc j) w at) p k x h

-- a new constant comes
pub constant_comes : (text : List ℕ) (front : List Part) (c : Constant) (constants methods : List (List ℕ)) → AreTables text front constants methods → is_new constants (word text c.name) ≡ true
    → AreTables text (front ++ part.Constant c ∷ []) (with_word constants (word text c.name)) methods
constant_comes text front c constants methods seen fresh =
    let name = word text c.name in
    let n = new_word constants name fresh in
    let all : with_word constants name ≡ constant_names text (front ++ part.Constant c ∷ []) = n.1 ∙ ap (λ ns. ns ++ name ∷ []) seen.constants_are ∙ sym (constant_last text front c) in
    let same_methods : methods_of front ≡ methods_of (front ++ part.Constant c ∷ []) = sym (filter_map-append as_method front (part.Constant c ∷ []) ∙ search rules) in
    record {
      constants_are = all;
      methods_are = seen.methods_are ∙ ap (map (λ m. word text m.name)) same_methods;
      distinct = record {
        constants = subst (IsDistinct bytes_eq) (sym (constant_last text front c))
            (IsDistinct-push nat_list_eq_equiv (constant_names text front) name seen.distinct.constants (ap (list_any (bytes_eq name)) (sym seen.constants_are) ∙ n.0));
        methods = subst (λ ms. IsDistinct bytes_eq (map (λ m. word text m.name) ms)) same_methods seen.distinct.methods;
        own = subst (λ ms. (k : ℕ) (m : Method) → slice_get ms k ≡ Some m → is_library (word text m.name) ≡ false) same_methods seen.distinct.own;
      };
    }

-- a new method comes
pub method_comes : (text : List ℕ) (front : List Part) (m : Method) (constants methods : List (List ℕ)) → AreTables text front constants methods → is_library (word text m.name) ≡ false
    → is_new methods (word text m.name) ≡ true → AreTables text (front ++ part.Method m ∷ []) constants (with_word methods (word text m.name))
method_comes text front m constants methods seen own fresh =
    let name = word text m.name in
    let n = new_word methods name fresh in
    let more : methods_of (front ++ part.Method m ∷ []) ≡ methods_of front ++ m ∷ [] = filter_map-append as_method front (part.Method m ∷ []) in
    let names : method_names text (front ++ part.Method m ∷ []) ≡ method_names text front ++ name ∷ [] = ap (map (λ d. word text d.name)) more ∙ map-append _ (methods_of front) (m ∷ []) in
    record {
      constants_are = seen.constants_are ∙ sym (constant_none text front m);
      methods_are = n.1 ∙ ap (λ ns. ns ++ name ∷ []) seen.methods_are ∙ sym names;
      distinct = record {
        constants = subst (IsDistinct bytes_eq) (sym (constant_none text front m)) seen.distinct.constants;
        methods = subst (IsDistinct bytes_eq) (sym names)
            (IsDistinct-push nat_list_eq_equiv (method_names text front) name seen.distinct.methods (ap (list_any (bytes_eq name)) (sym seen.methods_are) ∙ n.0));
        own = subst (λ ms. (k : ℕ) (d : Method) → slice_get ms k ≡ Some d → is_library (word text d.name) ≡ false) (sym more)
            (last_of (λ d. is_library (word text d.name) ≡ false) (methods_of front) m seen.distinct.own own);
      };
    }

pub constant_refused : (text : List ℕ) (parts : List Part) (i : ℕ) (c : Constant) (constants methods : List (List ℕ)) → slice_get parts i ≡ Some (part.Constant c)
    → AreTables text (take i parts) constants methods → is_new constants (word text c.name) ≡ false → Twice text parts (twice_at c.name)
constant_refused text parts i c constants methods here seen known =
    constant_twice (take i parts) (drop (suc i) parts) c (parted parts i _ here) (subst (λ ns. Contains ns (word text c.name)) seen.constants_are (old_word constants _ known))

pub method_refused : (text : List ℕ) (parts : List Part) (i : ℕ) (m : Method) (constants methods : List (List ℕ)) → slice_get parts i ≡ Some (part.Method m)
    → AreTables text (take i parts) constants methods → is_new methods (word text m.name) ≡ false → Twice text parts (twice_at m.name)
method_refused text parts i m constants methods here seen known =
    method_twice (take i parts) (drop (suc i) parts) m (parted parts i _ here) (subst (λ ns. Contains ns (word text m.name)) seen.methods_are (old_word methods _ known))

pub library_refused : (text : List ℕ) (parts : List Part) (i : ℕ) (m : Method) → slice_get parts i ≡ Some (part.Method m)
    → is_library (word text m.name) ≡ true → Twice text parts (twice_at m.name)
library_refused text parts i m here library = library_twice (take i parts) (drop (suc i) parts) m (parted parts i _ here) library

-- before any has come
pub none_seen : (text : List ℕ) → AreTables text [] [] []
unfolding IsDistinct
none_seen text = record {
  constants_are = refl;
  methods_are = refl;
  distinct = record { constants = tt; methods = tt; own = λ k m h. let wrong : None ≡ Some m = h in absurd cc };
}
