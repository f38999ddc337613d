-- Which formats have a name, one field after the other.
use Rattle.std.proofs.Common.{◌≡◌, refl, ℕ, Bool, true, false, cond, List, [], ◌∷◌, ap, sym, ◌∙◌}
use Rattle.std.specs.Prelude.{Option, Some, None, Result, Ok, Err, OnOk, not, ◌&&◌, ◌||◌, nat_eq}
use Rattle.std.specs.List.{list_all, list_any}
use Rattle.std.specs.Str.{bytes_eq}
use Rattle.std.proofs.lemmas.Bool.Decides.{Decides-eqb}
use Rattle.std.proofs.lemmas.Slice.Eq.{bytes_eq-Decides}
use Rattle.sem_profile.specs.declared.profile.Field.{Field}
use Rattle.sem_lint.specs.Spelled.{alone_by, lets_alone, owner_with}
use Rattle.sem_lint.specs.declared.spelled.Owner.{Owner}

and_true : (a : Bool) → (a && true) ≡ a
and_true true = refl
and_true false = refl

and_false : (a : Bool) → (a && false) ≡ false
and_false true = refl
and_false false = refl

or_true : (a : Bool) → (a || true) ≡ true
or_true true = refl
or_true false = refl

or_false : (a : Bool) → (a || false) ≡ a
or_false true = refl
or_false false = refl

twice : (a : Bool) → a ≡ (a && a)
twice true = refl
twice false = refl

-- two numbers that differ aren't both a third
not_both : (a i n : ℕ) → nat_eq a i ≡ false → false ≡ (nat_eq a n && nat_eq i n)
not_both a i n apart = by (nat_eq a n) (nat_eq i n) refl refl
  where
    by : (b c : Bool) → nat_eq a n ≡ b → nat_eq i n ≡ c → false ≡ (b && c)
    by false c one other = refl
    by true false one other = refl
    by true true one other =
        let same : a ≡ i = (Decides-eqb a n).0 one ∙ sym ((Decides-eqb i n).0 other) in
        absurd (let wrong : true ≡ false = sym ((Decides-eqb a i).1 same) ∙ apart in cc)

-- a format more that has the name
one_more : (o : Option Owner) (i n : ℕ) → alone_by (Some (owner_with o i)) n ≡ (alone_by o n && nat_eq i n)
one_more None i n = and_true (nat_eq i n)
one_more (Some o) i n = by o.is_shared
  where
    same_place : (b : Bool) → nat_eq o.first i ≡ b → (nat_eq o.first n && not (not b)) ≡ ((nat_eq o.first n && true) && nat_eq i n)
    same_place true is =
        let e : o.first ≡ i = (Decides-eqb o.first i).0 is in
        and_true (nat_eq o.first n) ∙ twice (nat_eq o.first n) ∙ ap (λ x. x && nat_eq o.first n) (sym (and_true (nat_eq o.first n))) ∙ ap (λ x. (nat_eq o.first n && true) && nat_eq x n) e
    same_place false is = and_false (nat_eq o.first n) ∙ not_both o.first i n is ∙ ap (λ x. x && nat_eq i n) (sym (and_true (nat_eq o.first n)))

    by : (s : Bool) → (nat_eq o.first n && not (s || not (nat_eq o.first i))) ≡ ((nat_eq o.first n && not s) && nat_eq i n)
    by true = and_false (nat_eq o.first n) ∙ ap (λ x. x && nat_eq i n) (sym (and_false (nat_eq o.first n)))
    by false = same_place (nat_eq o.first i) refl

pub name_noted : (own bs name : List ℕ) (i n : ℕ) (o p : Option Owner) → bs ≡ own → (own ≡ name → o ≡ p) → alone_by (cond (bytes_eq bs name) (Some (owner_with o i)) p) n ≡ (alone_by p n && (nat_eq i n || not (bytes_eq own name)))
name_noted own bs name i n o p is same = ap (λ x. alone_by (cond (bytes_eq x name) (Some (owner_with o i)) p) n) is ∙ by (bytes_eq own name) refl
  where
    by : (b : Bool) → bytes_eq own name ≡ b → alone_by (cond b (Some (owner_with o i)) p) n ≡ (alone_by p n && (nat_eq i n || not b))
    by true e = one_more o i n ∙ ap (λ x. alone_by x n && nat_eq i n) (same ((bytes_eq-Decides own name).0 e)) ∙ ap (λ x. alone_by p n && x) (sym (or_false (nat_eq i n)))
    by false e = sym (and_true (alone_by p n)) ∙ ap (λ x. alone_by p n && x) (sym (or_true (nat_eq i n)))

-- no field of the name, by each field
pub fields_let_alone : (i n : ℕ) (name : List ℕ) (fields : List Field) → list_all (lets_alone i n name) fields ≡ (nat_eq i n || not (list_any (λ (d : Field). bytes_eq d.declared.name name) fields))
fields_let_alone i n name [] = sym (or_true (nat_eq i n))
fields_let_alone i n name (d ∷ ds) = ap (λ x. lets_alone i n name d && x) (fields_let_alone i n name ds) ∙ by (nat_eq i n) (bytes_eq d.declared.name name)
  where
    by : (a b : Bool) → ((a || not b) && (a || not (list_any (λ (e : Field). bytes_eq e.declared.name name) ds))) ≡ (a || not (b || list_any (λ (e : Field). bytes_eq e.declared.name name) ds))
    by true b = refl
    by false true = refl
    by false false = refl

pub format_noted : {A E : Type 0} (r : Result A E) (old new : List ℕ → Option Owner) (i : ℕ) (fields : List Field) → OnOk r ((name : List ℕ) (n : ℕ) → alone_by (new name) n ≡ (alone_by (old name) n && list_all (lets_alone i n name) fields))
    → OnOk r ((name : List ℕ) (n : ℕ) → alone_by (new name) n ≡ (alone_by (old name) n && (nat_eq i n || not (list_any (λ (d : Field). bytes_eq d.declared.name name) fields))))
format_noted (Err e) old new i fields h = tt
format_noted (Ok x) old new i fields h = λ name n. h name n ∙ ap (λ b. alone_by (old name) n && b) (fields_let_alone i n name fields)
