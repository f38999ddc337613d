-- Of several faults the earliest is answered: where none is answered none has a cause, and what is answered has one.
use Rattle.std.proofs.Common.{◌≡◌, ◌∙◌, ap, ℕ, ◌<◌, ◌⊎◌, inl, inr, List, [], ◌∷◌, fold, map, ◌++◌, get_or, drop, ◌+◌, refl, sym, suc, zero, length, Some, None, Option, arith, subst}
use Rattle.std.specs.Prelude.{option_and_then, option_map, position, slice_get}
use Rattle.std.specs.Str.{bytes_eq}
use Rattle.std.proofs.lemmas.List.{append_assoc}
use Rattle.sem_profile.specs.declared.fault.ProfileFaultKind.TheVariants as kinds
use Rattle.sem_profile.specs.Faults.{about}
use Rattle.sem_profile.specs.Words.{word}
use Rattle.sem_profile.specs.declared.fault.ProfileFault.{ProfileFault}
use Rattle.sem_profile.specs.Precedence.{earlier}
use Rattle.sem_profile.proofs.PrecedenceLemmas.{which, neither}
use Rattle.text_sections.specs.declared.mention.Mention.{Mention}
use Rattle.text_sections.specs.declared.table.Table.{Table}
use Rattle.text_sections.specs.Mentions.{first_of}
use Rattle.text_sections.specs.Tables.{IsTable, find_in}
use Rattle.text_sections.specs.Causes.{Answers, earliest, IsOneOf, is_one_of, encoded_before, later}

-- the same causes in other words
pub answers_as : {C D : ProfileFault → Type 0} {o : Option ProfileFault} → ((f : ProfileFault) → D f → C f) → ((f : ProfileFault) → C f → D f) → Answers D o → Answers C o
answers_as to from j = record { fine = λ e f c. j.fine e f (from f c); cause = λ f e. to f (j.cause f e) }

-- the earlier of two answers
pub answers_both : {C D : ProfileFault → Type 0} {a b : Option ProfileFault} → Answers C a → Answers D b → Answers (λ f. C f ⊎ D f) (earlier a b)
answers_both {C} {D} {a} {b} j k = record {
  fine = λ e f c. let n = neither a b e in elim c as (λ _. ⊥) [ inl x ↦ j.fine n.0 f x | inr y ↦ k.fine n.1 f y ];
  cause = λ f e. elim (which a b f e) as (λ _. C f ⊎ D f) [ inl x ↦ inl (j.cause f x) | inr y ↦ inr (k.cause f y) ];
}

-- a fault is its own cause
pub answers_itself : (o : Option ProfileFault) → Answers (λ f. o ≡ Some f) o
answers_itself o = record { fine = λ e f same. let wrong : None ≡ Some f = sym e ∙ same in absurd cc; cause = λ f e. e }

none_of_none : {X : Type 0} (g : X → Option ProfileFault) (f : ProfileFault) → IsOneOf g [] f → ⊥
none_of_none g f (is_one_of zero {x} at is) = let wrong : None ≡ Some x = at in absurd cc
none_of_none g f (is_one_of (suc k) {x} at is) = let wrong : None ≡ Some x = at in absurd cc

of_first : {X : Type 0} (g : X → Option ProfileFault) (x : X) (xs : List X) (f : ProfileFault) → IsOneOf g (x ∷ xs) f → (g x ≡ Some f) ⊎ IsOneOf g xs f
of_first g x xs f (is_one_of zero {x = y} at is) = let same : x ≡ y = cc in inl (subst (λ z. g z ≡ Some f) (sym same) is)
of_first g x xs f (is_one_of (suc k) at is) = inr (is_one_of k at is)

of_rest : {X : Type 0} (g : X → Option ProfileFault) (x : X) (xs : List X) (f : ProfileFault) → IsOneOf g xs f → IsOneOf g (x ∷ xs) f
of_rest g x xs f (is_one_of k at is) = is_one_of (suc k) at is

folded : {X : Type 0} (g : X → Option ProfileFault) (xs : List X) (C : ProfileFault → Type 0) (found : Option ProfileFault) → Answers C found
    → Answers (λ f. C f ⊎ IsOneOf g xs f) (fold (λ found x. earlier found (g x)) found xs)
folded g [] C found j = answers_as (λ f c. inl c) (λ f c. elim c as (λ _. C f) [ inl x ↦ x | inr y ↦ absurd (none_of_none g f y) ]) j
folded g (x ∷ xs) C found j =
    answers_as {D = λ f. (C f ⊎ (g x ≡ Some f)) ⊎ IsOneOf g xs f}
    (λ f d. elim d as (λ _. C f ⊎ IsOneOf g (x ∷ xs) f) [
      | inl e ↦ elim e as (λ _. C f ⊎ IsOneOf g (x ∷ xs) f) [ inl c ↦ inl c | inr is ↦ inr (is_one_of 0 refl is) ]
      | inr rest ↦ inr (of_rest g x xs f rest)
    ])
    (λ f d. elim d as (λ _. (C f ⊎ (g x ≡ Some f)) ⊎ IsOneOf g xs f) [
      | inl c ↦ inl (inl c)
      | inr more ↦ elim (of_first g x xs f more) as (λ _. (C f ⊎ (g x ≡ Some f)) ⊎ IsOneOf g xs f) [ inl is ↦ inl (inr is) | inr rest ↦ inr rest ]
    ])
    (folded g xs (λ f. C f ⊎ (g x ≡ Some f)) (earlier found (g x)) (answers_both j (answers_itself (g x))))

pub nothing : Answers (λ f. ⊥) None
nothing = record { fine = λ e f c. c; cause = λ f e. let wrong : None ≡ Some f = e in absurd cc }

pub earliest_answers : {X : Type 0} (g : X → Option ProfileFault) (xs : List X) → Answers (IsOneOf g xs) (earliest g xs)
earliest_answers g xs = answers_as {D = λ f. ⊥ ⊎ IsOneOf g xs f} (λ f d. elim d as (λ _. IsOneOf g xs f) [ inl wrong ↦ absurd wrong | inr is ↦ is ]) (λ f is. inr is) (folded g xs (λ f. ⊥) None nothing)

drop_at : {X : Type 0} (xs : List X) (i : ℕ) (d : X) → i < length xs → drop i xs ≡ get_or xs i d ∷ drop (i + 1) xs
drop_at {X} xs i d lt = next xs i lt ∙ ap (λ n. get_or xs i d ∷ drop n xs) (one_on i)
  where
    one_on : (i : ℕ) → suc i ≡ i + 1
    one_on i = omega arith

    next : (xs : List X) (i : ℕ) → i < length xs → drop i xs ≡ get_or xs i d ∷ drop (suc i) xs
    next [] i lt = absurd (omega arith)
    next (x ∷ xs) zero lt = refl
    next (x ∷ xs) (suc i) lt = next xs i (omega arith)

-- one more step of a loop that makes a list
pub map_more : {X Y : Type 0} (f : X → Y) (xs : List X) (i : ℕ) (d : X) (made new whole : List Y) (y : Y) → i < length xs → y ≡ f (get_or xs i d) → new ≡ made ++ y ∷ [] → made ++ map f (drop i xs) ≡ whole
    → new ++ map f (drop (i + 1) xs) ≡ whole
map_more f xs i d made new whole y lt y_is new_is before =
    ap (λ zs. zs ++ map f (drop (i + 1) xs)) (new_is ∙ ap (λ z. made ++ z ∷ []) y_is)
    ∙ (append_assoc made (f (get_or xs i d) ∷ []) (map f (drop (i + 1) xs)) ∙ (sym (ap (λ zs. made ++ map f zs) (drop_at xs i d lt)) ∙ before))

-- one more step of a loop that keeps the earliest
pub earliest_more : {X : Type 0} (g : X → Option ProfileFault) (xs : List X) (i : ℕ) (d : X) (found next new whole : Option ProfileFault) → i < length xs → next ≡ g (get_or xs i d) → new ≡ earlier found next
    → fold (λ found x. earlier found (g x)) found (drop i xs) ≡ whole → fold (λ found x. earlier found (g x)) new (drop (i + 1) xs) ≡ whole
earliest_more g xs i d found next new whole lt next_is new_is before =
    ap (λ o. fold (λ found x. earlier found (g x)) o (drop (i + 1) xs)) (new_is ∙ ap (earlier found) next_is) ∙ (sym (ap (fold (λ found x. earlier found (g x)) found) (drop_at xs i d lt)) ∙ before)

-- what a table finds is the first mention
pub finds : (text : List ℕ) (mentions : List Mention) (table : Table) → IsTable text mentions table → find_in table ≡ first_of text mentions
finds text mentions table is = λ i name. is.finds name i

pub one_answers : {X : Type 0} (g : (List ℕ → Option Mention) → X → Option ProfileFault) (xs : List X) (look real : List ℕ → Option Mention) (o : Option ProfileFault) → look ≡ real → o ≡ earliest (g look) xs
    → Answers (IsOneOf (g real) xs) o
one_answers g xs look real o same is = subst (Answers (IsOneOf (g real) xs)) (sym (is ∙ ap (λ look. earliest (g look) xs) same)) (earliest_answers (g real) xs)

-- two answers whose causes are those of a third
pub answers_join : {C D E : ProfileFault → Type 0} {a b o : Option ProfileFault} → ((f : ProfileFault) → C f ⊎ D f → E f) → ((f : ProfileFault) → E f → C f ⊎ D f) → Answers C a → Answers D b → o ≡ earlier a b → Answers E o
answers_join {E = E} to from j k is = subst (Answers E) (sym is) (answers_as to from (answers_both j k))

-- an empty table has an encoding of no name
pub none_before : (text : List ℕ) (table : Table) (mentions : List Mention) → table.firsts ≡ [] → None ≡ earliest (encoded_before text (find_in table)) mentions
none_before text table mentions empty = by mentions
  where
    look : (o : Option ℕ) → option_and_then (slice_get table.firsts) o ≡ None
    look None = refl
    look (Some k) = ap (λ xs. slice_get xs k) empty

    by : (ms : List Mention) → None ≡ earliest (encoded_before text (find_in table)) ms
    by [] = refl
    by (m ∷ ms) =
        by ms ∙ sym (ap (λ o. fold (λ found x. earlier found (encoded_before text (find_in table) x)) (earlier None (option_map (λ s. about kinds.SecondEncoding (later s.name m.name)) o)) ms)
        (look (position (bytes_eq (word text m.name)) table.words)))
