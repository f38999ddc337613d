-- Statements of CONTROL, gone through one after the other.
use Rattle.std.proofs.Common.{◌≡◌, ◌∙◌, ap, ℕ, ◌+◌, cond, take, true, false, List, [], ◌∷◌, ◌++◌, sym, subst, append_assoc, append-nil}
use Rattle.std.specs.Prelude.{slice_get, Some, Option}
use Rattle.text_source.specs.declared.span.Span.{Span}
use Rattle.text_tree.specs.declared.tree.Bracket.{Bracket}
use Rattle.text_tree.specs.declared.tree.Expr.{Expr as Tree}
use Rattle.text_tree.specs.declared.tree.Item.{Item}
use Rattle.text_tree.specs.declared.tree.Item.TheVariants as items
use Rattle.text_tree.specs.declared.tree.Section.{Section}
use Rattle.sem_profile.specs.Words.{word, with_word}
use Rattle.text_statements.specs.Names.{Names}
use Rattle.text_statements.specs.Asked.{only_length, IsAsked, is_asked, IsNotAsked, no_constant, enforced, AreAsked, asks, asks_none, Asks, FieldAsks, field_asked, field_valueless, field_enforced, AskedOn, control_items, control_part, is_control}
use Rattle.text_statements.proofs.InitialsFronts.{lists_taken}
use Rattle.sem_profile.proofs.Loops.{taken}

-- what is found for a field is found for its statement
pub statement_asks : (s : Names) (set : List (List ℕ)) (name : Span) (bracket : Option Bracket) (length : Tree) (o : Option Span) → only_length bracket ≡ Some length → FieldAsks s set name length o
    → Asks s set (items.Field name bracket) o
statement_asks s set name bracket length o e (field_asked v value free) = is_asked length v e value free
statement_asks s set name bracket length o e (field_valueless f fault) = no_constant length f e fault
statement_asks s set name bracket length o e (field_enforced there) = enforced there

pub asked_none : (s : Names) (set names : List (List ℕ)) → AskedOn s set [] names names
asked_none s set names = λ before so. subst (λ is. AreAsked s set is names) (sym (append-nil before)) so

pub asked_both : (s : Names) (set : List (List ℕ)) (xs ys : List Item) (old middle new : List (List ℕ)) → AskedOn s set xs old middle → AskedOn s set ys middle new → AskedOn s set (xs ++ ys) old new
asked_both s set xs ys old middle new p q = λ before so. subst (λ is. AreAsked s set is new) (append_assoc before xs ys) (q (before ++ xs) (p before so))

-- a statement whose field is asked
pub asked_one : (s : Names) (set : List (List ℕ)) (item : Item) (name : Span) (written : List ℕ) (old new : List (List ℕ)) → IsAsked s set item name → written ≡ word s.text name
    → new ≡ with_word old written → AskedOn s set (item ∷ []) old new
asked_one s set item name written old new is named new_is = λ before so.
    subst (AreAsked s set (before ++ item ∷ [])) (sym (new_is ∙ ap (with_word old) named)) (asks item name so is)

-- a statement that asks for none
pub asked_no_more : (s : Names) (set : List (List ℕ)) (item : Item) (names : List (List ℕ)) → IsNotAsked s set item → AskedOn s set (item ∷ []) names names
asked_no_more s set item names is = λ before so. asks_none item so is

-- ---- one more of the statements of a section

pub ask_more : (s : Names) (set : List (List ℕ)) (xs : List Item) (i : ℕ) (x : Item) (old middle new : List (List ℕ)) → slice_get xs i ≡ Some x
    → AskedOn s set (take i xs) old middle → AskedOn s set (x ∷ []) middle new → AskedOn s set (take (i + 1) xs) old new
ask_more s set xs i x old middle new here p q =
    subst (λ is. AskedOn s set is old new) (sym (taken xs i x here)) (asked_both s set (take i xs) (x ∷ []) old middle new p q)

-- ---- one more section

pub section_asked : (s : Names) (set : List (List ℕ)) (xs : List Section) (i : ℕ) (x : Section) (old new : List (List ℕ)) → slice_get xs i ≡ Some x → is_control x.kind ≡ true
    → AreAsked s set (control_items (take i xs)) old → AskedOn s set x.items old new → AreAsked s set (control_items (take (i + 1) xs)) new
section_asked s set xs i x old new here kind so on =
    let part : control_part x ≡ x.items = ap (λ b. cond b x.items []) kind in
    subst (λ is. AreAsked s set is new) (sym (lists_taken control_part xs i x here ∙ ap (λ is. control_items (take i xs) ++ is) part)) (on (control_items (take i xs)) so)

pub section_past : (s : Names) (set : List (List ℕ)) (xs : List Section) (i : ℕ) (x : Section) (names : List (List ℕ)) → slice_get xs i ≡ Some x → is_control x.kind ≡ false
    → AreAsked s set (control_items (take i xs)) names → AreAsked s set (control_items (take (i + 1) xs)) names
section_past s set xs i x names here kind so =
    let part : control_part x ≡ [] = ap (λ b. cond b x.items []) kind in
    subst (λ is. AreAsked s set is names)
    (sym (lists_taken control_part xs i x here ∙ ap (λ is. control_items (take i xs) ++ is) part ∙ append-nil (control_items (take i xs)))) so
