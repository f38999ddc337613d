-- A table grows by a list of mentions.
use Rattle.std.proofs.Common.{◌≡◌, ◌∙◌, ap, ℕ, ◌+◌, ◌≤◌, suc, zero, take, true, false, List, [], ◌∷◌, ◌++◌, refl, sym, cond, length, Some, None, Option, arith, subst}
use Rattle.std.specs.Prelude.{slice_get}
use Rattle.std.specs.List.{cons_option}
use Rattle.std.proofs.lemmas.List.{append_assoc}
use Rattle.text_tree.specs.declared.tree.Item.{Item}
use Rattle.text_tree.specs.declared.tree.Section.{Section}
use Rattle.text_sections.specs.declared.mention.Mention.{Mention}
use Rattle.text_sections.specs.declared.mention.Group.{Group}
use Rattle.text_sections.specs.declared.table.Table.{Table}
use Rattle.text_sections.specs.Mentions.{mention_of, mentions_from, mentions_of, mentions_in, is_in}
use Rattle.text_sections.specs.Tables.{IsTable}
use Rattle.text_sections.proofs.Tabled.{take_more}

as_list : (text : List ℕ) (xs ys : List Mention) (table : Table) → xs ≡ ys → IsTable text xs table → IsTable text ys table
as_list text xs ys table same is = subst (λ ms. IsTable text ms table) same is

nil_after : {X : Type 0} (xs : List X) → xs ++ [] ≡ xs
nil_after [] = refl
nil_after (x ∷ xs) = ap (λ ys. x ∷ ys) (nil_after xs)

take_all : {X : Type 0} (xs : List X) (i : ℕ) → length xs ≤ i → take i xs ≡ xs
take_all [] zero past = refl
take_all [] (suc i) past = refl
take_all (x ∷ xs) zero past = absurd (omega arith)
take_all (x ∷ xs) (suc i) past = ap (λ ys. x ∷ ys) (take_all xs i (omega arith))

pub no_more : (text : List ℕ) (before : List Mention) (table : Table) → IsTable text before table → IsTable text (before ++ []) table
no_more text before table is = as_list text before (before ++ []) table (sym (nil_after before)) is

pub one_inserted : (text : List ℕ) (before mentions : List Mention) (i : ℕ) (m : Mention) (table : Table) → slice_get mentions i ≡ Some m → IsTable text ((before ++ take i mentions) ++ m ∷ []) table
    → IsTable text (before ++ take (i + 1) mentions) table
one_inserted text before mentions i m table at is =
    as_list text ((before ++ take i mentions) ++ m ∷ []) (before ++ take (i + 1) mentions) table (append_assoc before (take i mentions) (m ∷ []) ∙ sym (ap (λ ms. before ++ ms) (take_more mentions i m at))) is

pub all_inserted : (text : List ℕ) (before mentions : List Mention) (i : ℕ) (table : Table) → length mentions ≤ i → IsTable text (before ++ take i mentions) table → IsTable text (before ++ mentions) table
all_inserted text before mentions i table past is = as_list text (before ++ take i mentions) (before ++ mentions) table (ap (λ ms. before ++ ms) (take_all mentions i past)) is

one_on : (k i : ℕ) → (k + 1) + i ≡ k + suc i
one_on k i = omega arith

nothing_on : (k : ℕ) → k + 0 ≡ k
nothing_on k = omega arith

from_nothing : (i : ℕ) → 0 + i ≡ i
from_nothing i = omega arith

to_next : (i : ℕ) → suc i ≡ i + 1
to_next i = omega arith

cons_append : (o : Option Mention) (xs ys : List Mention) → cons_option o (xs ++ ys) ≡ cons_option o xs ++ ys
cons_append None xs ys = refl
cons_append (Some m) xs ys = refl

-- the mentions of one item more
items_from : (text : List ℕ) (section k : ℕ) (xs : List Item) (i : ℕ) (x : Item) → slice_get xs i ≡ Some x
    → mentions_from text section k (take (suc i) xs) ≡ mentions_from text section k (take i xs) ++ cons_option (mention_of text section (k + i) x) []
items_from text section k [] zero x at = absurd cc
items_from text section k [] (suc i) x at = absurd cc
items_from text section k (y ∷ xs) zero x at =
    let same : y ≡ x = cc in
    ap (λ z. cons_option (mention_of text section k z) []) same ∙ ap (λ n. cons_option (mention_of text section n x) []) (sym (nothing_on k))
items_from text section k (y ∷ xs) (suc i) x at =
    ap (cons_option (mention_of text section k y)) (items_from text section (k + 1) xs i x at)
    ∙ (cons_append (mention_of text section k y) (mentions_from text section (k + 1) (take i xs)) (cons_option (mention_of text section ((k + 1) + i) x) [])
    ∙ ap (λ n. cons_option (mention_of text section k y) (mentions_from text section (k + 1) (take i xs)) ++ cons_option (mention_of text section n x) []) (one_on k i))

pub one_item : (text : List ℕ) (section : ℕ) (items : List Item) (i : ℕ) (x : Item) → slice_get items i ≡ Some x
    → mentions_of text section (take (i + 1) items) ≡ mentions_of text section (take i items) ++ cons_option (mention_of text section i x) []
one_item text section items i x at = sym (ap (λ n. mentions_of text section (take n items)) (to_next i)) ∙ (items_from text section 0 items i x at ∙ ap (λ n. mentions_of text section (take i items) ++ cons_option (mention_of text section n x) []) (from_nothing i))

-- the mentions of one section more
sections_from : (text : List ℕ) (group : Group) (k : ℕ) (xs : List Section) (i : ℕ) (x : Section) → slice_get xs i ≡ Some x
    → mentions_in text group k (take (suc i) xs) ≡ mentions_in text group k (take i xs) ++ cond (is_in group x.kind) (mentions_of text (k + i) x.items) []
sections_from text group k [] zero x at = absurd cc
sections_from text group k [] (suc i) x at = absurd cc
sections_from text group k (y ∷ xs) zero x at =
    let same : y ≡ x = cc in
    nil_after (cond (is_in group y.kind) (mentions_of text k y.items) [])
    ∙ (ap (λ (z : Section). cond (is_in group z.kind) (mentions_of text k z.items) []) same ∙ ap (λ n. cond (is_in group x.kind) (mentions_of text n x.items) []) (sym (nothing_on k)))
sections_from text group k (y ∷ xs) (suc i) x at =
    ap (λ ms. cond (is_in group y.kind) (mentions_of text k y.items) [] ++ ms) (sections_from text group (k + 1) xs i x at)
    ∙ (sym (append_assoc (cond (is_in group y.kind) (mentions_of text k y.items) []) (mentions_in text group (k + 1) (take i xs)) (cond (is_in group x.kind) (mentions_of text ((k + 1) + i) x.items) []))
    ∙ ap (λ n. (cond (is_in group y.kind) (mentions_of text k y.items) [] ++ mentions_in text group (k + 1) (take i xs)) ++ cond (is_in group x.kind) (mentions_of text n x.items) []) (one_on k i))

one_section : (text : List ℕ) (group : Group) (sections : List Section) (i : ℕ) (x : Section) → slice_get sections i ≡ Some x
    → mentions_in text group 0 (take (i + 1) sections) ≡ mentions_in text group 0 (take i sections) ++ cond (is_in group x.kind) (mentions_of text i x.items) []
one_section text group sections i x at = sym (ap (λ n. mentions_in text group 0 (take n sections)) (to_next i)) ∙ (sections_from text group 0 sections i x at
    ∙ ap (λ n. mentions_in text group 0 (take i sections) ++ cond (is_in group x.kind) (mentions_of text n x.items) []) (from_nothing i))

-- an item that is a mention, and one that is none
pub item_inserted : (text : List ℕ) (section : ℕ) (before : List Mention) (items : List Item) (i : ℕ) (x : Item) (m : Mention) (table : Table) → slice_get items i ≡ Some x → mention_of text section i x ≡ Some m
    → IsTable text ((before ++ mentions_of text section (take i items)) ++ m ∷ []) table → IsTable text (before ++ mentions_of text section (take (i + 1) items)) table
item_inserted text section before items i x m table at here is =
    as_list text ((before ++ mentions_of text section (take i items)) ++ m ∷ []) (before ++ mentions_of text section (take (i + 1) items)) table
    (append_assoc before (mentions_of text section (take i items)) (m ∷ [])
    ∙ sym (ap (λ ms. before ++ ms) (one_item text section items i x at ∙ ap (λ o. mentions_of text section (take i items) ++ cons_option o []) here))) is

pub item_passed : (text : List ℕ) (section : ℕ) (before : List Mention) (items : List Item) (i : ℕ) (x : Item) (table : Table) → slice_get items i ≡ Some x → mention_of text section i x ≡ None
    → IsTable text (before ++ mentions_of text section (take i items)) table → IsTable text (before ++ mentions_of text section (take (i + 1) items)) table
item_passed text section before items i x table at here is =
    as_list text (before ++ mentions_of text section (take i items)) (before ++ mentions_of text section (take (i + 1) items)) table
    (sym (ap (λ ms. before ++ ms) (one_item text section items i x at ∙ (ap (λ o. mentions_of text section (take i items) ++ cons_option o []) here ∙ nil_after (mentions_of text section (take i items)))))) is

pub all_items : (text : List ℕ) (section : ℕ) (before : List Mention) (items : List Item) (i : ℕ) (table : Table) → length items ≤ i → IsTable text (before ++ mentions_of text section (take i items)) table
    → IsTable text (before ++ mentions_of text section items) table
all_items text section before items i table past is = subst (λ xs. IsTable text (before ++ mentions_of text section xs) table) (take_all items i past) is

-- a section of the group, and one of another
pub section_inserted : (text : List ℕ) (group : Group) (before : List Mention) (sections : List Section) (i : ℕ) (x : Section) (table : Table) → slice_get sections i ≡ Some x → is_in group x.kind ≡ true
    → IsTable text ((before ++ mentions_in text group 0 (take i sections)) ++ mentions_of text i x.items) table → IsTable text (before ++ mentions_in text group 0 (take (i + 1) sections)) table
section_inserted text group before sections i x table at here is =
    as_list text ((before ++ mentions_in text group 0 (take i sections)) ++ mentions_of text i x.items) (before ++ mentions_in text group 0 (take (i + 1) sections)) table
    (append_assoc before (mentions_in text group 0 (take i sections)) (mentions_of text i x.items)
    ∙ sym (ap (λ ms. before ++ ms) (one_section text group sections i x at ∙ ap (λ b. mentions_in text group 0 (take i sections) ++ cond b (mentions_of text i x.items) []) here))) is

pub section_passed : (text : List ℕ) (group : Group) (before : List Mention) (sections : List Section) (i : ℕ) (x : Section) (table : Table) → slice_get sections i ≡ Some x → is_in group x.kind ≡ false
    → IsTable text (before ++ mentions_in text group 0 (take i sections)) table → IsTable text (before ++ mentions_in text group 0 (take (i + 1) sections)) table
section_passed text group before sections i x table at here is =
    as_list text (before ++ mentions_in text group 0 (take i sections)) (before ++ mentions_in text group 0 (take (i + 1) sections)) table
    (sym (ap (λ ms. before ++ ms) (one_section text group sections i x at ∙ (ap (λ b. mentions_in text group 0 (take i sections) ++ cond b (mentions_of text i x.items) []) here ∙ nil_after (mentions_in text group 0 (take i sections)))))) is

pub all_sections : (text : List ℕ) (group : Group) (before : List Mention) (sections : List Section) (i : ℕ) (table : Table) → length sections ≤ i → IsTable text (before ++ mentions_in text group 0 (take i sections)) table
    → IsTable text (before ++ mentions_in text group 0 sections) table
all_sections text group before sections i table past is = subst (λ xs. IsTable text (before ++ mentions_in text group 0 xs) table) (take_all sections i past) is
