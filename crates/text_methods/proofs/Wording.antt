-- The fields of a format have names of the text, where the sections do.
use Rattle.std.proofs.Common.{ℕ, zero, suc, ◌<◌, ◌+◌, List, [], ◌∷◌, ◌++◌, length, get_or, fold, arith, Bool, true, false, cond}
use Rattle.std.specs.Prelude.{is_some}
use Rattle.std.specs.List.{AllByRecursion}
use Rattle.text_tree.specs.declared.tree.Item.{Item}
use Rattle.text_tree.specs.declared.tree.Item.TheVariants as items
use Rattle.text_tree.specs.declared.tree.Section.{Section}
use Rattle.sem_profile.specs.Words.{word}
use Rattle.text_sections.specs.declared.mention.Mention.{Mention}
use Rattle.text_sections.specs.declared.mention.Group.{Group}
use Rattle.text_sections.specs.declared.mention.Group.TheVariants as groups
use Rattle.text_sections.specs.Fields.{in_field_order}
use Rattle.text_sections.specs.Mentions.{is_in, mentions_from, mentions_of, mentions_in, first_of, firsts}
use Rattle.text_methods.specs.Worded.{ItemIsWorded, SectionIsWorded, AreSectionsWorded, AreMentionsWorded}

-- one of a list of which all are so
pub one_of : {X : Type 0} (P : X → Type 0) (xs : List X) (i : ℕ) (d : X) → AllByRecursion P xs → i < length xs → P (get_or xs i d)
one_of P [] i d h lt = absurd (omega arith)
one_of P (x ∷ xs) zero d h lt = h.0
one_of P (x ∷ xs) (suc i) d h lt = one_of P xs i d h.1 (omega arith)

pub all_joined : {X : Type 0} (P : X → Type 0) (xs ys : List X) → AllByRecursion P xs → AllByRecursion P ys → AllByRecursion P (xs ++ ys)
all_joined P [] ys h k = k
all_joined P (x ∷ xs) ys h k = (h.0, all_joined P xs ys h.1 k)

from_items : (text : List ℕ) (section place : ℕ) (xs : List Item) → AllByRecursion (ItemIsWorded text) xs → AreMentionsWorded text (mentions_from text section place xs)
from_items text section place [] h = tt
from_items text section place (items.Field name bracket ∷ xs) h = (h.0, from_items text section (place + 1) xs h.1)
from_items text section place (items.Bound b ∷ xs) h = (h.0, from_items text section (place + 1) xs h.1)
from_items text section place (items.Enforce at condition ∷ xs) h = from_items text section (place + 1) xs h.1

from_sections : (text : List ℕ) (group : Group) (k : ℕ) (sections : List Section) → AreSectionsWorded text sections → AreMentionsWorded text (mentions_in text group k sections)
from_sections text group k [] h = tt
from_sections text group k (s ∷ ss) h = all_joined (λ (m : Mention). _) (cond (is_in group s.kind) (mentions_of text k s.items) []) (mentions_in text group (k + 1) ss) (by (is_in group s.kind)) (from_sections text group (k + 1) ss h.1)
  where
    by : (b : Bool) → AreMentionsWorded text (cond b (mentions_of text k s.items) [])
    by true = from_items text k 0 s.items h.0.items
    by false = tt

kept_so : (text : List ℕ) (P : Mention → Type 0) (kept all : List Mention) → AllByRecursion P kept → AllByRecursion P all
    → AllByRecursion P (fold (λ kept m. cond (is_some (first_of text kept (word text m.name))) kept (kept ++ m ∷ [])) kept all)
kept_so text P kept [] h k = h
kept_so text P kept (m ∷ ms) h k = kept_so text P (cond (is_some (first_of text kept (word text m.name))) kept (kept ++ m ∷ [])) ms (by (is_some (first_of text kept (word text m.name)))) k.1
  where
    by : (b : Bool) → AllByRecursion P (cond b kept (kept ++ m ∷ []))
    by true = h
    by false = all_joined P kept (m ∷ []) h (k.0, tt)

pub fields_worded : (text : List ℕ) (sections : List Section) (number : ℕ) (section : Section) → AreSectionsWorded text sections → SectionIsWorded text section
    → AreMentionsWorded text (firsts text (in_field_order text sections (mentions_of text number section.items)))
fields_worded text sections number section all one =
    kept_so text (λ (m : Mention). _) [] _ tt
    (all_joined (λ (m : Mention). _) _ (mentions_of text number section.items)
    (all_joined (λ (m : Mention). _) (mentions_in text groups.Header 0 sections) (mentions_in text groups.Control 0 sections) (from_sections text groups.Header 0 sections all) (from_sections text groups.Control 0 sections all))
    (from_items text number 0 section.items one.items))
