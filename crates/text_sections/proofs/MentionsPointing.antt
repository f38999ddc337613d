-- Each mention shows where its statement stands.
use Rattle.std.proofs.Common.{◌≡◌, ◌∙◌, ap, ℕ, ◌+◌, ◌++◌, ◌⊎◌, inl, inr, Bool, true, false, cond, List, [], ◌∷◌, suc, zero, refl, Some, None, Option, arith, subst}
use Rattle.std.specs.Prelude.{slice_get}
use Rattle.std.specs.List.{cons_option}
use Rattle.text_tree.specs.declared.tree.Item.{Item}
use Rattle.text_tree.specs.declared.tree.Item.TheVariants as items
use Rattle.text_tree.specs.declared.tree.Section.{Section}
use Rattle.text_sections.specs.declared.mention.Mention.{Mention}
use Rattle.text_sections.specs.declared.mention.Group.{Group}
use Rattle.text_sections.specs.Mentions.{mention_of, mentions_from, mentions_of, mentions_in, is_in}
use Rattle.text_sections.specs.Fields.{MentionsPoint}

-- the item that a mention of a section tells of, where the items before these are so many
pub record ItemOf (text : List ℕ) (section first : ℕ) (xs : List Item) (m : Mention) : Type 0 where
  pub place : ℕ
  pub item : Item
  pub item_at : slice_get xs place ≡ Some item
  pub is : mention_of text section (first + place) item ≡ Some m

some_is : {X : Type 0} {x y : X} → Some x ≡ Some y → x ≡ y
some_is e = cc

sum_next : (a b : ℕ) → a + 1 + b ≡ a + suc b
sum_next a b = omega arith

sum_none : (a : ℕ) → a ≡ a + 0
sum_none a = omega arith

item_by : (text : List ℕ) (section first : ℕ) (x : Item) (xs : List Item) (o : Option Mention) (k : ℕ) (m : Mention) → mention_of text section first x ≡ o → slice_get (cons_option o (mentions_from text section (first + 1) xs)) k ≡ Some m
    → ((j : ℕ) → slice_get (mentions_from text section (first + 1) xs) j ≡ Some m → ItemOf text section (first + 1) xs m) → ItemOf text section first (x ∷ xs) m
item_by text section first x xs None k m is at more =
    let rest = more k at in
    record { place = suc rest.place; item = rest.item; item_at = rest.item_at; is = subst (λ n. mention_of text section n rest.item ≡ Some m) (sum_next first rest.place) rest.is }
item_by text section first x xs (Some t) zero m is at more = record { place = 0; item = x; item_at = refl; is = subst (λ n. mention_of text section n x ≡ Some m) (sum_none first) (is ∙ at) }
item_by text section first x xs (Some t) (suc k) m is at more =
    let rest = more k at in
    record { place = suc rest.place; item = rest.item; item_at = rest.item_at; is = subst (λ n. mention_of text section n rest.item ≡ Some m) (sum_next first rest.place) rest.is }

item_of : (text : List ℕ) (section first : ℕ) (xs : List Item) (k : ℕ) (m : Mention) → slice_get (mentions_from text section first xs) k ≡ Some m → ItemOf text section first xs m
item_of text section first [] zero m at = let wrong : None ≡ Some m = at in absurd cc
item_of text section first [] (suc k) m at = let wrong : None ≡ Some m = at in absurd cc
item_of text section first (x ∷ xs) k m at = item_by text section first x xs (mention_of text section first x) k m refl at (λ j here. item_of text section (first + 1) xs j m here)

get_split : {X : Type 0} (xs ys : List X) (k : ℕ) (x : X) → slice_get (xs ++ ys) k ≡ Some x → (slice_get xs k ≡ Some x) ⊎ (j : ℕ) × (slice_get ys j ≡ Some x)
get_split [] ys k x at = inr (k, at)
get_split (z ∷ xs) ys zero x at = inl at
get_split (z ∷ xs) ys (suc k) x at = get_split xs ys k x at

-- the section that a mention stands in, where the sections before these are so many
pub record SectionOf (text : List ℕ) (first : ℕ) (sections : List Section) (m : Mention) : Type 0 where
  pub place : ℕ
  pub section : Section
  pub section_at : slice_get sections place ≡ Some section
  pub tells : ItemOf text (first + place) 0 section.items m

here_by : (text : List ℕ) (first : ℕ) (s : Section) (ss : List Section) (b : Bool) (k : ℕ) (m : Mention) → slice_get (cond b (mentions_of text first s.items) []) k ≡ Some m → SectionOf text first (s ∷ ss) m
here_by text first s ss true k m at = record { place = 0; section = s; section_at = refl; tells = subst (λ n. ItemOf text n 0 s.items m) (sum_none first) (item_of text first 0 s.items k m at) }
here_by text first s ss false zero m at = let wrong : None ≡ Some m = at in absurd cc
here_by text first s ss false (suc k) m at = let wrong : None ≡ Some m = at in absurd cc

section_of : (text : List ℕ) (group : Group) (first : ℕ) (sections : List Section) (k : ℕ) (m : Mention) → slice_get (mentions_in text group first sections) k ≡ Some m → SectionOf text first sections m
section_of text group first [] zero m at = let wrong : None ≡ Some m = at in absurd cc
section_of text group first [] (suc k) m at = let wrong : None ≡ Some m = at in absurd cc
section_of text group first (s ∷ ss) k m at =
    elim (get_split (cond (is_in group s.kind) (mentions_of text first s.items) []) (mentions_in text group (first + 1) ss) k m at) as (λ _. SectionOf text first (s ∷ ss) m) [
      | inl here ↦ here_by text first s ss (is_in group s.kind) k m here
      | inr there ↦
          let rest = section_of text group (first + 1) ss there.0 m there.1 in
          record { place = suc rest.place; section = rest.section; section_at = rest.section_at; tells = subst (λ n. ItemOf text n 0 rest.section.items m) (sum_next first rest.place) rest.tells }
    ]

places : (text : List ℕ) (section place : ℕ) (x : Item) (m : Mention) → mention_of text section place x ≡ Some m → (section ≡ m.section) × (place ≡ m.item)
places text section place (items.Field name bracket) m e = (ap (λ t. t.section) (some_is e), ap (λ t. t.item) (some_is e))
places text section place (items.Bound b) m e = (ap (λ t. t.section) (some_is e), ap (λ t. t.item) (some_is e))
places text section place (items.Enforce at condition) m e = let wrong : None ≡ Some m = e in absurd cc

zero_sum : (n : ℕ) → n ≡ 0 + n
zero_sum n = omega arith

pub mentions_point : MentionsPoint
mentions_point text group sections k m at =
    let s = section_of text group 0 sections k m at in
    let is = places text (0 + s.place) (0 + s.tells.place) s.tells.item m s.tells.is in
    record {
      section = s.section;
      item = s.tells.item;
      section_at = subst (λ n. slice_get sections n ≡ Some s.section) (zero_sum s.place ∙ is.0) s.section_at;
      item_at = subst (λ n. slice_get s.section.items n ≡ Some s.tells.item) (zero_sum s.tells.place ∙ is.1) s.tells.item_at;
      tells = subst (λ n. mention_of text n m.item s.tells.item ≡ Some m) is.0 (subst (λ n. mention_of text (0 + s.place) n s.tells.item ≡ Some m) is.1 s.tells.is);
    }
