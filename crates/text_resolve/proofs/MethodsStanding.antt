-- Where mentions stand: a field that UNCOMPRESSED or CONTROL has is not local.
use Rattle.std.proofs.Common.{◌≡◌, ◌∙◌, ap, ℕ, suc, zero, ◌+◌, inl, inr, Bool, true, false, cond, List, [], ◌∷◌, ◌++◌, ◌||◌, ◌&&◌, refl, sym, subst, arith}
use Rattle.std.specs.Prelude.{Option, Some, None, is_some, slice_get, unwrap_or}
use Rattle.std.specs.List.{cons_option}
use Rattle.std.specs.Option.{option_or, option_map}
use Rattle.std.specs.Str.{bytes_eq}
use Rattle.std.proofs.lemmas.List.Folds.{find-append}
use Rattle.std.proofs.lemmas.Slice.Eq.{bytes_eq-Decides}
use Rattle.text_tree.specs.declared.tree.Bound.{Bound}
use Rattle.text_tree.specs.declared.tree.Item.{Item}
use Rattle.text_tree.specs.declared.tree.Item.TheVariants as items
use Rattle.text_tree.specs.declared.tree.Section.{Section}
use Rattle.text_tree.specs.declared.tree.SectionKind.{SectionKind}
use Rattle.text_tree.specs.declared.tree.SectionKind.TheVariants as kinds
use Rattle.text_tree.specs.Limits.{is_initial_kind}
use Rattle.sem_profile.specs.declared.profile.Part.TheVariants as parts
use Rattle.sem_profile.specs.Words.{word}
use Rattle.text_sections.specs.declared.mention.Mention.{Mention}
use Rattle.text_sections.specs.declared.mention.Group.{Group}
use Rattle.text_sections.specs.declared.mention.Group.TheVariants as groups
use Rattle.text_sections.specs.Fields.{in_field_order}
use Rattle.text_sections.specs.Mentions.{is_in, mention_of, mentions_from, mentions_of, mentions_in, first_of, firsts}
use Rattle.text_statements.specs.Initials.{bounds_of, bounds_in}
use Rattle.text_methods.specs.Fields.{part_of, part}
use Rattle.sem_graph.proofs.OrderPushing.{some_is}
use Rattle.text_resolve.proofs.MethodsMentioned.{get_split, get_left, get_right, found, first_at}

-- ---- the section of a mention

section_of : (text : List ℕ) (section place : ℕ) (x : Item) (t : Mention) → mention_of text section place x ≡ Some t → t.section ≡ section
section_of text section place (items.Field name bracket) t e = ap (λ (m : Mention). m.section) (sym (some_is e))
section_of text section place (items.Bound b) t e = ap (λ (m : Mention). m.section) (sym (some_is e))
section_of text section place (items.Enforce at condition) t e = let wrong : None ≡ Some t = e in absurd cc

section_is : (text : List ℕ) (section first : ℕ) (xs : List Item) (k : ℕ) (m : Mention) → slice_get (mentions_from text section first xs) k ≡ Some m → m.section ≡ section
section_is text section first [] k m at = let wrong : None ≡ Some m = at in absurd cc
section_is text section first (x ∷ xs) k m at = by (mention_of text section first x) refl k at (λ k at. section_is text section (first + 1) xs k m at)
  where
    by : (o : Option Mention) → mention_of text section first x ≡ o → (k : ℕ) → slice_get (cons_option o (mentions_from text section (first + 1) xs)) k ≡ Some m
        → ((k : ℕ) → slice_get (mentions_from text section (first + 1) xs) k ≡ Some m → m.section ≡ section) → m.section ≡ section
    by None e k at more = more k at
    by (Some t) e zero at more = section_of text section first x m (e ∙ at)
    by (Some t) e (suc k) at more = more k at

pub record Stands (group : Group) (first : ℕ) (sections : List Section) (m : Mention) : Type 0 where
  pub place : ℕ
  pub section : Section
  pub at : slice_get sections place ≡ Some section
  pub kind : is_in group section.kind ≡ true
  pub number : m.section ≡ first + place

sum_none : (n : ℕ) → n ≡ n + 0
sum_none n = omega arith

sum_next : (a b : ℕ) → a + 1 + b ≡ a + suc b
sum_next a b = omega arith

none_sum : (n : ℕ) → 0 + n ≡ n
none_sum n = omega arith

stands_here : (text : List ℕ) (group : Group) (first : ℕ) (s : Section) (ss : List Section) (b : Bool) → is_in group s.kind ≡ b → (k : ℕ) (m : Mention)
    → slice_get (cond b (mentions_of text first s.items) []) k ≡ Some m → Stands group first (s ∷ ss) m
stands_here text group first s ss true e k m at = record { place = 0; section = s; at = refl; kind = e; number = section_is text first 0 s.items k m at ∙ sum_none first }
stands_here text group first s ss false e k m at = let wrong : None ≡ Some m = at in absurd cc

pub stands : (text : List ℕ) (group : Group) (first : ℕ) (sections : List Section) (k : ℕ) (m : Mention) → slice_get (mentions_in text group first sections) k ≡ Some m → Stands group first sections m
stands text group first [] k m at = let wrong : None ≡ Some m = at in absurd cc
stands text group first (s ∷ ss) k m at =
    elim (get_split (cond (is_in group s.kind) (mentions_of text first s.items) []) (mentions_in text group (first + 1) ss) k m at) as (λ _. Stands group first (s ∷ ss) m) [
      | inl here ↦ stands_here text group first s ss (is_in group s.kind) refl k m here
      | inr there ↦
          let rest = stands text group (first + 1) ss there.0 m there.1 in
          record { place = suc rest.place; section = rest.section; at = rest.at; kind = rest.kind; number = rest.number ∙ sum_next first rest.place }
    ]

local_header : (kind : SectionKind) → is_in groups.Header kind ≡ true → part_of kind ≡ parts.Local → ⊥
local_header kinds.Uncompressed e same = let wrong : parts.Header ≡ parts.Local = same in absurd cc
local_header kinds.Control e same = absurd cc
local_header kinds.Initial e same = absurd cc
local_header kinds.Default e same = absurd cc
local_header (kinds.Compressed name) e same = absurd cc

local_control : (kind : SectionKind) → is_in groups.Control kind ≡ true → part_of kind ≡ parts.Local → ⊥
local_control kinds.Uncompressed e same = absurd cc
local_control kinds.Control e same = let wrong : parts.Control ≡ parts.Local = same in absurd cc
local_control kinds.Initial e same = absurd cc
local_control kinds.Default e same = absurd cc
local_control (kinds.Compressed name) e same = absurd cc

pub part_is : (group : Group) (sections : List Section) (m : Mention) (s : Stands group 0 sections m) → part sections m ≡ part_of s.section.kind
part_is group sections m s =
    let here : slice_get sections m.section ≡ Some s.section = ap (slice_get sections) (s.number ∙ none_sum s.place) ∙ s.at in
    ap (λ o. unwrap_or (option_map (λ (s : Section). part_of s.kind) o) parts.Local) here

-- ---- names of UNCOMPRESSED and CONTROL together

some_or : {X : Type 0} (o p : Option X) → is_some (option_or o p) ≡ is_some o || is_some p
some_or (Some x) p = refl
some_or None p = refl

pub there_or : (text : List ℕ) (xs ys : List Mention) (name : List ℕ) → is_some (first_of text (xs ++ ys) name) ≡ is_some (first_of text xs name) || is_some (first_of text ys name)
there_or text xs ys name = ap is_some (find-append (λ (m : Mention). bytes_eq name (word text m.name)) xs ys) ∙ some_or (first_of text xs name) (first_of text ys name)

there_if : (text : List ℕ) (xs ys : List Mention) (name : List ℕ) (b : Bool)
    → is_some (first_of text (cond b xs [] ++ ys) name) ≡ (b && is_some (first_of text xs name)) || is_some (first_of text ys name)
there_if text xs ys name true = there_or text xs ys name
there_if text xs ys name false = refl

by_kind : (kind : SectionKind) (p b h c : Bool) → (b ≡ true → h || c ≡ true) → (is_in groups.Base kind && p) || b ≡ true
    → ((is_in groups.Header kind && p) || h) || ((is_in groups.Control kind && p) || c) ≡ true
by_kind kinds.Uncompressed true b h c more e = refl
by_kind kinds.Uncompressed false b h c more e = more e
by_kind kinds.Control true b true c more e = refl
by_kind kinds.Control true b false c more e = refl
by_kind kinds.Control false b h c more e = more e
by_kind kinds.Initial p b h c more e = more e
by_kind kinds.Default p b h c more e = more e
by_kind (kinds.Compressed name) p b h c more e = more e

base_there : (text : List ℕ) (first : ℕ) (sections : List Section) (name : List ℕ) → is_some (first_of text (mentions_in text groups.Base first sections) name) ≡ true
    → is_some (first_of text (mentions_in text groups.Header first sections) name) || is_some (first_of text (mentions_in text groups.Control first sections) name) ≡ true
base_there text first [] name e = e
base_there text first (s ∷ ss) name e =
    let own = mentions_of text first s.items in
    let here = λ (group : Group). there_if text own (mentions_in text group (first + 1) ss) name (is_in group s.kind) in
    let so = by_kind s.kind (is_some (first_of text own name)) _ _ _ (base_there text (first + 1) ss name) (sym (here groups.Base) ∙ e) in
    (λ i. here groups.Header i || here groups.Control i) ∙ so

or_first : {X : Type 0} (o p : Option X) (x : X) → is_some o ≡ true → option_or o p ≡ Some x → o ≡ Some x
or_first (Some y) p x there e = e
or_first None p x there e = absurd cc

-- a field whose name UNCOMPRESSED or CONTROL has is declared there
pub not_local : (text : List ℕ) (sections : List Section) (own : List Mention) (i : ℕ) (m : Mention) → slice_get (firsts text (in_field_order text sections own)) i ≡ Some m
    → is_some (first_of text (mentions_in text groups.Base 0 sections) (word text m.name)) ≡ true → part sections m ≡ parts.Local → ⊥
not_local text sections own i m at there local =
    let name = word text m.name in
    let header = mentions_in text groups.Header 0 sections in
    let control = mentions_in text groups.Control 0 sections in
    let first = first_at text (in_field_order text sections own) i m at in
    let split = sym (find-append (λ (t : Mention). bytes_eq name (word text t.name)) (header ++ control) own) ∙ first in
    let known = or_first (first_of text (header ++ control) name) (first_of text own name) m (there_or text header control name ∙ base_there text 0 sections name there) split in
    let here = found text (header ++ control) name m known in
    elim (get_split header control here.place m here.at) as (λ _. ⊥) [
      | inl there ↦
          let s = stands text groups.Header 0 sections here.place m there in
          local_header s.section.kind s.kind (sym (part_is groups.Header sections m s) ∙ local)
      | inr there ↦
          let s = stands text groups.Control 0 sections there.0 m there.1 in
          local_control s.section.kind s.kind (sym (part_is groups.Control sections m s) ∙ local)
    ]

-- ---- a section's mentions among those of its group

in_group_from : (text : List ℕ) (group : Group) (first : ℕ) (sections : List Section) (j : ℕ) (section : Section) (k : ℕ) (m : Mention) → slice_get sections j ≡ Some section → is_in group section.kind ≡ true
    → slice_get (mentions_of text (first + j) section.items) k ≡ Some m → (i : ℕ) × (slice_get (mentions_in text group first sections) i ≡ Some m)
in_group_from text group first [] j section k m at kind here = let wrong : None ≡ Some section = at in absurd cc
in_group_from text group first (s ∷ ss) zero section k m at kind here =
    let same : section ≡ s = some_is (sym at) in
    let number : first + 0 ≡ first = omega arith in
    let there = subst (λ n. slice_get (mentions_of text n s.items) k ≡ Some m) number (subst (λ (z : Section). slice_get (mentions_of text (first + 0) z.items) k ≡ Some m) same here) in
    let is = subst (λ (z : Section). is_in group z.kind ≡ true) same kind in (
      k,
      get_left (cond (is_in group s.kind) (mentions_of text first s.items) []) (mentions_in text group (first + 1) ss) k m
          (subst (λ b. slice_get (cond b (mentions_of text first s.items) []) k ≡ Some m) (sym is) there),
    )
in_group_from text group first (s ∷ ss) (suc j) section k m at kind here =
    let number : first + suc j ≡ first + 1 + j = omega arith in
    let rest = in_group_from text group (first + 1) ss j section k m at kind (subst (λ n. slice_get (mentions_of text n section.items) k ≡ Some m) number here) in
    get_right (cond (is_in group s.kind) (mentions_of text first s.items) []) (mentions_in text group (first + 1) ss) rest.0 m rest.1

pub in_group : (text : List ℕ) (group : Group) (sections : List Section) (number : ℕ) (section : Section) (k : ℕ) (m : Mention) → slice_get sections number ≡ Some section → is_in group section.kind ≡ true
    → slice_get (mentions_of text number section.items) k ≡ Some m → (i : ℕ) × (slice_get (mentions_in text group 0 sections) i ≡ Some m)
in_group text group sections number section k m at kind here =
    in_group_from text group 0 sections number section k m at kind (subst (λ n. slice_get (mentions_of text n section.items) k ≡ Some m) (sym (none_sum number)) here)

-- ---- the names that INITIAL binds

pub either : {X : Type 0} (b : Bool) (x : X) (o : Option X) → is_some o ≡ true → is_some (cond b (Some x) o) ≡ true
either true x o e = refl
either false x o e = e

pub own_name : (b : Bool) (m : Mention) (o : Option Mention) → b ≡ true → is_some (cond b (Some m) o) ≡ true
own_name true m o e = refl
own_name false m o e = absurd cc

pub same_word : (a b : List ℕ) → a ≡ b → bytes_eq a b ≡ true
same_word a b same = (bytes_eq-Decides a b).1 same

bound_there : (text : List ℕ) (section first : ℕ) (xs : List Item) (k : ℕ) (b : Bound) → slice_get (bounds_of xs) k ≡ Some b → is_some (first_of text (mentions_from text section first xs) (word text b.name)) ≡ true
bound_there text section first [] k b at = let wrong : None ≡ Some b = at in absurd cc
bound_there text section first (items.Bound c ∷ xs) zero b at =
    own_name _ _ (first_of text (mentions_from text section (first + 1) xs) (word text b.name)) (same_word (word text b.name) (word text c.name) (ap (λ (z : Bound). word text z.name) (sym (some_is at))))
bound_there text section first (items.Bound c ∷ xs) (suc k) b at = either _ _ (first_of text (mentions_from text section (first + 1) xs) (word text b.name)) (bound_there text section (first + 1) xs k b at)
bound_there text section first (items.Field name bracket ∷ xs) k b at = either _ _ (first_of text (mentions_from text section (first + 1) xs) (word text b.name)) (bound_there text section (first + 1) xs k b at)
bound_there text section first (items.Enforce place condition ∷ xs) k b at = bound_there text section (first + 1) xs k b at

kind_is : (kind : SectionKind) → is_in groups.Initial kind ≡ is_initial_kind kind
kind_is kinds.Uncompressed = refl
kind_is kinds.Control = refl
kind_is kinds.Initial = refl
kind_is kinds.Default = refl
kind_is (kinds.Compressed name) = refl

bound_in_part : (text : List ℕ) (first : ℕ) (s : Section) (a b : Bool) → a ≡ b → (k : ℕ) (c : Bound) → slice_get (cond b (bounds_of s.items) []) k ≡ Some c
    → is_some (first_of text (cond a (mentions_of text first s.items) []) (word text c.name)) ≡ true
bound_in_part text first s true true e k c at = bound_there text first 0 s.items k c at
bound_in_part text first s a false e k c at = let wrong : None ≡ Some c = at in absurd cc
bound_in_part text first s false true e k c at = absurd cc

pub or_left : (a b : Bool) → a ≡ true → a || b ≡ true
or_left true b e = refl
or_left false b e = absurd cc

pub or_right : (a b : Bool) → b ≡ true → a || b ≡ true
or_right true b e = refl
or_right false b e = e

initial_from : (text : List ℕ) (first : ℕ) (sections : List Section) (k : ℕ) (b : Bound) → slice_get (bounds_in sections) k ≡ Some b
    → is_some (first_of text (mentions_in text groups.Initial first sections) (word text b.name)) ≡ true
initial_from text first [] k b at = let wrong : None ≡ Some b = at in absurd cc
initial_from text first (s ∷ ss) k b at =
    let name = word text b.name in
    let own = cond (is_in groups.Initial s.kind) (mentions_of text first s.items) [] in
    let more = mentions_in text groups.Initial (first + 1) ss in
    there_or text own more name
    ∙ elim (get_split (cond (is_initial_kind s.kind) (bounds_of s.items) []) (bounds_in ss) k b at) as (λ _. is_some (first_of text own name) || is_some (first_of text more name) ≡ true) [
      | inl here ↦ or_left (is_some (first_of text own name)) (is_some (first_of text more name)) (bound_in_part text first s (is_in groups.Initial s.kind) (is_initial_kind s.kind) (kind_is s.kind) k b here)
      | inr there ↦ or_right (is_some (first_of text own name)) (is_some (first_of text more name)) (initial_from text (first + 1) ss there.0 b there.1)
    ]

-- a field that INITIAL binds is mentioned there
pub initial_there : (text : List ℕ) (sections : List Section) (k : ℕ) (b : Bound) → slice_get (bounds_in sections) k ≡ Some b
    → is_some (first_of text (mentions_in text groups.Initial 0 sections) (word text b.name)) ≡ true
initial_there text sections k b at = initial_from text 0 sections k b at
