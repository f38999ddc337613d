-- How many bits the constraints of a format give a field is alike in each format of a method, and told for each asked field.
use Rattle.std.proofs.Common.{◌≡◌, ◌∙◌, ap, ℕ, suc, zero, ◌+◌, inl, inr, Bool, true, false, cond, List, [], ◌∷◌, ◌++◌, map, refl, sym, subst}
use Rattle.std.specs.Prelude.{ℤ, Option, Some, None, slice_get, position, option_and_then, nat_eq}
use Rattle.std.specs.List.{AllZip}
use Rattle.std.specs.Option.{option_map}
use Rattle.std.specs.Str.{bytes_eq}
use Rattle.std.proofs.lemmas.Bool.{eqb-true, eq-eqb}
use Rattle.std.proofs.lemmas.Option.{slice_get-map}
use Rattle.text_source.specs.declared.span.Span.{Span}
use Rattle.text_tree.specs.declared.tree.Bracket.{Bracket as TreeBracket}
use Rattle.text_tree.specs.declared.tree.Expr.{Expr as Tree}
use Rattle.text_tree.specs.declared.tree.Item.{Item}
use Rattle.text_tree.specs.declared.tree.Item.TheVariants as items
use Rattle.text_tree.specs.declared.tree.Section.{Section}
use Rattle.sem_expr.specs.declared.expr.Expr.{Expr}
use Rattle.sem_expr.specs.declared.expr.Side.{Side}
use Rattle.sem_expr.specs.declared.expr.Side.TheVariants.{Uncompressed, Compressed}
use Rattle.sem_profile.specs.declared.profile.Constraint.{Constraint}
use Rattle.sem_profile.specs.declared.profile.Constraint.TheVariants.{Bracket, Enforce}
use Rattle.sem_profile.specs.declared.profile.Format.{Format}
use Rattle.sem_profile.specs.Words.{word}
use Rattle.text_statements.specs.declared.term.Term.TheVariants.{Number}
use Rattle.text_statements.specs.Conjuncts as conjuncts
use Rattle.text_statements.specs.Conjuncts.{AreConjuncts}
use Rattle.text_statements.specs.Means.{Means}
use Rattle.text_statements.specs.Names.{Names, field_of}
use Rattle.text_sections.specs.declared.mention.Mention.{Mention}
use Rattle.text_sections.specs.declared.mention.Group.TheVariants as groups
use Rattle.text_sections.specs.Fields.{in_field_order}
use Rattle.text_sections.specs.Mentions.{is_in, first_of, firsts, names_of}
use Rattle.text_sections.proofs.Tabled.{looked_up}
use Rattle.text_statements.specs.Arguments.{IsNumber}
use Rattle.text_statements.specs.Constraints.{on_index, on_field, BracketMeans, variable, OptionalMeans, no_bracket, with_bracket, ItemMeans, enforced}
use Rattle.text_statements.specs.Constraints as statements
use Rattle.text_statements.specs.Asked.{is_control, control_part, control_items, single, length_in, only_length}
use Rattle.text_methods.specs.declared.drafts.Setting.{Setting}
use Rattle.text_methods.specs.Constraints.{Statement, on, of_group, is_used, used_from, defaults_from, AreNumbered, none, more}
use Rattle.text_methods.specs.Constraints as formats
use Rattle.text_methods.specs.Drafts.{own, fields, scope, chosen}
use Rattle.text_methods.specs.Fields.{is_one_of}
use Rattle.text_methods.specs.Formats.{IsFormat}
use Rattle.sem_profile.specs.Constants.{constant}
use Rattle.sem_profile.specs.Asked.{constant_alone, length_by, HasLength}
use Rattle.sem_graph.proofs.OrderPushing.{some_is}
use Rattle.text_resolve.proofs.MethodsAskedNames.{IsAsking, look, asked_there, kind_is}
use Rattle.text_resolve.proofs.MethodsChosen.{at_position}
use Rattle.text_resolve.proofs.MethodsFielded.{from_map}
use Rattle.text_resolve.proofs.MethodsMentioned.{nothing, get_split, get_left, get_right, found, is_found, some_of, firsts_once}
use Rattle.text_resolve.proofs.MethodsTreeValues.{constant_by, constant_meant, evaluated_constant}

-- ---- a constraint and the statement that gives it

record Numbered (s : Names) (xs : List Statement) (c : Constraint) : Type 0 where
  place : ℕ
  statement : Statement
  at : slice_get xs place ≡ Some statement
  part : List Constraint
  means : ItemMeans s statement.side statement.item part
  index : ℕ
  here : slice_get part index ≡ Some c

numbered_from : (s : Names) (xs : List Statement) (cs : List Constraint) → AreNumbered s xs cs → (k : ℕ) (c : Constraint) → slice_get cs k ≡ Some c → Numbered s xs c
numbered_from s xs cs none k c at = let wrong : None ≡ Some c = at in absurd cc
numbered_from s xs cs (more {x = x} {xs = rest} {cs = first} {ds = ds} means others) k c at = elim (get_split first ds k c at) as (λ _. Numbered s (x ∷ rest) c) [
  | inl here ↦ record { place = 0; statement = x; at = refl; part = first; means = means; index = k; here = here }
  | inr there ↦
      let n = numbered_from s rest ds others there.0 c there.1 in
      record { place = suc n.place; statement = n.statement; at = n.at; part = n.part; means = n.means; index = n.index; here = n.here }
]

record Gives (s : Names) (statement : Statement) (cs : List Constraint) : Type 0 where
  part : List Constraint
  means : ItemMeans s statement.side statement.item part
  into : (j : ℕ) (c : Constraint) → slice_get part j ≡ Some c → (n : ℕ) × (slice_get cs n ≡ Some c)

numbered_into : (s : Names) (xs : List Statement) (cs : List Constraint) → AreNumbered s xs cs → (k : ℕ) (statement : Statement) → slice_get xs k ≡ Some statement → Gives s statement cs
numbered_into s xs cs none k statement at = let wrong : None ≡ Some statement = at in absurd cc
numbered_into s xs cs (more {x = x} {xs = rest} {cs = first} {ds = ds} means others) zero statement at = record {
  part = first;
  means = subst (λ (z : Statement). ItemMeans s z.side z.item first) (some_is at) means;
  into = λ j c here. (j, get_left first ds j c here);
}
numbered_into s xs cs (more {x = x} {xs = rest} {cs = first} {ds = ds} means others) (suc k) statement at =
    let g = numbered_into s rest ds others k statement at in
    record { part = g.part; means = g.means; into = λ j c here. let there = g.into j c here in get_right first ds there.0 c there.1 }

-- ---- the bracket of a statement

abbrev pub name_in : Item → Option Span
name_in (items.Field name bracket) = Some name
name_in (items.Bound b) = Some b.name
name_in (items.Enforce at condition) = None

-- its one expression
abbrev length_stated : Item → Option Tree
length_stated (items.Field name bracket) = only_length bracket
length_stated (items.Bound b) = only_length b.bracket
length_stated (items.Enforce at condition) = None

abbrev index_in : Constraint → ℕ
index_in (Bracket i side lengths place) = i
index_in (Enforce c place) = 0

abbrev side_in : Constraint → Side
side_in (Bracket i side lengths place) = side
side_in (Enforce c place) = Uncompressed

abbrev lengths_in : Constraint → List Expr
lengths_in (Bracket i side lengths place) = lengths
lengths_in (Enforce c place) = []

one_part : (s : Names) (xs : List Tree) (e : Expr) → AllZip (IsNumber s) xs (e ∷ []) → (part : Tree) × (single xs ≡ Some part) × Means s part (Number e)
one_part s [] e all = absurd all
one_part s (x ∷ []) e all = (x, refl, all.0)
one_part s (x ∷ y ∷ xs) e all = absurd all.1

one_number : (s : Names) (xs : List Tree) (es : List Expr) (part : Tree) → single xs ≡ Some part → AllZip (IsNumber s) xs es → (e : Expr) × (es ≡ e ∷ []) × Means s part (Number e)
one_number s [] es part only all = let wrong : None ≡ Some part = only in absurd cc
one_number s (x ∷ []) [] part only all = absurd all
one_number s (x ∷ []) (e ∷ []) part only all = (e, refl, subst (λ z. Means s z (Number e)) (some_is only) all.0)
one_number s (x ∷ []) (e ∷ f ∷ es) part only all = absurd all.1
one_number s (x ∷ y ∷ xs) es part only all = let wrong : None ≡ Some part = only in absurd cc

-- where a bracket of one expression comes from
record IsStated (s : Names) (side : Side) (name : Option Span) (sole : Option Tree) (i : ℕ) (other : Side) (e : Expr) : Type 0 where
  same_side : side ≡ other
  span : Span
  named : name ≡ Some span
  field : field_of s span ≡ Some i
  part : Tree
  only : sole ≡ Some part
  means : Means s part (Number e)

bracket_from : (s : Names) (side : Side) (name : Span) (b : TreeBracket) (cs : List Constraint) → BracketMeans s side name b cs → (j i : ℕ) (other : Side) (e : Expr) (place : Span)
    → slice_get cs j ≡ Some (Bracket i other (e ∷ []) place) → IsStated s side (Some name) (length_in b) i other e
bracket_from s side name b cs variable j i other e place at = let wrong : None ≡ Some (Bracket i other (e ∷ []) place) = at in absurd cc
bracket_from s side name b cs (statements.lengths {place = here} {parts = xs} es all) j i other e place at = by (field_of s name) refl j at
  where
    by : (o : Option ℕ) → field_of s name ≡ o → (j : ℕ) → slice_get (on_index side here es o) j ≡ Some (Bracket i other (e ∷ []) place) → IsStated s side (Some name) (single xs) i other e
    by None is j at = let wrong : None ≡ Some (Bracket i other (e ∷ []) place) = at in absurd cc
    by (Some k) is zero at =
        let same : Bracket k side es here ≡ Bracket i other (e ∷ []) place = some_is at in
        let one = one_part s xs e (subst (λ ls. AllZip (IsNumber s) xs ls) (ap lengths_in same) all) in
        record { same_side = ap side_in same; span = name; named = refl; field = is ∙ ap Some (ap index_in same); part = one.0; only = one.1; means = one.2 }
    by (Some k) is (suc j) at = let wrong : None ≡ Some (Bracket i other (e ∷ []) place) = at in absurd cc

optional_from : (s : Names) (side : Side) (name : Span) (b : Option TreeBracket) (cs : List Constraint) → OptionalMeans s side name b cs → (j i : ℕ) (other : Side) (e : Expr) (place : Span)
    → slice_get cs j ≡ Some (Bracket i other (e ∷ []) place) → IsStated s side (Some name) (only_length b) i other e
optional_from s side name b cs no_bracket j i other e place at = let wrong : None ≡ Some (Bracket i other (e ∷ []) place) = at in absurd cc
optional_from s side name b cs (with_bracket {b = bracket} means) j i other e place at = bracket_from s side name bracket cs means j i other e place at

no_conjunct : (s : Names) (part : Tree) (cs : List Constraint) → AreConjuncts s part cs → (j i : ℕ) (side : Side) (es : List Expr) (place : Span) → slice_get cs j ≡ Some (Bracket i side es place) → ⊥
no_conjunct s part cs (conjuncts.both {x = x} {y = y} {left = ls} {right = rs} h k) j i side es place at = elim (get_split ls rs j (Bracket i side es place) at) as (λ _. ⊥) [
  | inl here ↦ no_conjunct s x ls h j i side es place here
  | inr there ↦ no_conjunct s y rs k there.0 i side es place there.1
]
no_conjunct s part cs (conjuncts.single {c = c} {place = here} alone means is) zero i side es place at = let wrong : Enforce c here ≡ Bracket i side es place = some_is at in absurd cc
no_conjunct s part cs (conjuncts.single alone means is) (suc j) i side es place at = let wrong : None ≡ Some (Bracket i side es place) = at in absurd cc

item_from : (s : Names) (side : Side) (item : Item) (cs : List Constraint) → ItemMeans s side item cs → (j i : ℕ) (other : Side) (e : Expr) (place : Span)
    → slice_get cs j ≡ Some (Bracket i other (e ∷ []) place) → IsStated s side (name_in item) (length_stated item) i other e
item_from s side item cs (statements.field {name = name} {bracket = b} means) j i other e place at = optional_from s side name b cs means j i other e place at
item_from s side item cs (statements.bound {b = b} means) j i other e place at = optional_from s side b.name b.bracket cs means j i other e place at
item_from s side item cs (enforced {condition = condition} means) j i other e place at = absurd (no_conjunct s condition cs means j i other (e ∷ []) place at)

-- the constraint that such a statement gives
record GivesOne (s : Names) (side : Side) (i : ℕ) (part : Tree) (cs : List Constraint) : Type 0 where
  expr : Expr
  place : Span
  means : Means s part (Number expr)
  at : slice_get cs 0 ≡ Some (Bracket i side (expr ∷ []) place)

bracket_into : (s : Names) (side : Side) (name : Span) (b : TreeBracket) (cs : List Constraint) → BracketMeans s side name b cs → (i : ℕ) (part : Tree) → field_of s name ≡ Some i → length_in b ≡ Some part
    → GivesOne s side i part cs
bracket_into s side name b cs variable i part is only = let wrong : None ≡ Some part = only in absurd cc
bracket_into s side name b cs (statements.lengths {place = here} {parts = xs} es all) i part is only =
    let one = one_number s xs es part only all in
    record { expr = one.0; place = here; means = one.2; at = ap (λ o. slice_get (on_index side here es o) 0) is ∙ ap (λ ls. Some (Bracket i side ls here)) one.1 }

optional_into : (s : Names) (side : Side) (name : Span) (b : Option TreeBracket) (cs : List Constraint) → OptionalMeans s side name b cs → (i : ℕ) (part : Tree) → field_of s name ≡ Some i → only_length b ≡ Some part
    → GivesOne s side i part cs
optional_into s side name b cs no_bracket i part is only = let wrong : None ≡ Some part = only in absurd cc
optional_into s side name b cs (with_bracket {b = bracket} means) i part is only = bracket_into s side name bracket cs means i part is only

item_into : (s : Names) (side : Side) (item : Item) (cs : List Constraint) → ItemMeans s side item cs → (span : Span) (i : ℕ) (part : Tree) → name_in item ≡ Some span → field_of s span ≡ Some i
    → length_stated item ≡ Some part → GivesOne s side i part cs
item_into s side item cs (statements.field {name = name} {bracket = b} means) span i part named is only =
    optional_into s side name b cs means i part (ap (field_of s) (some_is named) ∙ is) only
item_into s side item cs (statements.bound {b = b} means) span i part named is only =
    optional_into s side b.name b.bracket cs means i part (ap (field_of s) (some_is named) ∙ is) only
item_into s side item cs (enforced means) span i part named is only = let wrong : None ≡ Some part = only in absurd cc

-- ---- the statements of UNCOMPRESSED and CONTROL, which are those of each format on the uncompressed side

abbrev base_statements : List Section → List Statement
base_statements sections = of_group Uncompressed groups.Header sections ++ of_group Uncompressed groups.Control sections

abbrev all_statements : Setting → ℕ → Section → List Statement
all_statements x number section = formats.statements (scope x number section) (chosen x number section) x.sections.now section.items

base_into : (x : Setting) (number : ℕ) (section : Section) (k : ℕ) (st : Statement) → slice_get (base_statements x.sections.now) k ≡ Some st
    → (j : ℕ) × (slice_get (all_statements x number section) j ≡ Some st)
base_into x number section k st at =
    let header = of_group Uncompressed groups.Header x.sections.now in
    let control = of_group Uncompressed groups.Control x.sections.now in
    let others = defaults_from (scope x number section) (chosen x number section) 0 x.sections.now ++ map (on Compressed) section.items in
    elim (get_split header control k st at) as (λ _. (j : ℕ) × (slice_get (header ++ (control ++ others)) j ≡ Some st)) [
      | inl here ↦ (k, get_left header (control ++ others) k st here)
      | inr there ↦ get_right header (control ++ others) there.0 st (get_left control others there.0 st there.1)
    ]

compressed : (st : Statement) → st.side ≡ Uncompressed → st.side ≡ Compressed → ⊥
compressed st e f = let wrong : Uncompressed ≡ Compressed = sym e ∙ f in absurd cc

used_side : (s : Names) (choices : List (Option Mention)) (k first : ℕ) (xs : List Item) (j : ℕ) (st : Statement) → slice_get (used_from s choices k first xs) j ≡ Some st → st.side ≡ Compressed
used_side s choices k first [] j st at = let wrong : None ≡ Some st = at in absurd cc
used_side s choices k first (x ∷ xs) j st at =
    elim (get_split (cond (is_used s choices k first x) (on Compressed x ∷ []) []) (used_from s choices k (first + 1) xs) j st at) as (λ _. st.side ≡ Compressed) [
      | inl here ↦ by (is_used s choices k first x) j here
      | inr there ↦ used_side s choices k (first + 1) xs there.0 st there.1
    ]
  where
    by : (b : Bool) (j : ℕ) → slice_get (cond b (on Compressed x ∷ []) []) j ≡ Some st → st.side ≡ Compressed
    by true zero here = ap (λ (z : Statement). z.side) (sym (some_is here))
    by true (suc j) here = let wrong : None ≡ Some st = here in absurd cc
    by false j here = let wrong : None ≡ Some st = here in absurd cc

default_side : (s : Names) (choices : List (Option Mention)) (k : ℕ) (sections : List Section) (j : ℕ) (st : Statement) → slice_get (defaults_from s choices k sections) j ≡ Some st → st.side ≡ Compressed
default_side s choices k [] j st at = let wrong : None ≡ Some st = at in absurd cc
default_side s choices k (x ∷ xs) j st at =
    elim (get_split (cond (is_in groups.Default x.kind) (used_from s choices k 0 x.items) []) (defaults_from s choices (k + 1) xs) j st at) as (λ _. st.side ≡ Compressed) [
      | inl here ↦ by (is_in groups.Default x.kind) here
      | inr there ↦ default_side s choices (k + 1) xs there.0 st there.1
    ]
  where
    by : (b : Bool) → slice_get (cond b (used_from s choices k 0 x.items) []) j ≡ Some st → st.side ≡ Compressed
    by true here = used_side s choices k 0 x.items j st here
    by false here = let wrong : None ≡ Some st = here in absurd cc

base_from : (x : Setting) (number : ℕ) (section : Section) (j : ℕ) (st : Statement) → slice_get (all_statements x number section) j ≡ Some st → st.side ≡ Uncompressed
    → (k : ℕ) × (slice_get (base_statements x.sections.now) k ≡ Some st)
base_from x number section j st at side =
    let header = of_group Uncompressed groups.Header x.sections.now in
    let control = of_group Uncompressed groups.Control x.sections.now in
    let defaults = defaults_from (scope x number section) (chosen x number section) 0 x.sections.now in
    let stated = map (on Compressed) section.items in
    elim (get_split header (control ++ (defaults ++ stated)) j st at) as (λ _. (k : ℕ) × (slice_get (header ++ control) k ≡ Some st)) [
      | inl here ↦ (j, get_left header control j st here)
      | inr rest ↦ elim (get_split control (defaults ++ stated) rest.0 st rest.1) as (λ _. (k : ℕ) × (slice_get (header ++ control) k ≡ Some st)) [
        | inl here ↦ get_right header control rest.0 st here
        | inr others ↦ elim (get_split defaults stated others.0 st others.1) as (λ _. (k : ℕ) × (slice_get (header ++ control) k ≡ Some st)) [
          | inl here ↦ absurd (compressed st side (default_side (scope x number section) (chosen x number section) 0 x.sections.now others.0 st here))
          | inr there ↦
              let item = from_map (on Compressed) section.items there.0 st there.1 in
              absurd (compressed st side (ap (λ (z : Statement). z.side) (sym item.2)))
        ]
      ]
    ]

control_stated : (sections : List Section) (k : ℕ) (item : Item) → slice_get (control_items sections) k ≡ Some item
    → (j : ℕ) × (slice_get (of_group Uncompressed groups.Control sections) j ≡ Some (on Uncompressed item))
control_stated [] k item at = let wrong : None ≡ Some item = at in absurd cc
control_stated (s ∷ ss) k item at =
    let own_statements = cond (is_in groups.Control s.kind) (map (on Uncompressed) s.items) [] in
    let rest = of_group Uncompressed groups.Control ss in
    elim (get_split (control_part s) (control_items ss) k item at) as (λ _. (j : ℕ) × (slice_get (own_statements ++ rest) j ≡ Some (on Uncompressed item))) [
      | inl here ↦ (k, get_left own_statements rest k (on Uncompressed item) (by (is_in groups.Control s.kind) (is_control s.kind) (kind_is s.kind) here))
      | inr there ↦ let there_stated = control_stated ss there.0 item there.1 in get_right own_statements rest there_stated.0 (on Uncompressed item) there_stated.1
    ]
  where
    by : (a b : Bool) → a ≡ b → slice_get (cond b s.items []) k ≡ Some item → slice_get (cond a (map (on Uncompressed) s.items) []) k ≡ Some (on Uncompressed item)
    by true true e here = slice_get-map (on Uncompressed) s.items k ∙ ap (option_map (on Uncompressed)) here
    by a false e here = let wrong : None ≡ Some item = here in absurd cc
    by false true e here = absurd cc

-- ---- the place of a field

placed_at : (text : List ℕ) (ms : List Mention) (i : ℕ) (m : Mention) → slice_get (firsts text ms) i ≡ Some m → position (bytes_eq (word text m.name)) (names_of text (firsts text ms)) ≡ Some i
placed_at text ms i m at = by (position (bytes_eq (word text m.name)) (names_of text (firsts text ms))) refl (looked_up text (word text m.name) (firsts text ms))
  where
    known : (c : Mention) × (first_of text (firsts text ms) (word text m.name) ≡ Some c)
    known = some_of (first_of text (firsts text ms) (word text m.name)) (is_found text (firsts text ms) i m at)

    by : (o : Option ℕ) → position (bytes_eq (word text m.name)) (names_of text (firsts text ms)) ≡ o → option_and_then (slice_get (firsts text ms)) o ≡ first_of text (firsts text ms) (word text m.name)
        → o ≡ Some i
    by (Some j) e is =
        let named = found text (firsts text ms) (word text m.name) known.0 known.1 in
        ap Some (firsts_once text ms j i known.0 m (is ∙ known.1) at (sym named.named))
    by None e is = absurd (nothing (first_of text (firsts text ms) (word text m.name)) (sym is) (is_found text (firsts text ms) i m at))

-- a name that stands for the field is that of its mention
name_placed : (text : List ℕ) (ms : List Mention) (name : List ℕ) (i : ℕ) (m : Mention) → position (bytes_eq name) (names_of text ms) ≡ Some i → slice_get ms i ≡ Some m → name ≡ word text m.name
name_placed text ms name i m is at =
    sym (some_is (sym (ap (option_map (λ (t : Mention). word text t.name)) at) ∙ (sym (slice_get-map (λ (t : Mention). word text t.name) ms i) ∙ at_position name (names_of text ms) i is)))

-- ---- lengths

pub same_index : (i : ℕ) → nat_eq i i ≡ true
same_index i = eq-eqb i i refl

-- a statement on the uncompressed side gives its length in each format
length_given : (x : Setting) (number : ℕ) (section : Section) (f : Format) → IsFormat x number section f → (k : ℕ) (st : Statement) → slice_get (base_statements x.sections.now) k ≡ Some st
    → st.side ≡ Uncompressed → (span : Span) (i : ℕ) (part : Tree) (v : ℤ) → name_in st.item ≡ Some span → field_of (scope x number section) span ≡ Some i → length_stated st.item ≡ Some part
    → constant_by (look x) part ≡ Some v → HasLength f i v
length_given x number section f form k st at side span i part v named is only value =
    let s = scope x number section in
    let there = base_into x number section k st at in
    let gives = numbered_into s (all_statements x number section) f.constraints form.constraints_are there.0 st there.1 in
    let one = item_into s st.side st.item gives.part gives.means span i part named is only in
    let numbered = gives.into 0 (Bracket i st.side (one.expr ∷ []) one.place) one.at in
    record {
      number = numbered.0;
      constraint = Bracket i Uncompressed (one.expr ∷ []) one.place;
      at = subst (λ z. slice_get f.constraints numbered.0 ≡ Some (Bracket i z (one.expr ∷ []) one.place)) side numbered.1;
      gives = ap (λ b. cond b (constant one.expr) None) (same_index i) ∙ (constant_meant (look x) s (λ at. refl) part one.expr one.means ∙ value);
    }

-- a constraint that gives a length is a bracket of one constant
record IsLength (c : Constraint) (i : ℕ) (v : ℤ) : Type 0 where
  expr : Expr
  place : Span
  is : c ≡ Bracket i Uncompressed (expr ∷ []) place
  value : constant expr ≡ Some v

is_length : (c : Constraint) (i : ℕ) (v : ℤ) → length_by i c ≡ Some v → IsLength c i v
is_length (Enforce c place) i v e = let wrong : None ≡ Some v = e in absurd cc
is_length (Bracket k Compressed lengths place) i v e = let wrong : None ≡ Some v = e in absurd cc
is_length (Bracket k Uncompressed lengths place) i v e = by (nat_eq k i) refl lengths e
  where
    by : (b : Bool) → nat_eq k i ≡ b → (lengths : List Expr) → cond b (constant_alone lengths) None ≡ Some v → IsLength (Bracket k Uncompressed lengths place) i v
    by false is lengths e = let wrong : None ≡ Some v = e in absurd cc
    by true is [] e = let wrong : None ≡ Some v = e in absurd cc
    by true is (l ∷ []) e = record { expr = l; place = place; is = ap (λ n. Bracket n Uncompressed (l ∷ []) place) (eqb-true k i is); value = e }
    by true is (l ∷ m ∷ ls) e = let wrong : None ≡ Some v = e in absurd cc

-- each format of a method gives a field of one name the same lengths
pub lengths_alike : (x : Setting) (number other : ℕ) (section another : Section) (f g : Format) → IsFormat x number section f → IsFormat x other another g → (i j : ℕ) (m n : Mention)
    → slice_get (fields x number section) i ≡ Some m → slice_get (fields x other another) j ≡ Some n → word x.text.now m.name ≡ word x.text.now n.name → (v : ℤ) → HasLength f i v → HasLength g j v
lengths_alike x number other section another f g form form_g i j m n at_m at_n same v has =
    let text = x.text.now in
    let s = scope x number section in
    let l = is_length has.constraint i v has.gives in
    let from = numbered_from s (all_statements x number section) f.constraints form.constraints_are has.number has.constraint has.at in
    let stated = item_from s from.statement.side from.statement.item from.part from.means from.index i Uncompressed l.expr l.place (from.here ∙ ap Some l.is) in
    let base = base_from x number section from.place from.statement from.at stated.same_side in
    let name : word text stated.span ≡ word text n.name = name_placed text (fields x number section) (word text stated.span) i m stated.field at_m ∙ same in
    let placed = ap (λ z. position (bytes_eq z) (names_of text (fields x other another))) name ∙ placed_at text (in_field_order text x.sections.now (own x other another)) j n at_n in
    length_given x other another g form_g base.0 from.statement base.1 stated.same_side stated.span j stated.part v stated.named placed stated.only
    (sym (constant_meant (look x) s (λ at. refl) stated.part l.expr stated.means) ∙ l.value)

-- an asked field has a length in each format
pub asked_length : (x : Setting) (number : ℕ) (section : Section) (f : Format) → IsAsking x → IsFormat x number section f → (i : ℕ) (m : Mention) → slice_get (fields x number section) i ≡ Some m
    → is_one_of x.asked.now (word x.text.now m.name) ≡ true → (v : ℤ) × HasLength f i v
asked_length x number section f a form i m at is =
    let text = x.text.now in
    let asks = asked_there x a (word text m.name) is in
    let stated = control_stated x.sections.now asks.place (items.Field asks.span asks.bracket) asks.at in
    let base = get_right (of_group Uncompressed groups.Header x.sections.now) (of_group Uncompressed groups.Control x.sections.now) stated.0 (on Uncompressed (items.Field asks.span asks.bracket)) stated.1 in
    let name : word text asks.span ≡ word text m.name = subst (λ t. word t asks.span ≡ word text m.name) a.text asks.named in
    let placed = ap (λ z. position (bytes_eq z) (names_of text (fields x number section))) name ∙ placed_at text (in_field_order text x.sections.now (own x number section)) i m at in
    let value = sym (constant_meant (look x) a.scope a.plain_is asks.part asks.value_is.expr asks.value_is.means) ∙ evaluated_constant _ asks.value_is.expr asks.value asks.value_is.value in
    (asks.value, length_given x number section f form base.0 (on Uncompressed (items.Field asks.span asks.bracket)) base.1 refl asks.span i asks.part asks.value refl placed asks.only value)
