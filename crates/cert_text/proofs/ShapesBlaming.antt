-- The code of a line that can't come next.
use Rattle.std.proofs.Common.{◌≡◌, ◌∙◌, sym, ap, subst, refl, cond, ℕ, zero, suc, ◌<◌, ◌≤◌, ◌&&◌, Bool, true, false, ◌⊎◌, inl, inr, List, [], ◌∷◌, ◌++◌, length, drop, nat_lt, nat_le, arith}
use Rattle.std.specs.Prelude.{Option, Some, None, is_none, slice_get, option_and_then, unwrap_or, codes}
use Rattle.std.specs.List.{AllZip}
use Rattle.std.proofs.lemmas.Bool.{ltb-false, leb-false}
use Rattle.sem_profile.specs.declared.profile.Method.{Method}
use Rattle.sem_profile.specs.Named.{AreNamed}
use Rattle.cert_types.specs.declared.certificate.Node.{Node}
use Rattle.cert_types.specs.declared.certificate.Node.TheVariants.{Nowhere}
use Rattle.cert_text.specs.declared.draft.Draft.{Draft}
use Rattle.cert_text.specs.declared.draft.Stage.{Stage}
use Rattle.cert_text.specs.declared.draft.Stage.TheVariants as stage
use Rattle.cert_text.specs.declared.faults.Fault.TheVariants.{BadWord, UnknownName, AboveLimits}
use Rattle.cert_text.specs.Drafts.{when, open_method, open_format, node_of, step_of, with_node, with_node_at, with_read, with_write, inner_at, next, read_lines, start}
use Rattle.cert_types.specs.Kept.{depths, node_limit, depth_limit, step_limit}
use Rattle.cert_text.specs.Shapes.{method_within, format_within, stands_at, lacks_node, lacks_step, is_unknown, is_node, is_step, goes_on, line_fault, shaped_fault, words_fault, fault_told}
use Rattle.cert_text.specs.Table.{Row, first_row, method_row, bit_row, param_row, ref_row, leaf_row, none_row, format_row, read_row, write_row, take_row, call_row, library_row, length_row, length_by_row, solve_row, choose_row, ask_row, end_row, kinds, LooksLike, IsNodeRow, IsStepRow, HasShape}
use Rattle.cert_text.specs.Tells.{MayFollow, IsDeep, IsFull, IsRanged, IsNamed, Tells, shapeless, out_of_range, unknown, misplaced, one_too_many}
use Rattle.cert_text.proofs.DraftsFollowing.{good_start}
use Rattle.cert_text.proofs.DraftsDue.{method_at, format_at, begun_at, due_of}
use Rattle.cert_text.proofs.DraftsKnown.{NamesFound, names_found}
use Rattle.cert_text.proofs.Shaped.{Judged, fits, LooksRight, looks_right}
use Rattle.cert_text.proofs.Telling.{GoodAt, Good, InTree, InRead, InWrite}

-- ---- the first words of lines

abbrev pub first_word : Row → List ℕ
first_word first_row = codes "rohcfn-certificate"
first_word method_row = codes "method"
first_word bit_row = codes "bit"
first_word param_row = codes "param"
first_word ref_row = codes "ref"
first_word leaf_row = codes "leaf"
first_word none_row = codes "none"
first_word format_row = codes "format"
first_word read_row = codes "read"
first_word write_row = codes "write"
first_word take_row = codes "take"
first_word call_row = codes "call"
first_word library_row = codes "library"
first_word length_row = codes "length"
first_word length_by_row = codes "length"
first_word solve_row = codes "solve"
first_word choose_row = codes "choose"
first_word ask_row = codes "ask"
first_word end_row = codes "end"

pub words_begin : (row : Row) (ws : List (List ℕ)) → AllZip LooksLike (kinds row) ws → (more : List (List ℕ)) × (ws ≡ first_word row ∷ more)
words_begin first_row [] h = absurd h
words_begin first_row (word ∷ more) h = (more, ap (λ w. w ∷ more) h.0)
words_begin method_row [] h = absurd h
words_begin method_row (word ∷ more) h = (more, ap (λ w. w ∷ more) h.0)
words_begin bit_row [] h = absurd h
words_begin bit_row (word ∷ more) h = (more, ap (λ w. w ∷ more) h.0)
words_begin param_row [] h = absurd h
words_begin param_row (word ∷ more) h = (more, ap (λ w. w ∷ more) h.0)
words_begin ref_row [] h = absurd h
words_begin ref_row (word ∷ more) h = (more, ap (λ w. w ∷ more) h.0)
words_begin leaf_row [] h = absurd h
words_begin leaf_row (word ∷ more) h = (more, ap (λ w. w ∷ more) h.0)
words_begin none_row [] h = absurd h
words_begin none_row (word ∷ more) h = (more, ap (λ w. w ∷ more) h.0)
words_begin format_row [] h = absurd h
words_begin format_row (word ∷ more) h = (more, ap (λ w. w ∷ more) h.0)
words_begin read_row [] h = absurd h
words_begin read_row (word ∷ more) h = (more, ap (λ w. w ∷ more) h.0)
words_begin write_row [] h = absurd h
words_begin write_row (word ∷ more) h = (more, ap (λ w. w ∷ more) h.0)
words_begin take_row [] h = absurd h
words_begin take_row (word ∷ more) h = (more, ap (λ w. w ∷ more) h.0)
words_begin call_row [] h = absurd h
words_begin call_row (word ∷ more) h = (more, ap (λ w. w ∷ more) h.0)
words_begin library_row [] h = absurd h
words_begin library_row (word ∷ more) h = (more, ap (λ w. w ∷ more) h.0)
words_begin length_row [] h = absurd h
words_begin length_row (word ∷ more) h = (more, ap (λ w. w ∷ more) h.0)
words_begin length_by_row [] h = absurd h
words_begin length_by_row (word ∷ more) h = (more, ap (λ w. w ∷ more) h.0)
words_begin solve_row [] h = absurd h
words_begin solve_row (word ∷ more) h = (more, ap (λ w. w ∷ more) h.0)
words_begin choose_row [] h = absurd h
words_begin choose_row (word ∷ more) h = (more, ap (λ w. w ∷ more) h.0)
words_begin ask_row [] h = absurd h
words_begin ask_row (word ∷ more) h = (more, ap (λ w. w ∷ more) h.0)
words_begin end_row [] h = absurd h
words_begin end_row (word ∷ more) h = (more, ap (λ w. w ∷ more) h.0)

-- a test that holds just where P does
abbrev Held : Bool → Type 0 → Type 0
Held b P = ((b ≡ true) × P) ⊎ ((b ≡ false) × (P → ⊥))

node_held : (row : Row) → Held (is_node (first_word row)) (IsNodeRow row)
node_held first_row = inr (refl, λ x. x)
node_held method_row = inr (refl, λ x. x)
node_held bit_row = inl (refl, tt)
node_held param_row = inl (refl, tt)
node_held ref_row = inl (refl, tt)
node_held leaf_row = inl (refl, tt)
node_held none_row = inl (refl, tt)
node_held format_row = inr (refl, λ x. x)
node_held read_row = inr (refl, λ x. x)
node_held write_row = inr (refl, λ x. x)
node_held take_row = inr (refl, λ x. x)
node_held call_row = inr (refl, λ x. x)
node_held library_row = inr (refl, λ x. x)
node_held length_row = inr (refl, λ x. x)
node_held length_by_row = inr (refl, λ x. x)
node_held solve_row = inr (refl, λ x. x)
node_held choose_row = inr (refl, λ x. x)
node_held ask_row = inr (refl, λ x. x)
node_held end_row = inr (refl, λ x. x)

step_held : (row : Row) → Held (is_step (first_word row)) (IsStepRow row)
step_held first_row = inr (refl, λ x. x)
step_held method_row = inr (refl, λ x. x)
step_held bit_row = inr (refl, λ x. x)
step_held param_row = inr (refl, λ x. x)
step_held ref_row = inr (refl, λ x. x)
step_held leaf_row = inr (refl, λ x. x)
step_held none_row = inr (refl, λ x. x)
step_held format_row = inr (refl, λ x. x)
step_held read_row = inr (refl, λ x. x)
step_held write_row = inr (refl, λ x. x)
step_held take_row = inl (refl, tt)
step_held call_row = inl (refl, tt)
step_held library_row = inl (refl, tt)
step_held length_row = inl (refl, tt)
step_held length_by_row = inl (refl, tt)
step_held solve_row = inl (refl, tt)
step_held choose_row = inl (refl, tt)
step_held ask_row = inl (refl, tt)
step_held end_row = inr (refl, λ x. x)

goes_held : (s : Stage) (d : Draft) (row : Row) → Held (goes_on s (first_word row)) (MayFollow (begun_at s d) row)
goes_held stage.Tree d row = node_held row
goes_held stage.Read d row = step_held row
goes_held stage.Write d row = step_held row
goes_held stage.Version d row = inr (refl, λ x. x)
goes_held stage.Between d row = inr (refl, λ x. x)
goes_held stage.Formats d row = inr (refl, λ x. x)
goes_held stage.Head d row = inr (refl, λ x. x)
goes_held stage.End d row = inr (refl, λ x. x)

-- the words of nodes and steps are no heading
inner_node : (methods : List Method) (d : Draft) (row : Row) (more : List (List ℕ)) → IsNodeRow row → next methods d (first_word row ∷ more) ≡ inner_at d.stage methods d (first_word row) more
inner_node methods d first_row more h = absurd h
inner_node methods d method_row more h = absurd h
inner_node methods d bit_row [] h = refl
inner_node methods d bit_row (a ∷ []) h = refl
inner_node methods d bit_row (a ∷ b ∷ more) h = refl
inner_node methods d param_row [] h = refl
inner_node methods d param_row (a ∷ []) h = refl
inner_node methods d param_row (a ∷ b ∷ more) h = refl
inner_node methods d ref_row [] h = refl
inner_node methods d ref_row (a ∷ []) h = refl
inner_node methods d ref_row (a ∷ b ∷ more) h = refl
inner_node methods d leaf_row [] h = refl
inner_node methods d leaf_row (a ∷ []) h = refl
inner_node methods d leaf_row (a ∷ b ∷ more) h = refl
inner_node methods d none_row [] h = refl
inner_node methods d none_row (a ∷ []) h = refl
inner_node methods d none_row (a ∷ b ∷ more) h = refl
inner_node methods d format_row more h = absurd h
inner_node methods d read_row more h = absurd h
inner_node methods d write_row more h = absurd h
inner_node methods d take_row more h = absurd h
inner_node methods d call_row more h = absurd h
inner_node methods d library_row more h = absurd h
inner_node methods d length_row more h = absurd h
inner_node methods d length_by_row more h = absurd h
inner_node methods d solve_row more h = absurd h
inner_node methods d choose_row more h = absurd h
inner_node methods d ask_row more h = absurd h
inner_node methods d end_row more h = absurd h

inner_step : (methods : List Method) (d : Draft) (row : Row) (more : List (List ℕ)) → IsStepRow row → next methods d (first_word row ∷ more) ≡ inner_at d.stage methods d (first_word row) more
inner_step methods d first_row more h = absurd h
inner_step methods d method_row more h = absurd h
inner_step methods d bit_row more h = absurd h
inner_step methods d param_row more h = absurd h
inner_step methods d ref_row more h = absurd h
inner_step methods d leaf_row more h = absurd h
inner_step methods d none_row more h = absurd h
inner_step methods d format_row more h = absurd h
inner_step methods d read_row more h = absurd h
inner_step methods d write_row more h = absurd h
inner_step methods d take_row [] h = refl
inner_step methods d take_row (a ∷ []) h = refl
inner_step methods d take_row (a ∷ b ∷ more) h = refl
inner_step methods d call_row [] h = refl
inner_step methods d call_row (a ∷ []) h = refl
inner_step methods d call_row (a ∷ b ∷ more) h = refl
inner_step methods d library_row [] h = refl
inner_step methods d library_row (a ∷ []) h = refl
inner_step methods d library_row (a ∷ b ∷ more) h = refl
inner_step methods d length_row [] h = refl
inner_step methods d length_row (a ∷ []) h = refl
inner_step methods d length_row (a ∷ b ∷ more) h = refl
inner_step methods d length_by_row [] h = refl
inner_step methods d length_by_row (a ∷ []) h = refl
inner_step methods d length_by_row (a ∷ b ∷ more) h = refl
inner_step methods d solve_row [] h = refl
inner_step methods d solve_row (a ∷ []) h = refl
inner_step methods d solve_row (a ∷ b ∷ more) h = refl
inner_step methods d choose_row [] h = refl
inner_step methods d choose_row (a ∷ []) h = refl
inner_step methods d choose_row (a ∷ b ∷ more) h = refl
inner_step methods d ask_row [] h = refl
inner_step methods d ask_row (a ∷ []) h = refl
inner_step methods d ask_row (a ∷ b ∷ more) h = refl
inner_step methods d end_row more h = absurd h

unknown_node : (methods : List Method) (d : Draft) (row : Row) (more : List (List ℕ)) → IsNodeRow row → is_unknown (stands_at d) methods (first_word row) more ≡ lacks_node d.version (method_at methods d) (first_word row) more
unknown_node methods d first_row more h = absurd h
unknown_node methods d method_row more h = absurd h
unknown_node methods d bit_row more h = refl
unknown_node methods d param_row more h = refl
unknown_node methods d ref_row more h = refl
unknown_node methods d leaf_row more h = refl
unknown_node methods d none_row more h = refl
unknown_node methods d format_row more h = absurd h
unknown_node methods d read_row more h = absurd h
unknown_node methods d write_row more h = absurd h
unknown_node methods d take_row more h = absurd h
unknown_node methods d call_row more h = absurd h
unknown_node methods d library_row more h = absurd h
unknown_node methods d length_row more h = absurd h
unknown_node methods d length_by_row more h = absurd h
unknown_node methods d solve_row more h = absurd h
unknown_node methods d choose_row more h = absurd h
unknown_node methods d ask_row more h = absurd h
unknown_node methods d end_row more h = absurd h

unknown_step : (methods : List Method) (d : Draft) (row : Row) (more : List (List ℕ)) → IsStepRow row → is_unknown (stands_at d) methods (first_word row) more ≡ lacks_step (format_at methods d) (first_word row) more
unknown_step methods d first_row more h = absurd h
unknown_step methods d method_row more h = absurd h
unknown_step methods d bit_row more h = absurd h
unknown_step methods d param_row more h = absurd h
unknown_step methods d ref_row more h = absurd h
unknown_step methods d leaf_row more h = absurd h
unknown_step methods d none_row more h = absurd h
unknown_step methods d format_row more h = absurd h
unknown_step methods d read_row more h = absurd h
unknown_step methods d write_row more h = absurd h
unknown_step methods d take_row more h = refl
unknown_step methods d call_row more h = refl
unknown_step methods d library_row more h = refl
unknown_step methods d length_row more h = refl
unknown_step methods d length_by_row more h = refl
unknown_step methods d solve_row more h = refl
unknown_step methods d choose_row more h = refl
unknown_step methods d ask_row more h = refl
unknown_step methods d end_row more h = absurd h

-- ---- counts

some_of : {A : Type 0} (o : Option A) → is_none o ≡ false → (x : A) × (o ≡ Some x)
some_of None h = let wrong : true ≡ false = h in absurd cc
some_of (Some x) h = (x, refl)

when_not : {A : Type 0} (b : Bool) (x : A) → when b x ≡ None → b ≡ false
when_not true x h = absurd cc
when_not false x h = refl

first_left : {A : Type 0} (n : ℕ) (xs : List A) (y : A) (ys : List A) → drop n xs ≡ y ∷ ys → slice_get xs n ≡ Some y
first_left zero [] y ys h = absurd cc
first_left zero (x ∷ xs) y ys h = let same : x ≡ y = cc in ap Some same
first_left (suc n) [] y ys h = absurd cc
first_left (suc n) (x ∷ xs) y ys h = first_left n xs y ys h

either_false : (a b : Bool) → (a && b) ≡ false → (a ≡ false) ⊎ (b ≡ false)
either_false true b h = inr h
either_false false b h = inl refl

owed_full : (tree : List Node) (d : Draft) (node : Node) (owed : List ℕ) → d.tree ≡ tree → drop (length tree) (depths (1 ∷ []) (tree ++ Nowhere ∷ [])) ≡ depths owed (Nowhere ∷ []) → 0 < length owed → with_node_at d node owed ≡ None → (node_limit ≤ length tree) ⊎ IsDeep tree
owed_full tree d node [] is placed h none = absurd (omega (arith, h))
owed_full tree d node (depth ∷ owed) is placed h none = by (either_false (nat_lt (length d.tree) node_limit) (nat_le depth depth_limit) (when_not _ _ none))
  where
    by : (nat_lt (length d.tree) node_limit ≡ false) ⊎ (nat_le depth depth_limit ≡ false) → (node_limit ≤ length tree) ⊎ IsDeep tree
    by (inl e) = inl (ltb-false (length tree) node_limit (ap (λ t. nat_lt (length t) node_limit) (sym is) ∙ e))
    by (inr e) = inr (record { depth = depth; next_is = first_left (length tree) (depths (1 ∷ []) (tree ++ Nowhere ∷ [])) depth _ placed; deep = leb-false depth depth_limit e })

tree_full : (methods : List Method) (ls : List (List ℕ)) (d : Draft) (word : List ℕ) (more : List (List ℕ)) → d.stage ≡ stage.Tree → InTree methods ls d → inner_at d.stage methods d word more ≡ None → lacks_node d.version (method_at methods d) word more ≡ false → (node_limit ≤ length d.tree) ⊎ IsDeep d.tree
tree_full methods ls d word more e g stops known =
    let opened : open_method methods d ≡ Some g.m = ap (open_method methods) g.is ∙ g.opened.there in
    let here : method_at methods d ≡ Some g.m = λ i. method_within (e i) (opened i) in
    let (node, is) = some_of (node_of d.version g.m word more) (sym (ap (λ o. lacks_node d.version o word more) here) ∙ known) in
    let none : with_node d node ≡ None =
    sym (ap (λ s. inner_at s methods d word more) e ∙ ap (option_and_then (λ m. option_and_then (with_node d) (node_of d.version m word more))) opened ∙ ap (option_and_then (with_node d)) is) ∙ stops in
    let tree_is : d.tree ≡ g.tree = ap (λ x. x.tree) g.is in
    let owed_is : d.owed ≡ g.owed = ap (λ x. x.owed) g.is in
    let here_none : with_node_at d node g.owed ≡ None = ap (with_node_at d node) (sym owed_is) ∙ none in
    subst (λ t. (node_limit ≤ length t) ⊎ IsDeep t) (sym tree_is) (owed_full g.tree d node g.owed tree_is (g.so.placed (Nowhere ∷ [])) g.some here_none)

read_full : (methods : List Method) (ls : List (List ℕ)) (d : Draft) (word : List ℕ) (more : List (List ℕ)) → d.stage ≡ stage.Read → InRead methods ls d → inner_at d.stage methods d word more ≡ None → lacks_step (format_at methods d) word more ≡ false → step_limit ≤ length d.read
read_full methods ls d word more e g stops known =
    let opened : open_format methods d ≡ Some g.f = ap (open_format methods) g.is ∙ ap (option_and_then (λ m. slice_get m.formats (length g.fs))) g.within.opened.there ∙ g.within.at_is in
    let here : format_at methods d ≡ Some g.f = λ i. format_within (e i) (opened i) in
    let (step, is) = some_of (step_of g.f word more) (sym (ap (λ o. lacks_step o word more) here) ∙ known) in
    let none : with_read d step ≡ None =
    sym (ap (λ s. inner_at s methods d word more) e ∙ ap (option_and_then (λ f. option_and_then (with_read d) (step_of f word more))) opened ∙ ap (option_and_then (with_read d)) is) ∙ stops in
    ltb-false (length d.read) step_limit (when_not _ _ none)

write_full : (methods : List Method) (ls : List (List ℕ)) (d : Draft) (word : List ℕ) (more : List (List ℕ)) → d.stage ≡ stage.Write → InWrite methods ls d → inner_at d.stage methods d word more ≡ None → lacks_step (format_at methods d) word more ≡ false → step_limit ≤ length d.write
write_full methods ls d word more e g stops known =
    let opened : open_format methods d ≡ Some g.f = ap (open_format methods) g.is ∙ ap (option_and_then (λ m. slice_get m.formats (length g.fs))) g.within.opened.there ∙ g.within.at_is in
    let here : format_at methods d ≡ Some g.f = λ i. format_within (e i) (opened i) in
    let (step, is) = some_of (step_of g.f word more) (sym (ap (λ o. lacks_step o word more) here) ∙ known) in
    let none : with_write d step ≡ None =
    sym (ap (λ s. inner_at s methods d word more) e ∙ ap (option_and_then (λ f. option_and_then (with_write d) (step_of f word more))) opened ∙ ap (option_and_then (with_write d)) is) ∙ stops in
    ltb-false (length d.write) step_limit (when_not _ _ none)

full : (methods : List Method) (ls : List (List ℕ)) (d : Draft) (row : Row) (more : List (List ℕ)) → Good methods ls d → next methods d (first_word row ∷ more) ≡ None → is_unknown (stands_at d) methods (first_word row) more ≡ false → MayFollow (begun_at d.stage d) row → IsFull (begun_at d.stage d)
full methods ls d row more good stops known goes_on_there = by d.stage refl good goes_on_there
  where
    by : (s : Stage) → d.stage ≡ s → GoodAt s methods ls d → MayFollow (begun_at s d) row → IsFull (begun_at s d)
    by stage.Tree e g goes = tree_full methods ls d (first_word row) more e g (sym (inner_node methods d row more goes) ∙ stops) (sym (unknown_node methods d row more goes) ∙ known)
    by stage.Read e g goes = read_full methods ls d (first_word row) more e g (sym (inner_step methods d row more goes) ∙ stops) (sym (unknown_step methods d row more goes) ∙ known)
    by stage.Write e g goes = write_full methods ls d (first_word row) more e g (sym (inner_step methods d row more goes) ∙ stops) (sym (unknown_step methods d row more goes) ∙ known)
    by stage.Version e g goes = absurd goes
    by stage.Between e g goes = absurd goes
    by stage.Formats e g goes = absurd goes
    by stage.Head e g goes = absurd goes
    by stage.End e g goes = absurd goes

-- ---- the code

named_line : (methods : List Method) → AreNamed methods → (ls : List (List ℕ)) (d : Draft) (row : Row) (more : List (List ℕ)) → Good methods ls d → next methods d (first_word row ∷ more) ≡ None → IsRanged d.version row (first_word row ∷ more) → line_fault d.version (first_word row ∷ more) ≡ None
    → Tells methods (due_of methods d) (first_word row ∷ more) (fault_told (stands_at d) methods (first_word row ∷ more))
named_line methods named ls d row more good stops ranged none = by (names_found methods named d row (first_word row ∷ more) ranged)
  where
    shaped : fault_told (stands_at d) methods (first_word row ∷ more) ≡ shaped_fault (stands_at d) methods (first_word row) more
    shaped = ap (λ o. unwrap_or o (shaped_fault (stands_at d) methods (first_word row) more)) none

    placed : is_unknown (stands_at d) methods (first_word row) more ≡ false → IsNamed methods (due_of methods d) row (first_word row ∷ more) → Held (goes_on d.stage (first_word row)) (MayFollow (begun_at d.stage d) row) → Tells methods (due_of methods d) (first_word row ∷ more) (fault_told (stands_at d) methods (first_word row ∷ more))
    placed known all (inl h) = one_too_many (shaped ∙ (λ i. cond (known i) UnknownName (cond (h.0 i) AboveLimits BadWord))) row all h.1 (full methods ls d row more good stops known h.1)
    placed known all (inr h) = misplaced (shaped ∙ (λ i. cond (known i) UnknownName (cond (h.0 i) AboveLimits BadWord))) row all h.1

    by : NamesFound methods d row (first_word row ∷ more) → Tells methods (due_of methods d) (first_word row ∷ more) (fault_told (stands_at d) methods (first_word row ∷ more))
    by (inl h) = unknown (shaped ∙ ap (λ b. cond b UnknownName (cond (goes_on d.stage (first_word row)) AboveLimits BadWord)) h.0) row ranged h.1
    by (inr h) = placed h.0 (record { ranged = ranged; known = h.1 }) (goes_held d.stage d row)

no_shape : (d : Draft) (ws : List (List ℕ)) → line_fault d.version ws ≡ Some BadWord → (row : Row) → HasShape d.version row ws → ⊥
no_shape d ws bad row h = by (fits d.version row ws h)
  where
    by : Judged d.version row ws → ⊥
    by (inl e) = let wrong : Some BadWord ≡ None = sym bad ∙ e.0 in absurd cc
    by (inr e) = let wrong : Some BadWord ≡ Some AboveLimits = sym bad ∙ e.0 in absurd cc

pub code_is : (methods : List Method) → AreNamed methods → (ls : List (List ℕ)) (d : Draft) (ws : List (List ℕ)) → read_lines methods start ls ≡ Some d → next methods d ws ≡ None → Tells methods (due_of methods d) ws (fault_told (stands_at d) methods ws)
code_is methods named ls d ws so_far stops = by (looks_right d.version ws)
  where
    by_range : (row : Row) → HasShape d.version row ws → Judged d.version row ws → Tells methods (due_of methods d) ws (fault_told (stands_at d) methods ws)
    by_range row h (inr e) = out_of_range (ap (λ o. unwrap_or o (words_fault (stands_at d) methods ws)) e.0) row h e.1
    by_range row h (inl e) =
        let (more, is) = words_begin row ws h.alike in
        subst (λ x. Tells methods (due_of methods d) x (fault_told (stands_at d) methods x)) (sym is)
        (named_line methods named ls d row more (good_start methods ls d so_far) (ap (next methods d) (sym is) ∙ stops) (subst (IsRanged d.version row) is (record { shape = h; ranged = e.1 })) (ap (line_fault d.version) (sym is) ∙ e.0))

    by : LooksRight d.version ws → Tells methods (due_of methods d) ws (fault_told (stands_at d) methods ws)
    by (inl bad) = shapeless (ap (λ o. unwrap_or o (words_fault (stands_at d) methods ws)) bad) (no_shape d ws bad)
    by (inr seen) = by_range seen.0 seen.1 (fits d.version seen.0 ws seen.1)
