-- What is due by a draft is due after the lines that made it.
use Rattle.std.proofs.Common.{◌≡◌, ◌∙◌, sym, ap, subst, refl, cond, ℕ, zero, suc, ◌<◌, ◌≤◌, ◌&&◌, true, ◌⊎◌, inl, inr, List, [], ◌∷◌, ◌++◌, length, take, nat_lt, nat_le, arith}
use Rattle.std.specs.Prelude.{Option, Some, None, slice_get, option_and_then, codes}
use Rattle.std.specs.List.{AllByRecursion, AllZip}
use Rattle.std.specs.Str.{bytes_eq}
use Rattle.std.proofs.lemmas.Bool.{false≢true}
use Rattle.std.proofs.lemmas.List.{append-nil}
use Rattle.sem_profile.specs.declared.profile.Format.{Format}
use Rattle.sem_profile.specs.declared.profile.Method.{Method}
use Rattle.cert_types.specs.declared.certificate.Version.{Version}
use Rattle.cert_types.specs.declared.certificate.Step.{Step}
use Rattle.cert_types.specs.declared.certificate.Node.{Node}
use Rattle.cert_types.specs.declared.certificate.Node.TheVariants.{Nowhere}
use Rattle.cert_types.specs.declared.certificate.FormatPlans.{FormatPlans}
use Rattle.cert_types.specs.Kept.{Entries, AreFormatsKept, are_trees, depths, depth_limit, node_limit, step_limit, owed_after}
use Rattle.cert_types.specs.Of.{IsFormatOf, IsEntryOf, IsOf}
use Rattle.cert_text.specs.declared.draft.Draft.{Draft}
use Rattle.cert_text.specs.declared.draft.Stage.{Stage}
use Rattle.cert_text.specs.declared.draft.Stage.TheVariants as stage
use Rattle.cert_text.specs.Drafts.{words, when, is_stage, at, after_node, open_method, open_format, close_format, close_method, begin, begin_method, begin_format, finish, method_place, format_place, version_named, with_version, node_of, step_of, with_node, with_node_at, with_read, with_write, inner_at, one_word, two_words, next, read_lines, start}
use Rattle.cert_text.specs.Due.{Begun, no_list, a_tree, a_plan, Due, Opens, BeginTree, Unfinished, OpensFormat, BeginPlan, IsDue, before_first, after_first, in_tree, after_tree, at_format, in_read, in_write, after_last}
use Rattle.cert_text.proofs.DraftsAccepting.{st, take_front}
use Rattle.cert_text.proofs.DraftsDue.{due_of}
use Rattle.cert_text.proofs.DraftsFollowing.{good_start, line_good, entry_kept}
use Rattle.cert_text.proofs.DraftsMeaning.{if_some, and_some, some_is}
use Rattle.cert_text.proofs.DraftsNumerals.{when_true}
use Rattle.cert_text.proofs.Telling.{zip_long, front, tree_lines, formats_lines, IsFormatKept, Told, Opened, TreeSo, FormatsSo, StepsSo, InTree, InFormat, GoodAt, Good}

-- ---- a heading closes what is before it, and nothing else does

-- so nothing is said of methods before the first heading of one, nor of formats after a tree
abbrev LazyAt : Stage → Draft → Type 0
LazyAt stage.Between d = d.entries ≡ []
LazyAt stage.Formats d = d.formats ≡ []
LazyAt _ d = Unit {0}

abbrev Lazy : Draft → Type 0
Lazy d = LazyAt d.stage d

lazy_by : (d : Draft) (s : Stage) → d.stage ≡ s → LazyAt s d → Lazy d
lazy_by d s e h = subst (λ t. LazyAt t d) (sym e) h

lazy_node : (methods : List Method) (ls : List (List ℕ)) (d e : Draft) (node : Node) (owed : List ℕ) → InTree methods ls d → with_node_at d node owed ≡ Some e → Lazy e
lazy_node methods ls d e node [] g h = absurd cc
lazy_node methods ls d e node (depth ∷ owed) g h =
    let w = when_true (nat_lt (length d.tree) node_limit && nat_le depth depth_limit) _ e h in
    let none : d.formats ≡ [] = ap (λ x. x.formats) g.is in
    by (owed_after node depth owed) (ap (λ x. x.stage) (sym w.1)) (ap (λ x. x.formats) (sym w.1) ∙ none)
  where
    by : (owed : List ℕ) → e.stage ≡ after_node owed → e.formats ≡ [] → Lazy e
    by [] is none = lazy_by e stage.Formats is none
    by (d2 ∷ owed) is none = lazy_by e stage.Tree is tt

lazy_inner : (methods : List Method) (ls : List (List ℕ)) (d e : Draft) (s : Stage) (word : List ℕ) (more : List (List ℕ)) → d.stage ≡ s → GoodAt s methods ls d → inner_at s methods d word more ≡ Some e → Lazy e
lazy_inner methods ls d e stage.Tree word more is g h =
    let (m, opened, rest) = and_some _ (open_method methods d) e h in
    let (node, named, made) = and_some (with_node d) (node_of d.version m word more) e rest in
    lazy_node methods ls d e node d.owed g made
lazy_inner methods ls d e stage.Read word more is g h =
    let (f, opened, rest) = and_some _ (open_format methods d) e h in
    let (step, named, made) = and_some (with_read d) (step_of f word more) e rest in
    let w = when_true (nat_lt (length d.read) step_limit) _ e made in
    lazy_by e stage.Read (ap (λ x. x.stage) (sym w.1) ∙ is) tt
lazy_inner methods ls d e stage.Write word more is g h =
    let (f, opened, rest) = and_some _ (open_format methods d) e h in
    let (step, named, made) = and_some (with_write d) (step_of f word more) e rest in
    let w = when_true (nat_lt (length d.write) step_limit) _ e made in
    lazy_by e stage.Write (ap (λ x. x.stage) (sym w.1) ∙ is) tt
lazy_inner methods ls d e stage.Version word more is g h = absurd cc
lazy_inner methods ls d e stage.Between word more is g h = absurd cc
lazy_inner methods ls d e stage.Formats word more is g h = absurd cc
lazy_inner methods ls d e stage.Head word more is g h = absurd cc
lazy_inner methods ls d e stage.End word more is g h = absurd cc

lazy_one : (methods : List Method) (ls : List (List ℕ)) (d e : Draft) (word : List ℕ) → Good methods ls d → one_word methods d word ≡ Some e → Lazy e
lazy_one methods ls d e word g h = one (if_some (bytes_eq word (codes "read")) (when (is_stage d.stage stage.Head) (at stage.Read d)) _ e h)
  where
    three : ((bytes_eq word (codes "end") ≡ true) × (finish methods (close_method methods (close_format methods d)) ≡ Some e)) ⊎ (inner_at d.stage methods d word [] ≡ Some e) → Lazy e
    three (inl (is, there)) =
        let c = close_method methods (close_format methods d) in
        let w = when_true (is_stage c.stage stage.Between) _ e there in
        lazy_by e stage.End (ap (λ x. x.stage) (sym w.1)) tt
    three (inr there) = lazy_inner methods ls d e d.stage word [] refl g there

    two : ((bytes_eq word (codes "write") ≡ true) × (when (is_stage d.stage stage.Read) (at stage.Write d) ≡ Some e)) ⊎ (cond (bytes_eq word (codes "end")) (finish methods (close_method methods (close_format methods d))) (inner_at d.stage methods d word []) ≡ Some e) → Lazy e
    two (inl (is, there)) = let w = when_true (is_stage d.stage stage.Read) _ e there in lazy_by e stage.Write (ap (λ x. x.stage) (sym w.1)) tt
    two (inr more) = three (if_some (bytes_eq word (codes "end")) (finish methods (close_method methods (close_format methods d))) _ e more)

    one : ((bytes_eq word (codes "read") ≡ true) × (when (is_stage d.stage stage.Head) (at stage.Read d) ≡ Some e))
        ⊎ (cond (bytes_eq word (codes "write")) (when (is_stage d.stage stage.Read) (at stage.Write d)) (cond (bytes_eq word (codes "end")) (finish methods (close_method methods (close_format methods d))) (inner_at d.stage methods d word [])) ≡ Some e) → Lazy e
    one (inl (is, there)) = let w = when_true (is_stage d.stage stage.Head) _ e there in lazy_by e stage.Read (ap (λ x. x.stage) (sym w.1)) tt
    one (inr more) = two (if_some (bytes_eq word (codes "write")) (when (is_stage d.stage stage.Read) (at stage.Write d)) _ e more)

-- before the first line nothing is said
first_entries : (methods : List Method) (ls : List (List ℕ)) (d : Draft) (s : Stage) → is_stage s stage.Version ≡ true → GoodAt s methods ls d → d.entries ≡ []
first_entries methods ls d stage.Version h g = ap (λ x. x.entries) g.is
first_entries methods ls d stage.Between h g = absurd (false≢true h)
first_entries methods ls d stage.Tree h g = absurd (false≢true h)
first_entries methods ls d stage.Formats h g = absurd (false≢true h)
first_entries methods ls d stage.Head h g = absurd (false≢true h)
first_entries methods ls d stage.Read h g = absurd (false≢true h)
first_entries methods ls d stage.Write h g = absurd (false≢true h)
first_entries methods ls d stage.End h g = absurd (false≢true h)

lazy_two : (methods : List Method) (ls : List (List ℕ)) (d e : Draft) (word name : List ℕ) → Good methods ls d → two_words methods d word name ≡ Some e → Lazy e
lazy_two methods ls d e word name g h = one (if_some (bytes_eq word (codes "method")) (begin_method methods (close_method methods (close_format methods d)) name) _ e h)
  where
    three : ((bytes_eq word (codes "rohcfn-certificate") ≡ true) × (begin d name ≡ Some e)) ⊎ (inner_at d.stage methods d word (name ∷ []) ≡ Some e) → Lazy e
    three (inl (is, there)) =
        let (v, named, made) = and_some _ (version_named name) e there in
        let w = when_true (is_stage d.stage stage.Version) (with_version v d) e made in
        lazy_by e stage.Between (ap (λ x. x.stage) (sym w.1)) (ap (λ x. x.entries) (sym w.1) ∙ first_entries methods ls d d.stage w.0 g)
    three (inr there) = lazy_inner methods ls d e d.stage word (name ∷ []) refl g there

    two : ((bytes_eq word (codes "format") ≡ true) × (begin_format methods (close_format methods d) name ≡ Some e))
        ⊎ (cond (bytes_eq word (codes "rohcfn-certificate")) (begin d name) (inner_at d.stage methods d word (name ∷ [])) ≡ Some e) → Lazy e
    two (inl (is, there)) =
        let c = close_format methods d in
        let (m, opened, more) = and_some _ (open_method methods c) e there in
        let (n, placed, made) = and_some _ (format_place name m) e more in
        lazy_by e stage.Head (ap (λ x. x.stage) (sym (when_true _ _ e made).1)) tt
    two (inr more) = three (if_some (bytes_eq word (codes "rohcfn-certificate")) (begin d name) _ e more)

    one : ((bytes_eq word (codes "method") ≡ true) × (begin_method methods (close_method methods (close_format methods d)) name ≡ Some e))
        ⊎ (cond (bytes_eq word (codes "format")) (begin_format methods (close_format methods d) name) (cond (bytes_eq word (codes "rohcfn-certificate")) (begin d name) (inner_at d.stage methods d word (name ∷ []))) ≡ Some e) → Lazy e
    one (inl (is, there)) =
        let c = close_method methods (close_format methods d) in
        let (k, placed, more) = and_some _ (method_place name methods) e there in
        let (m, at_k, made) = and_some _ (slice_get methods k) e more in
        lazy_by e stage.Tree (ap (λ x. x.stage) (sym (when_true _ _ e made).1)) tt
    one (inr more) = two (if_some (bytes_eq word (codes "format")) (begin_format methods (close_format methods d) name) _ e more)

lazy_next : (methods : List Method) (ls : List (List ℕ)) (d e : Draft) (ws : List (List ℕ)) → Good methods ls d → next methods d ws ≡ Some e → Lazy e
lazy_next methods ls d e [] g h = absurd cc
lazy_next methods ls d e (word ∷ []) g h = lazy_one methods ls d e word g h
lazy_next methods ls d e (word ∷ name ∷ []) g h = lazy_two methods ls d e word name g h
lazy_next methods ls d e (word ∷ a ∷ b ∷ more) g h = lazy_inner methods ls d e d.stage word (a ∷ b ∷ more) refl g h

lazy_lines : (methods : List Method) (before lines : List (List ℕ)) (d e : Draft) → Good methods before d → Lazy d → read_lines methods d lines ≡ Some e → Lazy e
lazy_lines methods before [] d e g lazy h = subst Lazy (some_is d e h) lazy
lazy_lines methods before (line ∷ lines) d e g lazy h =
    let (f, taken, more) = and_some _ (next methods d (words line)) e h in
    lazy_lines methods (before ++ line ∷ []) lines f e (line_good methods before d f line g taken) (lazy_next methods before d f (words line) g taken) more

-- ---- what the lines say

said_first : (v : Version) (methods : List Method) (es : Entries) → Told v methods es → IsOf (take (length es) methods) es
said_first v methods es t =
    let front_is : take (length es) methods ≡ t.before = (λ i. take (sym (zip_long IsEntryOf t.before es t.alike) i) (t.is i)) ∙ take_front t.before t.rest in
    subst (λ ms. IsOf ms es) (sym front_is) t.alike

opens : (v : Version) (methods : List Method) (es : Entries) (m : Method) → Opened v methods es m → Opens v methods es m
opens v methods es m o = record { of = said_first v methods es o.told; kept = record { each = entry_kept v es o.told.kept }; there = o.there; used = o.used }

-- depths of no nodes
none_deep : (owed : List ℕ) → AllByRecursion (λ d. d ≤ depth_limit) (depths owed [])
none_deep [] = tt
none_deep (d ∷ owed) = tt

begins_tree : (v : Version) (m : Method) (tree : List Node) (owed : List ℕ) → TreeSo v m tree owed → BeginTree v m tree
begins_tree v m tree owed so = record {
  of = so.of;
  kept = so.kept;
  versed = so.versed;
  few = so.few;
  shallow = subst (λ t. AllByRecursion (λ d. d ≤ depth_limit) (depths (1 ∷ []) t)) (append-nil tree) (so.deep [] (none_deep owed));
}

abbrev nowheres : ℕ → List Node
nowheres zero = []
nowheres (suc n) = Nowhere ∷ nowheres n

nowheres_whole : (n : ℕ) → are_trees n (nowheres n) ≡ true
nowheres_whole zero = refl
nowheres_whole (suc n) = nowheres_whole n

unfinished : (v : Version) (m : Method) (tree : List Node) (owed : List ℕ) → 0 < length owed → TreeSo v m tree owed → Unfinished tree
unfinished v m tree [] some so = absurd (omega (arith, some))
unfinished v m tree (d ∷ owed) some so = record { next = Nowhere; more = nowheres (length owed); whole = so.grown (Nowhere ∷ nowheres (length owed)) ∙ nowheres_whole (length owed) }

whole_tree : (v : Version) (m : Method) (tree : List Node) → TreeSo v m tree [] → are_trees 1 tree ≡ true
whole_tree v m tree so = ap (are_trees 1) (sym (append-nil tree)) ∙ so.grown []

kept_formats : (fs : List FormatPlans) → AllByRecursion IsFormatKept fs → AreFormatsKept fs
kept_formats [] h n format plans at is = absurd cc
kept_formats (f ∷ fs) h zero format plans at is = let same : f ≡ format = cc in h.0 plans (ap (λ x. x.plans) same ∙ is)
kept_formats (f ∷ fs) h (suc n) format plans at is = kept_formats fs h.1 n format plans at is

said_formats : (m : Method) (fs : List FormatPlans) → FormatsSo m fs → AllZip IsFormatOf (take (length fs) m.formats) fs
said_formats m fs so =
    let front_is : take (length fs) m.formats ≡ so.before = (λ i. take (sym (zip_long IsFormatOf so.before fs so.alike) i) (so.is i)) ∙ take_front so.before so.rest in
    subst (λ xs. AllZip IsFormatOf xs fs) (sym front_is) so.alike

opens_format : (v : Version) (methods : List Method) (es : Entries) (m : Method) (tree : List Node) (fs : List FormatPlans) (f : Format) → InFormat v methods es m tree fs f → OpensFormat v methods es m tree fs f
opens_format v methods es m tree fs f w = record {
  method = opens v methods es m w.opened;
  tree_begun = begins_tree v m tree [] w.so;
  whole = whole_tree v m tree w.so;
  of = said_formats m fs w.formats;
  kept = kept_formats fs w.formats.kept;
  there = w.at_is;
}

begins_plan : (f : Format) (steps : List Step) → StepsSo f steps → BeginPlan f steps
begins_plan f steps so = record { of = so.of; kept = record { few = so.few; each = so.kept } }

-- ---- what is due

due_as : (methods : List Method) (ls lines : List (List ℕ)) (d e : Draft) (what : Due) → d ≡ e → ls ≡ lines → due_of methods e ≡ what → IsDue methods lines what → IsDue methods ls (due_of methods d)
due_as methods ls lines d e what is lines_are same h = subst (λ x. IsDue methods x (due_of methods d)) (sym lines_are) (subst (IsDue methods lines) (sym (ap (due_of methods) is ∙ same)) h)

abbrev pub due : Version → Option Method → Option Format → Begun → Due
due v m f b = record { version = v; method = m; format = f; begun = b }

-- the method and the format that are open
pub with_method : (methods : List Method) (v : Version) (es : Entries) (m : Method) (b : Begun) → slice_get methods (length es) ≡ Some m → due v (slice_get methods (length es)) None b ≡ due v (Some m) None b
with_method methods v es m b there = λ i. record { version = v; method = there i; format = None; begun = b }

pub with_format : (methods : List Method) (v : Version) (es : Entries) (fs : List FormatPlans) (m : Method) (f : Format) (b : Begun) → slice_get methods (length es) ≡ Some m → slice_get m.formats (length fs) ≡ Some f →
    due v (slice_get methods (length es)) (option_and_then (λ (z : Method). slice_get z.formats (length fs)) (slice_get methods (length es))) b ≡ due v (Some m) (Some f) b
with_format methods v es fs m f b there here = λ i. record { version = v; method = there i; format = (ap (option_and_then (λ (z : Method). slice_get z.formats (length fs))) there ∙ here) i; begun = b }

pub due_shown : (methods : List Method) (ls : List (List ℕ)) (d : Draft) → read_lines methods start ls ≡ Some d → IsDue methods ls (due_of methods d)
due_shown methods ls d so_far = by d.stage refl (good_start methods ls d so_far) (lazy_lines methods [] ls start d (record { is = refl; lines = refl }) tt so_far)
  where
    by : (s : Stage) → d.stage ≡ s → GoodAt s methods ls d → LazyAt s d → IsDue methods ls (due_of methods d)
    by stage.Version e g lazy = due_as methods ls [] d start _ g.is g.lines refl before_first
    by stage.Between e g lazy =
        let none : g.es ≡ [] = ap (λ x. x.entries) (sym g.is) ∙ lazy in
        due_as methods ls (front g.v []) d (st g.v stage.Between [] [] [] [] [] []) _ (g.is ∙ ap (λ es. st g.v stage.Between es [] [] [] [] []) none) (g.lines ∙ ap (front g.v) none) refl (after_first g.v)
    by stage.Tree e g lazy =
        due_as methods ls (tree_lines g.v g.es g.m g.tree) d (st g.v stage.Tree g.es g.tree g.owed [] [] []) _ g.is g.lines (with_method methods g.v g.es g.m (a_tree g.tree) g.opened.there)
        (in_tree (opens g.v methods g.es g.m g.opened) (begins_tree g.v g.m g.tree g.owed g.so) (unfinished g.v g.m g.tree g.owed g.some g.so))
    by stage.Formats e g lazy =
        let none : g.fs ≡ [] = ap (λ x. x.formats) (sym g.is) ∙ lazy in
        let lines_are : ls ≡ tree_lines g.v g.es g.m g.tree = g.lines ∙ ap (formats_lines g.v g.es g.m g.tree) none ∙ append-nil (tree_lines g.v g.es g.m g.tree) in
        due_as methods ls (tree_lines g.v g.es g.m g.tree) d (st g.v stage.Formats g.es g.tree [] g.fs [] []) _ g.is lines_are (with_method methods g.v g.es g.m no_list g.opened.there)
        (after_tree (opens g.v methods g.es g.m g.opened) (begins_tree g.v g.m g.tree [] g.so) (whole_tree g.v g.m g.tree g.so))
    by stage.Head e g lazy =
        due_as methods ls _ d (st g.v stage.Head g.es g.tree [] g.fs [] []) _ g.is g.lines (with_format methods g.v g.es g.fs g.m g.f no_list g.within.opened.there g.within.at_is)
        (at_format (opens_format g.v methods g.es g.m g.tree g.fs g.f g.within))
    by stage.Read e g lazy =
        due_as methods ls _ d (st g.v stage.Read g.es g.tree [] g.fs g.rs []) _ g.is g.lines (with_format methods g.v g.es g.fs g.m g.f (a_plan g.rs) g.within.opened.there g.within.at_is)
        (in_read g.rs (opens_format g.v methods g.es g.m g.tree g.fs g.f g.within) (begins_plan g.f g.rs g.reads))
    by stage.Write e g lazy =
        due_as methods ls _ d (st g.v stage.Write g.es g.tree [] g.fs g.rs g.ws) _ g.is g.lines (with_format methods g.v g.es g.fs g.m g.f (a_plan g.ws) g.within.opened.there g.within.at_is)
        (in_write g.rs g.ws (opens_format g.v methods g.es g.m g.tree g.fs g.f g.within) (begins_plan g.f g.rs g.reads) (begins_plan g.f g.ws g.writes))
    by stage.End e g lazy = due_as methods ls _ d (st g.v stage.End g.es [] [] [] [] []) _ g.is g.lines refl (after_last g.of (record { each = entry_kept g.v g.es g.kept }))
