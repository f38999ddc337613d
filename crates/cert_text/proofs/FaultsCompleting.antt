-- Lines that can be followed begin those of a certificate, its limits aside.
use Rattle.std.proofs.Common.{◌≡◌, ◌∙◌, sym, ap, subst, refl, ℕ, zero, suc, true, List, [], ◌∷◌, ◌++◌, map, length, append_assoc}
use Rattle.std.specs.Prelude.{Option, Some, None, slice_get, codes, flat_map}
use Rattle.std.specs.List.{AllByRecursion, AllZip}
use Rattle.std.proofs.lemmas.Grind.{flat_map-append}
use Rattle.std.proofs.lemmas.List.{append-nil, map-append}
use Rattle.sem_profile.specs.declared.profile.Method.{Method}
use Rattle.cert_types.specs.declared.certificate.Version.{Version}
use Rattle.cert_types.specs.declared.certificate.Version.TheVariants.{One}
use Rattle.cert_types.specs.declared.certificate.Node.{Node}
use Rattle.cert_types.specs.declared.certificate.Node.TheVariants.{Nowhere}
use Rattle.cert_types.specs.declared.certificate.MethodPlans.{MethodPlans}
use Rattle.cert_text.specs.declared.draft.Draft.{Draft}
use Rattle.cert_text.specs.declared.draft.Stage.{Stage}
use Rattle.cert_text.specs.declared.draft.Stage.TheVariants as stage
use Rattle.cert_text.specs.Drafts.{when, is_stage, nones, blank, at, with_nones, with_version, begin, finish, close_method_at, read_lines, start}
use Rattle.cert_text.specs.Faults.{CanFollow}
use Rattle.cert_types.specs.Kept.{Entries, are_trees}
use Rattle.cert_types.specs.Of.{IsNodeOf, IsMethodOf, IsEntryOf}
use Rattle.cert_text.specs.Text.{node_line, format_lines, method_lines, version_word}
use Rattle.cert_text.proofs.DraftsFollowing.{good_start, front_nones, begin_certificate, begin_read, begin_write, end_good, entry_kept}
use Rattle.cert_text.proofs.Telling.{zip_append, zip_long, all_push, all_append, rest_from, front, shown, IsEntryKept, Fresh, Between, InTree, InFormats, AtHead, InRead, InWrite, AtEnd, GoodAt, closed_format, closed_method, blanks_of, blanks_lines, nodes_alike}

-- ---- lines that are completed

module _ (methods : List Method) (ls : List (List ℕ)) where
  at_end : (extra : List (List ℕ)) (d : Draft) → AtEnd methods (ls ++ extra) d → CanFollow methods ls
  at_end extra d g = record {
    certificate = record { version = g.v; methods = g.es };
    more = extra;
    of = g.of;
    whole = λ k m there. (entry_kept g.v g.es g.kept k m there).tree.whole;
    lines_are = sym g.lines;
  }

  from_between : (extra : List (List ℕ)) (d : Draft) → Between methods (ls ++ extra) d → CanFollow methods ls
  from_between extra d g =
      let e = with_nones stage.End d (length methods) in
      let taken : finish methods d ≡ Some e = ap (λ s. when (is_stage s stage.Between) e) (ap (λ x. x.stage) g.is) in
      at_end (extra ++ codes "end" ∷ []) e (subst (λ l. AtEnd methods l e) (append_assoc ls extra (codes "end" ∷ [])) (end_good methods (ls ++ extra) d e g taken))

  in_formats : (extra : List (List ℕ)) (d : Draft) → InFormats methods (ls ++ extra) d → CanFollow methods ls
  in_formats extra d g = from_between extra (close_method_at stage.Formats d (slice_get methods (length d.entries))) (closed_method methods (ls ++ extra) d g)

  in_write : (extra : List (List ℕ)) (d : Draft) → InWrite methods (ls ++ extra) d → CanFollow methods ls
  in_write extra d g = in_formats extra _ (closed_format methods (ls ++ extra) d g)

  in_read : (extra : List (List ℕ)) (d : Draft) → InRead methods (ls ++ extra) d → CanFollow methods ls
  in_read extra d g = in_write (extra ++ codes "write" ∷ []) (at stage.Write d) (subst (λ l. InWrite methods l (at stage.Write d)) (append_assoc ls extra (codes "write" ∷ [])) (begin_write methods (ls ++ extra) d (at stage.Write d) g refl))

  at_head : (extra : List (List ℕ)) (d : Draft) → AtHead methods (ls ++ extra) d → CanFollow methods ls
  at_head extra d g = in_read (extra ++ codes "read" ∷ []) (at stage.Read d) (subst (λ l. InRead methods l (at stage.Read d)) (append_assoc ls extra (codes "read" ∷ [])) (begin_read methods (ls ++ extra) d (at stage.Read d) g refl))

  from_fresh : (d : Draft) → Fresh ls d → CanFollow methods ls
  from_fresh d g =
      let e = with_version One d in
      let taken : begin d (codes "1") ≡ Some e = ap (λ s. when (is_stage s stage.Version) e) (ap (λ x. x.stage) g.is) in
      from_between ((codes "rohcfn-certificate" ++ 32 ∷ codes "1") ∷ []) e (begin_certificate methods ls d e (codes "1") g taken)

-- ---- trees that are completed

abbrev nowheres : ℕ → List Node
nowheres zero = []
nowheres (suc n) = Nowhere ∷ nowheres n

nowheres_of : (m : Method) (n : ℕ) → AllByRecursion (IsNodeOf m) (nowheres n)
nowheres_of m zero = tt
nowheres_of m (suc n) = (tt, nowheres_of m n)

nowheres_whole : (n : ℕ) → are_trees n (nowheres n) ≡ true
nowheres_whole zero = refl
nowheres_whole (suc n) = nowheres_whole n

nones_of : (rest : List Method) → AllZip IsEntryOf rest (nones (length rest))
nones_of [] = tt
nones_of (m ∷ rest) = (tt, nones_of rest)

abbrev IsWhole : Option MethodPlans → Type 0
IsWhole None = Unit {0}
IsWhole (Some entry) = are_trees 1 entry.tree ≡ true

whole_nones : (n : ℕ) → AllByRecursion IsWhole (nones n)
whole_nones zero = tt
whole_nones (suc n) = (tt, whole_nones n)

whole_kept : (v : Version) (es : Entries) → AllByRecursion (IsEntryKept v) es → AllByRecursion IsWhole es
whole_kept v [] h = tt
whole_kept v (None ∷ es) h = (tt, whole_kept v es h.1)
whole_kept v (Some entry ∷ es) h = (h.0.tree.whole, whole_kept v es h.1)

whole_at : (es : Entries) → AllByRecursion IsWhole es → (k : ℕ) (entry : MethodPlans) → slice_get es k ≡ Some (Some entry) → are_trees 1 entry.tree ≡ true
whole_at [] h k entry there = absurd cc
whole_at (None ∷ es) h zero entry there = absurd cc
whole_at (Some x ∷ es) h zero entry there = let same : x ≡ entry = cc in ap (λ e. are_trees 1 e.tree) (sym same) ∙ h.0
whole_at (x ∷ es) h (suc k) entry there = whole_at es h.1 k entry there

in_tree : (methods : List Method) (ls : List (List ℕ)) (d : Draft) → InTree methods ls d → CanFollow methods ls
in_tree methods ls d g =
    let m = g.m in
    let told = g.opened.told in
    let added = nowheres (length g.owed) in
    let entry : MethodPlans = record { name = m.name; parameters = m.parameters; tree = g.tree ++ added; formats = map blank m.formats } in
    let of : IsMethodOf m entry = record { used = g.opened.used; name = refl; parameters = refl; tree = all_append (IsNodeOf m) g.tree added g.so.of (nowheres_of m (length g.owed)); formats = blanks_of m.formats } in
    let (rest, rest_is) = rest_from told.before told.rest m (ap (λ ms. slice_get ms (length told.before)) (sym told.is) ∙ ap (slice_get methods) (zip_long IsEntryOf told.before g.es told.alike) ∙ g.opened.there) in
    let all_are : methods ≡ (told.before ++ m ∷ []) ++ rest = told.is ∙ ap (λ r. told.before ++ r) rest_is ∙ sym (append_assoc told.before (m ∷ []) rest) in
    let es = g.es ++ Some entry ∷ [] in
    let whole : are_trees 1 (g.tree ++ added) ≡ true = g.so.grown added ∙ nowheres_whole (length g.owed) in
    let head = codes "method " ++ m.name in
    let line = node_line (shown m) in
    let nodes : map (node_line entry) (g.tree ++ added) ++ flat_map format_lines (map blank m.formats) ≡ map line g.tree ++ map line added =
    (λ i. nodes_alike m entry (g.tree ++ added) of i ++ blanks_lines m.formats i) ∙ append-nil (map line (g.tree ++ added)) ∙ map-append line g.tree added in
    let shown_is : front g.v (es ++ nones (length rest)) ≡ front g.v g.es ++ (head ∷ (map line g.tree ++ map line added)) =
    front_nones g.v es (length rest) ∙ ap (λ r. (codes "rohcfn-certificate " ++ version_word g.v) ∷ r) (flat_map-append method_lines g.es (Some entry ∷ []))
    ∙ ap (λ r. front g.v g.es ++ r) (append-nil (method_lines (Some entry)) ∙ ap (λ r. head ∷ r) nodes) in
    record {
      certificate = record { version = g.v; methods = es ++ nones (length rest) };
      more = map line added ++ codes "end" ∷ [];
      of = subst (λ ms. AllZip IsEntryOf ms (es ++ nones (length rest))) (sym all_are)
          (zip_append IsEntryOf (told.before ++ m ∷ []) rest es (nones (length rest)) (zip_append IsEntryOf told.before (m ∷ []) g.es (Some entry ∷ []) told.alike (of, tt)) (nones_of rest));
      whole = whole_at (es ++ nones (length rest)) (all_append IsWhole es (nones (length rest)) (all_push IsWhole g.es (Some entry) (whole_kept g.v g.es told.kept) whole) (whole_nones (length rest)));
      lines_are =
          ap (λ l. l ++ codes "end" ∷ []) (shown_is ∙ sym (append_assoc (front g.v g.es) (head ∷ map line g.tree) (map line added)) ∙ ap (λ l. l ++ map line added) (sym g.lines))
          ∙ append_assoc ls (map line added) (codes "end" ∷ []);
    }

-- ---- all of them

pub can_follow : (methods : List Method) (ls : List (List ℕ)) (d : Draft) → read_lines methods start ls ≡ Some d → CanFollow methods ls
can_follow methods ls d so_far = by d.stage (good_start methods ls d so_far)
  where
    bare : (P : List (List ℕ) → Type 0) → P ls → P (ls ++ [])
    bare P h = subst P (sym (append-nil ls)) h

    by : (s : Stage) → GoodAt s methods ls d → CanFollow methods ls
    by stage.Version g = from_fresh methods ls d g
    by stage.Between g = from_between methods ls [] d (bare (λ l. Between methods l d) g)
    by stage.Tree g = in_tree methods ls d g
    by stage.Formats g = in_formats methods ls [] d (bare (λ l. InFormats methods l d) g)
    by stage.Head g = at_head methods ls [] d (bare (λ l. AtHead methods l d) g)
    by stage.Read g = in_read methods ls [] d (bare (λ l. InRead methods l d) g)
    by stage.Write g = in_write methods ls [] d (bare (λ l. InWrite methods l d) g)
    by stage.End g = at_end methods ls [] d (bare (λ l. AtEnd methods l d) g)
