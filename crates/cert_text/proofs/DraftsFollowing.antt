-- What a draft says goes on from line to line.
use Rattle.std.proofs.Common.{◌≡◌, ◌∙◌, sym, ap, subst, refl, cond, ℕ, zero, suc, ◌+◌, ◌-◌, ◌<◌, ◌≤◌, ◌&&◌, true, ◌⊎◌, inl, inr, List, [], ◌∷◌, ◌++◌, map, length, take, drop, append_assoc, length-append, arith}
use Rattle.std.specs.Prelude.{Some, None, slice_get, option_and_then, codes, flat_map, nat_lt, nat_le}
use Rattle.std.specs.List.{AllByRecursion, AllZip, join_with_byte}
use Rattle.std.specs.Str.{bytes_eq}
use Rattle.std.proofs.lemmas.Bool.{false≢true, ltb-true, leb-true}
use Rattle.std.proofs.lemmas.Grind.{flat_map-append}
use Rattle.std.proofs.lemmas.List.{append-nil, map-append, take-append-drop}
use Rattle.std.proofs.lemmas.List.Splits.{join_with_byte-slice_split}
use Rattle.std.proofs.lemmas.Option.{slice_get_within}
use Rattle.std.proofs.lemmas.Slice.Eq.{bytes_eq-Decides}
use Rattle.sem_profile.specs.declared.profile.Method.{Method}
use Rattle.cert_types.specs.declared.certificate.Version.{Version}
use Rattle.cert_types.specs.declared.certificate.Version.TheVariants.{One, Two}
use Rattle.cert_types.specs.declared.certificate.Node.{Node}
use Rattle.cert_text.specs.declared.draft.Draft.{Draft}
use Rattle.cert_text.specs.declared.draft.Stage.{Stage}
use Rattle.cert_text.specs.declared.draft.Stage.TheVariants as stage
use Rattle.cert_text.specs.Drafts.{words, when, is_stage, blanks, nones, at, method_place, format_place, open_method, open_format, close_format, close_format_at, close_method, close_method_at, node_of, step_of, with_node, with_node_at, with_read, with_write, after_node, version_named, with_version, begin, begin_method, begin_format, finish, inner_at, one_word, two_words, next, read_lines, start}
use Rattle.cert_types.specs.Kept.{Entries, Certified, AreKept, IsNodeKept, IsNodeIn, IsStepKept, IsMethodKept, are_trees, owed_after, depths, depth_limit, node_limit, step_limit}
use Rattle.cert_types.specs.Of.{field_names, IsNodeOf, IsStepOf, IsEntryOf, IsFormatOf, IsOf}
use Rattle.cert_text.specs.Text.{name_of, version_word, step_line, node_line, format_lines, method_lines, certificate_lines}
use Rattle.cert_text.proofs.DraftsNumerals.{both_true, when_true}
use Rattle.cert_text.proofs.DraftsAccepting.{st, counted, nones_long}
use Rattle.cert_text.proofs.Telling.{zip_long, zip_append, all_push, all_append, front, shown, step_lines, tree_lines, formats_lines, format_head, IsEntryKept, IsFormatKept, Told, TreeSo, Fresh, Between, InTree, InFormats, AtHead, InRead, InWrite, AtEnd, GoodAt, Good, closed_format, closed_method, blanks_of, blanks_kept, blanks_lines}
use Rattle.cert_text.proofs.DraftsMeaning.{then_some, if_some, and_some, some_is, place_means, node_said, step_said}

-- ---- the stage of a draft

only_fresh : (methods : List Method) (ls : List (List ℕ)) (d : Draft) (s : Stage) → is_stage s stage.Version ≡ true → GoodAt s methods ls d → Fresh ls d
only_fresh methods ls d stage.Version h g = g
only_fresh methods ls d stage.Between h g = absurd (false≢true h)
only_fresh methods ls d stage.Tree h g = absurd (false≢true h)
only_fresh methods ls d stage.Formats h g = absurd (false≢true h)
only_fresh methods ls d stage.Head h g = absurd (false≢true h)
only_fresh methods ls d stage.Read h g = absurd (false≢true h)
only_fresh methods ls d stage.Write h g = absurd (false≢true h)
only_fresh methods ls d stage.End h g = absurd (false≢true h)

only_head : (methods : List Method) (ls : List (List ℕ)) (d : Draft) (s : Stage) → is_stage s stage.Head ≡ true → GoodAt s methods ls d → AtHead methods ls d
only_head methods ls d stage.Head h g = g
only_head methods ls d stage.Version h g = absurd (false≢true h)
only_head methods ls d stage.Between h g = absurd (false≢true h)
only_head methods ls d stage.Tree h g = absurd (false≢true h)
only_head methods ls d stage.Formats h g = absurd (false≢true h)
only_head methods ls d stage.Read h g = absurd (false≢true h)
only_head methods ls d stage.Write h g = absurd (false≢true h)
only_head methods ls d stage.End h g = absurd (false≢true h)

only_read : (methods : List Method) (ls : List (List ℕ)) (d : Draft) (s : Stage) → is_stage s stage.Read ≡ true → GoodAt s methods ls d → InRead methods ls d
only_read methods ls d stage.Read h g = g
only_read methods ls d stage.Version h g = absurd (false≢true h)
only_read methods ls d stage.Between h g = absurd (false≢true h)
only_read methods ls d stage.Tree h g = absurd (false≢true h)
only_read methods ls d stage.Formats h g = absurd (false≢true h)
only_read methods ls d stage.Head h g = absurd (false≢true h)
only_read methods ls d stage.Write h g = absurd (false≢true h)
only_read methods ls d stage.End h g = absurd (false≢true h)

only_formats : (methods : List Method) (ls : List (List ℕ)) (d : Draft) (s : Stage) → is_stage s stage.Formats ≡ true → GoodAt s methods ls d → InFormats methods ls d
only_formats methods ls d stage.Formats h g = g
only_formats methods ls d stage.Version h g = absurd (false≢true h)
only_formats methods ls d stage.Between h g = absurd (false≢true h)
only_formats methods ls d stage.Tree h g = absurd (false≢true h)
only_formats methods ls d stage.Head h g = absurd (false≢true h)
only_formats methods ls d stage.Read h g = absurd (false≢true h)
only_formats methods ls d stage.Write h g = absurd (false≢true h)
only_formats methods ls d stage.End h g = absurd (false≢true h)

only_between : (methods : List Method) (ls : List (List ℕ)) (d : Draft) (s : Stage) → is_stage s stage.Between ≡ true → GoodAt s methods ls d → Between methods ls d
only_between methods ls d stage.Between h g = g
only_between methods ls d stage.Version h g = absurd (false≢true h)
only_between methods ls d stage.Tree h g = absurd (false≢true h)
only_between methods ls d stage.Formats h g = absurd (false≢true h)
only_between methods ls d stage.Head h g = absurd (false≢true h)
only_between methods ls d stage.Read h g = absurd (false≢true h)
only_between methods ls d stage.Write h g = absurd (false≢true h)
only_between methods ls d stage.End h g = absurd (false≢true h)

pub only_end : (methods : List Method) (ls : List (List ℕ)) (d : Draft) (s : Stage) → is_stage s stage.End ≡ true → GoodAt s methods ls d → AtEnd methods ls d
only_end methods ls d stage.End h g = g
only_end methods ls d stage.Version h g = absurd (false≢true h)
only_end methods ls d stage.Between h g = absurd (false≢true h)
only_end methods ls d stage.Tree h g = absurd (false≢true h)
only_end methods ls d stage.Formats h g = absurd (false≢true h)
only_end methods ls d stage.Head h g = absurd (false≢true h)
only_end methods ls d stage.Read h g = absurd (false≢true h)
only_end methods ls d stage.Write h g = absurd (false≢true h)

by_stage : (methods : List Method) (ls : List (List ℕ)) (d : Draft) (s : Stage) → d.stage ≡ s → GoodAt s methods ls d → Good methods ls d
by_stage methods ls d s e g = subst (λ t. GoodAt t methods ls d) (sym e) g

-- ---- closing

close_good_at : (methods : List Method) (ls : List (List ℕ)) (d : Draft) (s : Stage) → d.stage ≡ s → GoodAt s methods ls d → Good methods ls (close_format methods d)
close_good_at methods ls d stage.Write e g =
    let shut = closed_format methods ls d g in
    let c = close_format methods d in
    let is = ap (λ s. close_format_at s d (open_format methods d)) e in
    subst (Good methods ls) (sym is) (by_stage methods ls _ stage.Formats (ap (λ x. x.stage) shut.is) shut)
close_good_at methods ls d stage.Version e g = subst (Good methods ls) (sym (ap (λ s. close_format_at s d (open_format methods d)) e)) (by_stage methods ls d stage.Version e g)
close_good_at methods ls d stage.Between e g = subst (Good methods ls) (sym (ap (λ s. close_format_at s d (open_format methods d)) e)) (by_stage methods ls d stage.Between e g)
close_good_at methods ls d stage.Tree e g = subst (Good methods ls) (sym (ap (λ s. close_format_at s d (open_format methods d)) e)) (by_stage methods ls d stage.Tree e g)
close_good_at methods ls d stage.Formats e g = subst (Good methods ls) (sym (ap (λ s. close_format_at s d (open_format methods d)) e)) (by_stage methods ls d stage.Formats e g)
close_good_at methods ls d stage.Head e g = subst (Good methods ls) (sym (ap (λ s. close_format_at s d (open_format methods d)) e)) (by_stage methods ls d stage.Head e g)
close_good_at methods ls d stage.Read e g = subst (Good methods ls) (sym (ap (λ s. close_format_at s d (open_format methods d)) e)) (by_stage methods ls d stage.Read e g)
close_good_at methods ls d stage.End e g = subst (Good methods ls) (sym (ap (λ s. close_format_at s d (open_format methods d)) e)) (by_stage methods ls d stage.End e g)

close_good : (methods : List Method) (ls : List (List ℕ)) (d : Draft) → Good methods ls d → Good methods ls (close_format methods d)
close_good methods ls d g = close_good_at methods ls d d.stage refl g

shut_good_at : (methods : List Method) (ls : List (List ℕ)) (d : Draft) (s : Stage) → d.stage ≡ s → GoodAt s methods ls d → Good methods ls (close_method methods d)
shut_good_at methods ls d stage.Formats e g =
    let shut = closed_method methods ls d g in
    subst (Good methods ls) (sym (ap (λ s. close_method_at s d (open_method methods d)) e)) (by_stage methods ls _ stage.Between (ap (λ x. x.stage) shut.is) shut)
shut_good_at methods ls d stage.Version e g = subst (Good methods ls) (sym (ap (λ s. close_method_at s d (open_method methods d)) e)) (by_stage methods ls d stage.Version e g)
shut_good_at methods ls d stage.Between e g = subst (Good methods ls) (sym (ap (λ s. close_method_at s d (open_method methods d)) e)) (by_stage methods ls d stage.Between e g)
shut_good_at methods ls d stage.Tree e g = subst (Good methods ls) (sym (ap (λ s. close_method_at s d (open_method methods d)) e)) (by_stage methods ls d stage.Tree e g)
shut_good_at methods ls d stage.Head e g = subst (Good methods ls) (sym (ap (λ s. close_method_at s d (open_method methods d)) e)) (by_stage methods ls d stage.Head e g)
shut_good_at methods ls d stage.Read e g = subst (Good methods ls) (sym (ap (λ s. close_method_at s d (open_method methods d)) e)) (by_stage methods ls d stage.Read e g)
shut_good_at methods ls d stage.Write e g = subst (Good methods ls) (sym (ap (λ s. close_method_at s d (open_method methods d)) e)) (by_stage methods ls d stage.Write e g)
shut_good_at methods ls d stage.End e g = subst (Good methods ls) (sym (ap (λ s. close_method_at s d (open_method methods d)) e)) (by_stage methods ls d stage.End e g)

shut_good : (methods : List Method) (ls : List (List ℕ)) (d : Draft) → Good methods ls d → Good methods ls (close_method methods (close_format methods d))
shut_good methods ls d g = shut_good_at methods ls (close_format methods d) (close_format methods d).stage refl (close_good methods ls d g)

-- ---- nothing said of methods

nones_lines : (j : ℕ) → flat_map method_lines (nones j) ≡ []
nones_lines zero = refl
nones_lines (suc j) = nones_lines j

pub front_nones : (v : Version) (es : Entries) (j : ℕ) → front v (es ++ nones j) ≡ front v es
front_nones v es j = ap (λ r. (codes "rohcfn-certificate " ++ version_word v) ∷ r) (flat_map-append method_lines es (nones j) ∙ ap (λ r. flat_map method_lines es ++ r) (nones_lines j) ∙ append-nil (flat_map method_lines es))

none_told : (v : Version) (methods : List Method) (es : Entries) (before rest : List Method) → methods ≡ before ++ rest → AllZip IsEntryOf before es → AllByRecursion (IsEntryKept v) es → length es < length methods → Told v methods (es ++ None ∷ [])
none_told v methods es before [] is alike kept h = absurd (omega (arith, h, zip_long IsEntryOf before es alike, ap length (is ∙ append-nil before)))
none_told v methods es before (m ∷ rest) is alike kept h = record {
  before = before ++ m ∷ [];
  rest = rest;
  is = is ∙ sym (append_assoc before (m ∷ []) rest);
  alike = zip_append IsEntryOf before (m ∷ []) es (None ∷ []) alike (tt, tt);
  kept = all_push (IsEntryKept v) es None kept tt;
}

nones_told : (v : Version) (methods : List Method) (j : ℕ) (es : Entries) → Told v methods es → length es + j ≤ length methods → Told v methods (es ++ nones j)
nones_told v methods zero es t h = subst (Told v methods) (sym (append-nil es)) t
nones_told v methods (suc j) es t h =
    subst (Told v methods) (append_assoc es (None ∷ []) (nones j))
    (nones_told v methods j (es ++ None ∷ []) (none_told v methods es t.before t.rest t.is t.alike t.kept (omega (arith, h))) (omega (arith, h, length-append es (None ∷ []))))

told_short : (v : Version) (methods : List Method) (es : Entries) → Told v methods es → length es ≤ length methods
told_short v methods es t = omega (arith, zip_long IsEntryOf t.before es t.alike, ap length t.is ∙ length-append t.before t.rest)

-- all methods are told
told_whole : (methods before rest : List Method) (es : Entries) → methods ≡ before ++ rest → AllZip IsEntryOf before es → length es ≡ length methods → IsOf methods es
told_whole methods before [] es is alike h = subst (λ ms. AllZip IsEntryOf ms es) (sym (is ∙ append-nil before)) alike
told_whole methods before (m ∷ rest) es is alike h = absurd (omega (arith, h, zip_long IsEntryOf before es alike, ap length is ∙ length-append before (m ∷ rest)))

-- ---- headings

version_said : (name : List ℕ) (v : Version) → version_named name ≡ Some v → name ≡ version_word v
version_said name v h = one (if_some (bytes_eq name (codes "1")) (Some One) _ v h)
  where
    one : ((bytes_eq name (codes "1") ≡ true) × (Some One ≡ Some v)) ⊎ (cond (bytes_eq name (codes "2")) (Some Two) None ≡ Some v) → name ≡ version_word v
    one (inl (is, e)) = (bytes_eq-Decides name (codes "1")).0 is ∙ ap version_word (some_is One v e)
    one (inr more) = let (is, e) = then_some (bytes_eq name (codes "2")) (Some Two) v more in (bytes_eq-Decides name (codes "2")).0 is ∙ ap version_word (some_is Two v e)

pub begin_certificate : (methods : List Method) (ls : List (List ℕ)) (d e : Draft) (name : List ℕ) → Fresh ls d → begin d name ≡ Some e → Good methods (ls ++ (codes "rohcfn-certificate" ++ 32 ∷ name) ∷ []) e
begin_certificate methods ls d e name g h =
    let (v, named, made) = and_some _ (version_named name) e h in
    let w = when_true (is_stage d.stage stage.Version) (with_version v d) e made in
    let is : e ≡ st v stage.Between [] [] [] [] [] [] = sym w.1 ∙ ap (with_version v) g.is in
    by_stage methods _ e stage.Between (ap (λ x. x.stage) is) (record {
      v = v;
      es = [];
      is = is;
      told = record { before = []; rest = methods; is = refl; alike = tt; kept = tt };
      lines = λ i. g.lines i ++ (codes "rohcfn-certificate " ++ version_said name v named i) ∷ [];
    })

pub begin_read : (methods : List Method) (ls : List (List ℕ)) (d e : Draft) → AtHead methods ls d → at stage.Read d ≡ e → Good methods (ls ++ codes "read" ∷ []) e
begin_read methods ls d e g h =
    let is : e ≡ st g.v stage.Read g.es g.tree [] g.fs [] [] = sym h ∙ ap (at stage.Read) g.is in
    by_stage methods _ e stage.Read (ap (λ x. x.stage) is) (record {
      v = g.v;
      es = g.es;
      m = g.m;
      tree = g.tree;
      fs = g.fs;
      f = g.f;
      rs = [];
      is = is;
      within = g.within;
      reads = record { of = tt; kept = tt; few = omega arith };
      lines = ap (λ l. l ++ codes "read" ∷ []) g.lines ∙ append_assoc (formats_lines g.v g.es g.m g.tree g.fs) (format_head g.f ∷ []) (codes "read" ∷ []);
    })

pub begin_write : (methods : List Method) (ls : List (List ℕ)) (d e : Draft) → InRead methods ls d → at stage.Write d ≡ e → Good methods (ls ++ codes "write" ∷ []) e
begin_write methods ls d e g h =
    let is : e ≡ st g.v stage.Write g.es g.tree [] g.fs g.rs [] = sym h ∙ ap (at stage.Write) g.is in
    by_stage methods _ e stage.Write (ap (λ x. x.stage) is) (record {
      v = g.v;
      es = g.es;
      m = g.m;
      tree = g.tree;
      fs = g.fs;
      f = g.f;
      rs = g.rs;
      ws = [];
      is = is;
      within = g.within;
      reads = g.reads;
      writes = record { of = tt; kept = tt; few = omega arith };
      lines = ap (λ l. l ++ codes "write" ∷ []) g.lines ∙ append_assoc (formats_lines g.v g.es g.m g.tree g.fs) (format_head g.f ∷ codes "read" ∷ step_lines g.f g.rs) (codes "write" ∷ []);
    })

pub end_good : (methods : List Method) (ls : List (List ℕ)) (c e : Draft) → Between methods ls c → finish methods c ≡ Some e → Good methods (ls ++ codes "end" ∷ []) e
end_good methods ls c e g h =
    let j = length methods - length g.es in
    let es = g.es ++ nones j in
    let there : finish methods (st g.v stage.Between g.es [] [] [] [] []) ≡ Some e = ap (finish methods) (sym g.is) ∙ h in
    let is : e ≡ st g.v stage.End es [] [] [] [] [] = sym (some_is _ e there) in
    let short = told_short g.v methods g.es g.told in
    let told = nones_told g.v methods j g.es g.told (omega (arith, short)) in
    let whole : length es ≡ length methods = length-append g.es (nones j) ∙ ap (λ k. length g.es + k) (nones_long j) ∙ omega (arith, short) in
    by_stage methods _ e stage.End (ap (λ x. x.stage) is) (record {
      v = g.v;
      es = es;
      is = is;
      of = told_whole methods told.before told.rest es told.is told.alike whole;
      kept = told.kept;
      lines = ap (λ l. l ++ codes "end" ∷ []) (g.lines ∙ sym (front_nones g.v g.es j));
    })

drop_zero : {A : Type 0} (xs : List A) → drop 0 xs ≡ xs
drop_zero [] = refl
drop_zero (x ∷ xs) = refl

drop_one_more : {A : Type 0} (n : ℕ) (xs : List A) (y : A) (ys : List A) → drop n xs ≡ y ∷ ys → drop (suc n) xs ≡ ys
drop_one_more zero [] y ys h = absurd cc
drop_one_more zero (x ∷ xs) y ys h = let same : xs ≡ ys = cc in drop_zero xs ∙ same
drop_one_more (suc n) [] y ys h = absurd cc
drop_one_more (suc n) (x ∷ xs) y ys h = drop_one_more n xs y ys h

method_good : (methods : List Method) (ls : List (List ℕ)) (c e : Draft) (name : List ℕ) → Between methods ls c → begin_method methods c name ≡ Some e → Good methods (ls ++ (codes "method " ++ name) ∷ []) e
method_good methods ls c e name g h =
    let there : begin_method methods (st g.v stage.Between g.es [] [] [] [] []) name ≡ Some e = ap (λ x. begin_method methods x name) (sym g.is) ∙ h in
    let (k, placed, more) = and_some _ (method_place name methods) e there in
    let (m, at_k, made) = and_some _ (slice_get methods k) e more in
    let w = when_true _ _ e made in
    let b = both_true _ _ w.0 in
    let j = k - length g.es in
    let es = g.es ++ nones j in
    let up : length g.es ≤ k = leb-true (length g.es) k b.0 in
    let inside : k < length methods = slice_get_within methods k m at_k in
    let long : length es ≡ k = length-append g.es (nones j) ∙ ap (λ n. length g.es + n) (nones_long j) ∙ omega (arith, up) in
    let (n, at_n, named) = place_means (λ x. x.name) name methods k placed in
    let same : n ≡ m = some_is n m (sym at_n ∙ at_k) in
    let is : e ≡ st g.v stage.Tree es [] (1 ∷ []) [] [] [] = sym w.1 in
    by_stage methods _ e stage.Tree (ap (λ x. x.stage) is) (record {
      v = g.v;
      es = es;
      m = m;
      tree = [];
      owed = 1 ∷ [];
      is = is;
      some = omega arith;
      opened = record { told = nones_told g.v methods j g.es g.told (omega (arith, up, inside)); there = ap (slice_get methods) long ∙ at_k; used = ltb-true 0 (length m.formats) b.1 };
      so = record { of = tt; kept = tt; versed = tt; few = omega arith; grown = λ xs. refl; deep = λ xs h. h; placed = λ xs. drop_zero (depths (1 ∷ []) xs) };
      lines = (λ i. (g.lines ∙ sym (front_nones g.v g.es j)) i ++ (codes "method " ++ (named ∙ ap (λ x. x.name) same) i) ∷ []);
    })

length_take : {A : Type 0} (n : ℕ) (xs : List A) → n ≤ length xs → length (take n xs) ≡ n
length_take zero [] h = refl
length_take zero (x ∷ xs) h = refl
length_take (suc n) [] h = absurd (omega arith)
length_take (suc n) (x ∷ xs) h = ap suc (length_take n xs (omega arith))

take_split : {A : Type 0} (before rest : List A) (n : ℕ) → length before ≤ n → take n (before ++ rest) ≡ before ++ drop (length before) (take n (before ++ rest))
take_split [] rest n h = sym (drop_zero (take n rest))
take_split (x ∷ before) rest zero h = absurd (omega arith)
take_split (x ∷ before) rest (suc n) h = ap (λ r. x ∷ r) (take_split before rest n (omega arith))

format_good : (methods : List Method) (ls : List (List ℕ)) (c e : Draft) (name : List ℕ) → InFormats methods ls c → begin_format methods c name ≡ Some e → Good methods (ls ++ (codes "format " ++ name) ∷ []) e
format_good methods ls c e name g h =
    let m = g.m in
    let here = st g.v stage.Formats g.es g.tree [] g.fs [] [] in
    let there : option_and_then (λ n. when (is_stage here.stage stage.Formats && nat_le (length g.fs) n) (st g.v stage.Head g.es g.tree [] (g.fs ++ blanks m.formats (length g.fs) n) [] [])) (format_place name m) ≡ Some e =
    sym (ap (λ x. begin_format methods x name) g.is ∙ ap (option_and_then _) g.opened.there) ∙ h in
    let (n, placed, made) = and_some _ (format_place name m) e there in
    let w = when_true _ _ e made in
    let up : length g.fs ≤ n = leb-true (length g.fs) n w.0 in
    let (f, at_n, named) = place_means (λ x. name_of x.name) name m.formats n placed in
    let inside : n < length m.formats = slice_get_within m.formats n f at_n in
    let so = g.formats in
    let long : length so.before ≡ length g.fs = zip_long IsFormatOf so.before g.fs so.alike in
    let bl = blanks m.formats (length g.fs) n in
    let split : take n m.formats ≡ so.before ++ drop (length g.fs) (take n m.formats) =
    ap (take n) so.is ∙ take_split so.before so.rest n (omega (arith, long, up)) ∙ (λ i. so.before ++ drop (long i) (take n (sym so.is i))) in
    let alike : AllZip IsFormatOf (take n m.formats) (g.fs ++ bl) =
    subst (λ fs. AllZip IsFormatOf fs (g.fs ++ bl)) (sym split) (zip_append IsFormatOf so.before (drop (length g.fs) (take n m.formats)) g.fs bl so.alike (blanks_of (drop (length g.fs) (take n m.formats)))) in
    let is : e ≡ st g.v stage.Head g.es g.tree [] (g.fs ++ bl) [] [] = sym w.1 in
    let shown_is : flat_map format_lines (g.fs ++ bl) ≡ flat_map format_lines g.fs =
    flat_map-append format_lines g.fs bl ∙ ap (λ r. flat_map format_lines g.fs ++ r) (blanks_lines (drop (length g.fs) (take n m.formats))) ∙ append-nil (flat_map format_lines g.fs) in
    by_stage methods _ e stage.Head (ap (λ x. x.stage) is) (record {
      v = g.v;
      es = g.es;
      m = m;
      tree = g.tree;
      fs = g.fs ++ bl;
      f = f;
      is = is;
      within = record {
        opened = g.opened;
        so = g.so;
        formats = record { before = take n m.formats; rest = drop n m.formats; is = sym (take-append-drop n m.formats); alike = alike; kept = all_append IsFormatKept g.fs bl so.kept (blanks_kept (drop (length g.fs) (take n m.formats))) };
        at_is = ap (slice_get m.formats) (sym (zip_long IsFormatOf (take n m.formats) (g.fs ++ bl) alike) ∙ length_take n m.formats (omega (arith, inside))) ∙ at_n;
      };
      lines = λ i. (g.lines ∙ ap (λ r. tree_lines g.v g.es m g.tree ++ r) (sym shown_is)) i ++ (codes "format " ++ named i) ∷ [];
    })

-- ---- nodes and steps

node_good : (methods : List Method) (ls : List (List ℕ)) (d e : Draft) (word : List ℕ) (more : List (List ℕ)) → InTree methods ls d → inner_at stage.Tree methods d word more ≡ Some e → Good methods (ls ++ join_with_byte 32 (word ∷ more) ∷ []) e
node_good methods ls d e word more g h =
    let here = st g.v stage.Tree g.es g.tree g.owed [] [] [] in
    let there : option_and_then (with_node here) (node_of g.v g.m word more) ≡ Some e = sym (ap (λ x. inner_at stage.Tree methods x word more) g.is ∙ ap (option_and_then _) g.opened.there) ∙ h in
    let (node, is, made) = and_some (with_node here) (node_of g.v g.m word more) e there in
    let said = node_said g.v g.m word more node is in
    by_owed node (said.of, said.kept, said.versed) said.line g.owed refl made
  where
    m : Method
    m = g.m

    tree_more : (node : Node) → join_with_byte 32 (word ∷ more) ≡ node_line (shown m) node → ls ++ join_with_byte 32 (word ∷ more) ∷ [] ≡ tree_lines g.v g.es m (g.tree ++ node ∷ [])
    tree_more node line =
        (λ i. g.lines i ++ line i ∷ []) ∙ append_assoc (front g.v g.es) ((codes "method " ++ m.name) ∷ map (node_line (shown m)) g.tree) (node_line (shown m) node ∷ [])
        ∙ ap (λ r. front g.v g.es ++ ((codes "method " ++ m.name) ∷ r)) (sym (map-append (node_line (shown m)) g.tree (node ∷ [])))

    after : (node : Node) (owed : List ℕ) → TreeSo g.v m (g.tree ++ node ∷ []) owed → ls ++ join_with_byte 32 (word ∷ more) ∷ [] ≡ tree_lines g.v g.es m (g.tree ++ node ∷ []) → st g.v (after_node owed) g.es (g.tree ++ node ∷ []) owed [] [] [] ≡ e
        → Good methods (ls ++ join_with_byte 32 (word ∷ more) ∷ []) e
    after node [] so lines is = by_stage methods _ e stage.Formats (ap (λ x. x.stage) (sym is)) (record {
      v = g.v;
      es = g.es;
      m = m;
      tree = g.tree ++ node ∷ [];
      fs = [];
      is = sym is;
      opened = g.opened;
      so = so;
      formats = record { before = []; rest = m.formats; is = refl; alike = tt; kept = tt };
      lines = lines ∙ sym (append-nil (tree_lines g.v g.es m (g.tree ++ node ∷ [])));
    })
    after node (d2 ∷ owed) so lines is = by_stage methods _ e stage.Tree (ap (λ x. x.stage) (sym is)) (record {
      v = g.v;
      es = g.es;
      m = m;
      tree = g.tree ++ node ∷ [];
      owed = d2 ∷ owed;
      is = sym is;
      some = omega arith;
      opened = g.opened;
      so = so;
      lines = lines;
    })

    by_owed : (node : Node) → IsNodeOf m node × IsNodeKept node × IsNodeIn g.v node → join_with_byte 32 (word ∷ more) ≡ node_line (shown m) node → (owed : List ℕ) → g.owed ≡ owed → with_node_at (st g.v stage.Tree g.es g.tree g.owed [] [] []) node owed ≡ Some e → Good methods (ls ++ join_with_byte 32 (word ∷ more) ∷ []) e
    by_owed node fine line [] o made = absurd cc
    by_owed node fine line (depth ∷ owed) o made =
        let w = when_true (nat_lt (length g.tree) node_limit && nat_le depth depth_limit) (st g.v (after_node (owed_after node depth owed)) g.es (g.tree ++ node ∷ []) (owed_after node depth owed) [] [] []) e made in
        let b = both_true (nat_lt (length g.tree) node_limit) (nat_le depth depth_limit) w.0 in
        let so = subst (TreeSo g.v m g.tree) o g.so in
        let long : length (g.tree ++ node ∷ []) ≡ suc (length g.tree) = omega (arith, length-append g.tree (node ∷ [])) in
        after node (owed_after node depth owed) (record {
          of = all_push (IsNodeOf m) g.tree node so.of fine.0;
          kept = all_push IsNodeKept g.tree node so.kept fine.1;
          versed = all_push (IsNodeIn g.v) g.tree node so.versed fine.2;
          few = omega (arith, ltb-true (length g.tree) node_limit b.0, length-append g.tree (node ∷ []));
          grown = λ xs. ap (are_trees 1) (append_assoc g.tree (node ∷ []) xs) ∙ so.grown (node ∷ xs) ∙ ap (λ k. are_trees k xs) (sym (counted node depth owed));
          deep = λ xs all. subst (λ t. AllByRecursion (λ d. d ≤ depth_limit) (depths (1 ∷ []) t)) (sym (append_assoc g.tree (node ∷ []) xs)) (so.deep (node ∷ xs) (leb-true depth depth_limit b.1, all));
          placed = λ xs.
              (λ i. drop (long i) (depths (1 ∷ []) (append_assoc g.tree (node ∷ []) xs i)))
              ∙ drop_one_more (length g.tree) (depths (1 ∷ []) (g.tree ++ node ∷ xs)) depth (depths (owed_after node depth owed) xs) (so.placed (node ∷ xs));
        }) (tree_more node line) w.1

read_good : (methods : List Method) (ls : List (List ℕ)) (d e : Draft) (word : List ℕ) (more : List (List ℕ)) → InRead methods ls d → inner_at stage.Read methods d word more ≡ Some e → Good methods (ls ++ join_with_byte 32 (word ∷ more) ∷ []) e
read_good methods ls d e word more g h =
    let here = st g.v stage.Read g.es g.tree [] g.fs g.rs [] in
    let F = formats_lines g.v g.es g.m g.tree g.fs in
    let there : option_and_then (with_read here) (step_of g.f word more) ≡ Some e =
    sym (ap (λ x. inner_at stage.Read methods x word more) g.is ∙ ap (λ o. option_and_then (λ f. option_and_then (with_read here) (step_of f word more)) (option_and_then (λ m. slice_get m.formats (length g.fs)) o)) g.within.opened.there
    ∙ ap (option_and_then _) g.within.at_is) ∙ h in
    let (step, is_step, made) = and_some (with_read here) (step_of g.f word more) e there in
    let said = step_said g.f word more step is_step in
    let w = when_true (nat_lt (length g.rs) step_limit) (st g.v stage.Read g.es g.tree [] g.fs (g.rs ++ step ∷ []) []) e made in
    let is : e ≡ st g.v stage.Read g.es g.tree [] g.fs (g.rs ++ step ∷ []) [] = sym w.1 in
    by_stage methods _ e stage.Read (ap (λ x. x.stage) is) (record {
      v = g.v;
      es = g.es;
      m = g.m;
      tree = g.tree;
      fs = g.fs;
      f = g.f;
      rs = g.rs ++ step ∷ [];
      is = is;
      within = g.within;
      reads = record { of = all_push (IsStepOf g.f) g.rs step g.reads.of said.of; kept = all_push IsStepKept g.rs step g.reads.kept said.kept; few = omega (arith, ltb-true (length g.rs) step_limit w.0, length-append g.rs (step ∷ [])) };
      lines =
          (λ i. g.lines i ++ said.line i ∷ []) ∙ append_assoc F (format_head g.f ∷ codes "read" ∷ step_lines g.f g.rs) (step_line (field_names g.f) step ∷ [])
          ∙ ap (λ r. F ++ (format_head g.f ∷ codes "read" ∷ r)) (sym (map-append (step_line (field_names g.f)) g.rs (step ∷ [])));
    })

write_good : (methods : List Method) (ls : List (List ℕ)) (d e : Draft) (word : List ℕ) (more : List (List ℕ)) → InWrite methods ls d → inner_at stage.Write methods d word more ≡ Some e → Good methods (ls ++ join_with_byte 32 (word ∷ more) ∷ []) e
write_good methods ls d e word more g h =
    let here = st g.v stage.Write g.es g.tree [] g.fs g.rs g.ws in
    let F = formats_lines g.v g.es g.m g.tree g.fs in
    let R = step_lines g.f g.rs in
    let there : option_and_then (with_write here) (step_of g.f word more) ≡ Some e =
    sym (ap (λ x. inner_at stage.Write methods x word more) g.is ∙ ap (λ o. option_and_then (λ f. option_and_then (with_write here) (step_of f word more)) (option_and_then (λ m. slice_get m.formats (length g.fs)) o)) g.within.opened.there
    ∙ ap (option_and_then _) g.within.at_is) ∙ h in
    let (step, is_step, made) = and_some (with_write here) (step_of g.f word more) e there in
    let said = step_said g.f word more step is_step in
    let w = when_true (nat_lt (length g.ws) step_limit) (st g.v stage.Write g.es g.tree [] g.fs g.rs (g.ws ++ step ∷ [])) e made in
    let is : e ≡ st g.v stage.Write g.es g.tree [] g.fs g.rs (g.ws ++ step ∷ []) = sym w.1 in
    by_stage methods _ e stage.Write (ap (λ x. x.stage) is) (record {
      v = g.v;
      es = g.es;
      m = g.m;
      tree = g.tree;
      fs = g.fs;
      f = g.f;
      rs = g.rs;
      ws = g.ws ++ step ∷ [];
      is = is;
      within = g.within;
      reads = g.reads;
      writes = record { of = all_push (IsStepOf g.f) g.ws step g.writes.of said.of; kept = all_push IsStepKept g.ws step g.writes.kept said.kept; few = omega (arith, ltb-true (length g.ws) step_limit w.0, length-append g.ws (step ∷ [])) };
      lines =
          (λ i. g.lines i ++ said.line i ∷ []) ∙ append_assoc F (format_head g.f ∷ codes "read" ∷ (R ++ (codes "write" ∷ step_lines g.f g.ws))) (step_line (field_names g.f) step ∷ [])
          ∙ ap (λ r. F ++ (format_head g.f ∷ codes "read" ∷ r)) (append_assoc R (codes "write" ∷ step_lines g.f g.ws) (step_line (field_names g.f) step ∷ []))
          ∙ ap (λ r. F ++ (format_head g.f ∷ codes "read" ∷ (R ++ (codes "write" ∷ r)))) (sym (map-append (step_line (field_names g.f)) g.ws (step ∷ [])));
    })

inner_good : (methods : List Method) (ls : List (List ℕ)) (d e : Draft) (s : Stage) (word : List ℕ) (more : List (List ℕ)) → GoodAt s methods ls d → inner_at s methods d word more ≡ Some e → Good methods (ls ++ join_with_byte 32 (word ∷ more) ∷ []) e
inner_good methods ls d e stage.Tree word more g h = node_good methods ls d e word more g h
inner_good methods ls d e stage.Read word more g h = read_good methods ls d e word more g h
inner_good methods ls d e stage.Write word more g h = write_good methods ls d e word more g h
inner_good methods ls d e stage.Version word more g h = absurd cc
inner_good methods ls d e stage.Between word more g h = absurd cc
inner_good methods ls d e stage.Formats word more g h = absurd cc
inner_good methods ls d e stage.Head word more g h = absurd cc
inner_good methods ls d e stage.End word more g h = absurd cc

-- ---- lines

here_word : (methods : List Method) (ls : List (List ℕ)) (e : Draft) (word spelt : List ℕ) → bytes_eq word spelt ≡ true → Good methods (ls ++ spelt ∷ []) e → Good methods (ls ++ word ∷ []) e
here_word methods ls e word spelt is g = subst (λ w. Good methods (ls ++ w ∷ []) e) (sym ((bytes_eq-Decides word spelt).0 is)) g

one_good : (methods : List Method) (ls : List (List ℕ)) (d e : Draft) (word : List ℕ) → Good methods ls d → one_word methods d word ≡ Some e → Good methods (ls ++ word ∷ []) e
one_good methods ls d e word g h = one (if_some (bytes_eq word (codes "read")) (when (is_stage d.stage stage.Head) (at stage.Read d)) _ e h)
  where
    three : ((bytes_eq word (codes "end") ≡ true) × (finish methods (close_method methods (close_format methods d)) ≡ Some e)) ⊎ (inner_at d.stage methods d word [] ≡ Some e) → Good methods (ls ++ word ∷ []) e
    three (inl (is, there)) =
        let c = close_method methods (close_format methods d) in
        let w = when_true (is_stage c.stage stage.Between) _ e there in
        here_word methods ls e word (codes "end") is (end_good methods ls c e (only_between methods ls c c.stage w.0 (shut_good methods ls d g)) there)
    three (inr there) = inner_good methods ls d e d.stage word [] g there

    two : ((bytes_eq word (codes "write") ≡ true) × (when (is_stage d.stage stage.Read) (at stage.Write d) ≡ Some e)) ⊎ (cond (bytes_eq word (codes "end")) (finish methods (close_method methods (close_format methods d))) (inner_at d.stage methods d word []) ≡ Some e) → Good methods (ls ++ word ∷ []) e
    two (inl (is, there)) = let w = when_true (is_stage d.stage stage.Read) _ e there in here_word methods ls e word (codes "write") is (begin_write methods ls d e (only_read methods ls d d.stage w.0 g) w.1)
    two (inr more) = three (if_some (bytes_eq word (codes "end")) (finish methods (close_method methods (close_format methods d))) _ e more)

    one : ((bytes_eq word (codes "read") ≡ true) × (when (is_stage d.stage stage.Head) (at stage.Read d) ≡ Some e))
        ⊎ (cond (bytes_eq word (codes "write")) (when (is_stage d.stage stage.Read) (at stage.Write d)) (cond (bytes_eq word (codes "end")) (finish methods (close_method methods (close_format methods d))) (inner_at d.stage methods d word [])) ≡ Some e) → Good methods (ls ++ word ∷ []) e
    one (inl (is, there)) = let w = when_true (is_stage d.stage stage.Head) _ e there in here_word methods ls e word (codes "read") is (begin_read methods ls d e (only_head methods ls d d.stage w.0 g) w.1)
    one (inr more) = two (if_some (bytes_eq word (codes "write")) (when (is_stage d.stage stage.Read) (at stage.Write d)) _ e more)

here_words : (methods : List Method) (ls : List (List ℕ)) (e : Draft) (word name spelt : List ℕ) → bytes_eq word spelt ≡ true → Good methods (ls ++ (spelt ++ 32 ∷ name) ∷ []) e → Good methods (ls ++ (word ++ 32 ∷ name) ∷ []) e
here_words methods ls e word name spelt is g = subst (λ w. Good methods (ls ++ (w ++ 32 ∷ name) ∷ []) e) (sym ((bytes_eq-Decides word spelt).0 is)) g

two_good : (methods : List Method) (ls : List (List ℕ)) (d e : Draft) (word name : List ℕ) → Good methods ls d → two_words methods d word name ≡ Some e → Good methods (ls ++ (word ++ 32 ∷ name) ∷ []) e
two_good methods ls d e word name g h = one (if_some (bytes_eq word (codes "method")) (begin_method methods (close_method methods (close_format methods d)) name) _ e h)
  where
    three : ((bytes_eq word (codes "rohcfn-certificate") ≡ true) × (begin d name ≡ Some e)) ⊎ (inner_at d.stage methods d word (name ∷ []) ≡ Some e) → Good methods (ls ++ (word ++ 32 ∷ name) ∷ []) e
    three (inl (is, there)) =
        let (v, named, made) = and_some _ (version_named name) e there in
        let w = when_true (is_stage d.stage stage.Version) (with_version v d) e made in
        here_words methods ls e word name (codes "rohcfn-certificate") is (begin_certificate methods ls d e name (only_fresh methods ls d d.stage w.0 g) there)
    three (inr there) = inner_good methods ls d e d.stage word (name ∷ []) g there

    two : ((bytes_eq word (codes "format") ≡ true) × (begin_format methods (close_format methods d) name ≡ Some e))
        ⊎ (cond (bytes_eq word (codes "rohcfn-certificate")) (begin d name) (inner_at d.stage methods d word (name ∷ [])) ≡ Some e) → Good methods (ls ++ (word ++ 32 ∷ name) ∷ []) e
    two (inl (is, there)) =
        let c = close_format methods d in
        let (m, opened, more) = and_some _ (open_method methods c) e there in
        let (n, placed, made) = and_some _ (format_place name m) e more in
        let b = both_true _ _ (when_true _ _ e made).0 in
        here_words methods ls e word name (codes "format") is (format_good methods ls c e name (only_formats methods ls c c.stage b.0 (close_good methods ls d g)) there)
    two (inr more) = three (if_some (bytes_eq word (codes "rohcfn-certificate")) (begin d name) _ e more)

    one : ((bytes_eq word (codes "method") ≡ true) × (begin_method methods (close_method methods (close_format methods d)) name ≡ Some e))
        ⊎ (cond (bytes_eq word (codes "format")) (begin_format methods (close_format methods d) name) (cond (bytes_eq word (codes "rohcfn-certificate")) (begin d name) (inner_at d.stage methods d word (name ∷ []))) ≡ Some e)
        → Good methods (ls ++ (word ++ 32 ∷ name) ∷ []) e
    one (inl (is, there)) =
        let c = close_method methods (close_format methods d) in
        let (k, placed, more) = and_some _ (method_place name methods) e there in
        let (m, at_k, made) = and_some _ (slice_get methods k) e more in
        let b = both_true _ _ (when_true _ _ e made).0 in
        here_words methods ls e word name (codes "method") is (method_good methods ls c e name (only_between methods ls c c.stage b.0 (shut_good methods ls d g)) there)
    one (inr more) = two (if_some (bytes_eq word (codes "format")) (begin_format methods (close_format methods d) name) _ e more)

words_good : (methods : List Method) (ls : List (List ℕ)) (d e : Draft) (ws : List (List ℕ)) → Good methods ls d → next methods d ws ≡ Some e → Good methods (ls ++ join_with_byte 32 ws ∷ []) e
words_good methods ls d e [] g h = absurd cc
words_good methods ls d e (word ∷ []) g h = one_good methods ls d e word g h
words_good methods ls d e (word ∷ name ∷ []) g h = two_good methods ls d e word name g h
words_good methods ls d e (word ∷ a ∷ b ∷ more) g h = inner_good methods ls d e d.stage word (a ∷ b ∷ more) g h

pub line_good : (methods : List Method) (ls : List (List ℕ)) (d e : Draft) (line : List ℕ) → Good methods ls d → next methods d (words line) ≡ Some e → Good methods (ls ++ line ∷ []) e
line_good methods ls d e line g h = subst (λ l. Good methods (ls ++ l ∷ []) e) (join_with_byte-slice_split 32 line) (words_good methods ls d e (words line) g h)

pub lines_good : (methods : List Method) (before lines : List (List ℕ)) (d e : Draft) → Good methods before d → read_lines methods d lines ≡ Some e → Good methods (before ++ lines) e
lines_good methods before [] d e g h = subst (λ ls. Good methods ls e) (sym (append-nil before)) (subst (Good methods before) (some_is d e h) g)
lines_good methods before (line ∷ lines) d e g h =
    let (f, taken, more) = and_some _ (next methods d (words line)) e h in
    subst (λ ls. Good methods ls e) (append_assoc before (line ∷ []) lines) (lines_good methods (before ++ line ∷ []) lines f e (line_good methods before d f line g taken) more)

pub entry_kept : (v : Version) (es : Entries) → AllByRecursion (IsEntryKept v) es → (k : ℕ) (method : _) → slice_get es k ≡ Some (Some method) → IsMethodKept v method
entry_kept v [] h k method at_k = absurd cc
entry_kept v (None ∷ es) h zero method at_k = let wrong : None ≡ Some method = some_is None (Some method) at_k in absurd cc
entry_kept v (Some e ∷ es) h zero method at_k = let same : e ≡ method = some_is e method (some_is (Some e) (Some method) at_k) in subst (IsMethodKept v) same h.0
entry_kept v (e ∷ es) h (suc k) method at_k = entry_kept v es h.1 k method at_k

-- what is read to its end is a certificate with these lines
pub record Whole (methods : List Method) (lines : List (List ℕ)) (c : Certified) : Type 0 where
  pub same : lines ≡ certificate_lines c
  pub of : IsOf methods c.methods
  pub kept : AreKept c

abbrev pub certified : Draft → Certified
certified d = record { version = d.version; methods = d.entries }

-- what a draft of lines says of them
pub good_start : (methods : List Method) (lines : List (List ℕ)) (d : Draft) → read_lines methods start lines ≡ Some d → Good methods lines d
good_start methods lines d h = lines_good methods [] lines start d (record { is = refl; lines = refl }) h

pub whole : (methods : List Method) (lines : List (List ℕ)) (d : Draft) → read_lines methods start lines ≡ Some d → is_stage d.stage stage.End ≡ true → Whole methods lines (certified d)
whole methods lines d h ended =
    let g = only_end methods lines d d.stage ended (good_start methods lines d h) in
    let said : Certified = record { version = g.v; methods = g.es } in
    let same : said ≡ certified d = ap certified (sym g.is) in
    subst (Whole methods lines) same (record { same = g.lines; of = g.of; kept = record { each = entry_kept g.v g.es g.kept } })
