-- Lines after which something is due are read, so one thing is due after them.
use Rattle.std.proofs.Common.{◌≡◌, ◌∙◌, sym, ap, refl, ℕ, suc, ◌+◌, ◌-◌, ◌<◌, ◌≤◌, ◌&&◌, true, List, [], ◌∷◌, ◌++◌, map, length, take, drop, append_assoc, length-append, arith}
use Rattle.std.specs.Prelude.{Option, Some, None, slice_get, option_and_then, codes, flat_map}
use Rattle.std.specs.List.{AllByRecursion, AllZip}
use Rattle.std.proofs.lemmas.Bool.{lt-ltb, le-leb, false≢true}
use Rattle.std.proofs.lemmas.List.{append-nil, length-map, length-take, length-drop, take-append-drop}
use Rattle.std.proofs.lemmas.Option.{slice_get_within}
use Rattle.sem_profile.specs.declared.profile.Format.{Format}
use Rattle.sem_profile.specs.declared.profile.Method.{Method}
use Rattle.cert_types.specs.declared.certificate.Version.{Version}
use Rattle.cert_types.specs.declared.certificate.Node.{Node}
use Rattle.cert_types.specs.declared.certificate.Plans.{Plans}
use Rattle.cert_types.specs.declared.certificate.FormatPlans.{FormatPlans}
use Rattle.cert_types.specs.declared.certificate.MethodPlans.{MethodPlans}
use Rattle.cert_types.specs.Kept.{Entries, AreFormatsKept, IsMethodKept, IsNodeKept, IsNodeIn, are_trees, depths, depth_limit, node_limit, owed_after}
use Rattle.cert_types.specs.Of.{IsFormatOf, IsEntryOf, IsMethodOf, IsNodeOf, of_format}
use Rattle.cert_text.specs.declared.draft.Draft.{Draft}
use Rattle.cert_text.specs.declared.draft.Stage.TheVariants as stage
use Rattle.cert_text.specs.Drafts.{words, when, blank, blanks, nones, after_node, open_format, close_format, close_format_at, close_method, begin_method, begin_format, next, read_lines, start}
use Rattle.cert_text.specs.Due.{Due, no_list, a_tree, a_plan, Opens, BeginTree, OpensFormat, IsDue, before_first, after_first, in_tree, after_tree, at_format, in_read, in_write, after_last, front, shown, tree_lines, formats_lines, format_head, step_lines}
use Rattle.cert_text.specs.Laws.{OneDue}
use Rattle.cert_text.specs.Text.{name_of, node_line, format_lines, method_lines, plans_lines, version_word}
use Rattle.cert_text.proofs.DraftsAccepting.{st, line_read, AreReadable, IsReadableMethod, readable_by, counted, nones_long, at_middle, node_read, accept_nodes, accept_reads, accept_writes, accept_format, accept_method, accept, version_read, format_found, format_word_lacks}
use Rattle.cert_text.proofs.DraftsDue.{due_of}
use Rattle.cert_text.proofs.DraftsMeaning.{some_is}
use Rattle.cert_text.proofs.DraftsNames.{placed}
use Rattle.cert_text.proofs.DraftsPieces.{begun}
use Rattle.cert_text.proofs.DraftsSpaces.{word_lacks, lacks_by, two_words, last_word}
use Rattle.cert_text.proofs.DueShown.{with_method, with_format}
use Rattle.cert_text.proofs.Telling.{blanks_of}

-- ---- nodes that begin a tree

module _ (v : Version) (methods : List Method) (m : Method) (entry : MethodPlans) (readable : IsReadableMethod m) (is : IsMethodOf m entry) (es : Entries) (there : slice_get methods (length es) ≡ Some m) where
  accept_part : (done : List Node) (owed : List ℕ) (nodes : List Node) (x : Node) (more : List Node) → are_trees (length owed) (nodes ++ x ∷ more) ≡ true → AllByRecursion (λ d. d ≤ depth_limit) (depths owed nodes) → length done + length nodes ≤ node_limit
      → AllByRecursion (IsNodeOf m) nodes → AllByRecursion IsNodeKept nodes → AllByRecursion (IsNodeIn v) nodes
      → (d : ℕ) × (left : List ℕ) × (read_lines methods (st v (after_node owed) es done owed [] [] []) (map (node_line entry) nodes) ≡ Some (st v stage.Tree es (done ++ nodes) (d ∷ left) [] [] []))
  accept_part done [] [] x more whole shallow few of kept versed = absurd (false≢true whole)
  accept_part done [] (node ∷ nodes) x more whole shallow few of kept versed = absurd (false≢true whole)
  accept_part done (d ∷ owed) [] x more whole shallow few of kept versed = (d, owed, ap (λ ns. Some (st v stage.Tree es ns (d ∷ owed) [] [] [])) (sym (append-nil done)))
  accept_part done (d ∷ owed) (node ∷ nodes) x more whole shallow few of kept versed =
      let here = st v stage.Tree es done (d ∷ owed) [] [] [] in
      let rest = owed_after node d owed in
      let then = st v (after_node rest) es (done ++ node ∷ []) rest [] [] [] in
      let r = node_read methods here m entry node readable is of.0 kept.0 versed.0 in
      let taken : next methods here (words (node_line entry node)) ≡ Some then =
      r.next_is ∙ ap (option_and_then _) there ∙ ap (option_and_then _) r.node_is
      ∙ (λ i. when (lt-ltb (length done) node_limit (omega arith) i && le-leb d depth_limit shallow.0 i) then) in
      let (a, left, reads) = accept_part (done ++ node ∷ []) rest nodes x more (ap (λ k. are_trees k (nodes ++ x ∷ more)) (counted node d owed) ∙ whole) shallow.1 (omega (arith, length-append done (node ∷ []))) of.1 kept.1 versed.1 in
      (a, left, line_read methods here then (node_line entry node) (map (node_line entry) nodes) taken ∙ reads ∙ ap (λ ns. Some (st v stage.Tree es ns (a ∷ left) [] [] [])) (append_assoc done (node ∷ []) nodes))

-- ---- the first formats

-- lines of them leave a draft that the next heading closes
record FormatsFrom (v : Version) (methods : List Method) (es : Entries) (tree : List Node) (d : Draft) (lines : List (List ℕ)) (n : ℕ) : Type 0 where
  draft : Draft
  said : List FormatPlans
  short : length said ≤ n
  closed : close_format methods draft ≡ st v stage.Formats es tree [] said [] []
  reads : (tail : List (List ℕ)) → read_lines methods d (lines ++ tail) ≡ read_lines methods draft tail

blanks_long : (formats : List Format) (said : List FormatPlans) (n : ℕ) → length said ≤ n → n ≤ length formats → length (said ++ blanks formats (length said) n) ≡ n
blanks_long formats said n up inside =
    let a = length-append said (blanks formats (length said) n) in
    let b : length (blanks formats (length said) n) ≡ length (drop (length said) (take n formats)) = length-map (drop (length said) (take n formats)) blank in
    let c = length-drop (length said) (take n formats) in
    let e = length-take n formats in
    omega (arith, a, b, c, e, up, inside)

module _ (v : Version) (methods : List Method) (m : Method) (readable : IsReadableMethod m) (es : Entries) (there : slice_get methods (length es) ≡ Some m) (tree : List Node) where
  formats_from : (before rest after : List Format) (said xs : List FormatPlans) (n : ℕ) (d : Draft) → m.formats ≡ before ++ (rest ++ after) → length before + length rest ≡ n → length said ≤ length before → AllZip IsFormatOf rest xs → AreFormatsKept xs
      → close_format methods d ≡ st v stage.Formats es tree [] said [] [] → FormatsFrom v methods es tree d (flat_map format_lines xs) n
  formats_from before [] after said [] n d is long up alike kept closed = record { draft = d; said = said; short = omega (arith, long, up); closed = closed; reads = λ tail. refl }
  formats_from before [] after said (x ∷ xs) n d is long up alike kept closed = absurd alike
  formats_from before (f ∷ rest) after said [] n d is long up alike kept closed = absurd alike
  formats_from before (f ∷ rest) after said (x ∷ xs) n d is long up alike kept closed = by x.plans refl (λ more e up2 shut. formats_from (before ++ f ∷ []) rest after more xs n e moved more_long up2 alike.1 (λ k. kept (suc k)) shut)
    where
      moved : m.formats ≡ (before ++ f ∷ []) ++ (rest ++ after)
      moved = is ∙ sym (append_assoc before (f ∷ []) (rest ++ after))

      more_long : length (before ++ f ∷ []) + length rest ≡ n
      more_long = let a = length-append before (f ∷ []) in omega (arith, a, long)

      at : slice_get m.formats (length before) ≡ Some f
      at = ap (λ fs. slice_get fs (length before)) is ∙ at_middle before f (rest ++ after)

      by : (o : Option Plans) → x.plans ≡ o
          → ((more : List FormatPlans) (e : Draft) → length more ≤ length (before ++ f ∷ []) → close_format methods e ≡ st v stage.Formats es tree [] more [] [] → FormatsFrom v methods es tree e (flat_map format_lines xs) n)
          → FormatsFrom v methods es tree d (flat_map format_lines (x ∷ xs)) n
      by None e go =
          let none : format_lines x ≡ [] = ap (plans_lines (name_of x.name) x.fields) e in
          let a = length-append before (f ∷ []) in
          let r = go said d (omega (arith, a, up)) closed in
          record { draft = r.draft; said = r.said; short = r.short; closed = r.closed; reads = λ tail. ap (λ ls. read_lines methods d ((ls ++ flat_map format_lines xs) ++ tail)) none ∙ r.reads tail }
      by (Some plans) e go =
          let bl = said ++ blanks m.formats (length said) (length before) in
          let inside = slice_get_within m.formats (length before) f at in
          let bl_long : length bl ≡ length before = blanks_long m.formats said (length before) up (omega (arith, inside)) in
          let written = st v stage.Write es tree [] bl plans.read plans.write in
          let opened : open_format methods written ≡ Some f = ap (option_and_then _) there ∙ ap (slice_get m.formats) bl_long ∙ at in
          let shut : close_format methods written ≡ st v stage.Formats es tree [] (bl ++ of_format f (Some plans) ∷ []) [] [] = ap (close_format_at stage.Write written) opened in
          let a = length-append before (f ∷ []) in
          let b = length-append bl (of_format f (Some plans) ∷ []) in
          let r = go (bl ++ of_format f (Some plans) ∷ []) written (omega (arith, a, b, bl_long)) shut in
          record {
            draft = r.draft;
            said = r.said;
            short = r.short;
            closed = r.closed;
            reads = λ tail.
                ap (read_lines methods d) (append_assoc (format_lines x) (flat_map format_lines xs) tail)
                ∙ accept_format v methods m readable es there tree d said bl (length before) f x plans (flat_map format_lines xs ++ tail) closed at up refl bl_long alike.0 e (alike.0.plans plans e) (kept 0 x plans refl e)
                ∙ r.reads tail;
          }

  -- the heading of a format
  format_opens : (d : Draft) (said : List FormatPlans) (n : ℕ) (f : Format) → close_format methods d ≡ st v stage.Formats es tree [] said [] [] → slice_get m.formats n ≡ Some f → length said ≤ n
      → next methods d (words (format_head f)) ≡ Some (st v stage.Head es tree [] (said ++ blanks m.formats (length said) n) [] [])
  format_opens d said n f closed at up =
      ap (next methods d) (two_words (codes "format") (name_of f.name) (lacks_by 32 (codes "format") refl) (format_word_lacks m readable n f at f.name refl))
      ∙ ap (λ c. begin_format methods c (name_of f.name)) closed ∙ ap (option_and_then _) there ∙ ap (option_and_then _) (format_found m readable n f at)
      ∙ (λ i. when (le-leb (length said) n up i) (st v stage.Head es tree [] (said ++ blanks m.formats (length said) n) [] []))

-- ---- the first methods

record FrontFrom (v : Version) (methods : List Method) (d : Draft) (lines : List (List ℕ)) (n : ℕ) : Type 0 where
  draft : Draft
  said : Entries
  short : length said ≤ n
  closed : close_method methods (close_format methods draft) ≡ st v stage.Between said [] [] [] [] []
  reads : (tail : List (List ℕ)) → read_lines methods d (lines ++ tail) ≡ read_lines methods draft tail

front_from : (v : Version) (methods : List Method) → AreReadable methods → (before rest after : List Method) (said xs : Entries) (n : ℕ) (d : Draft) → methods ≡ before ++ (rest ++ after) → length before + length rest ≡ n → length said ≤ length before → AllZip IsEntryOf rest xs
    → ((k : ℕ) (entry : MethodPlans) → slice_get xs k ≡ Some (Some entry) → IsMethodKept v entry) → close_method methods (close_format methods d) ≡ st v stage.Between said [] [] [] [] [] → FrontFrom v methods d (flat_map method_lines xs) n
front_from v methods readable before [] after said [] n d is long up alike kept closed = record { draft = d; said = said; short = omega (arith, long, up); closed = closed; reads = λ tail. refl }
front_from v methods readable before [] after said (x ∷ xs) n d is long up alike kept closed = absurd alike
front_from v methods readable before (m ∷ rest) after said [] n d is long up alike kept closed = absurd alike
front_from v methods readable before (m ∷ rest) after said (None ∷ xs) n d is long up alike kept closed =
    let a = length-append before (m ∷ []) in
    let r = front_from v methods readable (before ++ m ∷ []) rest after said xs n d (is ∙ sym (append_assoc before (m ∷ []) (rest ++ after))) (omega (arith, a, long)) (omega (arith, a, up)) alike.1 (λ k. kept (suc k)) closed in
    record { draft = r.draft; said = r.said; short = r.short; closed = r.closed; reads = r.reads }
front_from v methods readable before (m ∷ rest) after said (Some entry ∷ xs) n d is long up alike kept closed =
    let at : slice_get methods (length before) ≡ Some m = ap (λ ms. slice_get ms (length before)) is ∙ at_middle before m (rest ++ after) in
    let j = length before - length said in
    let one = accept_method v methods readable d said j (length before) m entry closed at (omega (arith, up)) alike.0 (kept 0 entry refl) in
    let a = length-append before (m ∷ []) in
    let b = length-append (said ++ nones j) (Some entry ∷ []) in
    let c = length-append said (nones j) in
    let e = nones_long j in
    let r = front_from v methods readable (before ++ m ∷ []) rest after ((said ++ nones j) ++ Some entry ∷ []) xs n one.draft (is ∙ sym (append_assoc before (m ∷ []) (rest ++ after))) (omega (arith, a, long)) (omega (arith, a, b, c, e, up)) alike.1 (λ k. kept (suc k)) one.closed in
    record {
      draft = r.draft;
      said = r.said;
      short = r.short;
      closed = r.closed;
      reads = λ tail. ap (read_lines methods d) (append_assoc (method_lines (Some entry)) (flat_map method_lines xs) tail) ∙ one.reads (flat_map method_lines xs ++ tail) ∙ r.reads tail;
    }

-- ---- what is open

-- the heading of a method is read
record MethodBegun (v : Version) (methods : List Method) (es : Entries) (m : Method) : Type 0 where
  said : Entries
  there : slice_get methods (length said) ≡ Some m
  reads : (tail : List (List ℕ)) → read_lines methods start (front v es ++ ((codes "method " ++ m.name) ∷ tail)) ≡ read_lines methods (st v stage.Tree said [] (1 ∷ []) [] [] []) tail

take_drop : {A : Type 0} (n : ℕ) (xs : List A) → n ≤ length xs → (length (take n xs) ≡ n) × (xs ≡ take n xs ++ drop n xs)
take_drop n xs h = let e = length-take n xs in (omega (arith, e, h), sym (take-append-drop n xs))

method_begun : (v : Version) (methods : List Method) (es : Entries) (m : Method) → AreReadable methods → Opens v methods es m → MethodBegun v methods es m
method_begun v methods es m readable o =
    let between = st v stage.Between [] [] [] [] [] [] in
    let k = length es in
    let inside = slice_get_within methods k m o.there in
    let (long, is) = take_drop k methods (omega (arith, inside)) in
    let f = front_from v methods readable [] (take k methods) (drop k methods) [] es k between is (omega (arith, long)) (omega arith) o.of o.kept.each refl in
    let j = k - length f.said in
    let said = f.said ++ nones j in
    let short = f.short in
    let said_long : length said ≡ k = length-append f.said (nones j) ∙ ap (λ n. length f.said + n) (nones_long j) ∙ omega (arith, short) in
    let mine = readable.each k m o.there in
    let opened : next methods f.draft (words (codes "method " ++ m.name)) ≡ Some (st v stage.Tree said [] (1 ∷ []) [] [] []) =
    ap (next methods f.draft) (two_words (codes "method") m.name (lacks_by 32 (codes "method") refl) (word_lacks 32 m.name refl refl mine.spelled))
    ∙ ap (λ c. begin_method methods c m.name) f.closed
    ∙ begun methods (st v stage.Between f.said [] [] [] [] []) m.name k m said (1 ∷ []) (placed (λ n. n.name) methods k m o.there (λ i other e same. readable.once i k other m e o.there same)) o.there refl short o.used refl refl in
    record {
      said = said;
      there = ap (slice_get methods) said_long ∙ o.there;
      reads = λ tail.
          line_read methods start between (codes "rohcfn-certificate " ++ version_word v) (flat_map method_lines es ++ ((codes "method " ++ m.name) ∷ tail)) (version_read methods v)
          ∙ f.reads ((codes "method " ++ m.name) ∷ tail)
          ∙ line_read methods f.draft (st v stage.Tree said [] (1 ∷ []) [] [] []) (codes "method " ++ m.name) tail opened;
    }

shown_of : (m : Method) → 0 < length m.formats → IsMethodOf m (shown m)
shown_of m used = record { used = used; name = refl; parameters = refl; tree = tt; formats = blanks_of m.formats }

-- a whole tree is read
tree_read : (v : Version) (methods : List Method) (es : Entries) (m : Method) (tree : List Node) → AreReadable methods → (o : Opens v methods es m) → (b : MethodBegun v methods es m) → BeginTree v m tree → are_trees 1 tree ≡ true → (tail : List (List ℕ))
    → read_lines methods start (tree_lines v es m tree ++ tail) ≡ read_lines methods (st v stage.Formats b.said tree [] [] [] []) tail
tree_read v methods es m tree readable o b t whole tail =
    ap (read_lines methods start) (append_assoc (front v es) ((codes "method " ++ m.name) ∷ map (node_line (shown m)) tree) tail)
    ∙ b.reads (map (node_line (shown m)) tree ++ tail)
    ∙ accept_nodes v methods m (shown m) (readable.each (length es) m o.there) (shown_of m o.used) b.said b.there [] (1 ∷ []) tree tail whole t.shallow (omega (arith, t.few)) t.of t.kept t.versed

-- the heading of a format is read
record FormatBegun (v : Version) (methods : List Method) (es : Entries) (m : Method) (tree : List Node) (fs : List FormatPlans) (f : Format) : Type 0 where
  said : Entries
  there : slice_get methods (length said) ≡ Some m
  bl : List FormatPlans
  here : slice_get m.formats (length bl) ≡ Some f
  reads : (tail : List (List ℕ)) → read_lines methods start (formats_lines v es m tree fs ++ (format_head f ∷ tail)) ≡ read_lines methods (st v stage.Head said tree [] bl [] []) tail

format_begun : (v : Version) (methods : List Method) (es : Entries) (m : Method) (tree : List Node) (fs : List FormatPlans) (f : Format) → AreReadable methods → OpensFormat v methods es m tree fs f → FormatBegun v methods es m tree fs f
format_begun v methods es m tree fs f readable o =
    let b = method_begun v methods es m readable o.method in
    let mine = readable.each (length es) m o.method.there in
    let n = length fs in
    let inside = slice_get_within m.formats n f o.there in
    let (long, is) = take_drop n m.formats (omega (arith, inside)) in
    let first = st v stage.Formats b.said tree [] [] [] [] in
    let r = formats_from v methods m mine b.said b.there tree [] (take n m.formats) (drop n m.formats) [] fs n first is (omega (arith, long)) (omega arith) o.of o.kept refl in
    let bl = r.said ++ blanks m.formats (length r.said) n in
    let bl_long : length bl ≡ n = blanks_long m.formats r.said n r.short (omega (arith, inside)) in
    record {
      said = b.said;
      there = b.there;
      bl = bl;
      here = ap (slice_get m.formats) bl_long ∙ o.there;
      reads = λ tail.
          ap (read_lines methods start) (append_assoc (tree_lines v es m tree) (flat_map format_lines fs) (format_head f ∷ tail))
          ∙ tree_read v methods es m tree readable o.method b o.tree_begun o.whole (flat_map format_lines fs ++ (format_head f ∷ tail))
          ∙ r.reads (format_head f ∷ tail)
          ∙ line_read methods r.draft (st v stage.Head b.said tree [] bl [] []) (format_head f) tail (format_opens v methods m mine b.said b.there tree r.draft r.said n f r.closed o.there r.short);
    }

-- ---- what is due

record ReadTo (methods : List Method) (lines : List (List ℕ)) (what : Due) : Type 0 where
  draft : Draft
  reads : read_lines methods start lines ≡ Some draft
  due_is : due_of methods draft ≡ what

read_due : (methods : List Method) (lines : List (List ℕ)) (what : Due) → AreReadable methods → IsDue methods lines what → ReadTo methods lines what
read_due methods lines what readable before_first = record { draft = start; reads = refl; due_is = refl }
read_due methods lines what readable (after_first v) = record {
  draft = st v stage.Between [] [] [] [] [] [];
  reads = line_read methods start (st v stage.Between [] [] [] [] [] []) (codes "rohcfn-certificate " ++ version_word v) [] (version_read methods v);
  due_is = refl;
}
read_due methods lines what readable (in_tree {v} {es} {m} {tree} o t u) =
    let b = method_begun v methods es m readable o in
    let (d, left, reads) =
    accept_part v methods m (shown m) (readable.each (length es) m o.there) (shown_of m o.used) b.said b.there [] (1 ∷ []) tree u.next u.more u.whole t.shallow (omega (arith, t.few)) t.of t.kept t.versed in
    record { draft = st v stage.Tree b.said tree (d ∷ left) [] [] []; reads = b.reads (map (node_line (shown m)) tree) ∙ reads; due_is = with_method methods v b.said m (a_tree tree) b.there }
read_due methods lines what readable (after_tree {v} {es} {m} {tree} o t whole) =
    let b = method_begun v methods es m readable o in
    record {
      draft = st v stage.Formats b.said tree [] [] [] [];
      reads = ap (read_lines methods start) (sym (append-nil (tree_lines v es m tree))) ∙ tree_read v methods es m tree readable o b t whole [];
      due_is = with_method methods v b.said m no_list b.there;
    }
read_due methods lines what readable (at_format {v} {es} {m} {tree} {fs} {f} o) =
    let b = format_begun v methods es m tree fs f readable o in
    record { draft = st v stage.Head b.said tree [] b.bl [] []; reads = b.reads []; due_is = with_format methods v b.said b.bl m f no_list b.there b.here }
read_due methods lines what readable (in_read {v} {es} {m} {tree} {fs} {f} read o p) =
    let b = format_begun v methods es m tree fs f readable o in
    let mine = (readable.each (length es) m o.method.there).each (length fs) f o.there in
    let opened : open_format methods (st v stage.Read b.said tree [] b.bl [] []) ≡ Some f = ap (option_and_then _) b.there ∙ b.here in
    record {
      draft = st v stage.Read b.said tree [] b.bl read [];
      reads =
          b.reads (codes "read" ∷ step_lines f read) ∙ line_read methods (st v stage.Head b.said tree [] b.bl [] []) (st v stage.Read b.said tree [] b.bl [] []) (codes "read") (step_lines f read) (ap (next methods (st v stage.Head b.said tree [] b.bl [] [])) (last_word (codes "read") (lacks_by 32 (codes "read") refl)))
          ∙ ap (read_lines methods (st v stage.Read b.said tree [] b.bl [] [])) (sym (append-nil (step_lines f read)))
          ∙ accept_reads v methods b.said tree [] b.bl f opened mine [] read [] [] p.of p.kept.each (omega (arith, p.kept.few));
      due_is = with_format methods v b.said b.bl m f (a_plan read) b.there b.here;
    }
read_due methods lines what readable (in_write {v} {es} {m} {tree} {fs} {f} read write o p q) =
    let b = format_begun v methods es m tree fs f readable o in
    let mine = (readable.each (length es) m o.method.there).each (length fs) f o.there in
    let opened : open_format methods (st v stage.Read b.said tree [] b.bl [] []) ≡ Some f = ap (option_and_then _) b.there ∙ b.here in
    let tail = codes "write" ∷ step_lines f write in
    record {
      draft = st v stage.Write b.said tree [] b.bl read write;
      reads =
          b.reads (codes "read" ∷ (step_lines f read ++ tail))
          ∙ line_read methods (st v stage.Head b.said tree [] b.bl [] []) (st v stage.Read b.said tree [] b.bl [] []) (codes "read") (step_lines f read ++ tail) (ap (next methods (st v stage.Head b.said tree [] b.bl [] [])) (last_word (codes "read") (lacks_by 32 (codes "read") refl)))
          ∙ accept_reads v methods b.said tree [] b.bl f opened mine [] read [] tail p.of p.kept.each (omega (arith, p.kept.few))
          ∙ line_read methods (st v stage.Read b.said tree [] b.bl read []) (st v stage.Write b.said tree [] b.bl read []) (codes "write") (step_lines f write) (ap (next methods (st v stage.Read b.said tree [] b.bl read [])) (last_word (codes "write") (lacks_by 32 (codes "write") refl)))
          ∙ ap (read_lines methods (st v stage.Write b.said tree [] b.bl read [])) (sym (append-nil (step_lines f write)))
          ∙ accept_writes v methods b.said tree [] b.bl f opened mine read [] write [] q.of q.kept.each (omega (arith, q.kept.few));
      due_is = with_format methods v b.said b.bl m f (a_plan write) b.there b.here;
    }
read_due methods lines what readable (after_last {v} {es} of kept) = record {
  draft = st v stage.End es [] [] [] [] [];
  reads = accept methods readable (record { version = v; methods = es }) of kept;
  due_is = refl;
}

pub one_due : OneDue
one_due methods lines one other named spelled h k =
    let readable = readable_by methods named spelled in
    let a = read_due methods lines one readable h in
    let b = read_due methods lines other readable k in
    sym a.due_is ∙ ap (due_of methods) (some_is a.draft b.draft (sym a.reads ∙ b.reads)) ∙ b.due_is
