-- The lines of a certificate of a profile are read to their end, one by one, and give that certificate.
use Rattle.std.proofs.Common.{◌≡◌, ◌∙◌, sym, ap, subst, refl, cond, ℕ, zero, suc, ◌+◌, ◌-◌, ◌<◌, ◌≤◌, ◌^◌, ◌&&◌, Bool, true, false, List, [], ◌∷◌, ◌++◌, map, length, take, drop, append_assoc, length-append, arith}
use Rattle.std.specs.Prelude.{ℤ, Option, Some, None, slice_get, option_and_then, option_map, codes, decimal, flat_map}
use Rattle.std.specs.Fmt.{signed_decimal}
use Rattle.std.specs.List.{AllByRecursion, AllZip}
use Rattle.std.specs.Str.{bytes_eq}
use Rattle.std.proofs.lemmas.Bool.{lt-ltb, le-leb, false≢true}
use Rattle.std.proofs.lemmas.List.{append-nil, length-map, map-append}
use Rattle.std.proofs.lemmas.Option.{slice_get-map}
use Rattle.std.proofs.lemmas.Slice.Eq.{bytes_eq-Decides}
use Rattle.sem_expr.specs.declared.expr.Side.{Side}
use Rattle.sem_expr.specs.declared.expr.Side.TheVariants.{Uncompressed, Compressed}
use Rattle.sem_profile.specs.declared.profile.Field.{Field}
use Rattle.sem_profile.specs.declared.profile.Format.{Format}
use Rattle.sem_profile.specs.declared.profile.Method.{Method}
use Rattle.sem_profile.specs.Named.{FormatIsNamed, MethodIsNamed, AreNamed}
use Rattle.sem_profile.specs.declared.profile.Part.{Part}
use Rattle.sem_profile.specs.declared.profile.Part.TheVariants as part
use Rattle.cert_types.specs.declared.certificate.Version.{Version}
use Rattle.cert_types.specs.declared.certificate.Version.TheVariants.{One, Two}
use Rattle.cert_types.specs.declared.certificate.Step.{Step}
use Rattle.cert_types.specs.declared.certificate.Step.TheVariants.{Take, Call, LibraryUp, LibraryDown, MethodLength, ConstraintLength, Solve, Choose, Ask}
use Rattle.cert_types.specs.declared.certificate.Node.{Node}
use Rattle.cert_types.specs.declared.certificate.Node.TheVariants.{Bit, Parameter, Reference, Leaf, Nowhere}
use Rattle.cert_types.specs.declared.certificate.Plans.{Plans}
use Rattle.cert_types.specs.declared.certificate.FormatPlans.{FormatPlans}
use Rattle.cert_types.specs.declared.certificate.MethodPlans.{MethodPlans}
use Rattle.cert_text.specs.declared.draft.Draft.{Draft}
use Rattle.cert_text.specs.declared.draft.Stage.{Stage}
use Rattle.cert_text.specs.declared.draft.Stage.TheVariants as stage
use Rattle.cert_text.specs.Drafts.{words, when, number_below, side_of, step_on, step_of, node_of, is_local, common_place, reference_place, format_place, open_format, inner_at, after_node, next, read_lines, blank, blanks, begin_format, close_format, close_format_at, close_method, close_method_at, nones, finish, begin_method, start}
use Rattle.cert_types.specs.Kept.{Entries, Certified, IsStepKept, IsNodeKept, IsNodeIn, step_limit, node_limit, depth_limit, offset_limit, trees_after, are_trees, owed_after, depths, AreFormatsKept, ArePlansKept, IsMethodKept, AreKept}
use Rattle.cert_types.specs.Of.{field_names, IsConstraintBelow, IsStepOf, IsKeptField, IsFirstKept, IsNodeOf, IsFormatOf, ArePlansOf, IsMethodOf, IsEntryOf, IsOf, IsWord, AreWords}
use Rattle.cert_text.specs.Text.{name_of, name_at, side_word, step_line, step_words, node_line, first_names, format_name, version_word, plans_lines, format_lines, method_lines, certificate_lines}
use Rattle.cert_types.specs.Steps.{field_of}
use Rattle.cert_text.proofs.DraftsNumerals.{below_some, constant_some}
use Rattle.cert_text.proofs.DraftsNames.{placed}
use Rattle.cert_text.proofs.DraftsPieces.{begun}
use Rattle.cert_text.proofs.DraftsSpaces.{Lacks, word_lacks, decimal_lacks, signed_lacks, lacks_by, last_word, two_words, three_words, spaced, step_word, step_more, step_parts}

-- ---- steps

-- a format whose fields have distinct names, all words
pub record IsReadable (format : Format) : Type 0 where
  pub named : FormatIsNamed format
  pub spelled : (i : ℕ) (d : Field) → slice_get format.fields i ≡ Some d → IsWord d.declared.name

side_read : (side : Side) → side_of (side_word side) ≡ Some side
side_read Uncompressed = refl
side_read Compressed = refl

no_method : (n : ℕ) → n < 2 ^ 64 → bytes_eq (decimal n) (codes "method") ≡ false
no_method n h = by (bytes_eq (decimal n) (codes "method")) refl
  where
    by : (b : Bool) → bytes_eq (decimal n) (codes "method") ≡ b → bytes_eq (decimal n) (codes "method") ≡ false
    by true e = absurd (false≢true (sym (subst (Lacks 109) ((bytes_eq-Decides _ _).0 e) (decimal_lacks 109 n (λ k. omega arith) (omega arith))).0))
    by false e = e

-- a step by the words of its line
step_on_read : (format : Format) (step : Step) → IsStepKept step → IsConstraintBelow (length format.constraints) step → step_on (length format.constraints) (field_of step) (step_word step) (step_more step) ≡ Some step
step_on_read format (Take i) kept below = refl
step_on_read format (Call i) kept below = refl
step_on_read format (LibraryUp i) kept below = refl
step_on_read format (LibraryDown i) kept below = refl
step_on_read format (MethodLength i side) kept below = ap (option_and_then _) (side_read side)
step_on_read format (ConstraintLength i side n) kept below =
    ap (option_and_then _) (side_read side)
    ∙ ap (λ b. cond b (Some (MethodLength i side)) (option_map (ConstraintLength i side) (number_below (length format.constraints) (decimal n)))) (no_method n kept)
    ∙ ap (option_map (ConstraintLength i side)) (below_some (length format.constraints) n (decimal n) kept below refl)
step_on_read format (Solve i n) kept below = ap (option_map (Solve i)) (below_some (length format.constraints) n (decimal n) kept below refl)
step_on_read format (Choose i) kept below = refl
step_on_read format (Ask i) kept below = refl

-- the words of a step are no heading
inner_step : (methods : List Method) (d : Draft) (name : List ℕ) (step : Step) → next methods d (step_word step ∷ name ∷ step_more step) ≡ inner_at d.stage methods d (step_word step) (name ∷ step_more step)
inner_step methods d name (Take i) = refl
inner_step methods d name (Call i) = refl
inner_step methods d name (LibraryUp i) = refl
inner_step methods d name (LibraryDown i) = refl
inner_step methods d name (MethodLength i side) = refl
inner_step methods d name (ConstraintLength i side n) = refl
inner_step methods d name (Solve i n) = refl
inner_step methods d name (Choose i) = refl
inner_step methods d name (Ask i) = refl

pub found_at : {A : Type 0} (xs : List A) (i : ℕ) → i < length xs → (x : A) × (slice_get xs i ≡ Some x)
found_at [] i h = absurd (omega arith)
found_at (x ∷ xs) zero h = (x, refl)
found_at (x ∷ xs) (suc i) h = found_at xs i (omega arith)

pub zip_at : {A B : Type 0} (R : A → B → Type 0) (xs : List A) (ys : List B) (i : ℕ) (x : A) → AllZip R xs ys → slice_get xs i ≡ Some x → (y : B) × (slice_get ys i ≡ Some y) × R x y
zip_at R [] [] i x h at = absurd cc
zip_at R [] (y ∷ ys) i x h at = absurd h
zip_at R (z ∷ xs) [] i x h at = absurd h
zip_at R (z ∷ xs) (y ∷ ys) zero x h at = let same : z ≡ x = cc in (y, refl, subst (λ w. R w y) same h.0)
zip_at R (z ∷ xs) (y ∷ ys) (suc i) x h at = zip_at R xs ys i x h.1 at

-- a step's line, at any draft
record StepRead (methods : List Method) (d : Draft) (format : Format) (step : Step) : Type 0 where
  word : List ℕ
  more : List (List ℕ)
  next_is : next methods d (words (step_line (field_names format) step)) ≡ inner_at d.stage methods d word more
  step_is : step_of format word more ≡ Some step

step_read : (methods : List Method) (d : Draft) (format : Format) (step : Step) → IsReadable format → IsStepOf format step → IsStepKept step → StepRead methods d format step
step_read methods d format step readable of kept =
    let (field, at) = found_at format.fields (field_of step) of.field in
    let name = field.declared.name in
    let named : name_at (field_names format) (field_of step) ≡ name = ap name_of (slice_get-map (λ e. e.declared.name) format.fields (field_of step) ∙ ap (option_map _) at) in
    let parts : words (step_line (field_names format) step) ≡ step_word step ∷ name ∷ step_more step =
    ap (λ n. words (step_words n step)) named ∙ step_parts name step (word_lacks 32 name refl refl (readable.spelled (field_of step) field at)) kept in
    record {
      word = step_word step;
      more = name ∷ step_more step;
      next_is = ap (next methods d) parts ∙ inner_step methods d name step;
      step_is =
          ap (option_and_then _) (placed (λ e. e.declared.name) format.fields (field_of step) field at (λ j other e same. readable.named j (field_of step) other field e at same))
          ∙ step_on_read format step kept of.constraint;
    }

-- ---- drafts

abbrev pub st : Version → Stage → Entries → List Node → List ℕ → List FormatPlans → List Step → List Step → Draft
st v s es ns ow fs rs ws = record { version = v; stage = s; entries = es; tree = ns; owed = ow; formats = fs; read = rs; write = ws }

-- a line more
pub line_read : (methods : List Method) (d e : Draft) (line : List ℕ) (tail : List (List ℕ)) → next methods d (words line) ≡ Some e → read_lines methods d (line ∷ tail) ≡ read_lines methods e tail
line_read methods d e line tail h = ap (option_and_then _) h

module _ (v : Version) (methods : List Method) (es : Entries) (ns : List Node) (ow : List ℕ) (fs : List FormatPlans) (format : Format) where
  pub accept_reads : open_format methods (st v stage.Read es ns ow fs [] []) ≡ Some format → IsReadable format → (rs steps ws : List Step) (tail : List (List ℕ)) → AllByRecursion (IsStepOf format) steps → AllByRecursion IsStepKept steps → length rs + length steps ≤ step_limit
      → read_lines methods (st v stage.Read es ns ow fs rs ws) (map (step_line (field_names format)) steps ++ tail) ≡ read_lines methods (st v stage.Read es ns ow fs (rs ++ steps) ws) tail
  accept_reads there readable rs [] ws tail of kept few = ap (λ r. read_lines methods (st v stage.Read es ns ow fs r ws) tail) (sym (append-nil rs))
  accept_reads there readable rs (step ∷ steps) ws tail of kept few =
      let d = st v stage.Read es ns ow fs rs ws in
      let s = step_read methods d format step readable of.0 kept.0 in
      let taken : next methods d (words (step_line (field_names format) step)) ≡ Some (st v stage.Read es ns ow fs (rs ++ step ∷ []) ws) =
      s.next_is ∙ ap (option_and_then _) there ∙ ap (option_and_then _) s.step_is
      ∙ ap (λ b. when b (st v stage.Read es ns ow fs (rs ++ step ∷ []) ws)) (lt-ltb (length rs) step_limit (omega arith)) in
      line_read methods d (st v stage.Read es ns ow fs (rs ++ step ∷ []) ws) (step_line (field_names format) step) (map (step_line (field_names format)) steps ++ tail) taken
      ∙ accept_reads there readable (rs ++ step ∷ []) steps ws tail of.1 kept.1 (omega (arith, length-append rs (step ∷ [])))
      ∙ ap (λ r. read_lines methods (st v stage.Read es ns ow fs r ws) tail) (append_assoc rs (step ∷ []) steps)

  pub accept_writes : open_format methods (st v stage.Write es ns ow fs [] []) ≡ Some format → IsReadable format → (rs ws steps : List Step) (tail : List (List ℕ)) → AllByRecursion (IsStepOf format) steps → AllByRecursion IsStepKept steps → length ws + length steps ≤ step_limit
      → read_lines methods (st v stage.Write es ns ow fs rs ws) (map (step_line (field_names format)) steps ++ tail) ≡ read_lines methods (st v stage.Write es ns ow fs rs (ws ++ steps)) tail
  accept_writes there readable rs ws [] tail of kept few = ap (λ w. read_lines methods (st v stage.Write es ns ow fs rs w) tail) (sym (append-nil ws))
  accept_writes there readable rs ws (step ∷ steps) tail of kept few =
      let d = st v stage.Write es ns ow fs rs ws in
      let s = step_read methods d format step readable of.0 kept.0 in
      let taken : next methods d (words (step_line (field_names format) step)) ≡ Some (st v stage.Write es ns ow fs rs (ws ++ step ∷ [])) =
      s.next_is ∙ ap (option_and_then _) there ∙ ap (option_and_then _) s.step_is
      ∙ ap (λ b. when b (st v stage.Write es ns ow fs rs (ws ++ step ∷ []))) (lt-ltb (length ws) step_limit (omega arith)) in
      line_read methods d (st v stage.Write es ns ow fs rs (ws ++ step ∷ [])) (step_line (field_names format) step) (map (step_line (field_names format)) steps ++ tail) taken
      ∙ accept_writes there readable rs (ws ++ step ∷ []) steps tail of.1 kept.1 (omega (arith, length-append ws (step ∷ [])))
      ∙ ap (λ w. read_lines methods (st v stage.Write es ns ow fs rs w) tail) (append_assoc ws (step ∷ []) steps)

-- ---- nodes

-- a method whose names are distinct, and all words
pub record IsReadableMethod (m : Method) : Type 0 where
  pub named : MethodIsNamed m
  pub spelled : IsWord m.name
  pub parameters : (i : ℕ) (name : List ℕ) → slice_get m.parameters i ≡ Some name → IsWord name
  pub formats : (n : ℕ) (f : Format) (name : List ℕ) → slice_get m.formats n ≡ Some f → f.name ≡ Some name → IsWord name
  pub each : (n : ℕ) (f : Format) → slice_get m.formats n ≡ Some f → IsReadable f

some_same : {A : Type 0} (x y : A) → Some x ≡ Some y → x ≡ y
some_same x y h = cc

-- formats go by distinct names
format_once : (m : Method) → MethodIsNamed m → (n j : ℕ) (f g : Format) → slice_get m.formats n ≡ Some f → slice_get m.formats j ≡ Some g → (o p : Option (List ℕ)) → f.name ≡ o → g.name ≡ p → name_of p ≡ name_of o → j ≡ n
format_once m named n j f g at other None p fe ge same = sym (named.alone n j f g at fe other)
format_once m named n j f g at other (Some a) None fe ge same = named.alone j n g f other ge at
format_once m named n j f g at other (Some a) (Some b) fe ge same = named.formats j n g f other at (ge ∙ ap Some same ∙ sym fe)

pub format_word_lacks : (m : Method) → IsReadableMethod m → (n : ℕ) (f : Format) → slice_get m.formats n ≡ Some f → (o : Option (List ℕ)) → f.name ≡ o → Lacks 32 (name_of o)
format_word_lacks m readable n f at None e = lacks_by 32 (codes "-") refl
format_word_lacks m readable n f at (Some name) e = word_lacks 32 name refl refl (readable.formats n f name at e)

pub format_found : (m : Method) → IsReadableMethod m → (n : ℕ) (f : Format) → slice_get m.formats n ≡ Some f → format_place (name_of f.name) m ≡ Some n
format_found m readable n f at = placed (λ g. name_of g.name) m.formats n f at (λ j g other same. format_once m readable.named n j f g at other f.name g.name refl refl same)

-- a header or control field of the first format
pub first_field : (formats : List Format) (i : ℕ) → IsFirstKept formats i → (f : Format) × (slice_get formats 0 ≡ Some f) × IsKeptField f i
first_field [] i of = absurd of
first_field (f ∷ formats) i of = (f, refl, of)

pub first_named : (fs : List Format) (es : List FormatPlans) (f : Format) → AllZip IsFormatOf fs es → slice_get fs 0 ≡ Some f → first_names es ≡ field_names f
first_named [] es f h at = absurd cc
first_named (g ∷ fs) [] f h at = absurd h
first_named (g ∷ fs) (e ∷ es) f h at = let same : g ≡ f = cc in h.0.fields ∙ ap field_names same

common_is : (p : Part) (i : ℕ) → (p ≡ part.Local → ⊥) → cond (is_local p) None (Some i) ≡ Some i
common_is part.Header i other = refl
common_is part.Control i other = refl
common_is part.Local i other = absurd (other refl)

reference_found : (formats : List Format) (f : Format) (i : ℕ) (d : Field) → slice_get formats 0 ≡ Some f → slice_get f.fields i ≡ Some d → (d.declared.part ≡ part.Local → ⊥) → FormatIsNamed f → reference_place d.declared.name formats ≡ Some i
reference_found [] f i d first at other named = absurd cc
reference_found (g ∷ formats) f i d first at other named =
    let same : g ≡ f = cc in
    ap (λ (h : Format). reference_place d.declared.name (h ∷ formats)) same
    ∙ ap (option_and_then (common_place f)) (placed (λ e. e.declared.name) f.fields i d at (λ j o e alike. named j i o d e at alike))
    ∙ ap (option_and_then (λ (e : Field). cond (is_local e.declared.part) None (Some i))) at
    ∙ common_is d.declared.part i other

referring_is : (v : Version) (m : Method) (name : List ℕ) (i : ℕ) (c : ℤ) → IsNodeIn v (Reference i c) → node_of Two m (codes "ref") (name ∷ signed_decimal c ∷ []) ≡ Some (Reference i c) → node_of v m (codes "ref") (name ∷ signed_decimal c ∷ []) ≡ Some (Reference i c)
referring_is One m name i c versed h = absurd versed
referring_is Two m name i c versed h = h

-- a node's line, at any draft
pub record NodeRead (methods : List Method) (d : Draft) (m : Method) (entry : MethodPlans) (node : Node) : Type 0 where
  pub word : List ℕ
  pub more : List (List ℕ)
  pub next_is : next methods d (words (node_line entry node)) ≡ inner_at d.stage methods d word more
  pub node_is : node_of d.version m word more ≡ Some node

pub node_read : (methods : List Method) (d : Draft) (m : Method) (entry : MethodPlans) (node : Node) → IsReadableMethod m → IsMethodOf m entry → IsNodeOf m node → IsNodeKept node → IsNodeIn d.version node → NodeRead methods d m entry node
node_read methods d m entry (Bit o) readable is of kept versed = record {
  word = codes "bit";
  more = decimal o ∷ [];
  next_is = ap (next methods d) (two_words (codes "bit") (decimal o) (lacks_by 32 (codes "bit") refl) (decimal_lacks 32 o (λ e. omega arith) (omega arith)));
  node_is = ap (option_map Bit) (below_some offset_limit o (decimal o) (omega arith) kept refl);
}
node_read methods d m entry (Parameter i c) readable is of kept versed =
    let (name, at) = found_at m.parameters i of in
    let named : name_at entry.parameters i ≡ name = ap (λ ps. name_at ps i) is.parameters ∙ ap name_of at in
    record {
      word = codes "param";
      more = name ∷ signed_decimal c ∷ [];
      next_is =
          ap (λ n. next methods d (words (codes "param " ++ ((n ++ codes " ") ++ signed_decimal c)))) named
          ∙ ap (λ t. next methods d (words (codes "param " ++ t))) (spaced name (signed_decimal c))
          ∙ ap (next methods d) (three_words (codes "param") name (signed_decimal c) (lacks_by 32 (codes "param") refl) (word_lacks 32 name refl refl (readable.parameters i name at)) (signed_lacks 32 c (λ e. omega arith) refl kept));
      node_is =
          ap (option_and_then _) (placed (λ p. p) m.parameters i name at (λ j other e same. readable.named.parameters j i other e (at ∙ ap Some (sym same))))
          ∙ ap (option_map (Parameter i)) (constant_some c kept);
    }
node_read methods d m entry (Reference i c) readable is of kept versed =
    let (f, first, has) = first_field m.formats i of in
    let name = has.field.declared.name in
    let named : name_at (first_names entry.formats) i ≡ name =
    ap (λ ns. name_at ns i) (first_named m.formats entry.formats f is.formats first) ∙ ap name_of (slice_get-map (λ e. e.declared.name) f.fields i ∙ ap (option_map (λ e. e.declared.name)) has.field_at) in
    let mine = readable.each 0 f first in
    let there = reference_found m.formats f i has.field first has.field_at has.kept mine.named in
    record {
      word = codes "ref";
      more = name ∷ signed_decimal c ∷ [];
      next_is =
          ap (λ n. next methods d (words (codes "ref " ++ ((n ++ codes " ") ++ signed_decimal c)))) named
          ∙ ap (λ t. next methods d (words (codes "ref " ++ t))) (spaced name (signed_decimal c))
          ∙ ap (next methods d) (three_words (codes "ref") name (signed_decimal c) (lacks_by 32 (codes "ref") refl) (word_lacks 32 name refl refl (mine.spelled i has.field has.field_at)) (signed_lacks 32 c (λ e. omega arith) refl kept));
      node_is = referring_is d.version m name i c versed (ap (option_and_then _) there ∙ ap (option_map (Reference i)) (constant_some c kept));
    }
node_read methods d m entry (Leaf n) readable is of kept versed =
    let (f, at) = found_at m.formats n of in
    let (e, there, alike) = zip_at IsFormatOf m.formats entry.formats n f is.formats at in
    let named : format_name (slice_get entry.formats n) ≡ name_of f.name = ap format_name there ∙ ap name_of alike.name in
    record {
      word = codes "leaf";
      more = name_of f.name ∷ [];
      next_is =
          ap (λ t. next methods d (words (codes "leaf " ++ t))) named
          ∙ ap (next methods d) (two_words (codes "leaf") (name_of f.name) (lacks_by 32 (codes "leaf") refl) (format_word_lacks m readable n f at f.name refl));
      node_is = ap (option_map Leaf) (format_found m readable n f at);
    }
node_read methods d m entry Nowhere readable is of kept versed = record {
  word = codes "none";
  more = [];
  next_is = ap (next methods d) (last_word (codes "none") (lacks_by 32 (codes "none") refl));
  node_is = refl;
}

pub counted : (node : Node) (d : ℕ) (owed : List ℕ) → length (owed_after node d owed) ≡ trees_after node (length owed)
counted (Bit o) d owed = refl
counted (Parameter i c) d owed = refl
counted (Reference i c) d owed = refl
counted (Leaf n) d owed = refl
counted Nowhere d owed = refl

module _ (v : Version) (methods : List Method) (m : Method) (entry : MethodPlans) (readable : IsReadableMethod m) (is : IsMethodOf m entry) (es : Entries) (there : slice_get methods (length es) ≡ Some m) where
  pub accept_nodes : (done : List Node) (owed : List ℕ) (nodes : List Node) (tail : List (List ℕ)) → are_trees (length owed) nodes ≡ true → AllByRecursion (λ d. d ≤ depth_limit) (depths owed nodes) → length done + length nodes ≤ node_limit
      → AllByRecursion (IsNodeOf m) nodes → AllByRecursion IsNodeKept nodes → AllByRecursion (IsNodeIn v) nodes
      → read_lines methods (st v (after_node owed) es done owed [] [] []) (map (node_line entry) nodes ++ tail) ≡ read_lines methods (st v stage.Formats es (done ++ nodes) [] [] [] []) tail
  accept_nodes done [] [] tail whole shallow few of kept versed = ap (λ ns. read_lines methods (st v stage.Formats es ns [] [] [] []) tail) (sym (append-nil done))
  accept_nodes done [] (node ∷ nodes) tail whole shallow few of kept versed = absurd (false≢true whole)
  accept_nodes done (d ∷ owed) [] tail whole shallow few of kept versed = absurd (false≢true whole)
  accept_nodes done (d ∷ owed) (node ∷ nodes) tail whole shallow few of kept versed =
      let here = st v stage.Tree es done (d ∷ owed) [] [] [] in
      let more = owed_after node d owed in
      let then = st v (after_node more) es (done ++ node ∷ []) more [] [] [] in
      let r = node_read methods here m entry node readable is of.0 kept.0 versed.0 in
      let taken : next methods here (words (node_line entry node)) ≡ Some then =
      r.next_is ∙ ap (option_and_then _) there ∙ ap (option_and_then _) r.node_is
      ∙ (λ i. when (lt-ltb (length done) node_limit (omega arith) i && le-leb d depth_limit shallow.0 i) then) in
      line_read methods here then (node_line entry node) (map (node_line entry) nodes ++ tail) taken
      ∙ accept_nodes (done ++ node ∷ []) more nodes tail (ap (λ k. are_trees k nodes) (counted node d owed) ∙ whole) shallow.1 (omega (arith, length-append done (node ∷ []))) of.1 kept.1 versed.1
      ∙ ap (λ ns. read_lines methods (st v stage.Formats es ns [] [] [] []) tail) (append_assoc done (node ∷ []) nodes)

-- ---- formats

pub take_front : {A : Type 0} (xs ys : List A) → take (length xs) (xs ++ ys) ≡ xs
take_front [] [] = refl
take_front [] (y ∷ ys) = refl
take_front (x ∷ xs) ys = ap (λ r. x ∷ r) (take_front xs ys)

pub drop_front : {A : Type 0} (xs ys : List A) → drop (length xs) (xs ++ ys) ≡ ys
drop_front [] [] = refl
drop_front [] (y ∷ ys) = refl
drop_front (x ∷ xs) ys = drop_front xs ys

pub at_middle : {A : Type 0} (xs : List A) (y : A) (ys : List A) → slice_get (xs ++ y ∷ ys) (length xs) ≡ Some y
at_middle [] y ys = refl
at_middle (x ∷ xs) y ys = at_middle xs y ys

-- the formats between those before and one
gap_blanks : (all before front gap rest : List Format) (n : ℕ) → all ≡ before ++ rest → before ≡ front ++ gap → n ≡ length front → blanks all n (length before) ≡ map blank gap
gap_blanks all before front gap rest n is split e =
    (λ i. map blank (drop (e i) (take (length before) (is i)))) ∙ ap (λ xs. map blank (drop (length front) xs)) (take_front before rest ∙ split) ∙ ap (map blank) (drop_front front gap)

-- what is said of a method after lines of its formats
record FormatsRead (v : Version) (methods : List Method) (m : Method) (es : Entries) (tree : List Node) (d : Draft) (lines : List (List ℕ)) (formats : List FormatPlans) : Type 0 where
  draft : Draft
  reads : (tail : List (List ℕ)) → read_lines methods d (lines ++ tail) ≡ read_lines methods draft tail
  closed : close_method methods (close_format methods draft) ≡ st v stage.Between (es ++ Some record { name = m.name; parameters = m.parameters; tree = tree; formats = formats } ∷ []) [] [] [] [] []

module _ (v : Version) (methods : List Method) (m : Method) (readable : IsReadableMethod m) (es : Entries) (there : slice_get methods (length es) ≡ Some m) (tree : List Node) where
  -- one format with its plans
  pub accept_format : (d : Draft) (fs bl : List FormatPlans) (n : ℕ) (f : Format) (e : FormatPlans) (plans : Plans) (tail : List (List ℕ)) → close_format methods d ≡ st v stage.Formats es tree [] fs [] [] → slice_get m.formats n ≡ Some f → length fs ≤ n
      → bl ≡ fs ++ blanks m.formats (length fs) n → length bl ≡ n → IsFormatOf f e → e.plans ≡ Some plans → ArePlansOf f plans → ArePlansKept plans
      → read_lines methods d (format_lines e ++ tail) ≡ read_lines methods (st v stage.Write es tree [] bl plans.read plans.write) tail
  accept_format d fs bl n f e plans tail closed at up bl_is long alike there_are of kept =
      let name = name_of f.name in
      let opened : open_format methods (st v stage.Read es tree [] bl [] []) ≡ Some f = ap (option_and_then _) there ∙ ap (slice_get m.formats) long ∙ at in
      let head = st v stage.Head es tree [] bl [] [] in
      let line = codes "format " ++ name in
      let lines = codes "read" ∷ map (step_line (field_names f)) plans.read ++ codes "write" ∷ map (step_line (field_names f)) plans.write in
      let text : format_lines e ≡ line ∷ lines = λ i. plans_lines (name_of (alike.name i)) (alike.fields i) (there_are i) in
      let first : next methods d (words line) ≡ Some head =
      ap (next methods d) (two_words (codes "format") name (lacks_by 32 (codes "format") refl) (format_word_lacks m readable n f at f.name refl))
      ∙ ap (λ c. begin_format methods c name) closed ∙ ap (option_and_then _) there ∙ ap (option_and_then _) (format_found m readable n f at)
      ∙ (λ i. when (le-leb (length fs) n up i) (st v stage.Head es tree [] (sym bl_is i) [] [])) in
      let parted : lines ++ tail ≡ codes "read" ∷ (map (step_line (field_names f)) plans.read ++ (codes "write" ∷ (map (step_line (field_names f)) plans.write ++ tail))) =
      ap (λ r. codes "read" ∷ r) (append_assoc (map (step_line (field_names f)) plans.read) (codes "write" ∷ map (step_line (field_names f)) plans.write) tail) in
      ap (λ ls. read_lines methods d (ls ++ tail)) text
      ∙ line_read methods d head line (lines ++ tail) first
      ∙ ap (read_lines methods head) parted
      ∙ line_read methods head (st v stage.Read es tree [] bl [] []) (codes "read") (map (step_line (field_names f)) plans.read ++ (codes "write" ∷ (map (step_line (field_names f)) plans.write ++ tail)))
      (ap (next methods head) (last_word (codes "read") (lacks_by 32 (codes "read") refl)))
      ∙ accept_reads v methods es tree [] bl f opened (readable.each n f at) [] plans.read [] (codes "write" ∷ (map (step_line (field_names f)) plans.write ++ tail)) of.read kept.read.each (omega (arith, kept.read.few))
      ∙ line_read methods (st v stage.Read es tree [] bl plans.read []) (st v stage.Write es tree [] bl plans.read []) (codes "write") (map (step_line (field_names f)) plans.write ++ tail)
      (ap (next methods (st v stage.Read es tree [] bl plans.read [])) (last_word (codes "write") (lacks_by 32 (codes "write") refl)))
      ∙ accept_writes v methods es tree [] bl f opened (readable.each n f at) plans.read [] plans.write tail of.write kept.write.each (omega (arith, kept.write.few))

  accept_formats : (before front gap rest : List Format) (fs xs : List FormatPlans) (d : Draft) → m.formats ≡ before ++ rest → before ≡ front ++ gap → length fs ≡ length front → AllZip IsFormatOf rest xs → AreFormatsKept xs → close_format methods d ≡ st v stage.Formats es tree [] fs [] []
      → FormatsRead v methods m es tree d (flat_map format_lines xs) (fs ++ (map blank gap ++ xs))
  accept_formats before front gap [] fs [] d is split long alike kept closed = record {
    draft = d;
    reads = λ tail. refl;
    closed =
        let whole : length m.formats ≡ length before = ap length (is ∙ append-nil before) in
        let last : blanks m.formats (length fs) (length m.formats) ≡ map blank gap ++ [] = ap (blanks m.formats (length fs)) whole ∙ gap_blanks m.formats before front gap [] (length fs) is split long ∙ sym (append-nil (map blank gap)) in
        ap (close_method methods) closed ∙ ap (close_method_at stage.Formats (st v stage.Formats es tree [] fs [] [])) there
        ∙ ap (λ bl. st v stage.Between (es ++ Some record { name = m.name; parameters = m.parameters; tree = tree; formats = fs ++ bl } ∷ []) [] [] [] [] []) last;
  }
  accept_formats before front gap [] fs (x ∷ xs) d is split long alike kept closed = absurd alike
  accept_formats before front gap (f ∷ rest) fs [] d is split long alike kept closed = absurd alike
  accept_formats before front gap (f ∷ rest) fs (x ∷ xs) d is split long alike kept closed =
      by x.plans refl
      (accept_formats (before ++ f ∷ []) front (gap ++ f ∷ []) rest fs xs d moved (ap (λ r. r ++ f ∷ []) split ∙ append_assoc front gap (f ∷ [])) long alike.1 (λ n. kept (suc n)) closed)
      (λ e c l. accept_formats (before ++ f ∷ []) (before ++ f ∷ []) [] rest (bl ++ x ∷ []) xs e moved (sym (append-nil (before ++ f ∷ []))) l alike.1 (λ n. kept (suc n)) c)
    where
      moved : m.formats ≡ (before ++ f ∷ []) ++ rest
      moved = is ∙ sym (append_assoc before (f ∷ []) rest)

      bl : List FormatPlans
      bl = fs ++ map blank gap

      bl_long : length bl ≡ length before
      bl_long = length-append fs (map blank gap) ∙ (λ i. long i + length-map gap blank i) ∙ sym (length-append front gap) ∙ ap length (sym split)

      at : slice_get m.formats (length before) ≡ Some f
      at = ap (λ fs. slice_get fs (length before)) is ∙ at_middle before f rest

      x_is : (o : Option Plans) → x.plans ≡ o → record { name = f.name; fields = field_names f; plans = o } ≡ x
      x_is o e = λ i. record { name = sym alike.0.name i; fields = sym alike.0.fields i; plans = sym e i }

      by : (o : Option Plans) → x.plans ≡ o
          → FormatsRead v methods m es tree d (flat_map format_lines xs) (fs ++ (map blank (gap ++ f ∷ []) ++ xs))
          → ((e : Draft) → close_format methods e ≡ st v stage.Formats es tree [] (bl ++ x ∷ []) [] [] → length (bl ++ x ∷ []) ≡ length (before ++ f ∷ []) → FormatsRead v methods m es tree e (flat_map format_lines xs) ((bl ++ x ∷ []) ++ xs))
          → FormatsRead v methods m es tree d (flat_map format_lines (x ∷ xs)) (fs ++ (map blank gap ++ x ∷ xs))
      by None e more later =
          let none : format_lines x ≡ [] = ap (plans_lines (name_of x.name) x.fields) e in
          let same : map blank (gap ++ f ∷ []) ++ xs ≡ map blank gap ++ x ∷ xs = ap (λ r. r ++ xs) (map-append blank gap (f ∷ []) ∙ ap (λ y. map blank gap ++ y ∷ []) (x_is None e)) ∙ append_assoc (map blank gap) (x ∷ []) xs in
          record {
            draft = more.draft;
            reads = λ tail. ap (λ ls. read_lines methods d ((ls ++ flat_map format_lines xs) ++ tail)) none ∙ more.reads tail;
            closed = more.closed ∙ ap (λ r. st v stage.Between (es ++ Some record { name = m.name; parameters = m.parameters; tree = tree; formats = fs ++ r } ∷ []) [] [] [] [] []) same;
          }
      by (Some plans) e more later =
          let written = st v stage.Write es tree [] bl plans.read plans.write in
          let opened : open_format methods written ≡ Some f = ap (option_and_then _) there ∙ ap (slice_get m.formats) bl_long ∙ at in
          let shut : close_format methods written ≡ st v stage.Formats es tree [] (bl ++ x ∷ []) [] [] =
          ap (close_format_at stage.Write written) opened ∙ ap (λ y. st v stage.Formats es tree [] (bl ++ y ∷ []) [] []) (x_is (Some plans) e) in
          let rest_read = later written shut (length-append bl (x ∷ []) ∙ ap (λ k. k + 1) bl_long ∙ sym (length-append before (f ∷ []))) in
          let up : length fs ≤ length before = omega (arith, bl_long, length-append fs (map blank gap)) in
          let between : bl ≡ fs ++ blanks m.formats (length fs) (length before) = ap (λ g. fs ++ g) (sym (gap_blanks m.formats before front gap (f ∷ rest) (length fs) is split long)) in
          record {
            draft = rest_read.draft;
            reads = λ tail.
                ap (read_lines methods d) (append_assoc (format_lines x) (flat_map format_lines xs) tail)
                ∙ accept_format d fs bl (length before) f x plans (flat_map format_lines xs ++ tail) closed at up between bl_long alike.0 e (alike.0.plans plans e) (kept 0 x plans refl e)
                ∙ rest_read.reads tail;
            closed = rest_read.closed ∙ ap (λ r. st v stage.Between (es ++ Some record { name = m.name; parameters = m.parameters; tree = tree; formats = r } ∷ []) [] [] [] [] [])
                (append_assoc bl (x ∷ []) xs ∙ append_assoc fs (map blank gap) (x ∷ xs));
          }

-- ---- methods

nones_shift : (j : ℕ) (xs : Entries) → nones j ++ (None ∷ xs) ≡ None ∷ (nones j ++ xs)
nones_shift zero xs = refl
nones_shift (suc j) xs = ap (λ r. None ∷ r) (nones_shift j xs)

pub nones_long : (j : ℕ) → length (nones j) ≡ j
nones_long zero = refl
nones_long (suc j) = ap suc (nones_long j)

-- what is said of all methods after lines of them
record MethodsRead (v : Version) (methods : List Method) (d : Draft) (lines : List (List ℕ)) (entries : Entries) : Type 0 where
  draft : Draft
  reads : (tail : List (List ℕ)) → read_lines methods d (lines ++ tail) ≡ read_lines methods draft tail
  closed : finish methods (close_method methods (close_format methods draft)) ≡ Some (st v stage.End entries [] [] [] [] [])

-- methods whose names are distinct, and all words
pub record AreReadable (methods : List Method) : Type 0 where
  pub once : (i j : ℕ) (m n : Method) → slice_get methods i ≡ Some m → slice_get methods j ≡ Some n → m.name ≡ n.name → i ≡ j
  pub each : (k : ℕ) (m : Method) → slice_get methods k ≡ Some m → IsReadableMethod m

-- one method
pub record MethodRead (v : Version) (methods : List Method) (d : Draft) (entry : MethodPlans) (es : Entries) : Type 0 where
  pub draft : Draft
  pub reads : (tail : List (List ℕ)) → read_lines methods d (method_lines (Some entry) ++ tail) ≡ read_lines methods draft tail
  pub closed : close_method methods (close_format methods draft) ≡ st v stage.Between (es ++ Some entry ∷ []) [] [] [] [] []

pub accept_method : (v : Version) (methods : List Method) → AreReadable methods → (d : Draft) (es : Entries) (j k : ℕ) (m : Method) (entry : MethodPlans) → close_method methods (close_format methods d) ≡ st v stage.Between es [] [] [] [] [] → slice_get methods k ≡ Some m → k ≡ length es + j
    → IsMethodOf m entry → IsMethodKept v entry → MethodRead v methods d entry (es ++ nones j)
accept_method v methods readable d es j k m entry closed at long is kept =
    let mine = readable.each k m at in
    let line = codes "method " ++ entry.name in
    let begun_at = st v stage.Tree (es ++ nones j) [] (1 ∷ []) [] [] [] in
    let owed : nones (k - length es) ≡ nones j = ap nones (omega (arith, long)) in
    let there : slice_get methods (length (es ++ nones j)) ≡ Some m = ap (slice_get methods) (length-append es (nones j) ∙ ap (λ n. length es + n) (nones_long j) ∙ sym long) ∙ at in
    let first : next methods d (words line) ≡ Some begun_at =
    ap (λ n. next methods d (words (codes "method " ++ n))) is.name
    ∙ ap (next methods d) (two_words (codes "method") m.name (lacks_by 32 (codes "method") refl) (word_lacks 32 m.name refl refl mine.spelled))
    ∙ ap (λ c. begin_method methods c m.name) closed
    ∙ begun methods (st v stage.Between es [] [] [] [] []) m.name k m (es ++ nones j) (1 ∷ []) (placed (λ n. n.name) methods k m at (λ i other e same. readable.once i k other m e at same)) at refl (omega (arith, long)) is.used (ap (λ r. es ++ r) (sym owed)) refl in
    let formats = accept_formats v methods m mine (es ++ nones j) there entry.tree [] [] [] m.formats [] entry.formats (st v stage.Formats (es ++ nones j) entry.tree [] [] [] []) refl refl refl is.formats kept.formats refl in
    record {
      draft = formats.draft;
      reads = λ tail.
          line_read methods d begun_at line ((map (node_line entry) entry.tree ++ flat_map format_lines entry.formats) ++ tail) first
          ∙ ap (read_lines methods begun_at) (append_assoc (map (node_line entry) entry.tree) (flat_map format_lines entry.formats) tail)
          ∙ accept_nodes v methods m entry mine is (es ++ nones j) there [] (1 ∷ []) entry.tree (flat_map format_lines entry.formats ++ tail) kept.tree.whole kept.tree.shallow (omega (arith, kept.tree.few)) is.tree kept.tree.each kept.versed
          ∙ formats.reads tail;
      closed = formats.closed ∙ (λ i. st v stage.Between ((es ++ nones j) ++ Some record { name = sym is.name i; parameters = sym is.parameters i; tree = entry.tree; formats = entry.formats } ∷ []) [] [] [] [] []);
    }

accept_methods : (v : Version) (methods : List Method) → AreReadable methods → (before rest : List Method) (es xs : Entries) (j : ℕ) (d : Draft) → methods ≡ before ++ rest → length before ≡ length es + j → AllZip IsEntryOf rest xs
    → ((k : ℕ) (entry : MethodPlans) → slice_get xs k ≡ Some (Some entry) → IsMethodKept v entry) → close_method methods (close_format methods d) ≡ st v stage.Between es [] [] [] [] [] → MethodsRead v methods d (flat_map method_lines xs) (es ++ (nones j ++ xs))
accept_methods v methods readable before [] es [] j d is long alike kept closed = record {
  draft = d;
  reads = λ tail. refl;
  closed =
      let left : nones (length methods - length es) ≡ nones j ++ [] = ap nones (omega (arith, ap length (is ∙ append-nil before), long)) ∙ sym (append-nil (nones j)) in
      ap (finish methods) closed ∙ ap (λ r. Some (st v stage.End (es ++ r) [] [] [] [] [])) left;
}
accept_methods v methods readable before [] es (x ∷ xs) j d is long alike kept closed = absurd alike
accept_methods v methods readable before (m ∷ rest) es [] j d is long alike kept closed = absurd alike
accept_methods v methods readable before (m ∷ rest) es (None ∷ xs) j d is long alike kept closed =
    let more = accept_methods v methods readable (before ++ m ∷ []) rest es xs (suc j) d (is ∙ sym (append_assoc before (m ∷ []) rest)) (length-append before (m ∷ []) ∙ omega (arith, long)) alike.1 (λ k. kept (suc k)) closed in
    record {
      draft = more.draft;
      reads = more.reads;
      closed = more.closed ∙ ap (λ r. Some (st v stage.End (es ++ r) [] [] [] [] [])) (sym (nones_shift j xs));
    }
accept_methods v methods readable before (m ∷ rest) es (Some entry ∷ xs) j d is long alike kept closed =
    let at : slice_get methods (length before) ≡ Some m = ap (λ ms. slice_get ms (length before)) is ∙ at_middle before m rest in
    let one = accept_method v methods readable d es j (length before) m entry closed at long alike.0 (kept 0 entry refl) in
    let es2 = (es ++ nones j) ++ Some entry ∷ [] in
    let n : length es2 ≡ length (before ++ m ∷ []) = length-append (es ++ nones j) (Some entry ∷ []) ∙ ap (λ k. k + 1) (length-append es (nones j) ∙ ap (λ k. length es + k) (nones_long j) ∙ sym long) ∙ sym (length-append before (m ∷ [])) in
    let more = accept_methods v methods readable (before ++ m ∷ []) rest es2 xs 0 one.draft (is ∙ sym (append_assoc before (m ∷ []) rest)) (omega (arith, n)) alike.1 (λ k. kept (suc k)) one.closed in
    record {
      draft = more.draft;
      reads = λ tail. ap (read_lines methods d) (append_assoc (method_lines (Some entry)) (flat_map method_lines xs) tail) ∙ one.reads (flat_map method_lines xs ++ tail) ∙ more.reads tail;
      closed = more.closed ∙ ap (λ r. Some (st v stage.End r [] [] [] [] [])) (append_assoc (es ++ nones j) (Some entry ∷ []) xs ∙ append_assoc es (nones j) (Some entry ∷ xs));
    }

-- the first line
pub version_read : (methods : List Method) (v : Version) → next methods start (words (codes "rohcfn-certificate " ++ version_word v)) ≡ Some (st v stage.Between [] [] [] [] [] [])
version_read methods One = ap (next methods start) (two_words (codes "rohcfn-certificate") (codes "1") (lacks_by 32 (codes "rohcfn-certificate") refl) (lacks_by 32 (codes "1") refl))
version_read methods Two = ap (next methods start) (two_words (codes "rohcfn-certificate") (codes "2") (lacks_by 32 (codes "rohcfn-certificate") refl) (lacks_by 32 (codes "2") refl))

-- all lines
pub accept : (methods : List Method) → AreReadable methods → (c : Certified) → IsOf methods c.methods → AreKept c → read_lines methods start (certificate_lines c) ≡ Some (st c.version stage.End c.methods [] [] [] [] [])
accept methods readable c of kept =
    let v = c.version in
    let between = st v stage.Between [] [] [] [] [] [] in
    let more = accept_methods v methods readable [] methods [] c.methods 0 between refl refl of kept.each refl in
    let last : next methods more.draft (words (codes "end")) ≡ Some (st v stage.End c.methods [] [] [] [] []) = ap (next methods more.draft) (last_word (codes "end") (lacks_by 32 (codes "end") refl)) ∙ more.closed in
    line_read methods start between (codes "rohcfn-certificate " ++ version_word v) (flat_map method_lines c.methods ++ codes "end" ∷ []) (version_read methods v)
    ∙ more.reads (codes "end" ∷ []) ∙ line_read methods more.draft (st v stage.End c.methods [] [] [] [] []) (codes "end") [] last

-- distinct names that are words can be read
pub readable_by : (methods : List Method) → AreNamed methods → AreWords methods → AreReadable methods
readable_by methods named spelled = record {
  once = named.once;
  each = λ k m at. record {
    named = named.each k m at;
    spelled = spelled.methods_are k m at;
    parameters = λ i name. spelled.parameters k i m name at;
    formats = λ n f name. spelled.formats k n m f name at;
    each = λ n f there. record { named = (named.each k m at).fields n f there; spelled = λ i d. spelled.fields k n i m f d at there };
  };
}
