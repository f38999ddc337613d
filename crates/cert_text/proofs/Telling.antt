-- What a draft says of the lines that made it.
use Rattle.std.proofs.Common.{◌≡◌, ◌∙◌, sym, ap, subst, refl, ℕ, zero, suc, ◌<◌, ◌≤◌, List, [], ◌∷◌, ◌++◌, map, length, take, drop, append_assoc}
use Rattle.std.specs.Prelude.{Option, Some, None, slice_get, option_and_then, codes, flat_map}
use Rattle.std.specs.Fmt.{signed_decimal}
use Rattle.std.specs.List.{AllByRecursion, AllZip}
use Rattle.std.proofs.lemmas.Grind.{flat_map-append}
use Rattle.std.proofs.lemmas.List.{append-nil}
use Rattle.sem_profile.specs.declared.profile.Format.{Format}
use Rattle.sem_profile.specs.declared.profile.Method.{Method}
use Rattle.cert_types.specs.declared.certificate.Version.{Version}
use Rattle.cert_types.specs.declared.certificate.Step.{Step}
use Rattle.cert_types.specs.declared.certificate.Node.{Node}
use Rattle.cert_types.specs.declared.certificate.Node.TheVariants.{Bit, Parameter, Reference, Leaf, Nowhere}
use Rattle.cert_types.specs.declared.certificate.Plans.{Plans}
use Rattle.cert_types.specs.declared.certificate.FormatPlans.{FormatPlans}
use Rattle.cert_types.specs.declared.certificate.MethodPlans.{MethodPlans}
use Rattle.cert_text.specs.declared.draft.Draft.{Draft}
use Rattle.cert_text.specs.declared.draft.Stage.{Stage}
use Rattle.cert_text.specs.declared.draft.Stage.TheVariants as stage
use Rattle.cert_text.specs.Drafts.{blank, blanks, at, close_format_at, close_method_at, start}
use Rattle.cert_types.specs.Kept.{Entries, IsNodeKept, IsNodeIn, IsStepKept, ArePlansKept, AreFormatsKept, IsMethodKept, are_trees, depths, node_limit, depth_limit, step_limit}
use Rattle.cert_types.specs.Of.{field_names, IsStepOf, IsNodeOf, IsFormatOf, ArePlansOf, IsMethodOf, IsEntryOf, IsOf}
use Rattle.cert_text.specs.Text.{name_of, name_at, first_names, version_word, format_name, node_line, format_lines, method_lines}
pub use Rattle.cert_text.specs.Due.{front, shown, step_lines, tree_lines, formats_lines, format_head}
use Rattle.cert_text.proofs.DraftsAccepting.{st, take_front, drop_front}

-- ---- lists

pub all_push : {A : Type 0} (P : A → Type 0) (xs : List A) (x : A) → AllByRecursion P xs → P x → AllByRecursion P (xs ++ x ∷ [])
all_push P [] x h k = (k, tt)
all_push P (y ∷ xs) x h k = (h.0, all_push P xs x h.1 k)

pub all_append : {A : Type 0} (P : A → Type 0) (xs ys : List A) → AllByRecursion P xs → AllByRecursion P ys → AllByRecursion P (xs ++ ys)
all_append P [] ys h k = k
all_append P (x ∷ xs) ys h k = (h.0, all_append P xs ys h.1 k)

pub zip_append : {A B : Type 0} (R : A → B → Type 0) (xs more : List A) (ys rest : List B) → AllZip R xs ys → AllZip R more rest → AllZip R (xs ++ more) (ys ++ rest)
zip_append R [] more [] rest h k = k
zip_append R [] more (y ∷ ys) rest h k = absurd h
zip_append R (x ∷ xs) more [] rest h k = absurd h
zip_append R (x ∷ xs) more (y ∷ ys) rest h k = (h.0, zip_append R xs more ys rest h.1 k)

pub zip_long : {A B : Type 0} (R : A → B → Type 0) (xs : List A) (ys : List B) → AllZip R xs ys → length xs ≡ length ys
zip_long R [] [] h = refl
zip_long R [] (y ∷ ys) h = absurd h
zip_long R (x ∷ xs) [] h = absurd h
zip_long R (x ∷ xs) (y ∷ ys) h = ap suc (zip_long R xs ys h.1)

-- what comes at a place is the first of the rest
pub rest_from : {A : Type 0} (xs rest : List A) (x : A) → slice_get (xs ++ rest) (length xs) ≡ Some x → (more : List A) × (rest ≡ x ∷ more)
rest_from [] [] x h = absurd cc
rest_from [] (y ∷ rest) x h = let same : y ≡ x = cc in (rest, ap (λ z. z ∷ rest) same)
rest_from (z ∷ xs) rest x h = rest_from xs rest x h

-- ---- what is said so far

abbrev pub IsEntryKept : Version → Option MethodPlans → Type 0
IsEntryKept v None = Unit {0}
IsEntryKept v (Some entry) = IsMethodKept v entry

abbrev pub IsFormatKept : FormatPlans → Type 0
IsFormatKept format = (plans : Plans) → format.plans ≡ Some plans → ArePlansKept plans

pub record Told (v : Version) (methods : List Method) (es : Entries) : Type 0 where
  pub before : List Method
  pub rest : List Method
  pub is : methods ≡ before ++ rest
  pub alike : AllZip IsEntryOf before es
  pub kept : AllByRecursion (IsEntryKept v) es

pub record Opened (v : Version) (methods : List Method) (es : Entries) (m : Method) : Type 0 where
  pub told : Told v methods es
  pub there : slice_get methods (length es) ≡ Some m
  pub used : 0 < length m.formats

pub record TreeSo (v : Version) (m : Method) (tree : List Node) (owed : List ℕ) : Type 0 where
  pub of : AllByRecursion (IsNodeOf m) tree
  pub kept : AllByRecursion IsNodeKept tree
  pub versed : AllByRecursion (IsNodeIn v) tree
  pub few : length tree ≤ node_limit
  pub grown : (more : List Node) → are_trees 1 (tree ++ more) ≡ are_trees (length owed) more
  pub deep : (more : List Node) → AllByRecursion (λ d. d ≤ depth_limit) (depths owed more) → AllByRecursion (λ d. d ≤ depth_limit) (depths (1 ∷ []) (tree ++ more))
  pub placed : (more : List Node) → drop (length tree) (depths (1 ∷ []) (tree ++ more)) ≡ depths owed more

pub record FormatsSo (m : Method) (fs : List FormatPlans) : Type 0 where
  pub before : List Format
  pub rest : List Format
  pub is : m.formats ≡ before ++ rest
  pub alike : AllZip IsFormatOf before fs
  pub kept : AllByRecursion IsFormatKept fs

pub record StepsSo (f : Format) (steps : List Step) : Type 0 where
  pub of : AllByRecursion (IsStepOf f) steps
  pub kept : AllByRecursion IsStepKept steps
  pub few : length steps ≤ step_limit

-- ---- drafts by their stage

pub record Fresh (ls : List (List ℕ)) (d : Draft) : Type 0 where
  pub is : d ≡ start
  pub lines : ls ≡ []

pub record Between (methods : List Method) (ls : List (List ℕ)) (d : Draft) : Type 0 where
  pub v : Version
  pub es : Entries
  pub is : d ≡ st v stage.Between es [] [] [] [] []
  pub told : Told v methods es
  pub lines : ls ≡ front v es

pub record InTree (methods : List Method) (ls : List (List ℕ)) (d : Draft) : Type 0 where
  pub v : Version
  pub es : Entries
  pub m : Method
  pub tree : List Node
  pub owed : List ℕ
  pub is : d ≡ st v stage.Tree es tree owed [] [] []
  pub some : 0 < length owed
  pub opened : Opened v methods es m
  pub so : TreeSo v m tree owed
  pub lines : ls ≡ tree_lines v es m tree

pub record InFormats (methods : List Method) (ls : List (List ℕ)) (d : Draft) : Type 0 where
  pub v : Version
  pub es : Entries
  pub m : Method
  pub tree : List Node
  pub fs : List FormatPlans
  pub is : d ≡ st v stage.Formats es tree [] fs [] []
  pub opened : Opened v methods es m
  pub so : TreeSo v m tree []
  pub formats : FormatsSo m fs
  pub lines : ls ≡ formats_lines v es m tree fs

-- a format is open: its lines are those at the end
pub record InFormat (v : Version) (methods : List Method) (es : Entries) (m : Method) (tree : List Node) (fs : List FormatPlans) (f : Format) : Type 0 where
  pub opened : Opened v methods es m
  pub so : TreeSo v m tree []
  pub formats : FormatsSo m fs
  pub at_is : slice_get m.formats (length fs) ≡ Some f

pub record AtHead (methods : List Method) (ls : List (List ℕ)) (d : Draft) : Type 0 where
  pub v : Version
  pub es : Entries
  pub m : Method
  pub tree : List Node
  pub fs : List FormatPlans
  pub f : Format
  pub is : d ≡ st v stage.Head es tree [] fs [] []
  pub within : InFormat v methods es m tree fs f
  pub lines : ls ≡ formats_lines v es m tree fs ++ format_head f ∷ []

pub record InRead (methods : List Method) (ls : List (List ℕ)) (d : Draft) : Type 0 where
  pub v : Version
  pub es : Entries
  pub m : Method
  pub tree : List Node
  pub fs : List FormatPlans
  pub f : Format
  pub rs : List Step
  pub is : d ≡ st v stage.Read es tree [] fs rs []
  pub within : InFormat v methods es m tree fs f
  pub reads : StepsSo f rs
  pub lines : ls ≡ formats_lines v es m tree fs ++ (format_head f ∷ codes "read" ∷ step_lines f rs)

pub record InWrite (methods : List Method) (ls : List (List ℕ)) (d : Draft) : Type 0 where
  pub v : Version
  pub es : Entries
  pub m : Method
  pub tree : List Node
  pub fs : List FormatPlans
  pub f : Format
  pub rs : List Step
  pub ws : List Step
  pub is : d ≡ st v stage.Write es tree [] fs rs ws
  pub within : InFormat v methods es m tree fs f
  pub reads : StepsSo f rs
  pub writes : StepsSo f ws
  pub lines : ls ≡ formats_lines v es m tree fs ++ (format_head f ∷ codes "read" ∷ (step_lines f rs ++ (codes "write" ∷ step_lines f ws)))

pub record AtEnd (methods : List Method) (ls : List (List ℕ)) (d : Draft) : Type 0 where
  pub v : Version
  pub es : Entries
  pub is : d ≡ st v stage.End es [] [] [] [] []
  pub of : IsOf methods es
  pub kept : AllByRecursion (IsEntryKept v) es
  pub lines : ls ≡ front v es ++ codes "end" ∷ []

abbrev pub GoodAt : Stage → List Method → List (List ℕ) → Draft → Type 0
GoodAt stage.Version methods ls d = Fresh ls d
GoodAt stage.Between methods ls d = Between methods ls d
GoodAt stage.Tree methods ls d = InTree methods ls d
GoodAt stage.Formats methods ls d = InFormats methods ls d
GoodAt stage.Head methods ls d = AtHead methods ls d
GoodAt stage.Read methods ls d = InRead methods ls d
GoodAt stage.Write methods ls d = InWrite methods ls d
GoodAt stage.End methods ls d = AtEnd methods ls d

abbrev pub Good : List Method → List (List ℕ) → Draft → Type 0
Good methods ls d = GoodAt d.stage methods ls d

-- ---- a format is closed

pub closed_format : (methods : List Method) (ls : List (List ℕ)) (d : Draft) → InWrite methods ls d → InFormats methods ls (close_format_at stage.Write d (option_and_then (λ m. slice_get m.formats (length d.formats)) (slice_get methods (length d.entries))))
closed_format methods ls d w =
    let within = w.within in
    let so = within.formats in
    let long : length so.before ≡ length w.fs = zip_long IsFormatOf so.before w.fs so.alike in
    let (more, rest_is) = rest_from so.before so.rest w.f (ap (λ fs. slice_get fs (length so.before)) (sym so.is) ∙ ap (slice_get w.m.formats) long ∙ within.at_is) in
    let plans : Plans = record { read = w.rs; write = w.ws } in
    let e : FormatPlans = record { name = w.f.name; fields = field_names w.f; plans = Some plans } in
    let alike : IsFormatOf w.f e = record { name = refl; fields = refl; plans = λ p h. let same : plans ≡ p = cc in subst (ArePlansOf w.f) same (record { read = w.reads.of; write = w.writes.of }) } in
    let kept : IsFormatKept e = λ p h. let same : plans ≡ p = cc in subst ArePlansKept same (record { read = record { few = w.reads.few; each = w.reads.kept }; write = record { few = w.writes.few; each = w.writes.kept } }) in
    record {
      v = w.v;
      es = w.es;
      m = w.m;
      tree = w.tree;
      fs = w.fs ++ e ∷ [];
      is =
          ap (λ x. close_format_at stage.Write x (option_and_then (λ m. slice_get m.formats (length x.formats)) (slice_get methods (length x.entries)))) w.is
          ∙ ap (λ o. close_format_at stage.Write (st w.v stage.Write w.es w.tree [] w.fs w.rs w.ws) (option_and_then (λ m. slice_get m.formats (length w.fs)) o)) within.opened.there
          ∙ ap (close_format_at stage.Write (st w.v stage.Write w.es w.tree [] w.fs w.rs w.ws)) within.at_is;
      opened = within.opened;
      so = within.so;
      formats = record {
        before = so.before ++ w.f ∷ [];
        rest = more;
        is = so.is ∙ ap (λ r. so.before ++ r) rest_is ∙ sym (append_assoc so.before (w.f ∷ []) more);
        alike = zip_append IsFormatOf so.before (w.f ∷ []) w.fs (e ∷ []) so.alike (alike, tt);
        kept = all_push IsFormatKept w.fs e so.kept kept;
      };
      lines =
          w.lines ∙ ap (λ r. formats_lines w.v w.es w.m w.tree w.fs ++ r) (sym (append-nil (format_lines e)))
          ∙ append_assoc (tree_lines w.v w.es w.m w.tree) (flat_map format_lines w.fs) (flat_map format_lines (e ∷ []))
          ∙ ap (λ r. tree_lines w.v w.es w.m w.tree ++ r) (sym (flat_map-append format_lines w.fs (e ∷ [])));
    }

-- ---- a method is closed

blank_of : (f : Format) → IsFormatOf f (blank f)
blank_of f = record { name = refl; fields = refl; plans = λ p h. absurd cc }

pub blanks_of : (fs : List Format) → AllZip IsFormatOf fs (map blank fs)
blanks_of [] = tt
blanks_of (f ∷ fs) = (blank_of f, blanks_of fs)

pub blanks_kept : (fs : List Format) → AllByRecursion IsFormatKept (map blank fs)
blanks_kept [] = tt
blanks_kept (f ∷ fs) = ((λ p h. absurd cc), blanks_kept fs)

pub blanks_lines : (fs : List Format) → flat_map format_lines (map blank fs) ≡ []
blanks_lines [] = refl
blanks_lines (f ∷ fs) = blanks_lines fs

names_alike : (fs : List Format) (es : List FormatPlans) (n : ℕ) → AllZip IsFormatOf fs es → format_name (slice_get es n) ≡ format_name (slice_get (map blank fs) n)
names_alike [] [] n h = refl
names_alike [] (e ∷ es) n h = absurd h
names_alike (f ∷ fs) [] n h = absurd h
names_alike (f ∷ fs) (e ∷ es) zero h = ap name_of h.0.name
names_alike (f ∷ fs) (e ∷ es) (suc n) h = names_alike fs es n h.1

first_alike : (fs : List Format) (es : List FormatPlans) → AllZip IsFormatOf fs es → first_names es ≡ first_names (map blank fs)
first_alike [] [] h = refl
first_alike [] (e ∷ es) h = absurd h
first_alike (f ∷ fs) [] h = absurd h
first_alike (f ∷ fs) (e ∷ es) h = h.0.fields

node_alike : (m : Method) (entry : MethodPlans) (x : Node) → IsMethodOf m entry → node_line entry x ≡ node_line (shown m) x
node_alike m entry (Bit o) is = refl
node_alike m entry (Parameter i c) is = ap (λ ps. node_line (record { name = m.name; parameters = ps; tree = []; formats = [] }) (Parameter i c)) is.parameters
node_alike m entry (Reference i c) is = ap (λ ns. codes "ref " ++ name_at ns i ++ codes " " ++ signed_decimal c) (first_alike m.formats entry.formats is.formats)
node_alike m entry (Leaf n) is = ap (λ t. codes "leaf " ++ t) (names_alike m.formats entry.formats n is.formats)
node_alike m entry Nowhere is = refl

pub nodes_alike : (m : Method) (entry : MethodPlans) (xs : List Node) → IsMethodOf m entry → map (node_line entry) xs ≡ map (node_line (shown m)) xs
nodes_alike m entry [] is = refl
nodes_alike m entry (x ∷ xs) is = λ i. node_alike m entry x is i ∷ nodes_alike m entry xs is i

kept_at : (fs : List FormatPlans) → AllByRecursion IsFormatKept fs → AreFormatsKept fs
kept_at [] h n format plans at is = absurd cc
kept_at (f ∷ fs) h zero format plans at is = let same : f ≡ format = cc in h.0 plans (ap (λ x. x.plans) same ∙ is)
kept_at (f ∷ fs) h (suc n) format plans at is = kept_at fs h.1 n format plans at is

pub closed_method : (methods : List Method) (ls : List (List ℕ)) (d : Draft) → InFormats methods ls d → Between methods ls (close_method_at stage.Formats d (slice_get methods (length d.entries)))
closed_method methods ls d w =
    let so = w.formats in
    let told = w.opened.told in
    let long : length so.before ≡ length w.fs = zip_long IsFormatOf so.before w.fs so.alike in
    let (more, rest_is) = rest_from told.before told.rest w.m (ap (λ ms. slice_get ms (length told.before)) (sym told.is) ∙ ap (slice_get methods) (zip_long IsEntryOf told.before w.es told.alike) ∙ w.opened.there) in
    let bl : blanks w.m.formats (length w.fs) (length w.m.formats) ≡ map blank so.rest =
    (λ i. map blank (drop (sym long i) (take_all_of w.m.formats i))) ∙ ap (λ fs. map blank (drop (length so.before) fs)) so.is ∙ ap (map blank) (drop_front so.before so.rest) in
    let entry : MethodPlans = record { name = w.m.name; parameters = w.m.parameters; tree = w.tree; formats = w.fs ++ map blank so.rest } in
    let of : IsMethodOf w.m entry = record {
      used = w.opened.used;
      name = refl;
      parameters = refl;
      tree = w.so.of;
      formats = subst (λ fs. AllZip IsFormatOf fs (w.fs ++ map blank so.rest)) (sym so.is) (zip_append IsFormatOf so.before so.rest w.fs (map blank so.rest) so.alike (blanks_of so.rest));
    } in
    let kept : IsMethodKept w.v entry = record {
      tree = record {
        whole = ap (are_trees 1) (sym (append-nil w.tree)) ∙ w.so.grown [];
        few = w.so.few;
        shallow = subst (λ t. AllByRecursion (λ d. d ≤ depth_limit) (depths (1 ∷ []) t)) (append-nil w.tree) (w.so.deep [] tt);
        each = w.so.kept;
      };
      versed = w.so.versed;
      formats = kept_at (w.fs ++ map blank so.rest) (all_append IsFormatKept w.fs (map blank so.rest) so.kept (blanks_kept so.rest));
    } in
    let shown_formats : flat_map format_lines (w.fs ++ map blank so.rest) ≡ flat_map format_lines w.fs =
    flat_map-append format_lines w.fs (map blank so.rest) ∙ ap (λ r. flat_map format_lines w.fs ++ r) (blanks_lines so.rest) ∙ append-nil (flat_map format_lines w.fs) in
    let head = codes "method " ++ w.m.name in
    record {
      v = w.v;
      es = w.es ++ Some entry ∷ [];
      is =
          ap (λ x. close_method_at stage.Formats x (slice_get methods (length x.entries))) w.is
          ∙ ap (close_method_at stage.Formats (st w.v stage.Formats w.es w.tree [] w.fs [] [])) w.opened.there
          ∙ ap (λ b. st w.v stage.Between (w.es ++ Some record { name = w.m.name; parameters = w.m.parameters; tree = w.tree; formats = w.fs ++ b } ∷ []) [] [] [] [] []) bl;
      told = record {
        before = told.before ++ w.m ∷ [];
        rest = more;
        is = told.is ∙ ap (λ r. told.before ++ r) rest_is ∙ sym (append_assoc told.before (w.m ∷ []) more);
        alike = zip_append IsEntryOf told.before (w.m ∷ []) w.es (Some entry ∷ []) told.alike (of, tt);
        kept = all_push (IsEntryKept w.v) w.es (Some entry) told.kept kept;
      };
      lines =
          w.lines ∙ append_assoc (front w.v w.es) (head ∷ map (node_line (shown w.m)) w.tree) (flat_map format_lines w.fs)
          ∙ (λ i. front w.v w.es ++ (head ∷ (sym (nodes_alike w.m entry w.tree of) i ++ sym shown_formats i)))
          ∙ ap (λ r. front w.v w.es ++ r) (sym (append-nil (method_lines (Some entry))))
          ∙ ap (λ r. (codes "rohcfn-certificate " ++ version_word w.v) ∷ r) (sym (flat_map-append method_lines w.es (Some entry ∷ [])));
    }
  where
    take_all_of : {A : Type 0} (xs : List A) → take (length xs) xs ≡ xs
    take_all_of xs = ap (take (length xs)) (sym (append-nil xs)) ∙ take_front xs []
