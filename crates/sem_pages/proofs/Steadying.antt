-- What is steady on a page fits again in each context that has the page's entries.
use Rattle.std.proofs.Common.{◌≡◌, ◌∙◌, refl, sym, ap, subst, ℕ, zero, suc, Bool, false, cond, List, [], ◌∷◌, ◌++◌, map, drop}
use Rattle.std.specs.Prelude.{slice_get, Option, Some, option_and_then, option_map, ℤ}
use Rattle.std.specs.List.{flat_map, AllByRecursion, IsDistinct}
use Rattle.std.specs.Map.{keys_of}
use Rattle.std.specs.Option.{option_or}
use Rattle.std.specs.Str.{bytes_eq}
use Rattle.std.proofs.lemmas.Slice.Eq.{bytes_eq-Decides}
use Rattle.sem_context.specs.Entries.{AreDistinct, Entries, bits_at}
use Rattle.sem_context.proofs.EntriesOverrides.{bytes_eq-sym}
use Rattle.sem_expr.specs.declared.expr.Expr.{Expr}
use Rattle.sem_expr.specs.declared.expr.Side.{Side}
use Rattle.sem_expr.specs.declared.expr.Subject.{Subject}
use Rattle.sem_expr.specs.Values.{Assignment, val}
use Rattle.sem_library.specs.Methods as lib
use Rattle.sem_library.specs.Methods.{Lib}
use Rattle.sem_profile.specs.declared.profile.Encoding as normal
use Rattle.sem_profile.specs.declared.profile.Encoding.TheVariants as encoding
use Rattle.sem_profile.specs.declared.profile.Field.{Field}
use Rattle.sem_profile.specs.declared.profile.Format.{Format}
use Rattle.sem_profile.specs.declared.profile.Library.{Library}
use Rattle.sem_profile.specs.declared.profile.Library.TheVariants as library
use Rattle.sem_profile.specs.declared.profile.Method.{Method}
use Rattle.sem_profile.specs.declared.profile.Part.{Part}
use Rattle.sem_profile.specs.declared.profile.Part.TheVariants.{Header, Control, Local}
use Rattle.sem_filling.specs.declared.filling.Filling.{Filling, out-Filling}
use Rattle.sem_filling.specs.declared.filling.FilledField.{FilledField}
use Rattle.sem_filling.specs.Fillings.{Sides, sides_of, inner_of, fields_of, level}
use Rattle.sem_filling.specs.Entries.{Path, below, own_entry, entries, entries_below}
use Rattle.sem_filling.specs.FillingLaws.{entries_at, entries_inside}
use Rattle.sem_filling.specs.Fits.{Context, Fits, fits, FieldFits, coded, called, assigned, format_at, method_of, reference_of, side_of, two_values, vals}
use Rattle.sem_filling.proofs.EntriesLevels.{entries_are}
use Rattle.sem_filling.proofs.FitsInverted.{parts}
use Rattle.sem_pages.proofs.InOrder.{passed_all}
use Rattle.sem_pages.proofs.Leaving.{inside_call, mapped_at, shown_by}
use Rattle.sem_pages.specs.declared.page.Page.{Page, out-Page}
use Rattle.sem_pages.specs.declared.page.Shown.{Shown, out-Shown}
use Rattle.sem_pages.specs.Pages.{Shows, ShowsInside, level_by, numbers_in, side_in, sides_by, shows}
use Rattle.sem_pages.specs.Prepared.{IsNumber}
use Rattle.sem_pages.specs.declared.entries.Progress.{Progress}
use Rattle.sem_pages.specs.Progress.{GoesOn, WhereKnown, changed}
use Rattle.sem_pages.specs.Steady.{AreLeaves, AreLiterals, Has, HasEntry, IsKept, IsLeafBy, IsSteadyAs, IsSteadyBy, IsSteadyInside}

-- ---- entries that are there

at_first : {A : Type 0} (xs ys : List A) (n : ℕ) (x : A) → slice_get xs n ≡ Some x → slice_get (xs ++ ys) n ≡ Some x
at_first [] ys n x at = absurd (cc)
at_first (z ∷ xs) ys zero x at = at
at_first (z ∷ xs) ys (suc n) x at = at_first xs ys n x at

has_first : (ctx : Context) (xs ys : Entries) → Has ctx (xs ++ ys) → Has ctx xs
has_first ctx xs ys has n e at = has n e (at_first xs ys n e at)

has_second : (ctx : Context) (xs ys : Entries) → Has ctx (xs ++ ys) → Has ctx ys
has_second ctx [] ys has = has
has_second ctx (x ∷ xs) ys has = has_second ctx xs ys (λ n e at. has (suc n) e at)

-- those of the field at a place
has_at : (ctx : Context) (path : Path) (gs : List FilledField) (i : ℕ) (g : FilledField) → slice_get gs i ≡ Some g → Has ctx (flat_map (entries_at path) gs) → Has ctx (entries_at path g)
has_at ctx path [] i g at has = absurd (cc)
has_at ctx path (h ∷ gs) zero g at has =
    let one : Some h ≡ Some g = at in
    let same : h ≡ g = cc in
    subst (λ x. Has ctx (entries_at path x)) same (has_first ctx (entries_at path h) (flat_map (entries_at path) gs) has)
has_at ctx path (h ∷ gs) (suc i) g at has = has_at ctx path gs i g at (has_second ctx (entries_at path h) (flat_map (entries_at path) gs) has)

has_field : (ctx : Context) (path : Path) (f : Filling) (i : ℕ) (g : FilledField) → slice_get (fields_of f) i ≡ Some g → Has ctx (entries_below f path) → Has ctx (entries_at path g)
has_field ctx path f i g at has = has_at ctx path (fields_of f) i g at (subst (Has ctx) (entries_are f path) has)

-- entries in front of others, where no path stands twice
apart : (p : Path) (ks : List Path) (n : ℕ) (path : Path) → AllByRecursion (λ y. bytes_eq p y ≡ false) ks → slice_get ks n ≡ Some path → bytes_eq p path ≡ false
apart p [] n path h at = absurd (cc)
apart p (k ∷ ks) zero path h at = let same : k ≡ path = cc in subst (λ z. bytes_eq p z ≡ false) same h.0
apart p (k ∷ ks) (suc n) path h at = apart p ks n path h.1 at

key_at : (es : Entries) (n : ℕ) (e : Path × List Bool) → slice_get es n ≡ Some e → slice_get (keys_of es) n ≡ Some e.0
key_at [] n e at = absurd (cc)
key_at (x ∷ es) zero e at = let same : x ≡ e = cc in ap (λ z. Some z.0) same
key_at (x ∷ es) (suc n) e at = key_at es n e at

pub front_has : (es rest : Entries) (more : List Path) → IsDistinct bytes_eq (keys_of es ++ more) → Has (bits_at (es ++ rest)) es
unfolding IsDistinct
front_has [] rest more distinct n e at = absurd (cc)
front_has (x ∷ es) rest more distinct zero e at =
    let one : Some x ≡ Some e = at in
    let same : x ≡ e = cc in
    ap (λ b. cond b (Some x.1) (bits_at (es ++ rest) e.0)) ((bytes_eq-Decides e.0 x.0).1 (ap (λ z. z.0) (sym same))) ∙ ap (λ z. Some z.1) same
front_has (x ∷ es) rest more distinct (suc n) e at =
    ap (λ b. cond b (Some x.1) (bits_at (es ++ rest) e.0))
    (bytes_eq-sym e.0 x.0 ∙ apart x.0 (keys_of es ++ more) n e.0 distinct.0 (at_first (keys_of es) more n e.0 (key_at es n e at)))
    ∙ front_has es rest more distinct.1 n e at

-- a context that went on by what a filling leaves has that
pub all_there : (known : Bool) (ctx : Entries) (begun p : Progress) (f : Filling) → AreDistinct ctx → begun.passed ≡ 0 → begun.changes.items ≡ [] → GoesOn known ctx begun p (entries f) → WhereKnown known ctx (entries f)
    → Has (bits_at (changed ctx p.changes.items)) (entries f)
all_there known ctx begun p f distinct first none goes where_known =
    let passed = passed_all known ctx begun p f first none goes where_known in
    subst (λ es. Has (bits_at es) (entries f)) (sym passed.changed_are) (front_has (entries f) (drop p.passed ctx) passed.more (subst (IsDistinct bytes_eq) passed.paths_are distinct))

-- ---- a constant, or `static`

reference_there : (part : Part) (ctx : Context) (path : Path) (initial : Option (List Bool)) (bits : List Bool) → HasEntry part → Has ctx (own_entry part path bits) → reference_of part ctx path initial ≡ Some bits
reference_there Header ctx path initial bits entry has = ap (λ o. option_or o initial) (has 0 (path, bits) refl)
reference_there Control ctx path initial bits entry has = ap (λ o. option_or o initial) (has 0 (path, bits) refl)
reference_there Local ctx path initial bits entry has = absurd entry

-- the library method with other numbers and another reference
record Again (side : Subject → Side → List Bool) (a : Assignment) (l : Library) (ref : Option (List Bool)) (u c : List Bool) : Type 0 where
  method : lib.Method
  method_is : method_of side a l ≡ Some method
  related : Lib method ref u c

two_numbers : (make : ℤ → ℤ → lib.Method) (x y : Expr) (n k : ℤ) → IsNumber x n → IsNumber y k → (a : Assignment) → two_values make (val a x) (val a y) ≡ Some (make n k)
two_numbers make x y n k one other a = λ i. two_values make (one a i) (other a i)

again : (part : Part) (l : Library) (side side2 : Subject → Side → List Bool) (a b : Assignment) (m : lib.Method) (ref own : Option (List Bool)) (u c : List Bool) → IsSteadyBy part l → (HasEntry part → own ≡ Some u) → method_of side a l ≡ Some m → Lib m ref u c
    → Again side2 b l own u c
again part (library.UncompressedValue len v) side side2 a b m ref own u c steady there is related =
    let told = two_numbers lib.uncompressed_value len v steady.0.0 steady.1.0 steady.0.1 steady.1.1 in
    let one : Some m ≡ Some (lib.uncompressed_value steady.0.0 steady.1.0) = sym is ∙ told a in
    let same : m ≡ lib.uncompressed_value steady.0.0 steady.1.0 = cc in
    record { method = lib.uncompressed_value steady.0.0 steady.1.0; method_is = told b; related = subst (λ z. Lib z ref u c) same related }
again part (library.CompressedValue len v) side side2 a b m ref own u c steady there is related =
    let told = two_numbers lib.compressed_value len v steady.0.0 steady.1.0 steady.0.1 steady.1.1 in
    let one : Some m ≡ Some (lib.compressed_value steady.0.0 steady.1.0) = sym is ∙ told a in
    let same : m ≡ lib.compressed_value steady.0.0 steady.1.0 = cc in
    record { method = lib.compressed_value steady.0.0 steady.1.0; method_is = told b; related = subst (λ z. Lib z ref u c) same related }
again part library.Static side side2 a b m ref own u c steady there is related =
    let one : Some lib.static ≡ Some m = is in
    let same : m ≡ lib.static = cc in
    let r : Lib lib.static ref u c = subst (λ z. Lib z ref u c) same related in
    record { method = lib.static; method_is = refl; related = (there steady, r.1, r.2) }
again part (library.Irregular len) side side2 a b m ref own u c steady there is related = absurd steady
again part (library.Lsb k offset) side side2 a b m ref own u c steady there is related = absurd steady
again part (library.Crc crc) side side2 a b m ref own u c steady there is related = absurd steady

own_has : (ctx : Context) (path : Path) (g : FilledField) → Has ctx (entries_at path g) → Has ctx (own_entry (sides_of g).declared.part (below path (sides_of g).declared.name) (sides_of g).uncompressed)
own_has ctx path g has = has_first ctx _ (entries_inside (inner_of g) (below path (sides_of g).declared.name)) has

inside_has : (ctx : Context) (path : Path) (g : FilledField) (f : Filling) → inner_of g ≡ Some f → Has ctx (entries_at path g) → Has ctx (entries_below f (below path (sides_of g).declared.name))
inside_has ctx path g f is has =
    let here = below path (sides_of g).declared.name in
    subst (λ o. Has ctx (entries_inside o here)) is (has_second ctx (own_entry (sides_of g).declared.part here (sides_of g).uncompressed) (entries_inside (inner_of g) here) has)

coded_again : (methods : List Method) (ctx other : Context) (side side2 : Subject → Side → List Bool) (a b : Assignment) (path : Path) (d : Field) (l : Library) (g : FilledField) → (sides_of g).declared ≡ d.declared → IsSteadyBy d.declared.part l
    → Has other (entries_at path g) → FieldFits methods ctx side a path d (encoding.Library l) g → FieldFits methods other side2 b path d (encoding.Library l) g
coded_again methods ctx other side side2 a b path d l g declared steady has (coded m is related none) =
    let u = (sides_of g).uncompressed in
    let c = (sides_of g).compressed in
    let own : Has other (own_entry d.declared.part (below path d.declared.name) u) = subst (λ x. Has other (own_entry x.part (below path x.name) u)) declared (own_has other path g has) in
    let found = again d.declared.part l side side2 a b m (reference_of d.declared.part ctx (below path d.declared.name) d.initial) (reference_of d.declared.part other (below path d.declared.name) d.initial) u c steady
    (λ entry. reference_there d.declared.part other (below path d.declared.name) d.initial u entry own) is related in
    coded found.method found.method_is found.related none

leaf_again : (methods : List Method) (ctx other : Context) (side side2 : Subject → Side → List Bool) (a b : Assignment) (path : Path) (d : Field) (e : normal.Encoding) (g : FilledField) → (sides_of g).declared ≡ d.declared → IsLeafBy d.declared.part e
    → Has other (entries_at path g) → FieldFits methods ctx side a path d e g → FieldFits methods other side2 b path d e g
leaf_again methods ctx other side side2 a b path d encoding.Bare g declared leaf has fit = absurd leaf
leaf_again methods ctx other side side2 a b path d (encoding.Library l) g declared leaf has fit = coded_again methods ctx other side side2 a b path d l g declared leaf has fit
leaf_again methods ctx other side side2 a b path d (encoding.Call k es) g declared leaf has fit = absurd leaf

-- ---- what is inside

-- the declared parts of a field of a filling are those of its format's
declared_at : (ds : List Field) (gs : List FilledField) (i : ℕ) (d : Field) (g : FilledField) → map (λ (s : Sides). s.declared) (map sides_of gs) ≡ map (λ d. d.declared) ds → slice_get ds i ≡ Some d → slice_get gs i ≡ Some g → (sides_of g).declared ≡ d.declared
declared_at [] gs i d g same here there = absurd (cc)
declared_at (x ∷ ds) [] i d g same here there = absurd (cc)
declared_at (x ∷ ds) (y ∷ gs) zero d g same here there =
    let one : Some x ≡ Some d = here in
    let other : Some y ≡ Some g = there in
    let first : (sides_of y).declared ≡ x.declared = cc in
    let xd : x ≡ d = cc in
    let yg : y ≡ g = cc in
    ap (λ z. (sides_of z).declared) (sym yg) ∙ first ∙ ap (λ z. z.declared) xd
declared_at (x ∷ ds) (y ∷ gs) (suc i) d g same here there =
    let rest : map (λ (s : Sides). s.declared) (map sides_of gs) ≡ map (λ d. d.declared) ds = cc in
    declared_at ds gs i d g rest here there

fits_again : (methods : List Method) (ctx other : Context) (k : ℕ) (args : List ℤ) (path : Path) (f : Filling) (own : Format) → format_at methods k (out-Filling f).format ≡ Some own → AreLeaves own.fields → Has other (entries_below f path)
    → Fits methods ctx k args path f → Fits methods other k args path f
fits_again methods ctx other k args path f own own_is leaves has (fits format is level_fits each) =
    let one : Some own ≡ Some format = sym own_is ∙ is in
    let same : own ≡ format = cc in
    fits format is level_fits (λ i d g here there.
    leaf_again methods ctx other (side_of format.listing (level f)) (side_of format.listing (level f)) (assigned format.listing (level f) args) (assigned format.listing (level f) args) path d d.encoding g
    (declared_at format.fields (fields_of f) i d g level_fits.shaped.declared_is here there) (subst (λ z. AreLeaves z.fields) same leaves i d here) (has_field other path f i g there has) (each i d g here there))

format_shown : (methods : List Method) {k : ℕ} {p : Page} {f : Filling} → Shows methods k p f → (out-Filling f).format ≡ (out-Page p).format
format_shown methods (shows format there format_is listing_is level_is each) = format_is

always : (es : List Expr) (a b : Assignment) → AreLiterals es → vals a es ≡ vals b es
always [] a b told = refl
always (e ∷ es) a b told =
    let one = told 0 e refl in
    (λ i. option_and_then (λ v. option_map (λ vs. v ∷ vs) (always es a b (λ n x at. told (suc n) x at) i)) ((one.1 a ∙ sym (one.1 b)) i))

called_again : (methods : List Method) (ctx other : Context) (side side2 : Subject → Side → List Bool) (a b : Assignment) (path : Path) (d : Field) (k : ℕ) (es : List Expr) (s : Shown) (g : FilledField) → (sides_of g).declared ≡ d.declared
    → d.encoding ≡ encoding.Call k es → AreLiterals es → IsSteadyInside methods k s → ShowsInside methods d.encoding (out-Shown s).inner (inner_of g) → Has other (entries_at path g)
    → FieldFits methods ctx side a path d (encoding.Call k es) g → FieldFits methods other side2 b path d (encoding.Call k es) g
called_again methods ctx other side side2 a b path d k es s g declared call told steady shown has (called args inner values filled fit up down) =
    let found = inside_call methods k es steady.page steady.page_is call shown in
    let one : Some found.0 ≡ Some inner = sym found.1 ∙ filled in
    let same : found.0 ≡ inner = cc in
    let page_shown : Shows methods k steady.page inner = subst (Shows methods k steady.page) same found.2 in
    let own_is : format_at methods k (out-Filling inner).format ≡ Some steady.format = ap (format_at methods k) (format_shown methods page_shown) ∙ steady.format_is in
    let there : Has other (entries_below inner (below path d.declared.name)) = subst (λ x. Has other (entries_below inner (below path x.name))) declared (inside_has other path g inner filled has) in
    called args inner (always es b a told ∙ values) filled (fits_again methods ctx other k args (below path d.declared.name) inner steady.format own_is steady.leaves there fit) up down

-- ---- a field of a page

field_again : (methods : List Method) (ctx other : Context) (side side2 : Subject → Side → List Bool) (a b : Assignment) (path : Path) (d : Field) (e : normal.Encoding) (s : Shown) (g : FilledField) → (sides_of g).declared ≡ d.declared → d.encoding ≡ e
    → IsSteadyAs methods d.declared.part e s → ShowsInside methods d.encoding (out-Shown s).inner (inner_of g) → Has other (entries_at path g) → FieldFits methods ctx side a path d e g → FieldFits methods other side2 b path d e g
field_again methods ctx other side side2 a b path d encoding.Bare s g declared is steady shown has fit = absurd steady
field_again methods ctx other side side2 a b path d (encoding.Library l) s g declared is steady shown has fit = coded_again methods ctx other side side2 a b path d l g declared steady has fit
field_again methods ctx other side side2 a b path d (encoding.Call k es) s g declared is steady shown has fit = called_again methods ctx other side side2 a b path d k es s g declared is steady.0 steady.1 shown has fit

sides_at : (ds : List Field) (ss : List Shown) (i : ℕ) (d : Field) (s : Shown) → slice_get ds i ≡ Some d → slice_get ss i ≡ Some s → slice_get (level_by ds ss) i ≡ Some (sides_by d s)
sides_at [] ss i d s here there = absurd (cc)
sides_at (x ∷ ds) [] i d s here there = absurd (cc)
sides_at (x ∷ ds) (y ∷ ss) zero d s here there =
    let one : Some x ≡ Some d = here in
    let other : Some y ≡ Some s = there in
    let xd : x ≡ d = cc in
    let ys : y ≡ s = cc in
    λ i. Some (sides_by (xd i) (ys i))
sides_at (x ∷ ds) (y ∷ ss) (suc i) d s here there = sides_at ds ss i d s here there

-- the field of a filling that fits, by the format
field_fits : (methods : List Method) (ctx : Context) (k : ℕ) (args : List ℤ) (path : Path) (f : Filling) (format : Format) (i : ℕ) (d : Field) (g : FilledField) → format_at methods k (out-Filling f).format ≡ Some format → Fits methods ctx k args path f
    → slice_get format.fields i ≡ Some d → slice_get (fields_of f) i ≡ Some g → FieldFits methods ctx (side_of format.listing (level f)) (assigned format.listing (level f) args) path d d.encoding g
field_fits methods ctx k args path f format i d g at fit here there =
    let all = parts fit in
    let one : Some all.format ≡ Some format = sym all.is_format ∙ at in
    let same : all.format ≡ format = cc in
    subst (λ (z : Format). FieldFits methods ctx (side_of z.listing (level f)) (assigned z.listing (level f) args) path d d.encoding g) same (all.each i d g (ap (λ (z : Format). slice_get z.fields i) same ∙ here) there)

-- each steady field of a page fits again where the entries of what it shows are
pub kept_by : (methods : List Method) (ctx other : Context) (k : ℕ) (args : List ℤ) (path : Path) (p : Page) (f : Filling) → Fits methods ctx k args path f → Shows methods k p f → Has other (entries_below f path) → IsKept methods other k path p
kept_by methods ctx other k args path p f fit shown has format at i d s here there steady l =
    let by = shown_by methods format at shown in
    let found = mapped_at sides_of (fields_of f) i (sides_by d s) (ap (λ zs. slice_get zs i) by.level_is ∙ sides_at format.fields (out-Page p).fields i d s here there) in
    let g = found.0 in
    let inside = subst (λ o. ShowsInside methods d.encoding (out-Shown s).inner (option_and_then inner_of o)) found.1 (by.each i d s here there) in
    let fitting = field_fits methods ctx k args path f format i d g (ap (format_at methods k) (format_shown methods shown) ∙ at) fit here found.1 in (
      g,
      record {
        sides_are = found.2;
        fits = field_again methods ctx other (side_of format.listing (level f)) (side_in l) (assigned format.listing (level f) args) (numbers_in l) path d d.encoding s g (ap (λ (x : Sides). x.declared) found.2) refl steady inside
            (has_field other path f i g found.1 has) fitting;
        inside = inside;
      },
    )
