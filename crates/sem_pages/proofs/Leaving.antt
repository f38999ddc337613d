-- What the filling of a page leaves in the context, field by field.
use Rattle.std.proofs.Common.{◌≡◌, ◌∙◌, refl, sym, ap, subst, ℕ, suc, zero, ◌+◌, ◌<◌, ◌≤◌, map, length, drop, List, [], ◌∷◌, ◌++◌, append_assoc, append-nil, add-one, Bool, true, false, arith}
use Rattle.std.specs.Prelude.{slice_get, Option, Some, None, option_and_then, unwrap_or}
use Rattle.sem_expr.specs.declared.expr.Expr.{Expr}
use Rattle.sem_profile.specs.declared.profile.Encoding.{Encoding}
use Rattle.sem_profile.specs.declared.profile.Encoding.TheVariants as encoding
use Rattle.sem_profile.specs.declared.profile.Field.{Field}
use Rattle.sem_profile.specs.declared.profile.Format.{Format}
use Rattle.sem_profile.specs.declared.profile.Method.{Method}
use Rattle.sem_filling.specs.declared.filling.Filling.{Filling}
use Rattle.sem_filling.specs.declared.filling.FilledField.{FilledField}
use Rattle.sem_filling.specs.declared.filling.AskedValue.{AskedValue}
use Rattle.sem_filling.specs.Fillings.{Sides, sides_of, inner_of, inner_at, fields_of, level, asked_values}
use Rattle.std.specs.List.{flat_map}
use Rattle.std.proofs.lemmas.List.{length-map}
use Rattle.sem_filling.specs.Entries.{Path, below, own_entry, entries_below}
use Rattle.sem_context.specs.Entries.{Entries}
use Rattle.sem_pages.specs.declared.entries.Progress.{Progress}
use Rattle.sem_pages.specs.Progress.{GoesOn}
use Rattle.sem_filling.specs.FillingLaws.{entries_at}
use Rattle.sem_pages.proofs.InOrder.{GoesTo, ends, field_goes, none_inside, some_inside}
use Rattle.sem_filling.specs.Fits.{format_at}
use Rattle.sem_pages.specs.declared.page.Page.{Page, out-Page}
use Rattle.sem_pages.specs.declared.page.Shown.{Shown, out-Shown}
use Rattle.sem_filling.proofs.FillingsAsked.{drop_at}
use Rattle.sem_pages.specs.Pages.{sides_by, value_by, level_by, Shows, ShowsInside, shows, nothing, called, StandsFor}
use Rattle.sem_pages.proofs.Levels.{level_at, level_drop, level_length}

pub mapped_at : {A B : Type 0} (f : A → B) (xs : List A) (i : ℕ) (y : B) → slice_get (map f xs) i ≡ Some y → (x : A) × (slice_get xs i ≡ Some x) × (f x ≡ y)
mapped_at f [] i y at = let wrong : None ≡ Some y = at in absurd cc
mapped_at f (x ∷ xs) zero y at = let one : Some (f x) ≡ Some y = at in (x, refl, cc)
mapped_at f (x ∷ xs) (suc i) y at = mapped_at f xs i y at

-- what a page that shows a filling says, for a format that is known
pub record Shown_by (methods : List Method) (p : Page) (f : Filling) (format : Format) : Type 0 where
  pub level_is : level f ≡ level_by format.fields (out-Page p).fields
  pub each : (i : ℕ) (d : Field) (s : Shown) → slice_get format.fields i ≡ Some d → slice_get (out-Page p).fields i ≡ Some s → ShowsInside methods d.encoding (out-Shown s).inner (inner_at f i)

pub shown_by : (methods : List Method) {k : ℕ} {p : Page} {f : Filling} (format : Format) → format_at methods k (out-Page p).format ≡ Some format → Shows methods k p f → Shown_by methods p f format
shown_by methods {k} {p} {f} format at (shows other there format_is listing_is level_is each) =
    let one : Some other ≡ Some format = sym there ∙ at in
    let same : other ≡ format = cc in
    subst (Shown_by methods p f) same record { level_is = level_is; each = each }

pub level_shown : (methods : List Method) {k : ℕ} {p : Page} {f : Filling} (format : Format) → format_at methods k (out-Page p).format ≡ Some format → Shows methods k p f → level f ≡ level_by format.fields (out-Page p).fields
level_shown methods format at shown = (shown_by methods format at shown).level_is

-- the field of the filling at a place
pub field_shown : (methods : List Method) {k : ℕ} {p : Page} {f : Filling} (format : Format) (i : ℕ) (d : Field) (s : Shown) → format_at methods k (out-Page p).format ≡ Some format → length (out-Page p).fields ≡ length format.fields
    → slice_get format.fields i ≡ Some d → slice_get (out-Page p).fields i ≡ Some s → Shows methods k p f → (g : FilledField) × (slice_get (fields_of f) i ≡ Some g) × StandsFor methods d s g
field_shown methods {k} {p} {f} format i d s at count here there shown =
    let by = shown_by methods format at shown in
    let found = level_at format.fields (out-Page p).fields i s count there in
    let one : Some found.0 ≡ Some d = sym found.1 ∙ here in
    let same : found.0 ≡ d = cc in
    let g = mapped_at sides_of (fields_of f) i (sides_by d s) (ap (λ zs. slice_get zs i) by.level_is ∙ found.2 ∙ ap (λ x. Some (sides_by x s)) same) in (
      g.0,
      g.1,
      record { sides_are = g.2; inside = subst (λ o. ShowsInside methods d.encoding (out-Shown s).inner (option_and_then inner_of o)) g.1 (by.each i d s here there) },
    )

-- what is inside a field
pub inside_none : (methods : List Method) {e : Encoding} {o : Option Page} {q : Option Filling} → o ≡ None → ShowsInside methods e o q → q ≡ None
inside_none methods none nothing = refl
inside_none methods none (called e shown) = absurd (cc)

pub inside_call : (methods : List Method) {e : Encoding} {o : Option Page} {q : Option Filling} (k : ℕ) (es : List Expr) (p : Page) → o ≡ Some p → e ≡ encoding.Call k es → ShowsInside methods e o q
    → (f : Filling) × (q ≡ Some f) × Shows methods k p f
inside_call methods k es p is call nothing = absurd (cc)
inside_call methods k es p is call (called {k = j} {es = xs} {p = other} {f = f} e shown) =
    let both : encoding.Call j xs ≡ encoding.Call k es = sym e ∙ call in
    let n : j ≡ k = cc in
    let one : Some other ≡ Some p = is in
    let same : other ≡ p = cc in
    (f, refl, subst (λ x. Shows methods x p f) n (subst (λ x. Shows methods j x f) same shown))

-- ---- asked values

cut_asked : (x : Sides) (xs : List Sides) → asked_values (x ∷ xs) ≡ asked_values (x ∷ []) ++ asked_values xs
cut_asked x xs = by x.declared.asked refl
  where
    by : (b : Bool) → x.declared.asked ≡ b → asked_values (x ∷ xs) ≡ asked_values (x ∷ []) ++ asked_values xs
    by true e = rw e refl
    by false e = rw e refl

-- one more field
pub asked_next : (ds : List Field) (ss : List Shown) (i : ℕ) (d : Field) (s : Shown) (front whole : List AskedValue) → slice_get ds i ≡ Some d → slice_get ss i ≡ Some s
    → front ++ asked_values (level_by (drop i ds) (drop i ss)) ≡ whole → (front ++ asked_values (sides_by d s ∷ [])) ++ asked_values (level_by (drop (i + 1) ds) (drop (i + 1) ss)) ≡ whole
asked_next ds ss i d s front whole here there is =
    rw add-one (append_assoc front (asked_values (sides_by d s ∷ [])) (asked_values (level_by (drop (suc i) ds) (drop (suc i) ss)))
    ∙ ap (λ z. front ++ z) (sym (cut_asked (sides_by d s) (level_by (drop (suc i) ds) (drop (suc i) ss))))
    ∙ ap (λ z. front ++ asked_values z) (sym (level_drop ds ss i d s here there))
    ∙ is)

drop_end : {A : Type 0} (xs : List A) (n : ℕ) → length xs ≤ n → drop n xs ≡ []
drop_end [] zero le = refl
drop_end [] (suc n) le = refl
drop_end (x ∷ xs) zero le = absurd (omega (arith, le))
drop_end (x ∷ xs) (suc n) le = drop_end xs n (omega (arith, le))

-- at the end
pub asked_end : (ds : List Field) (ss : List Shown) (n : ℕ) (values whole : List AskedValue) → length ds ≤ n → values ++ asked_values (level_by (drop n ds) (drop n ss)) ≡ whole → values ≡ whole
asked_end ds ss n values whole le is = sym (append-nil values) ∙ ap (λ z. values ++ asked_values (level_by z (drop n ss))) (sym (drop_end ds n le)) ∙ is

-- the asked values of the filling are those of what is shown
pub asked_by : (methods : List Method) {k : ℕ} {p : Page} {f : Filling} (format : Format) (ds : List Field) (ss : List Shown) (values : List AskedValue) → format_at methods k (out-Page p).format ≡ Some format → ds ≡ format.fields
    → ss ≡ (out-Page p).fields → values ≡ asked_values (level_by ds ss) → Shows methods k p f → values ≡ asked_values (level f)
asked_by methods format ds ss values at ds_are ss_are is shown =
    is ∙ ap (λ z. asked_values (level_by z ss)) ds_are ∙ ap (λ z. asked_values (level_by format.fields z)) ss_are ∙ ap asked_values (sym (level_shown methods format at shown))

-- ---- asked values that are compared

skip_asked : (x : Sides) (xs : List Sides) → x.declared.asked ≡ false → asked_values (x ∷ xs) ≡ asked_values xs
skip_asked x xs e = rw e refl

take_asked : (x : Sides) (xs : List Sides) → x.declared.asked ≡ true → asked_values (x ∷ xs) ≡ (record { name = x.declared.name; bits = x.uncompressed }) ∷ asked_values xs
take_asked x xs e = rw e refl

-- where those of the fields from one on are the values from a place on, all of them are the values
abbrev pub RestIs : List Field → List Shown → List AskedValue → ℕ → ℕ → Type 0
RestIs ds ss values i place = asked_values (level_by (drop i ds) (drop i ss)) ≡ drop place values → asked_values (level_by ds ss) ≡ values

pub element_at : {A : Type 0} (xs : List A) (i : ℕ) → i < length xs → (x : A) × (slice_get xs i ≡ Some x)
element_at [] i l = absurd (omega (arith, l))
element_at (x ∷ xs) zero l = (x, refl)
element_at (x ∷ xs) (suc i) l = element_at xs i (omega (arith, l))

module _ (ds : List Field) (ss : List Shown) (values : List AskedValue) where
  pub rest_start : RestIs ds ss values 0 0
  rest_start e = e

  -- past a field that isn't asked
  pub rest_past : (i place : ℕ) (d : Field) (s : Shown) → slice_get ds i ≡ Some d → slice_get ss i ≡ Some s → d.declared.asked ≡ false → RestIs ds ss values i place → RestIs ds ss values (i + 1) place
  rest_past i place d s here there is rest e =
      let on : asked_values (level_by (drop (suc i) ds) (drop (suc i) ss)) ≡ drop place values = rw add-one at e in
      rest (ap asked_values (level_drop ds ss i d s here there) ∙ skip_asked (sides_by d s) (level_by (drop (suc i) ds) (drop (suc i) ss)) is ∙ on)

  -- past one whose value is at the place
  pub rest_on : (i place : ℕ) (d : Field) (s : Shown) → slice_get ds i ≡ Some d → slice_get ss i ≡ Some s → d.declared.asked ≡ true → slice_get values place ≡ Some (value_by d s) → RestIs ds ss values i place
      → RestIs ds ss values (i + 1) (place + 1)
  rest_on i place d s here there is next rest e =
      let on : asked_values (level_by (drop (suc i) ds) (drop (suc i) ss)) ≡ drop (suc place) values = rw (add-one i, add-one place) at e in
      rest (ap asked_values (level_drop ds ss i d s here there) ∙ take_asked (sides_by d s) (level_by (drop (suc i) ds) (drop (suc i) ss)) is ∙ ap (λ z. value_by d s ∷ z) on ∙ sym (drop_at values place (value_by d s) next))

  pub rest_end : (n place : ℕ) → length ds ≤ n → length values ≤ place → RestIs ds ss values n place → asked_values (level_by ds ss) ≡ values
  rest_end n place le over rest = rest (ap (λ z. asked_values (level_by z (drop n ss))) (drop_end ds n le) ∙ sym (drop_end values place over))

-- ---- entries

-- of a field with these sides
own_goes : (known : Bool) (ctx : Entries) (old new : Progress) (d : Field) (s : Shown) (g : FilledField) (here : Path) → sides_of g ≡ sides_by d s → GoesOn known ctx old new (own_entry d.declared.part here (unwrap_or (out-Shown s).uncompressed []))
    → GoesOn known ctx old new (own_entry (sides_of g).declared.part here (sides_of g).uncompressed)
own_goes known ctx old new d s g here is goes = subst (λ (x : Sides). GoesOn known ctx old new (own_entry x.declared.part here x.uncompressed)) (sym is) goes

-- a field with nothing inside
pub plain_goes : (known : Bool) (methods : List Method) (ctx : Entries) (old new : Progress) (path : Path) (d : Field) (s : Shown) → (out-Shown s).inner ≡ None
    → GoesOn known ctx old new (own_entry d.declared.part (below path d.declared.name) (unwrap_or (out-Shown s).uncompressed [])) → (g : FilledField) → StandsFor methods d s g → GoesOn known ctx old new (entries_at path g)
plain_goes known methods ctx old new path d s none own g stands =
    let here = below path d.declared.name in
    field_goes known ctx old new new path here g (ap (λ (x : Sides). below path x.declared.name) (sym stands.sides_are)) (own_goes known ctx old new d s g here stands.sides_are own)
    (none_inside known ctx new (inner_of g) here (inside_none methods none stands.inside))

-- a field that calls a method
pub called_goes : (known : Bool) (methods : List Method) (ctx : Entries) (old mid new : Progress) (path here : Path) (d : Field) (s : Shown) (k : ℕ) (es : List Expr) (p : Page) → (out-Shown s).inner ≡ Some p → d.encoding ≡ encoding.Call k es
    → here ≡ below path d.declared.name → GoesOn known ctx old mid (own_entry d.declared.part here (unwrap_or (out-Shown s).uncompressed [])) → ((f : Filling) → Shows methods k p f → GoesOn known ctx mid new (entries_below f here))
    → (g : FilledField) → StandsFor methods d s g → GoesOn known ctx old new (entries_at path g)
called_goes known methods ctx old mid new path here d s k es p is call here_is own inside g stands =
    let q = inside_call methods k es p is call stands.inside in
    field_goes known ctx old mid new path here g (here_is ∙ ap (λ (x : Sides). below path x.declared.name) (sym stands.sides_are)) (own_goes known ctx old mid d s g here stands.sides_are own)
    (some_inside known ctx mid new (inner_of g) q.0 here q.1 (inside q.0 q.2))

-- what is left at the end
pub all_gone : (known : Bool) (methods : List Method) {k : ℕ} {p : Page} {f : Filling} (format : Format) (ctx : Entries) (old new : Progress) (path : Path) (n : ℕ) → format_at methods k (out-Page p).format ≡ Some format
    → length (out-Page p).fields ≡ length format.fields → length format.fields ≤ n → Shows methods k p f
    → GoesTo known ctx old new (flat_map (entries_at path) (drop n (fields_of f))) (entries_below f path) → GoesOn known ctx old new (entries_below f path)
all_gone known methods {k} {p} {f} format ctx old new path n at count le shown goes =
    let many : length (fields_of f) ≡ length (out-Page p).fields =
    sym (length-map (fields_of f) sides_of) ∙ ap length (level_shown methods format at shown) ∙ level_length format.fields (out-Page p).fields count in
    ends known ctx old new (entries_below f path) (subst (λ z. GoesTo known ctx old new (flat_map (entries_at path) z) (entries_below f path)) (drop_end (fields_of f) n (omega (arith, many, count, le))) goes)
