-- The rows of `stats`, made from sums.
use Rattle.std.proofs.Common.{◌≡◌, refl, sym, ◌∙◌, ap, subst, ℕ, ◌+◌, ◌<◌, ◌≤◌, zero, suc, Bool, true, false, List, [], ◌∷◌, ◌++◌, length, get_or, nat_eq, arith, append_assoc}
use Rattle.std.specs.Prelude.{Option, Some, None, Result, Ok, Err, OnOk, slice_get, option_map, unwrap_or, flat_map, if◌then◌else◌}
use Rattle.std.specs.List.{enumerate_from}
use Rattle.std.specs.declared.alloc.AllocError.{AllocError}
use Rattle.std.proofs.lemmas.Bool.{eqb-true}
use Rattle.std.proofs.lemmas.List.{append-nil, get_or_default}
use Rattle.sem_filling.specs.declared.filling.Filling.{Filling}
use Rattle.sem_profile.specs.declared.profile.Format.{Format}
use Rattle.sem_profile.specs.declared.profile.Method.{Method}
use Rattle.tool_items.specs.declared.counts.Tally.{Tally}
use Rattle.tool_items.specs.declared.sums.Sums.{Sums, out-Sums}
use Rattle.tool_items.specs.declared.sums.FormatSums.{FormatSums, out-FormatSums}
use Rattle.tool_items.specs.declared.sums.PlaceSums.{PlaceSums, out-PlaceSums}
use Rattle.tool_items.specs.Counts.{bits_of_field, insides, tally_field, tally_format}
use Rattle.tool_items.specs.Depth.{deepest}
use Rattle.tool_items.specs.Sums as sums
use Rattle.tool_items.proofs.DepthInside.{deepest_inside, none_deep}
use Rattle.tool_items.specs.Stats.{Inside, called_rows, counted_table, field_rows, format_rows, formats_rows, head_line, inner_name, inner_rows, listed_rows, row_of, rows_inside, stats_text}
use Rattle.tool_items.specs.StatsSteps.{AddField, AddFields, AddFormat, AddFormats, AddInner, AddInnerFormat, AddInside, AddListed, AreRows, IsOfFormat, IsOfPlace}
use Rattle.tool_names.specs.Names.{callee, encoding_at, field_name, format_name, formats_of, method_name}
use Rattle.tool_items.specs.Counted.{Counted}
use Rattle.tool_items.specs.declared.stats.RowOf.TheVariants as part
use Rattle.tool_names.proofs.TableLists.{Goes, goes_end, goes_on}

-- ---- parts of sums

of_format_at : (fs : List Filling) (l : sums.Level) (n : ℕ) → sums.AreBelow fs l → IsOfFormat n fs (sums.row_in l.formats n)
of_format_at fs l n are = record { all_is = (are []).formats_are n; places_are = λ p. (are []).places_are n p; insides_are = λ p path. are ((n, p) ∷ path) }

of_place_at : (n p : ℕ) (fs : List Filling) (r : sums.Row) → IsOfFormat n fs r → IsOfPlace n p fs (sums.spot_in r.places p)
of_place_at n p fs r is = record { bits_are = is.places_are p; inside_is = is.insides_are p }

row_there : (gs : List FormatSums) (n : ℕ) (g : FormatSums) (o : Option FormatSums) → o ≡ slice_get gs n → o ≡ Some g → sums.row_in gs n ≡ sums.row_of g
row_there gs n g o at is = ap (λ x. unwrap_or (option_map sums.row_of x) sums.no_row) (sym at ∙ is)

row_none : (gs : List FormatSums) (n : ℕ) (o : Option FormatSums) → o ≡ slice_get gs n → o ≡ None → sums.row_in gs n ≡ sums.no_row
row_none gs n o at is = ap (λ x. unwrap_or (option_map sums.row_of x) sums.no_row) (sym at ∙ is)

spot_there : (qs : List PlaceSums) (p : ℕ) (q : PlaceSums) (o : Option PlaceSums) → o ≡ slice_get qs p → o ≡ Some q → sums.spot_in qs p ≡ sums.spot_of q
spot_there qs p q o at is = ap (λ x. unwrap_or (option_map sums.spot_of x) sums.no_spot) (sym at ∙ is)

spot_none : (qs : List PlaceSums) (p : ℕ) (o : Option PlaceSums) → o ≡ slice_get qs p → o ≡ None → sums.spot_in qs p ≡ sums.no_spot
spot_none qs p o at is = ap (λ x. unwrap_or (option_map sums.spot_of x) sums.no_spot) (sym at ∙ is)

-- ---- rows that stand, and rows that don't

unless_none : (b : ℕ) (t : Bool) (more : List Counted) → nat_eq b 0 ≡ t → (b ≡ 0 → ⊥) → (if t then [] else more) ≡ more
unless_none b true more e some = absurd (some (eqb-true b 0 e))
unless_none b false more e some = refl

none_stand : (b : ℕ) (more : List Counted) → b ≡ 0 → (if nat_eq b 0 then [] else more) ≡ []
none_stand b more e = ap (λ n. if nat_eq n 0 then [] else more) e

some_stand : (b : ℕ) (more : List Counted) → (b ≡ 0 → ⊥) → (if nat_eq b 0 then [] else more) ≡ more
some_stand b more some = unless_none b (nat_eq b 0) more refl some

nothing_more : (old more : List Counted) → more ≡ [] → old ≡ old ++ more
nothing_more old more none = sym (append-nil old) ∙ ap (λ xs. old ++ xs) (sym none)

one_more : (old mid new more : List Counted) (row : Counted) → mid ≡ old ++ row ∷ [] → new ≡ mid ++ more → new ≡ old ++ row ∷ more
one_more old mid new more row first after = after ∙ ap (λ xs. xs ++ more) first ∙ append_assoc old (row ∷ []) more

-- ---- what is inside

-- of no fillings nothing is told
none_inside : (inside : Inside) (methods : List Method) (k : ℕ) (depth : ℕ) (i : ℕ) (formats : List Format) → flat_map (λ (f : ℕ × Format). inner_rows inside methods k depth f.0 f.1.listing []) (enumerate_from i formats) ≡ []
none_inside inside methods k depth i [] = refl
none_inside inside methods k depth i (f ∷ fs) = none_inside inside methods k depth (i + 1) fs

inside_as_deep : (methods : List Method) (k d depth : ℕ) (s : Sums) (fs : List Filling) (old new : List Counted) → AddInside methods k depth s old new → sums.AreSums fs s → deepest fs ≤ d → new ≡ old ++ rows_inside d methods k depth fs
inside_as_deep methods k zero depth s fs old new adds are le =
    let none = none_deep fs le in
    let told = adds [] 0 (subst (λ gs. sums.AreSums gs s) none are) (omega arith) in
    told ∙ ap (λ xs. old ++ xs) (none_inside (rows_inside zero methods) methods k depth 0 (formats_of methods k))
inside_as_deep methods k (suc d) depth s fs old new adds are le = adds fs d are le

-- ---- a field

module _ (methods : List Method) (items : ℕ) (name : List ℕ) (depth : ℕ) (q : PlaceSums) (old : List Counted) where
  pub field_empty : (called : Option ℕ) → (out-PlaceSums q).bits ≡ 0 → AddField methods items name called depth q old old
  field_empty called none n p fs d is same le = nothing_more old _ (none_stand (bits_of_field n p fs) _ (sym is.bits_are ∙ none))

  abbrev pub own_row : Counted
  own_row = row_of depth part.Field name (record { items = items; bits = (out-PlaceSums q).bits })

  stands : (called : Option ℕ) (n p : ℕ) (fs : List Filling) (d : ℕ) → IsOfPlace n p fs (sums.spot_of q) → items ≡ (tally_format n fs).items → ((out-PlaceSums q).bits ≡ 0 → ⊥)
      → own_row ∷ called_rows (rows_inside d methods) called (depth + 1) (insides n p fs) ≡ field_rows (rows_inside d methods) name called depth n p fs
  stands called n p fs d is same some =
      (λ i. row_of depth part.Field name (record { items = same i; bits = is.bits_are i }) ∷ called_rows (rows_inside d methods) called (depth + 1) (insides n p fs))
      ∙ sym (some_stand (bits_of_field n p fs) _ (λ e. some (is.bits_are ∙ e)))

  pub field_alone : (called : Option ℕ) (new : List Counted) (row : Counted) → ((out-PlaceSums q).bits ≡ 0 → ⊥) → called ≡ None → row ≡ own_row → new ≡ old ++ row ∷ [] → AddField methods items name called depth q old new
  field_alone called new row some none own grown n p fs d is same le =
      grown ∙ ap (λ r. old ++ r ∷ []) own ∙ ap (λ o. old ++ own_row ∷ called_rows (rows_inside d methods) o (depth + 1) (insides n p fs)) (sym none) ∙ ap (λ xs. old ++ xs) (stands called n p fs d is same some)

  pub field_within : (called : Option ℕ) (k : ℕ) (mid new : List Counted) (row : Counted) (further : ℕ) (done : Result (Unit {0}) AllocError) → ((out-PlaceSums q).bits ≡ 0 → ⊥) → called ≡ Some k → row ≡ own_row → mid ≡ old ++ row ∷ [] → further ≡ depth + 1
      → OnOk done (AddInside methods k further (out-PlaceSums q).inside mid new) → OnOk done (AddField methods items name called depth q old new)
  field_within called k mid new row further (Err e) some is own grown far adds = tt
  field_within called k mid new row further (Ok x) some is own grown far adds = λ n p fs d place same le.
      let inside = inside_as_deep methods k d further (out-PlaceSums q).inside (insides n p fs) mid new adds place.inside_is (deepest_inside n p d fs (omega (arith, le))) in
      one_more old mid new _ own_row (grown ∙ ap (λ r. old ++ r ∷ []) own) inside
      ∙ ap (λ f. old ++ own_row ∷ rows_inside d methods k f (insides n p fs)) far
      ∙ ap (λ o. old ++ own_row ∷ called_rows (rows_inside d methods) o (depth + 1) (insides n p fs)) (sym is)
      ∙ ap (λ xs. old ++ xs) (stands called n p fs d place same some)

-- ---- the listed fields of a format

module _ (methods : List Method) (k n : ℕ) (depth : ℕ) (g : FormatSums) where
  pub listed_there : (p i items : ℕ) (name : List ℕ) (called : Option ℕ) (q : PlaceSums) (o : Option PlaceSums) (old new : List Counted) (done : Result (Unit {0}) AllocError) → o ≡ slice_get (out-FormatSums g).places.items p → o ≡ Some q → items ≡ (out-FormatSums g).all.items
      → name ≡ field_name methods k n i → called ≡ callee (encoding_at methods k n i) → OnOk done (AddField methods items name called depth q old new) → OnOk done (AddListed methods k n p i depth g old new)
  listed_there p i items name called q o old new (Err e) at is count named calls adds = tt
  listed_there p i items name called q o old new (Ok x) at is count named calls adds = λ fs d of le.
      let place : IsOfPlace n p fs (sums.spot_of q) = subst (IsOfPlace n p fs) (spot_there (out-FormatSums g).places.items p q o at is) (of_place_at n p fs (sums.row_of g) of) in
      adds n p fs d place (count ∙ ap (λ (t : Tally). t.items) of.all_is) le ∙ (λ j. old ++ field_rows (rows_inside d methods) (named j) (calls j) depth n p fs)

  pub listed_none : (p i : ℕ) (o : Option PlaceSums) (old : List Counted) → o ≡ slice_get (out-FormatSums g).places.items p → o ≡ None → AddListed methods k n p i depth g old old
  listed_none p i o old at is fs d of le =
      nothing_more old _ (none_stand (bits_of_field n p fs) _ (sym (of.places_are p) ∙ ap (λ (s : sums.Spot). s.bits) (spot_none (out-FormatSums g).places.items p o at is)))

  -- the rows so far, and those of the places that are left
  abbrev pub FieldsSoFar : List ℕ → ℕ → List Counted → List Counted → Type 0
  FieldsSoFar listing place old now =
      (fs : List Filling) (d : ℕ) → IsOfFormat n fs (sums.row_of g) → deepest fs ≤ suc d
      → Goes (λ (l : ℕ × ℕ). field_rows (rows_inside d methods) (field_name methods k n l.1) (callee (encoding_at methods k n l.1)) depth n l.0 fs) listing place now (old ++ listed_rows (rows_inside d methods) methods k n depth listing fs)

  pub fields_next : (listing : List ℕ) (place i : ℕ) (old now next : List Counted) → place < length listing → i ≡ get_or listing place 0 → FieldsSoFar listing place old now → AddListed methods k n place i depth g now next → FieldsSoFar listing (place + 1) old next
  fields_next listing place i old now next lt at so adds fs d of le =
      goes_on (λ (l : ℕ × ℕ). field_rows (rows_inside d methods) (field_name methods k n l.1) (callee (encoding_at methods k n l.1)) depth n l.0 fs) listing place i now next _ lt (at ∙ get_or_default listing place 0 i lt) (so fs d of le) (adds fs d of le)

  pub fields_end : (listing : List ℕ) (place : ℕ) (old now : List Counted) → length listing ≤ place → FieldsSoFar listing place old now → AddFields methods k n listing depth g old now
  fields_end listing place old now past so fs d of le =
      goes_end (λ (l : ℕ × ℕ). field_rows (rows_inside d methods) (field_name methods k n l.1) (callee (encoding_at methods k n l.1)) depth n l.0 fs) listing place now _ past (so fs d of le)

-- ---- the formats of a called method

module _ (methods : List Method) (k : ℕ) (depth : ℕ) where
  pub inner_empty : (n : ℕ) (listing : List ℕ) (g : FormatSums) (old : List Counted) → (out-FormatSums g).all.items ≡ 0 → AddInnerFormat methods k n listing depth g old old
  inner_empty n listing g old none fs d of le = nothing_more old _ (none_stand (tally_format n fs).items _ (sym (ap (λ (t : Tally). t.items) of.all_is) ∙ none))

  pub inner_whole : (n : ℕ) (listing : List ℕ) (g : FormatSums) (all : Tally) (name : List ℕ) (further : ℕ) (row : Counted) (old mid new : List Counted) (done : Result (Unit {0}) AllocError) → all ≡ (out-FormatSums g).all → (all.items ≡ 0 → ⊥)
      → name ≡ inner_name (method_name methods k) (format_name methods k n) → row ≡ row_of depth part.Format name all → mid ≡ old ++ row ∷ [] → further ≡ depth + 1 → OnOk done (AddFields methods k n listing further g mid new) → OnOk done (AddInnerFormat methods k n listing depth g old new)
  inner_whole n listing g all name further row old mid new (Err e) same some named own grown far adds = tt
  inner_whole n listing g all name further row old mid new (Ok x) same some named own grown far adds = λ fs d of le.
      let is : all ≡ tally_format n fs = same ∙ of.all_is in
      one_more old mid new _ row grown (adds fs d of le)
      ∙ ap (λ r. old ++ r ∷ listed_rows (rows_inside d methods) methods k n further listing fs) (own ∙ (λ j. row_of depth part.Format (named j) (is j)))
      ∙ ap (λ f. old ++ row_of depth part.Format (inner_name (method_name methods k) (format_name methods k n)) (tally_format n fs) ∷ listed_rows (rows_inside d methods) methods k n f listing fs) far
      ∙ ap (λ xs. old ++ xs) (sym (some_stand (tally_format n fs).items _ (λ e. some (ap (λ (t : Tally). t.items) is ∙ e))))

  pub inner_there : (n : ℕ) (listing : List ℕ) (s : Sums) (g : FormatSums) (o : Option FormatSums) (old new : List Counted) (done : Result (Unit {0}) AllocError) → o ≡ slice_get (out-Sums s).formats.items n → o ≡ Some g
      → OnOk done (AddInnerFormat methods k n listing depth g old new) → OnOk done (AddInner methods k n listing depth s old new)
  inner_there n listing s g o old new (Err e) at is adds = tt
  inner_there n listing s g o old new (Ok x) at is adds = λ fs d are le. adds fs d (subst (IsOfFormat n fs) (row_there (out-Sums s).formats.items n g o at is) (of_format_at fs (sums.level_of s) n are)) le

  pub inner_none : (n : ℕ) (listing : List ℕ) (s : Sums) (o : Option FormatSums) (old : List Counted) → o ≡ slice_get (out-Sums s).formats.items n → o ≡ None → AddInner methods k n listing depth s old old
  inner_none n listing s o old at is fs d are le =
      nothing_more old _ (none_stand (tally_format n fs).items _ (sym (ap (λ (t : Tally). t.items) ((are []).formats_are n)) ∙ ap (λ (r : sums.Row). r.all.items) (row_none (out-Sums s).formats.items n o at is)))

  abbrev pub InsideSoFar : Sums → List Format → ℕ → List Counted → List Counted → Type 0
  InsideSoFar s formats number old now =
      (fs : List Filling) (d : ℕ) → sums.AreSums fs s → deepest fs ≤ suc d
      → Goes (λ (f : ℕ × Format). inner_rows (rows_inside d methods) methods k depth f.0 f.1.listing fs) formats number now (old ++ flat_map (λ (f : ℕ × Format). inner_rows (rows_inside d methods) methods k depth f.0 f.1.listing fs) (enumerate_from 0 formats))

  pub inside_next : (s : Sums) (formats : List Format) (number : ℕ) (f : Format) (listing : List ℕ) (old now next : List Counted) → number < length formats → f ≡ get_or formats number f → listing ≡ f.listing → InsideSoFar s formats number old now → AddInner methods k number listing depth s now next
      → InsideSoFar s formats (number + 1) old next
  inside_next s formats number f listing old now next lt at same so adds fs d are le =
      goes_on (λ (f : ℕ × Format). inner_rows (rows_inside d methods) methods k depth f.0 f.1.listing fs) formats number f now next _ lt at (so fs d are le)
      (adds fs d are le ∙ ap (λ xs. now ++ inner_rows (rows_inside d methods) methods k depth number xs fs) same)

  pub inside_end : (s : Sums) (formats : List Format) (number : ℕ) (old now : List Counted) → formats ≡ formats_of methods k → length formats ≤ number → InsideSoFar s formats number old now → AddInside methods k depth s old now
  inside_end s formats number old now all past so fs d are le =
      goes_end (λ (f : ℕ × Format). inner_rows (rows_inside d methods) methods k depth f.0 f.1.listing fs) formats number now _ past (so fs d are le)
      ∙ ap (λ xs. old ++ flat_map (λ (f : ℕ × Format). inner_rows (rows_inside d methods) methods k depth f.0 f.1.listing fs) (enumerate_from 0 xs)) all

-- ---- the formats of the top

module _ (methods : List Method) (top : ℕ) where
  no_fields : (inside : Inside) (n i : ℕ) (listing : List ℕ) (fs : List Filling) → ((p : ℕ) → bits_of_field n p fs ≡ 0)
      → flat_map (λ (l : ℕ × ℕ). field_rows inside (field_name methods top n l.1) (callee (encoding_at methods top n l.1)) 1 n l.0 fs) (enumerate_from i listing) ≡ []
  no_fields inside n i [] fs none = refl
  no_fields inside n i (x ∷ xs) fs none = (λ j. none_stand (bits_of_field n i fs) (row_of 1 part.Field (field_name methods top n x) (tally_field n i fs) ∷ called_rows inside (callee (encoding_at methods top n x)) (1 + 1) (insides n i fs)) (none i) j ++ no_fields inside n (i + 1) xs fs none j)

  pub format_there : (n : ℕ) (listing : List ℕ) (s : Sums) (g : FormatSums) (o : Option FormatSums) (name : List ℕ) (row : Counted) (old mid new : List Counted) (done : Result (Unit {0}) AllocError) → o ≡ slice_get (out-Sums s).formats.items n → o ≡ Some g
      → name ≡ format_name methods top n → row ≡ row_of 0 part.Format name (out-FormatSums g).all → mid ≡ old ++ row ∷ [] → OnOk done (AddFields methods top n listing 1 g mid new) → OnOk done (AddFormat methods top n listing s old new)
  format_there n listing s g o name row old mid new (Err e) at is named own grown adds = tt
  format_there n listing s g o name row old mid new (Ok x) at is named own grown adds = λ fs d are le.
      let of : IsOfFormat n fs (sums.row_of g) = subst (IsOfFormat n fs) (row_there (out-Sums s).formats.items n g o at is) (of_format_at fs (sums.level_of s) n are) in
      one_more old mid new _ row grown (adds fs d of le) ∙ ap (λ r. old ++ r ∷ listed_rows (rows_inside d methods) methods top n 1 listing fs) (own ∙ (λ j. row_of 0 part.Format (named j) (of.all_is j)))

  pub format_none : (n : ℕ) (listing : List ℕ) (s : Sums) (o : Option FormatSums) (name : List ℕ) (row : Counted) (none : Tally) (old new : List Counted) → o ≡ slice_get (out-Sums s).formats.items n → o ≡ None → name ≡ format_name methods top n → none ≡ sums.no_row.all → row ≡ row_of 0 part.Format name none
      → new ≡ old ++ row ∷ [] → AddFormat methods top n listing s old new
  format_none n listing s o name row none old new at is named zeros own grown fs d are le =
      let absent = row_none (out-Sums s).formats.items n o at is in
      let all : none ≡ tally_format n fs = zeros ∙ sym (ap (λ (r : sums.Row). r.all) absent) ∙ (are []).formats_are n in
      grown ∙ (λ j. old ++ (own ∙ (λ i. row_of 0 part.Format (named i) (all i))) j
      ∷ sym (no_fields (rows_inside d methods) n 0 listing fs (λ p. sym ((are []).places_are n p) ∙ ap (λ (r : sums.Row). (sums.spot_in r.places p).bits) absent)) j)

  abbrev pub FormatsSoFar : Sums → List Format → ℕ → List Counted → List Counted → Type 0
  FormatsSoFar s formats number old now =
      (fs : List Filling) (d : ℕ) → sums.AreSums fs s → deepest fs ≤ suc d
      → Goes (λ (f : ℕ × Format). format_rows (rows_inside d methods) methods top f.0 f.1.listing fs) formats number now (old ++ formats_rows (rows_inside d methods) methods top formats fs)

  pub formats_next : (s : Sums) (formats : List Format) (number : ℕ) (f : Format) (listing : List ℕ) (old now next : List Counted) → number < length formats → f ≡ get_or formats number f → listing ≡ f.listing → FormatsSoFar s formats number old now → AddFormat methods top number listing s now next
      → FormatsSoFar s formats (number + 1) old next
  formats_next s formats number f listing old now next lt at same so adds fs d are le =
      goes_on (λ (f : ℕ × Format). format_rows (rows_inside d methods) methods top f.0 f.1.listing fs) formats number f now next _ lt at (so fs d are le)
      (adds fs d are le ∙ ap (λ xs. now ++ format_rows (rows_inside d methods) methods top number xs fs) same)

  pub formats_end : (s : Sums) (formats : List Format) (number : ℕ) (old now : List Counted) → formats ≡ formats_of methods top → length formats ≤ number → FormatsSoFar s formats number old now → AddFormats methods top s old now
  formats_end s formats number old now all past so fs d are le =
      goes_end (λ (f : ℕ × Format). format_rows (rows_inside d methods) methods top f.0 f.1.listing fs) formats number now _ past (so fs d are le)
      ∙ ap (λ xs. old ++ formats_rows (rows_inside d methods) methods top xs fs) all

  pub rows_made : (s : Sums) (old new : List Counted) → old ≡ [] → AddFormats methods top s old new → AreRows methods top s new
  rows_made s old new first adds fs are = adds fs (deepest fs) are (omega arith) ∙ ap (λ xs. xs ++ formats_rows (rows_inside (deepest fs) methods) methods top (formats_of methods top) fs) first

  pub format_none_pushed : (n : ℕ) (listing : List ℕ) (s : Sums) (o : Option FormatSums) (name : List ℕ) (row : Counted) (none : Tally) (old new : List Counted) (done : Result (Unit {0}) AllocError) → o ≡ slice_get (out-Sums s).formats.items n → o ≡ None → name ≡ format_name methods top n
      → none ≡ sums.no_row.all → row ≡ row_of 0 part.Format name none → OnOk done (new ≡ old ++ row ∷ []) → OnOk done (AddFormat methods top n listing s old new)
  format_none_pushed n listing s o name row none old new (Err e) at is named zeros own grown = tt
  format_none_pushed n listing s o name row none old new (Ok x) at is named zeros own grown = format_none n listing s o name row none old new at is named zeros own grown

  pub text_made : (s : Sums) (fs : List Filling) (text whole : List ℕ) (made shown : List Counted) → text ≡ head_line (out-Sums s).all → AreRows methods top s made → shown ≡ made → whole ≡ text ++ counted_table shown → sums.AreSums fs s → whole ≡ stats_text methods top fs
  text_made s fs text whole made shown first is same all are =
      all ∙ (λ i. (first ∙ ap head_line (are []).all_is) i ++ counted_table ((same ∙ is fs are) i))
