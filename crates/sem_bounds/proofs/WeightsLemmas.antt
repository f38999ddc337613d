-- Bounds are at most what the weights of their methods allow.
use Rattle.std.proofs.Common.{◌≡◌, ◌∙◌, ap, sym, refl, subst, ℕ, ◌+◌, ◌*◌, ◌<◌, ◌≤◌, ◌^◌, inl, inr, Bool, true, false, cond, nat_eq, ℤ, pos, negsuc, List, [], ◌∷◌, suc, zero, length, map, fold, get_or, slice_set, arith}
use Rattle.std.specs.Prelude.{slice_get, Some, None, Option, if◌then◌else◌}
use Rattle.std.specs.Option.{option_map, unwrap_or}
use Rattle.std.proofs.lemmas.Option.{slice_get_within, slice_get-map}
use Rattle.sem_expr.specs.declared.expr.Expr.{Expr}
use Rattle.sem_expr.specs.declared.expr.Side.{Side}
use Rattle.sem_expr.specs.declared.expr.Side.TheVariants.{Uncompressed, Compressed}
use Rattle.sem_profile.specs.declared.profile.Bounds.{Bounds}
use Rattle.sem_profile.specs.declared.profile.Sizes.{Sizes}
use Rattle.sem_profile.specs.declared.profile.FormatSizes.{FormatSizes}
use Rattle.sem_profile.specs.declared.profile.MethodSizes.{MethodSizes}
use Rattle.sem_profile.specs.declared.profile.Library.{Library}
use Rattle.sem_profile.specs.declared.profile.Library.TheVariants as library
use Rattle.sem_profile.specs.declared.profile.Encoding.{Encoding}
use Rattle.sem_profile.specs.declared.profile.Encoding.TheVariants as encoding
use Rattle.sem_profile.specs.declared.profile.Constraint.{Constraint}
use Rattle.sem_profile.specs.declared.profile.Constraint.TheVariants.{Bracket, Enforce}
use Rattle.sem_profile.specs.declared.profile.Field.{Field}
use Rattle.sem_profile.specs.declared.profile.Format.{Format}
use Rattle.sem_profile.specs.declared.profile.Method.{Method}
use Rattle.sem_profile.specs.Constants.{constant}
use Rattle.sem_profile.specs.Fields.{bounds, sides, counted, by_length, library_sizes, whole_at, encoding_sizes, where_listed, encoded_sizes, lists, bracket_bounds, meet, narrowed_by, narrowed, field_sizes}
use Rattle.sem_profile.specs.Formats.{total, sizes_at, is_header, header_bounds, format_sizes, HaveNumbers}
use Rattle.sem_profile.specs.Passes.{indexed}
use Rattle.sem_profile.specs.Methods.{sides_hull, formats_hull, HasSizes, CallsMethod, IsOrder, SizedBefore, SumsAreNumbers, ArePacked}
use Rattle.sem_bounds.specs.Weights.{field_weight, fields_weight, IsLight, AreLight}
use Rattle.sem_profile.proofs.PassesPlaces.{indexed-at}
use Rattle.sem_profile.proofs.FieldsRuling.{sized-by, enclosed, least-adds, most-adds, total-next, there}

-- ---- what weighs so much

-- at most 2^64 and 64 for each unit of the weight
record Weighs (w : ℕ) (b : Bounds) : Type 0 where
  least : b.least ≤ w * 2 ^ 64
  most : b.most ≤ w * 64

record BothWeigh (w : ℕ) (s : Sizes) : Type 0 where
  uncompressed : Weighs w s.uncompressed
  compressed : Weighs w s.compressed

no-bits : (w : ℕ) → Weighs w (bounds 0 0)
no-bits w = record { least = omega arith; most = omega arith }

heavier : (v w : ℕ) (b : Bounds) → v ≤ w → Weighs v b → Weighs w b
heavier v w b le h = record { least = omega (arith, le, h.least); most = omega (arith, le, h.most) }

both-heavier : (v w : ℕ) (s : Sizes) → v ≤ w → BothWeigh v s → BothWeigh w s
both-heavier v w s le h = record { uncompressed = heavier v w s.uncompressed le h.uncompressed; compressed = heavier v w s.compressed le h.compressed }

-- ---- a field

by-argument : (o : Option ℤ) → Weighs 1 (by_length o)
by-argument o =
    elim (sized-by o) as (λ _. Weighs 1 (by_length o)) [
      | inl free ↦ subst (Weighs 1) (sym free) record { least = omega arith; most = omega arith }
      | inr known ↦ subst (Weighs 1) (sym known.3) record {
        least = let le : known.0 ≤ 64 = known.2 in omega arith;
        most = let le : known.0 ≤ 64 = known.2 in omega arith;
      }
    ]

up-to-widest : Weighs 1 (bounds 0 64)
up-to-widest = record { least = omega arith; most = omega arith }

by-library : (l : Library) → BothWeigh 1 (library_sizes l)
by-library (library.UncompressedValue len v) = record { uncompressed = by-argument (constant len); compressed = no-bits 1 }
by-library (library.CompressedValue len v) = record { uncompressed = no-bits 1; compressed = by-argument (constant len) }
by-library (library.Irregular len) = record { uncompressed = by-argument (constant len); compressed = by-argument (constant len) }
by-library library.Static = record { uncompressed = up-to-widest; compressed = no-bits 1 }
by-library (library.Lsb k offset) = record { uncompressed = up-to-widest; compressed = by-argument (constant k) }
by-library (library.Crc crc) = record { uncompressed = no-bits 1; compressed = by-argument (constant crc.bits) }

by-encoding : (weight : ℕ → ℕ) (table : List MethodSizes) (e : Encoding) → ((k : ℕ) (es : List Expr) → e ≡ encoding.Call k es → BothWeigh (weight k) (whole_at table k))
    → BothWeigh (field_weight weight e) (encoding_sizes table e)
by-encoding weight table encoding.Bare called = record { uncompressed = up-to-widest; compressed = no-bits 1 }
by-encoding weight table (encoding.Library l) called = by-library l
by-encoding weight table (encoding.Call k es) called = both-heavier (weight k) (weight k + 1) (whole_at table k) (omega arith) (called k es refl)

by-listing : (w : ℕ) (listed : Bool) (s : Sizes) → BothWeigh w s → BothWeigh w (where_listed listed s)
by-listing w true s h = h
by-listing w false s h = record { uncompressed = h.uncompressed; compressed = no-bits w }

counted-small : (v : ℤ) → counted v ≤ 2 ^ 64
counted-small (pos n) = omega arith
counted-small (negsuc n) = omega arith

bracket-small : (lengths : List Expr) (b : Bounds) → bracket_bounds lengths ≡ Some b → b.least ≤ 2 ^ 64
bracket-small [] b is = let wrong : None ≡ Some b = is in absurd cc
bracket-small (e ∷ es) b is =
    let held = (enclosed None (e ∷ es) b is).1 0 e refl in
    omega (arith, held.above, counted-small held.value)

met : (w : ℕ) (a b : Bounds) → 0 < w → b.least ≤ 2 ^ 64 → Weighs w a → Weighs w (meet a b)
met w a b more small h = record { least = omega (arith, more, small, h.least); most = omega (arith, h.most) }

narrowed-one : (w i : ℕ) (s : Sizes) (c : Constraint) → 0 < w → BothWeigh w s → BothWeigh w (narrowed i s c)
narrowed-one w i s (Enforce condition place) more h = h
narrowed-one w i s (Bracket field side lengths place) more h = by (nat_eq field i)
  where
    on : (z : Side) (o : Option Bounds) → bracket_bounds lengths ≡ o → BothWeigh w (narrowed_by o z s)
    on z None is = h
    on Uncompressed (Some b) is = record { uncompressed = met w s.uncompressed b more (bracket-small lengths b is) h.uncompressed; compressed = h.compressed }
    on Compressed (Some b) is = record { uncompressed = h.uncompressed; compressed = met w s.compressed b more (bracket-small lengths b is) h.compressed }

    by : (t : Bool) → BothWeigh w (cond t (narrowed_by (bracket_bounds lengths) side s) s)
    by true = on side (bracket_bounds lengths) refl
    by false = h

narrowed-all : (w i : ℕ) (s : Sizes) (cs : List Constraint) → 0 < w → BothWeigh w s → BothWeigh w (fold (narrowed i) s cs)
narrowed-all w i s [] more h = h
narrowed-all w i s (c ∷ cs) more h = narrowed-all w i (narrowed i s c) cs more (narrowed-one w i s c more h)

one-or-more : (weight : ℕ → ℕ) (e : Encoding) → 0 < field_weight weight e
one-or-more weight encoding.Bare = omega arith
one-or-more weight (encoding.Library l) = omega arith
one-or-more weight (encoding.Call k es) = omega arith

-- what the fields of the format call has its weight in the table
abbrev CalledWeigh : (ℕ → ℕ) → List MethodSizes → Format → Type 0
CalledWeigh weight table format = (i k : ℕ) (d : Field) (es : List Expr) → slice_get format.fields i ≡ Some d → d.encoding ≡ encoding.Call k es → BothWeigh (weight k) (whole_at table k)

field-weighs : (weight : ℕ → ℕ) (table : List MethodSizes) (format : Format) (i n : ℕ) (d : Field) → CalledWeigh weight table format → slice_get format.fields i ≡ Some d
    → BothWeigh (field_weight weight d.encoding) (field_sizes table format n d)
field-weighs weight table format i n d called at =
    narrowed-all (field_weight weight d.encoding) n (encoded_sizes table format n d) format.constraints (one-or-more weight d.encoding)
    (by-listing (field_weight weight d.encoding) (lists format.listing n) (encoding_sizes table d.encoding)
    (by-encoding weight table d.encoding (λ k es is. called i k d es at is)))

-- ---- sums

added : (v w : ℕ) (b : Bounds) (bs : List Bounds) → Weighs v b → Weighs w (total bs) → Weighs (v + w) (total (b ∷ bs))
added v w b bs here rest = record {
  least = omega (arith, total-next (λ c. c.least) least-adds b bs, here.least, rest.least);
  most = omega (arith, total-next (λ c. c.most) most-adds b bs, here.most, rest.most);
}

header-weighs : (weight : ℕ → ℕ) (all : List Sizes) (n : ℕ) (ds : List Field) → ((i : ℕ) (d : Field) → slice_get ds i ≡ Some d → BothWeigh (field_weight weight d.encoding) (sizes_at all (n + i)))
    → Weighs (fields_weight weight ds) (total (indexed (header_bounds all) n ds))
header-weighs weight all n [] each = no-bits 0
header-weighs weight all n (d ∷ ds) each =
    let zero-n : n + 0 ≡ n = omega arith in
    let here = subst (λ k. BothWeigh (field_weight weight d.encoding) (sizes_at all k)) zero-n (each 0 d refl) in
    let rest = header-weighs weight all (n + 1) ds (λ i e at.
    let next : n + suc i ≡ n + 1 + i = omega arith in subst (λ k. BothWeigh (field_weight weight e.encoding) (sizes_at all k)) next (each (suc i) e at)) in
    added (field_weight weight d.encoding) (fields_weight weight ds) (header_bounds all n d) (indexed (header_bounds all) (n + 1) ds) (inside (is_header d.declared.part) here.uncompressed) rest
  where
    inside : (t : Bool) → Weighs (field_weight weight d.encoding) (sizes_at all n).uncompressed
        → Weighs (field_weight weight d.encoding) (if t then (sizes_at all n).uncompressed else bounds 0 0)
    inside true h = h
    inside false h = no-bits (field_weight weight d.encoding)

-- the sum of all numbers, and that of those at the places of a listing
abbrev sum-of : List ℕ → ℕ
sum-of [] = 0
sum-of (n ∷ ns) = n + sum-of ns

abbrev sum-at : List ℕ → List ℕ → ℕ
sum-at ws [] = 0
sum-at ws (i ∷ is) = get_or ws i 0 + sum-at ws is

abbrev Distinct : List ℕ → Type 0
Distinct is = (n m i : ℕ) → slice_get is n ≡ Some i → slice_get is m ≡ Some i → n ≡ m

cleared-sum : (ws : List ℕ) (i : ℕ) → get_or ws i 0 + sum-of (slice_set ws i 0) ≡ sum-of ws
cleared-sum [] i = refl
cleared-sum (w ∷ ws) zero = omega arith
cleared-sum (w ∷ ws) (suc i) = omega (arith, cleared-sum ws i)

cleared-other : (ws : List ℕ) (i j : ℕ) → (i ≡ j → ⊥) → get_or (slice_set ws i 0) j 0 ≡ get_or ws j 0
cleared-other [] i j ne = refl
cleared-other (w ∷ ws) zero zero ne = absurd (ne refl)
cleared-other (w ∷ ws) zero (suc j) ne = refl
cleared-other (w ∷ ws) (suc i) zero ne = refl
cleared-other (w ∷ ws) (suc i) (suc j) ne = cleared-other ws i j (λ e. ne (ap suc e))

cleared-at : (ws : List ℕ) (i : ℕ) (is : List ℕ) → ((n : ℕ) → slice_get is n ≡ Some i → ⊥) → sum-at (slice_set ws i 0) is ≡ sum-at ws is
cleared-at ws i [] none = refl
cleared-at ws i (j ∷ js) none =
    let here = cleared-other ws i j (λ e. none 0 (ap Some (sym e))) in
    let rest = cleared-at ws i js (λ n at. none (suc n) at) in
    λ k. here k + rest k

distinct-sum : (ws is : List ℕ) → Distinct is → sum-at ws is ≤ sum-of ws
distinct-sum ws [] once = omega arith
distinct-sum ws (i ∷ is) once =
    let apart : (n : ℕ) → slice_get is n ≡ Some i → ⊥ = λ n at. let same : 0 ≡ suc n = once 0 (suc n) i refl at in absurd (omega arith) in
    let later : Distinct is = λ n m j at also. let same = once (suc n) (suc m) j at also in omega (arith, same) in
    omega (arith, cleared-sum ws i, cleared-at ws i is apart, distinct-sum (slice_set ws i 0) is later)

packed-weighs : (ws : List ℕ) (all : List Sizes) → ((i : ℕ) → BothWeigh (get_or ws i 0) (sizes_at all i)) → (listing : List ℕ)
    → Weighs (sum-at ws listing) (total (map (λ i. (sizes_at all i).compressed) listing))
packed-weighs ws all each [] = no-bits 0
packed-weighs ws all each (i ∷ is) =
    added (get_or ws i 0) (sum-at ws is) (sizes_at all i).compressed (map (λ k. (sizes_at all k).compressed) is) (each i).compressed (packed-weighs ws all each is)

-- ---- a format

abbrev weights-of : (ℕ → ℕ) → List Field → List ℕ
weights-of weight ds = map (λ d. field_weight weight d.encoding) ds

sum-of-weights : (weight : ℕ → ℕ) (ds : List Field) → sum-of (weights-of weight ds) ≡ fields_weight weight ds
sum-of-weights weight [] = refl
sum-of-weights weight (d ∷ ds) = ap (λ n. field_weight weight d.encoding + n) (sum-of-weights weight ds)

weight-there : (weight : ℕ → ℕ) (ds : List Field) (i : ℕ) (d : Field) → slice_get ds i ≡ Some d → get_or (weights-of weight ds) i 0 ≡ field_weight weight d.encoding
weight-there weight [] i d at = let wrong : None ≡ Some d = at in absurd cc
weight-there weight (e ∷ es) zero d at = let same : e ≡ d = cc in ap (λ (x : Field). field_weight weight x.encoding) same
weight-there weight (e ∷ es) (suc i) d at = weight-there weight es i d at

place-weighs : (weight : ℕ → ℕ) (table : List MethodSizes) (format : Format) → CalledWeigh weight table format → (i : ℕ)
    → BothWeigh (get_or (weights-of weight format.fields) i 0) (sizes_at (format_sizes table format).fields i)
place-weighs weight table format called i = by (slice_get format.fields i) refl
  where
    all : List Sizes
    all = (format_sizes table format).fields

    found : (o : Option Field) → slice_get format.fields i ≡ o → slice_get all i ≡ option_map (field_sizes table format (0 + i)) o
    found o at = indexed-at (field_sizes table format) 0 format.fields i ∙ ap (option_map (field_sizes table format (0 + i))) at

    by : (o : Option Field) → slice_get format.fields i ≡ o → BothWeigh (get_or (weights-of weight format.fields) i 0) (sizes_at all i)
    by None at =
        subst (λ s. BothWeigh (get_or (weights-of weight format.fields) i 0) s) (sym (ap (λ o. unwrap_or o (sides (bounds 0 0) (bounds 0 0))) (found None at)))
        record { uncompressed = no-bits (get_or (weights-of weight format.fields) i 0); compressed = no-bits (get_or (weights-of weight format.fields) i 0) }
    by (Some d) at =
        subst (λ s. BothWeigh (get_or (weights-of weight format.fields) i 0) s) (sym (ap (λ o. unwrap_or o (sides (bounds 0 0) (bounds 0 0))) (found (Some d) at)))
        (subst (λ w. BothWeigh w (field_sizes table format (0 + i) d)) (sym (weight-there weight format.fields i d at)) (field-weighs weight table format i (0 + i) d called at))

format-weighs : (weight : ℕ → ℕ) (table : List MethodSizes) (most : ℕ) (format : Format) → CalledWeigh weight table format → IsLight weight most format
    → BothWeigh most (format_sizes table format).whole
format-weighs weight table most format called light =
    let all = (format_sizes table format).fields in
    let each = place-weighs weight table format called in
    let ws = weights-of weight format.fields in
    let header = header-weighs weight all 0 format.fields (λ i d at.
    let zero-i : i ≡ 0 + i = omega arith in
    subst (λ w. BothWeigh w (sizes_at all (0 + i))) (weight-there weight format.fields i d at) (subst (λ k. BothWeigh (get_or ws i 0) (sizes_at all k)) zero-i (each i))) in
    let packed = packed-weighs ws all each format.listing in
    let le : sum-at ws format.listing ≤ most = omega (arith, distinct-sum ws format.listing light.once, sum-of-weights weight format.fields, light.fields) in
    record {
      uncompressed = heavier (fields_weight weight format.fields) most (total (indexed (header_bounds all) 0 format.fields)) light.fields header;
      compressed = heavier (sum-at ws format.listing) most (total (map (λ i. (sizes_at all i).compressed) format.listing)) le packed;
    }

-- ---- a method

hull-weighs : (w : ℕ) (s : Sizes) (fs : List FormatSizes) → BothWeigh w s → ((n : ℕ) (f : FormatSizes) → slice_get fs n ≡ Some f → BothWeigh w f.whole)
    → BothWeigh w (fold (λ t g. sides_hull t g.whole) s fs)
hull-weighs w s [] h each = h
hull-weighs w s (f ∷ fs) h each =
    let g = each 0 f refl in
    let here : BothWeigh w (sides_hull s f.whole) = record {
      uncompressed = record { least = omega (arith, h.uncompressed.least); most = omega (arith, h.uncompressed.most, g.uncompressed.most) };
      compressed = record { least = omega (arith, h.compressed.least); most = omega (arith, h.compressed.most, g.compressed.most) };
    } in
    hull-weighs w (sides_hull s f.whole) fs here (λ n e at. each (suc n) e at)

formats-weigh : (w : ℕ) (fs : List FormatSizes) → ((n : ℕ) (f : FormatSizes) → slice_get fs n ≡ Some f → BothWeigh w f.whole) → BothWeigh w (formats_hull fs)
formats-weigh w [] each = record { uncompressed = no-bits w; compressed = no-bits w }
formats-weigh w (f ∷ fs) each = hull-weighs w f.whole fs (each 0 f refl) (λ n e at. each (suc n) e at)

-- what the method calls has its weight in the table
abbrev CallsWeigh : (ℕ → ℕ) → List MethodSizes → Method → Type 0
CallsWeigh weight table m = (k : ℕ) → CallsMethod m k → BothWeigh (weight k) (whole_at table k)

calls-of-format : (weight : ℕ → ℕ) (table : List MethodSizes) (m : Method) (n : ℕ) (format : Format) → slice_get m.formats n ≡ Some format → CallsWeigh weight table m → CalledWeigh weight table format
calls-of-format weight table m n format at called i k d es here is = called k record {
  format = format;
  format_place = n;
  format_at = at;
  field = d;
  field_place = i;
  field_at = here;
  arguments = es;
  is_call = is;
}

method-weighs : (methods : List Method) (light : AreLight methods) (table : List MethodSizes) (k : ℕ) (m : Method) (s : MethodSizes) → slice_get methods k ≡ Some m → HasSizes table m s
    → CallsWeigh light.weight table m → BothWeigh (light.weight k) s.whole
method-weighs methods light table k m s at has called =
    subst (BothWeigh (light.weight k)) (sym (has.whole_is ∙ ap formats_hull has.formats_are))
    (formats-weigh (light.weight k) (map (format_sizes table) m.formats) (λ n f here. by n f (slice_get m.formats n) refl (sym (slice_get-map (format_sizes table) m.formats n) ∙ here)))
  where
    by : (n : ℕ) (f : FormatSizes) (o : Option Format) → slice_get m.formats n ≡ o → option_map (format_sizes table) o ≡ Some f → BothWeigh (light.weight k) f.whole
    by n f None in-formats is = let wrong : None ≡ Some f = is in absurd cc
    by n f (Some format) in-formats is =
        let same : format_sizes table format ≡ f = cc in
        subst (λ (g : FormatSizes). BothWeigh (light.weight k) g.whole) same
        (format-weighs light.weight table (light.weight k) format (calls-of-format light.weight table m n format in-formats called) (light.each k n m format at in-formats))

-- ---- along the order

-- an entry has its weight, or there is none
entry-weighs : (w : ℕ) (table : List MethodSizes) (k : ℕ) → ((s : MethodSizes) → slice_get table k ≡ Some s → BothWeigh w s.whole) → BothWeigh w (whole_at table k)
entry-weighs w table k each = by (slice_get table k) each
  where
    by : (o : Option MethodSizes) → ((s : MethodSizes) → o ≡ Some s → BothWeigh w s.whole) → BothWeigh w (unwrap_or (option_map (λ m. m.whole) o) (sides (bounds 0 0) (bounds 0 0)))
    by None h = record { uncompressed = no-bits w; compressed = no-bits w }
    by (Some s) h = h s refl

-- the methods at the places before the count have their weights in the table
before-weigh : (methods : List Method) (order : List ℕ) (place : ℕ) (table : List MethodSizes) → IsOrder methods order → (light : AreLight methods) → SizedBefore methods order place table
    → (count p k : ℕ) → p < count → count ≤ place → slice_get order p ≡ Some k → BothWeigh (light.weight k) (whole_at table k)
before-weigh methods order place table is light sized zero p k lt le at = absurd (omega arith)
before-weigh methods order place table is light sized (suc count) p k lt le at =
    entry-weighs (light.weight k) table k (λ s in-table.
    let within : k < length methods = let inside : k < length table = slice_get_within table k s in-table in omega (arith, sized.each) in
    let m = there methods k within in
    let entry = sized.sized p k m.0 (omega arith) at m.1 in
    let both : Some entry.0 ≡ Some s = sym entry.1 ∙ in-table in
    let same : entry.0 ≡ s = cc in
    method-weighs methods light table k m.0 s m.1 (subst (HasSizes table m.0) same entry.2) (λ j calls.
    let earlier = is.before p k j m.0 at m.1 calls in
    before-weigh methods order place table is light sized count earlier.0 j (omega (arith, earlier.1)) (omega arith) earlier.2))

calls-weigh : (methods : List Method) (order : List ℕ) (place k : ℕ) (m : Method) (table : List MethodSizes) → IsOrder methods order → (light : AreLight methods) → SizedBefore methods order place table
    → slice_get order place ≡ Some k → slice_get methods k ≡ Some m → CallsWeigh light.weight table m
calls-weigh methods order place k m table is light sized at here j calls =
    let earlier = is.before place k j m at here calls in
    before-weigh methods order place table is light sized place earlier.0 j earlier.1 (omega arith) earlier.2

-- ---- what is known of the weights

numbers : (w : ℕ) (s : Sizes) → w ≤ 4096 → BothWeigh w s → HaveNumbers s
numbers w s le h = record {
  header = record { least = omega (arith, le, h.uncompressed.least); most = omega (arith, le, h.uncompressed.most) };
  packed = record { least = omega (arith, le, h.compressed.least); most = omega (arith, le, h.compressed.most) };
}

-- the sums of the method at the place are numbers, where those before it have their bounds
pub sums-are-numbers : (methods : List Method) (order : List ℕ) (place k : ℕ) (m : Method) (table : List MethodSizes) → IsOrder methods order → AreLight methods → SizedBefore methods order place table
    → slice_get order place ≡ Some k → slice_get methods k ≡ Some m → SumsAreNumbers table m
sums-are-numbers methods order place k m table is light sized at here = record {
  each = λ n format in-formats.
      let of-format = light.each k n m format here in-formats in
      numbers (light.weight k) (format_sizes table format).whole of-format.limit
      (format-weighs light.weight table (light.weight k) format (calls-of-format light.weight table m n format in-formats (calls-weigh methods order place k m table is light sized at here)) of-format);
}

no-formats : (table : List MethodSizes) (m : Method) (s : MethodSizes) → m.formats ≡ [] → HasSizes table m s → s.whole.compressed.most ≡ 0
no-formats table m s none has = ap (λ (t : Sizes). t.compressed.most) (has.whole_is ∙ ap formats_hull (has.formats_are ∙ ap (map (format_sizes table)) none))

-- and so all methods have at most 2^18 packed bits
pub are-packed : (methods : List Method) (order : List ℕ) (table : List MethodSizes) → IsOrder methods order → AreLight methods → SizedBefore methods order (length order) table → ArePacked methods table
are-packed methods order table is light sized k m s here in-table = by m.formats refl
  where
    place : (i : ℕ) × (slice_get order i ≡ Some k)
    place = is.each k (slice_get_within methods k m here)

    within : place.0 < length order
    within = slice_get_within order place.0 k place.1

    entry : (t : MethodSizes) × (slice_get table k ≡ Some t) × HasSizes table m t
    entry = sized.sized place.0 k m within place.1 here

    has : HasSizes table m s
    has = let both : Some entry.0 ≡ Some s = sym entry.1 ∙ in-table in let same : entry.0 ≡ s = cc in subst (HasSizes table m) same entry.2

    whole : BothWeigh (light.weight k) s.whole
    whole = method-weighs methods light table k m s here has (λ j calls.
        let earlier = is.before place.0 k j m place.1 here calls in
        before-weigh methods order (length order) table is light sized (length order) earlier.0 j (omega (arith, earlier.1, within)) (omega arith) earlier.2)

    by : (fs : List Format) → m.formats ≡ fs → s.whole.compressed.most ≤ 2 ^ 18
    by [] none = let empty = no-formats table m s none has in omega (arith, empty)
    by (f ∷ fs) some =
        let of-format = light.each k 0 m f here (ap (λ gs. slice_get gs 0) some) in
        omega (arith, of-format.limit, whole.compressed.most)
