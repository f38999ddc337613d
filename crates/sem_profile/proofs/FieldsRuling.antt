-- The equations of bounds give the rules.
use Rattle.std.proofs.Common.{◌≡◌, ◌∙◌, ap, sym, refl, subst, ℕ, ◌+◌, ◌<◌, ◌≤◌, ◌^◌, ◌≤ℤ◌, ◌⊎◌, inl, inr, Bool, true, false, cond, ◌&&◌, nat_eq, nat_le, min, max, ℤ, pos, negsuc, List, [], ◌∷◌, suc, zero, length, map, fold, if◌then◌else◌, arith}
use Rattle.std.specs.Prelude.{slice_get, Some, None, Option}
use Rattle.std.specs.Option.{option_map, option_and_then, unwrap_or}
use Rattle.std.proofs.lemmas.Option.{slice_get_within, slice_get-map}
use Rattle.std.proofs.lemmas.Bool.{cases_order, eqb-true}
use Rattle.std.proofs.lemmas.Bool.Decides.{nat_tests}
use Rattle.std.proofs.lemmas.Int.{ints}
use Rattle.text_source.specs.declared.span.Span.{Span}
use Rattle.sem_expr.specs.declared.expr.Expr.{Expr}
use Rattle.sem_expr.specs.declared.expr.Side.{Side}
use Rattle.sem_expr.specs.declared.expr.Side.TheVariants.{Uncompressed, Compressed}
use Rattle.sem_profile.specs.declared.profile.Bounds.{Bounds}
use Rattle.sem_profile.specs.declared.profile.Sizes.{Sizes}
use Rattle.sem_profile.specs.declared.profile.FormatSizes.{FormatSizes}
use Rattle.sem_profile.specs.declared.profile.MethodSizes.{MethodSizes}
use Rattle.sem_profile.specs.declared.profile.Library.{Library}
use Rattle.sem_profile.specs.declared.profile.Library.TheVariants as library
use Rattle.sem_profile.specs.declared.profile.Encoding.{Encoding}
use Rattle.sem_profile.specs.declared.profile.Encoding.TheVariants as encoding
use Rattle.sem_profile.specs.declared.profile.Constraint.{Constraint}
use Rattle.sem_profile.specs.declared.profile.Constraint.TheVariants.{Bracket, Enforce}
use Rattle.sem_profile.specs.declared.profile.Field.{Field}
use Rattle.sem_profile.specs.declared.profile.Format.{Format}
use Rattle.sem_profile.specs.declared.profile.Method.{Method}
use Rattle.sem_profile.specs.Constants.{constant}
use Rattle.sem_profile.specs.Fields.{bounds, sides, counted, by_length, library_sizes, encoding_sizes, where_listed, encoded_sizes, lists, enclosing, enclosing_all, bracket_bounds, meet, narrowed_by, narrowed, field_sizes}
use Rattle.sem_profile.specs.Formats.{plus, total, sizes_at, is_header, header_bounds, format_sizes}
use Rattle.sem_profile.specs.Passes.{indexed}
use Rattle.sem_profile.specs.Methods.{sides_hull, formats_hull, is_within}
use Rattle.sem_profile.specs.BoundsFaults.{side_bounds}
use Rattle.sem_profile.specs.Outcome.{AreSizes, FormatAt}
use Rattle.sem_profile.specs.HasBounds.{size_of, is_empty, Lower, Upper, least_of_all, least_sized, least_called, least_bracket, most_unlisted, most_bare, most_unsent, most_missing, most_empty, most_of_all, most_sized, most_called, most_bracket, listed_sum, header_sum, Encloses, BoundsByRules}
use Rattle.sem_profile.proofs.PassesPlaces.{indexed-at, indexed-length}

-- both bounds come by a rule, and the upper one is at most 2^64
record Ruled (table : List MethodSizes) (format : Format) (i : ℕ) (d : Field) (side : Side) (b : Bounds) : Type 0 where
  lower : Lower table format i d side b.least
  upper : Upper table format i d side b.most
  small : b.most ≤ 2 ^ 64

-- ---- brackets

pub record Held (b : Bounds) (e : Expr) : Type 0 where
  pub value : ℤ
  pub is : constant e ≡ Some value
  pub above : b.least ≤ counted value
  pub below : counted value ≤ b.most

outside : (o : Option Bounds) (k : ℕ) (b : Bounds) → b.least ≤ (enclosing o k).least → (enclosing o k).most ≤ b.most
    → ((c : Bounds) → o ≡ Some c → (b.least ≤ c.least) × (c.most ≤ b.most)) × (b.least ≤ k) × (k ≤ b.most)
outside None k b low high = (λ c e. let wrong : None ≡ Some c = e in absurd cc, low, high)
outside (Some a) k b low high =
    (λ c e. let same : a ≡ c = cc in (omega (arith, ap (λ (x : Bounds). x.least) same), omega (arith, ap (λ (x : Bounds). x.most) same)), omega arith, omega arith)

pub enclosed : (o : Option Bounds) (es : List Expr) (b : Bounds) → enclosing_all o es ≡ Some b
    → ((c : Bounds) → o ≡ Some c → (b.least ≤ c.least) × (c.most ≤ b.most)) × ((j : ℕ) (e : Expr) → slice_get es j ≡ Some e → Held b e)
enclosed o [] b is = (
  λ c e. let both : Some c ≡ Some b = sym e ∙ is in let same : c ≡ b = cc in (omega (arith, ap (λ (x : Bounds). x.least) same), omega (arith, ap (λ (x : Bounds). x.most) same)),
  λ j e at. let wrong : None ≡ Some e = at in absurd cc,
)
enclosed o (x ∷ xs) b is = by (constant x) refl is (λ w more. enclosed (Some (enclosing o (counted w))) xs b more)
  where
    each : Held b x → ((j : ℕ) (e : Expr) → slice_get xs j ≡ Some e → Held b e) → (j : ℕ) (e : Expr) → slice_get (x ∷ xs) j ≡ Some e → Held b e
    each here later zero e at = let same : x ≡ e = cc in subst (Held b) same here
    each here later (suc j) e at = later j e at

    by : (v : Option ℤ) → constant x ≡ v → option_and_then (λ w. enclosing_all (Some (enclosing o (counted w))) xs) v ≡ Some b
        → ((w : ℤ) → enclosing_all (Some (enclosing o (counted w))) xs ≡ Some b
        → ((c : Bounds) → Some (enclosing o (counted w)) ≡ Some c → (b.least ≤ c.least) × (c.most ≤ b.most)) × ((j : ℕ) (e : Expr) → slice_get xs j ≡ Some e → Held b e))
        → ((c : Bounds) → o ≡ Some c → (b.least ≤ c.least) × (c.most ≤ b.most)) × ((j : ℕ) (e : Expr) → slice_get (x ∷ xs) j ≡ Some e → Held b e)
    by None has is more = let wrong : None ≡ Some b = is in absurd cc
    by (Some v) has is more =
        let rest = more v is in
        let first = rest.0 (enclosing o (counted v)) refl in
        let out = outside o (counted v) b first.0 first.1 in
        let here : Held b x = record { value = v; is = has; above = out.1; below = out.2 } in
        (out.0, each here rest.1)

pos-le : (n : ℕ) (v : ℤ) → 0 < n → n ≤ counted v → pos n ≤ℤ v
pos-le n (pos m) more le = let small : n ≤ m = omega arith in omega (arith, ints)
pos-le n (negsuc m) more le = absurd (omega arith)

le-pos : (n : ℕ) (v : ℤ) → n < 2 ^ 64 → counted v ≤ n → v ≤ℤ pos n
le-pos n (pos m) small le = let less : m ≤ n = omega arith in omega (arith, ints)
le-pos n (negsuc m) small le = omega (arith, ints)

-- ---- the length that an argument gives

pub sized-by : (o : Option ℤ) → (by_length o ≡ bounds 0 64) ⊎ ((n : ℕ) × (o ≡ Some (pos n)) × (n ≤ 64) × (by_length o ≡ bounds n n))
sized-by None = inl refl
sized-by (Some (negsuc m)) = inl refl
sized-by (Some (pos n)) = by (nat_le n 64) refl
  where
    by : (b : Bool) → nat_le n 64 ≡ b → (by_length (Some (pos n)) ≡ bounds 0 64) ⊎ ((k : ℕ) × (Some (pos n) ≡ Some (pos k)) × (k ≤ 64) × (by_length (Some (pos n)) ≡ bounds k k))
    by true e =
        let le : n ≤ 64 = grind (arith, nat_tests) in
        let t : (nat_le 0 n && nat_le n 64) ≡ true = grind (arith, nat_tests) in
        let same : min n (2 ^ 64) ≡ n = omega arith in
        inr (n, refl, le, ap (λ c. cond c (bounds (min n (2 ^ 64)) (min n (2 ^ 64))) (bounds 0 64)) t ∙ ap (λ k. bounds k k) same)
    by false e =
        let more : 64 < n = grind (arith, nat_tests) in
        let t : (nat_le 0 n && nat_le n 64) ≡ false = grind (arith, nat_tests) in
        inl (ap (λ c. cond c (bounds (min n (2 ^ 64)) (min n (2 ^ 64))) (bounds 0 64)) t)

-- ---- the encoding alone

abbrev SmallTable : List MethodSizes → Type 0
SmallTable table = (k : ℕ) (m : MethodSizes) → slice_get table k ≡ Some m → (side : Side) → (side_bounds side m.whole).most ≤ 2 ^ 64

by-argument : (table : List MethodSizes) (format : Format) (i : ℕ) (d : Field) (side : Side) (l : Library) (e : Expr) → d.encoding ≡ encoding.Library l → size_of side l ≡ Some e
    → Ruled table format i d side (by_length (constant e))
by-argument table format i d side l e is size =
    elim (sized-by (constant e)) as (λ _. Ruled table format i d side (by_length (constant e))) [
      | inl free ↦ subst (Ruled table format i d side) (sym free) record { lower = least_of_all; upper = most_of_all l is; small = omega arith }
      | inr known ↦ subst (Ruled table format i d side) (sym known.3) record {
        lower = least_sized l e is size known.1;
        upper = most_sized l e is size known.1;
        small = let le : known.0 ≤ 64 = known.2 in omega arith;
      }
    ]

by-none : (table : List MethodSizes) (format : Format) (i : ℕ) (d : Field) (side : Side) (l : Library) → d.encoding ≡ encoding.Library l → is_empty side l ≡ true
    → Ruled table format i d side (bounds 0 0)
by-none table format i d side l is empty = record { lower = least_of_all; upper = most_empty l is empty; small = omega arith }

by-library : (table : List MethodSizes) (format : Format) (i : ℕ) (d : Field) (side : Side) (l : Library) → d.encoding ≡ encoding.Library l
    → Ruled table format i d side (side_bounds side (library_sizes l))
by-library table format i d Uncompressed (library.UncompressedValue len v) is = by-argument table format i d Uncompressed (library.UncompressedValue len v) len is refl
by-library table format i d Uncompressed (library.CompressedValue len v) is = by-none table format i d Uncompressed (library.CompressedValue len v) is refl
by-library table format i d Uncompressed (library.Irregular len) is = by-argument table format i d Uncompressed (library.Irregular len) len is refl
by-library table format i d Uncompressed library.Static is = record { lower = least_of_all; upper = most_of_all library.Static is; small = omega arith }
by-library table format i d Uncompressed (library.Lsb k offset) is = record { lower = least_of_all; upper = most_of_all (library.Lsb k offset) is; small = omega arith }
by-library table format i d Uncompressed (library.Crc crc) is = by-none table format i d Uncompressed (library.Crc crc) is refl
by-library table format i d Compressed (library.UncompressedValue len v) is = by-none table format i d Compressed (library.UncompressedValue len v) is refl
by-library table format i d Compressed (library.CompressedValue len v) is = by-argument table format i d Compressed (library.CompressedValue len v) len is refl
by-library table format i d Compressed (library.Irregular len) is = by-argument table format i d Compressed (library.Irregular len) len is refl
by-library table format i d Compressed library.Static is = by-none table format i d Compressed library.Static is refl
by-library table format i d Compressed (library.Lsb k offset) is = by-argument table format i d Compressed (library.Lsb k offset) k is refl
by-library table format i d Compressed (library.Crc crc) is = by-argument table format i d Compressed (library.Crc crc) crc.bits is refl

by-encoding : (table : List MethodSizes) (format : Format) (i : ℕ) (d : Field) (side : Side) → SmallTable table → (e : Encoding) → d.encoding ≡ e
    → Ruled table format i d side (side_bounds side (encoding_sizes table e))
by-encoding table format i d Uncompressed tight encoding.Bare is = record { lower = least_of_all; upper = most_bare is refl; small = omega arith }
by-encoding table format i d Compressed tight encoding.Bare is = record { lower = least_of_all; upper = most_unsent is refl; small = omega arith }
by-encoding table format i d side tight (encoding.Library l) is = by-library table format i d side l is
by-encoding table format i d side tight (encoding.Call k es) is = by (slice_get table k) refl
  where
    none-there : (z : Side) → slice_get table k ≡ None → Ruled table format i d z (side_bounds z (sides (bounds 0 0) (bounds 0 0)))
    none-there Uncompressed at = record { lower = least_of_all; upper = most_missing k es is at; small = omega arith }
    none-there Compressed at = record { lower = least_of_all; upper = most_missing k es is at; small = omega arith }

    by : (o : Option MethodSizes) → slice_get table k ≡ o → Ruled table format i d side (side_bounds side (unwrap_or (option_map (λ m. m.whole) o) (sides (bounds 0 0) (bounds 0 0))))
    by None at = none-there side at
    by (Some m) at = record { lower = least_called k es m is at refl; upper = most_called k es m is at refl; small = tight k m at side }

by-listing : (table : List MethodSizes) (format : Format) (i : ℕ) (d : Field) (side : Side) → SmallTable table → Ruled table format i d side (side_bounds side (encoded_sizes table format i d))
by-listing table format i d side tight = by side (lists format.listing i) refl (by-encoding table format i d side tight d.encoding refl)
  where
    by : (z : Side) (b : Bool) → lists format.listing i ≡ b → Ruled table format i d z (side_bounds z (encoding_sizes table d.encoding))
        → Ruled table format i d z (side_bounds z (where_listed b (encoding_sizes table d.encoding)))
    by z true e r = r
    by Uncompressed false e r = r
    by Compressed false e r = record { lower = least_of_all; upper = most_unlisted refl e; small = omega arith }

-- ---- the brackets

met : (table : List MethodSizes) (format : Format) (i : ℕ) (d : Field) (side : Side) (a b : Bounds) (j : ℕ) (lengths : List Expr) (place : Span)
    → slice_get format.constraints j ≡ Some (Bracket i side lengths place) → bracket_bounds lengths ≡ Some b → Ruled table format i d side a → Ruled table format i d side (meet a b)
met table format i d side a b j lengths place at is r = record { lower = low (lower-cases a.least b.least); upper = high (upper-cases a.most b.most); small = let le : a.most ≤ 2 ^ 64 = r.small in omega arith }
  where
    held : (n : ℕ) (e : Expr) → slice_get lengths n ≡ Some e → Held b e
    held = (enclosed None lengths b is).1

    lower-cases : (x y : ℕ) → (max x y ≡ x) ⊎ ((max x y ≡ y) × (0 < y))
    lower-cases x y = elim (cases_order x y) as (λ _. (max x y ≡ x) ⊎ ((max x y ≡ y) × (0 < y))) [
      | inl e ↦ inl (omega arith)
      | inr o ↦ elim o as (λ _. (max x y ≡ x) ⊎ ((max x y ≡ y) × (0 < y))) [ inl less ↦ inr (omega arith, omega arith) | inr more ↦ inl (omega arith) ]
    ]

    upper-cases : (x y : ℕ) → (min x y ≡ x) ⊎ ((min x y ≡ y) × (y < x))
    upper-cases x y = elim (cases_order x y) as (λ _. (min x y ≡ x) ⊎ ((min x y ≡ y) × (y < x))) [
      | inl e ↦ inl (omega arith)
      | inr o ↦ elim o as (λ _. (min x y ≡ x) ⊎ ((min x y ≡ y) × (y < x))) [ inl less ↦ inl (omega arith) | inr more ↦ inr (omega arith, omega arith) ]
    ]

    low : (max a.least b.least ≡ a.least) ⊎ ((max a.least b.least ≡ b.least) × (0 < b.least)) → Lower table format i d side (max a.least b.least)
    low (inl e) = subst (Lower table format i d side) (sym e) r.lower
    low (inr e) = subst (Lower table format i d side) (sym e.0)
        (least_bracket j lengths place at (λ n x here. let h = held n x here in (h.value, h.is, pos-le b.least h.value e.1 h.above)))

    high : (min a.most b.most ≡ a.most) ⊎ ((min a.most b.most ≡ b.most) × (b.most < a.most)) → Upper table format i d side (min a.most b.most)
    high (inl e) = subst (Upper table format i d side) (sym e) r.upper
    high (inr e) = subst (Upper table format i d side) (sym e.0)
        (most_bracket j lengths place at (λ n x here. let h = held n x here in
        let less : b.most < 2 ^ 64 = let le : a.most ≤ 2 ^ 64 = r.small in let lt : b.most < a.most = e.1 in omega arith in
        (h.value, h.is, le-pos b.most h.value less h.below)))

narrowed-one : (table : List MethodSizes) (format : Format) (i : ℕ) (d : Field) (side : Side) (s : Sizes) (j : ℕ) (c : Constraint) → slice_get format.constraints j ≡ Some c
    → Ruled table format i d side (side_bounds side s) → Ruled table format i d side (side_bounds side (narrowed i s c))
narrowed-one table format i d side s j (Enforce condition place) at r = r
narrowed-one table format i d side s j (Bracket field z lengths place) at r = by (nat_eq field i) refl
  where
    on : (x y : Side) (o : Option Bounds) → bracket_bounds lengths ≡ o → slice_get format.constraints j ≡ Some (Bracket i y lengths place)
        → Ruled table format i d x (side_bounds x s) → Ruled table format i d x (side_bounds x (narrowed_by o y s))
    on x y None is at r = r
    on Uncompressed Uncompressed (Some b) is at r = met table format i d Uncompressed s.uncompressed b j lengths place at is r
    on Uncompressed Compressed (Some b) is at r = r
    on Compressed Uncompressed (Some b) is at r = r
    on Compressed Compressed (Some b) is at r = met table format i d Compressed s.compressed b j lengths place at is r

    by : (t : Bool) → nat_eq field i ≡ t → Ruled table format i d side (side_bounds side (cond t (narrowed_by (bracket_bounds lengths) z s) s))
    by true e =
        let same : field ≡ i = eqb-true field i e in
        on side z (bracket_bounds lengths) refl (subst (λ k. slice_get format.constraints j ≡ Some (Bracket k z lengths place)) same at) r
    by false e = r

narrowed-all : (table : List MethodSizes) (format : Format) (i : ℕ) (d : Field) (side : Side) (cs : List Constraint)
    → ((n : ℕ) (c : Constraint) → slice_get cs n ≡ Some c → (j : ℕ) × (slice_get format.constraints j ≡ Some c))
    → (s : Sizes) → Ruled table format i d side (side_bounds side s) → Ruled table format i d side (side_bounds side (fold (narrowed i) s cs))
narrowed-all table format i d side [] stand s r = r
narrowed-all table format i d side (c ∷ cs) stand s r =
    let here = stand 0 c refl in
    narrowed-all table format i d side cs (λ n x at. stand (suc n) x at) (narrowed i s c) (narrowed-one table format i d side s here.0 c here.1 r)

ruled : (table : List MethodSizes) (format : Format) (i : ℕ) (d : Field) (side : Side) → SmallTable table → Ruled table format i d side (side_bounds side (field_sizes table format i d))
ruled table format i d side tight =
    narrowed-all table format i d side format.constraints (λ n c at. (n, at)) (encoded_sizes table format i d) (by-listing table format i d side tight)

-- ---- the table

pub there : {A : Type 0} → (xs : List A) (k : ℕ) → k < length xs → (x : A) × (slice_get xs k ≡ Some x)
there [] k lt = absurd (omega arith)
there (x ∷ xs) zero lt = (x, refl)
there (x ∷ xs) (suc k) lt = there xs k (omega arith)

both-true : (a b : Bool) → (a && b) ≡ true → (a ≡ true) × (b ≡ true)
both-true true b e = (refl, e)
both-true false b e = absurd cc

small-sides : (s : Sizes) → is_within s ≡ true → (side : Side) → (side_bounds side s).most ≤ 2 ^ 64
small-sides s e Uncompressed = let t = both-true (nat_le s.uncompressed.most 4096) (nat_le s.compressed.most (2 ^ 18)) e in let u : nat_le s.uncompressed.most 4096 ≡ true = t.0 in
    let le : s.uncompressed.most ≤ 4096 = grind (arith, nat_tests) in omega arith
small-sides s e Compressed = let t = both-true (nat_le s.uncompressed.most 4096) (nat_le s.compressed.most (2 ^ 18)) e in let u : nat_le s.compressed.most (2 ^ 18) ≡ true = t.1 in
    let le : s.compressed.most ≤ 2 ^ 18 = grind (arith, nat_tests) in omega arith

small-table : (methods : List Method) (table : List MethodSizes) → AreSizes methods table → SmallTable table
small-table methods table are k m at side =
    let lt : k < length methods = let within : k < length table = slice_get_within table k m at in omega (arith, are.each) in
    let method = there methods k lt in
    small-sides m.whole (are.fine.within k method.0 m method.1 at) side

pub field-is : (methods : List Method) (table : List MethodSizes) → AreSizes methods table → (m : Method) (format : Format) (s : MethodSizes) (sizes : FormatSizes) → FormatAt methods table m format s sizes
    → (i : ℕ) (d : Field) (b : Sizes) → slice_get format.fields i ≡ Some d → slice_get sizes.fields i ≡ Some b → field_sizes table format i d ≡ b
field-is methods table are m format s sizes at i d b in-format in-sizes =
    let has = are.sized at.method_place m s at.method_at at.whole_at in
    let looked : Some (format_sizes table format) ≡ Some sizes =
    sym (ap (option_map (format_sizes table)) at.format_at) ∙ sym (slice_get-map (format_sizes table) m.formats at.format_place) ∙ sym (ap (λ fs. slice_get fs at.format_place) has.formats_are)
    ∙ at.sizes_at in
    let same : format_sizes table format ≡ sizes = cc in
    let zero-i : i ≡ 0 + i = omega arith in
    let found : Some (field_sizes table format i d) ≡ Some b =
    ap (λ n. Some (field_sizes table format n d)) zero-i ∙ sym (ap (option_map (field_sizes table format (0 + i))) in-format) ∙ sym (indexed-at (field_sizes table format) 0 format.fields i)
    ∙ ap (λ (f : FormatSizes). slice_get f.fields i) same ∙ in-sizes in
    cc

-- ---- sums

-- a count of bits that adds up, as the least and the most of bounds do
pub record AddsUp (count : Bounds → ℕ) : Type 0 where
  pub none : count (bounds 0 0) ≡ 0
  pub more : (b c : Bounds) → count (plus b c) ≡ count b + count c

pub least-adds : AddsUp (λ b. b.least)
least-adds = record { none = refl; more = λ b c. refl }

pub most-adds : AddsUp (λ b. b.most)
most-adds = record { none = refl; more = λ b c. refl }

first-zero : (n m z : ℕ) → n ≡ z + m → z ≡ 0 → n ≡ m
first-zero n m z e f = omega arith

total-more : (count : Bounds → ℕ) → AddsUp count → (b : Bounds) (bs : List Bounds) → count (fold plus b bs) ≡ count b + count (total bs)
total-more count adds b [] = let none = adds.none in omega arith
total-more count adds b (c ∷ cs) =
    let here = adds.more b c in
    let start = first-zero (count (plus (bounds 0 0) c)) (count c) (count (bounds 0 0)) (adds.more (bounds 0 0) c) adds.none in
    let rest = total-more count adds (plus (bounds 0 0) c) cs in
    total-more count adds (plus b c) cs ∙ omega arith

-- the first of the bounds, and the rest
pub total-next : (count : Bounds → ℕ) → AddsUp count → (b : Bounds) (bs : List Bounds) → count (total (b ∷ bs)) ≡ count b + count (total bs)
total-next count adds b bs =
    total-more count adds (plus (bounds 0 0) b) bs
    ∙ ap (λ n. n + count (total bs)) (first-zero (count (plus (bounds 0 0) b)) (count b) (count (bounds 0 0)) (adds.more (bounds 0 0) b) adds.none)

-- ---- sums over the listing

count-at : (count : Bounds → ℕ) → AddsUp count → (fields : List Sizes) (i : ℕ)
    → count (sizes_at fields i).compressed ≡ unwrap_or (option_map (λ b. count b.compressed) (slice_get fields i)) 0
count-at count adds fields i = by (slice_get fields i)
  where
    by : (o : Option Sizes) → count (unwrap_or o (sides (bounds 0 0) (bounds 0 0))).compressed ≡ unwrap_or (option_map (λ b. count b.compressed) o) 0
    by None = adds.none
    by (Some b) = refl

listed-sum : (count : Bounds → ℕ) → AddsUp count → (fields : List Sizes) (listing : List ℕ)
    → count (total (map (λ i. (sizes_at fields i).compressed) listing)) ≡ listed_sum (λ b. count b.compressed) fields listing
listed-sum count adds fields [] = adds.none
listed-sum count adds fields (i ∷ is) =
    let here = count-at count adds fields i in
    let rest = listed-sum count adds fields is in
    total-next count adds (sizes_at fields i).compressed (map (λ k. (sizes_at fields k).compressed) is) ∙ (λ j. here j + rest j)

-- ---- sums over the header

-- the bounds of the fields from a place on are those of the rest of the list
header-sum : (count : Bounds → ℕ) → AddsUp count → (all : List Sizes) (n : ℕ) (ds : List Field) (bs : List Sizes) → length bs ≡ length ds
    → ((k : ℕ) → slice_get all (n + k) ≡ slice_get bs k) → count (total (indexed (header_bounds all) n ds)) ≡ header_sum (λ b. count b.uncompressed) ds bs
header-sum count adds all n [] bs same at = adds.none
header-sum count adds all n (d ∷ ds) [] same at = absurd (omega arith)
header-sum count adds all n (d ∷ ds) (b ∷ bs) same at =
    let zero-n : n ≡ n + 0 = omega arith in
    let found : sizes_at all n ≡ b = ap (sizes_at all) zero-n ∙ ap (λ o. unwrap_or o (sides (bounds 0 0) (bounds 0 0))) (at 0) in
    let here : count (header_bounds all n d) ≡ (if is_header d.declared.part then count b.uncompressed else 0) =
    ap (λ (s : Sizes). count (if is_header d.declared.part then s.uncompressed else bounds 0 0)) found ∙ inside (is_header d.declared.part) b in
    let rest = header-sum count adds all (n + 1) ds bs (omega arith) (λ k. ap (slice_get all) (let e : n + 1 + k ≡ n + suc k = omega arith in e) ∙ at (suc k)) in
    total-next count adds (header_bounds all n d) (indexed (header_bounds all) (n + 1) ds) ∙ (λ i. here i + rest i)
  where
    inside : (t : Bool) (s : Sizes) → count (if t then s.uncompressed else bounds 0 0) ≡ (if t then count s.uncompressed else 0)
    inside true s = refl
    inside false s = adds.none

header-of : (count : Bounds → ℕ) → AddsUp count → (table : List MethodSizes) (format : Format)
    → count (format_sizes table format).whole.uncompressed ≡ header_sum (λ b. count b.uncompressed) format.fields (format_sizes table format).fields
header-of count adds table format =
    let all = (format_sizes table format).fields in
    header-sum count adds all 0 format.fields all (indexed-length (field_sizes table format) 0 format.fields) (λ k. ap (slice_get all) (let e : 0 + k ≡ k = omega arith in e))

-- ---- methods

hull-first : (side : Side) (s : Sizes) (fs : List FormatSizes) → Encloses (side_bounds side (fold (λ t g. sides_hull t g.whole) s fs)) (side_bounds side s)
hull-first side s [] = record { least = omega arith; most = omega arith }
hull-first Uncompressed s (f ∷ fs) = let r = hull-first Uncompressed (sides_hull s f.whole) fs in record { least = omega (arith, r.least); most = omega (arith, r.most) }
hull-first Compressed s (f ∷ fs) = let r = hull-first Compressed (sides_hull s f.whole) fs in record { least = omega (arith, r.least); most = omega (arith, r.most) }

hull-rest : (side : Side) (s : Sizes) (fs : List FormatSizes) (n : ℕ) (f : FormatSizes) → slice_get fs n ≡ Some f
    → Encloses (side_bounds side (fold (λ t g. sides_hull t g.whole) s fs)) (side_bounds side f.whole)
hull-rest side s [] n f at = let wrong : None ≡ Some f = at in absurd cc
hull-rest Uncompressed s (g ∷ gs) zero f at =
    let r = hull-first Uncompressed (sides_hull s g.whole) gs in
    let same : g ≡ f = cc in
    subst (λ (x : FormatSizes). Encloses (side_bounds Uncompressed (fold (λ t h. sides_hull t h.whole) s (g ∷ gs))) x.whole.uncompressed) same
    (record { least = omega (arith, r.least); most = omega (arith, r.most) })
hull-rest Compressed s (g ∷ gs) zero f at =
    let r = hull-first Compressed (sides_hull s g.whole) gs in
    let same : g ≡ f = cc in
    subst (λ (x : FormatSizes). Encloses (side_bounds Compressed (fold (λ t h. sides_hull t h.whole) s (g ∷ gs))) x.whole.compressed) same
    (record { least = omega (arith, r.least); most = omega (arith, r.most) })
hull-rest side s (g ∷ gs) (suc n) f at = hull-rest side (sides_hull s g.whole) gs n f at

hull-all : (side : Side) (fs : List FormatSizes) (n : ℕ) (f : FormatSizes) → slice_get fs n ≡ Some f → Encloses (side_bounds side (formats_hull fs)) (side_bounds side f.whole)
hull-all side [] n f at = let wrong : None ≡ Some f = at in absurd cc
hull-all side (g ∷ gs) zero f at =
    let same : g ≡ f = cc in
    subst (λ (x : FormatSizes). Encloses (side_bounds side (formats_hull (g ∷ gs))) (side_bounds side x.whole)) same (hull-first side g.whole gs)
hull-all side (g ∷ gs) (suc n) f at = hull-rest side g.whole gs n f at

pub format-is : (methods : List Method) (table : List MethodSizes) → AreSizes methods table → (m : Method) (format : Format) (s : MethodSizes) (sizes : FormatSizes) → FormatAt methods table m format s sizes
    → format_sizes table format ≡ sizes
format-is methods table are m format s sizes at =
    let has = are.sized at.method_place m s at.method_at at.whole_at in
    let looked : Some (format_sizes table format) ≡ Some sizes =
    sym (ap (option_map (format_sizes table)) at.format_at) ∙ sym (slice_get-map (format_sizes table) m.formats at.format_place) ∙ sym (ap (λ fs. slice_get fs at.format_place) has.formats_are)
    ∙ at.sizes_at in
    cc

pub by-rules : BoundsByRules
by-rules methods table are = record {
  least_by = λ m format s sizes at side i d b in-format in-sizes.
      subst (λ (x : Sizes). Lower table format i d side (side_bounds side x).least) (field-is methods table are m format s sizes at i d b in-format in-sizes)
      (ruled table format i d side (small-table methods table are)).lower;
  most_by = λ m format s sizes at side i d b in-format in-sizes.
      subst (λ (x : Sizes). Upper table format i d side (side_bounds side x).most) (field-is methods table are m format s sizes at i d b in-format in-sizes)
      (ruled table format i d side (small-table methods table are)).upper;
  small = λ m format s sizes at side i d b in-format in-sizes.
      subst (λ (x : Sizes). (side_bounds side x).most ≤ 2 ^ 64) (field-is methods table are m format s sizes at i d b in-format in-sizes)
      (ruled table format i d side (small-table methods table are)).small;
  least_header = λ m format s sizes at.
      subst (λ (f : FormatSizes). f.whole.uncompressed.least ≡ header_sum (λ b. b.uncompressed.least) format.fields f.fields) (format-is methods table are m format s sizes at)
      (header-of (λ b. b.least) least-adds table format);
  most_header = λ m format s sizes at.
      subst (λ (f : FormatSizes). f.whole.uncompressed.most ≡ header_sum (λ b. b.uncompressed.most) format.fields f.fields) (format-is methods table are m format s sizes at)
      (header-of (λ b. b.most) most-adds table format);
  least_sum = λ m format s sizes at.
      subst (λ (f : FormatSizes). f.whole.compressed.least ≡ listed_sum (λ b. b.compressed.least) f.fields format.listing) (format-is methods table are m format s sizes at)
      (listed-sum (λ b. b.least) least-adds (format_sizes table format).fields format.listing);
  most_sum = λ m format s sizes at.
      subst (λ (f : FormatSizes). f.whole.compressed.most ≡ listed_sum (λ b. b.compressed.most) f.fields format.listing) (format-is methods table are m format s sizes at)
      (listed-sum (λ b. b.most) most-adds (format_sizes table format).fields format.listing);
  of_method = λ m format s sizes at side.
      let has = are.sized at.method_place m s at.method_at at.whole_at in
      subst (λ (w : Sizes). Encloses (side_bounds side w) (side_bounds side sizes.whole)) (sym has.whole_is) (hull-all side s.formats at.format_place sizes at.sizes_at);
}
