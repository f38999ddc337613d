-- Where the sides of fields stand in the side of the whole.
use Rattle.std.proofs.Common.{◌≡◌, ◌∙◌, refl, sym, ap, ℕ, ◌+◌, ◌-◌, Bool, true, false, cond, List, [], ◌∷◌, ◌++◌, length, take, drop, map, flat_map, filter, arith, append_assoc}
use Rattle.std.specs.Prelude.{Option, Some, None, nat_eq, nat_le, option_map, option_and_then, slice_get, slice_range}
use Rattle.std.proofs.lemmas.Bool.Decides.{nat_tests}
use Rattle.std.proofs.lemmas.List.{drop-drop, drop_at, length-append}
use Rattle.sem_expr.specs.declared.expr.Side.{Side}
use Rattle.sem_expr.specs.declared.expr.Side.TheVariants.{Uncompressed, Compressed}
use Rattle.sem_profile.specs.declared.profile.Declared.{Declared}
use Rattle.sem_profile.specs.declared.profile.Field.{Field}
use Rattle.sem_profile.specs.declared.profile.Format.{Format}
use Rattle.sem_filling.specs.declared.filling.Filling.{Filling}
use Rattle.sem_filling.specs.Fillings.{Sides, header_bits, is_header, packed_bits, level}
use Rattle.sem_filling.specs.Fits.{IsShaped, field_side}
use Rattle.sem_filling.proofs.FitsSides.{piece_is}
use Rattle.sem_filling.proofs.FitsSized.{and_then_some, map_some}
use Rattle.sem_reasons.specs.Places.{begin_of, cut_of, header_order, order_of, BeginsAt, Holds}
use Rattle.sem_reasons.specs.Settings.{whole_side}

-- that side of the field i
abbrev pub piece : List Sides → Side → ℕ → List Bool
piece xs side i = field_side (slice_get xs i) side

-- ---- the whole is its pieces

packed_pieces : (listing : List ℕ) (xs : List Sides) → packed_bits listing xs ≡ flat_map (piece xs Compressed) listing
packed_pieces [] xs = refl
packed_pieces (i ∷ is) xs = λ j. piece_is (slice_get xs i) j ++ packed_pieces is xs j

get_past : (pre : List Sides) (x : Sides) (xs : List Sides) → slice_get (pre ++ x ∷ xs) (length pre) ≡ Some x
get_past [] x xs = refl
get_past (p ∷ pre) x xs = get_past pre x xs

regroup : (pre : List Sides) (x : Sides) (xs : List Sides) → pre ++ x ∷ xs ≡ (pre ++ x ∷ []) ++ xs
regroup [] x xs = refl
regroup (p ∷ pre) x xs = ap (λ z. p ∷ z) (regroup pre x xs)

header_pieces : (pre xs : List Sides) (ds : List Field) → map (λ s. s.declared) xs ≡ map (λ d. d.declared) ds
    → header_bits xs ≡ flat_map (piece (pre ++ xs) Uncompressed) (header_order (length pre) ds)
header_pieces pre [] [] same = refl
header_pieces pre [] (d ∷ ds) same = absurd (cc)
header_pieces pre (x ∷ xs) [] same = absurd (cc)
header_pieces pre (x ∷ xs) (d ∷ ds) same =
    let here : x.declared ≡ d.declared = cc in
    let later : map (λ s. s.declared) xs ≡ map (λ d. d.declared) ds = cc in
    let next : length (pre ++ x ∷ []) ≡ length pre + 1 = length-append pre (x ∷ []) in
    let more : header_bits xs ≡ flat_map (piece (pre ++ x ∷ xs) Uncompressed) (header_order (length pre + 1) ds) =
    header_pieces (pre ++ x ∷ []) xs ds later ∙ (λ j. flat_map (piece (sym (regroup pre x xs) j) Uncompressed) (header_order (next j) ds)) in
    by (is_header x.declared.part) (is_header d.declared.part) (ap (λ (z : Declared). is_header z.part) here) more
  where
    by : (b c : Bool) → b ≡ c → header_bits xs ≡ flat_map (piece (pre ++ x ∷ xs) Uncompressed) (header_order (length pre + 1) ds)
        → flat_map (λ (s : Sides). s.uncompressed) (cond b (x ∷ filter (λ s. is_header s.declared.part) xs) (filter (λ s. is_header s.declared.part) xs))
        ≡ flat_map (piece (pre ++ x ∷ xs) Uncompressed) (cond c (length pre ∷ header_order (length pre + 1) ds) (header_order (length pre + 1) ds))
    by true true e more = λ j. field_side (sym (get_past pre x xs) j) Uncompressed ++ more j
    by false false e more = more
    by true false e more = absurd (cc)
    by false true e more = absurd (cc)

pub whole_pieces : (format : Format) (f : Filling) → IsShaped format f → (side : Side) → whole_side side f ≡ flat_map (piece (level f) side) (order_of format side)
whole_pieces format f shaped Uncompressed = header_pieces [] (level f) format.fields shaped.declared_is
whole_pieces format f shaped Compressed = ap (λ l. packed_bits l (level f)) shaped.listing_is ∙ packed_pieces format.listing (level f)

-- ---- where a piece begins

taken : (own later : List Bool) → take (length own) (own ++ later) ≡ own
taken [] later = refl
taken (x ∷ own) later = ap (λ z. x ∷ z) (taken own later)

module _ (xs : List Sides) (side : Side) (order : List ℕ) (only : ℕ → Option ℕ) (each : (i m : ℕ) → only i ≡ Some m → length (piece xs side i) ≡ m) where
  begins_on : (rest : List Bool) (i : ℕ) (js : List ℕ) (bits : List Bool) → bits ≡ flat_map (piece xs side) js ++ rest → (offset : ℕ) → BeginsAt js only i offset → (later : List Bool) × (drop offset bits ≡ piece xs side i ++ later)
  begins_on rest i [] bits in_front offset b = absurd (cc)
  begins_on rest i (j ∷ js) bits in_front offset b =
      by (nat_eq i j) refl b (λ n m long begins. begins_on rest i js (drop n bits) ((λ k. drop n ((in_front ∙ append_assoc (piece xs side j) (flat_map (piece xs side) js) rest) k)) ∙ drop_at (piece xs side j) (flat_map (piece xs side) js ++ rest) n long) m begins)
    where
      by : (t : Bool) → nat_eq i j ≡ t → cond t (Some 0) (option_and_then (λ n. option_map (λ m. n + m) (begin_of only i js)) (only j)) ≡ Some offset
          → ((n m : ℕ) → length (piece xs side j) ≡ n → begin_of only i js ≡ Some m → (later : List Bool) × (drop m (drop n bits) ≡ piece xs side i ++ later))
          → (later : List Bool) × (drop offset bits ≡ piece xs side i ++ later)
      by true same b next =
          let here : i ≡ j = grind (arith, nat_tests) in
          let none : 0 ≡ offset = cc in (
            flat_map (piece xs side) js ++ rest,
            (λ k. drop (sym none k) bits) ∙ (in_front ∙ (append_assoc (piece xs side j) (flat_map (piece xs side) js) rest ∙ ap (λ z. piece xs side z ++ (flat_map (piece xs side) js ++ rest)) (sym here))),
          )
      by false same b next =
          let x = and_then_some (λ n. option_map (λ m. n + m) (begin_of only i js)) (only j) offset b in
          let y = map_some (λ m. x.0 + m) (begin_of only i js) offset x.2 in
          let t = next x.0 y.0 (each j x.0 x.1) y.1 in
          (t.0, (λ k. drop (sym y.2 k) bits) ∙ (sym (drop-drop y.0 x.0 bits) ∙ t.1))

  module _ (bits rest : List Bool) (in_front : bits ≡ flat_map (piece xs side) order ++ rest) where
    -- the bits from where the field begins are its own, and then others
    pub begun : (i offset : ℕ) → BeginsAt order only i offset → (later : List Bool) × (drop offset bits ≡ piece xs side i ++ later)
    begun i offset b = begins_on rest i order bits in_front offset b

    -- the bits that are cut out are those of the field
    pub held : (i : ℕ) (own : List Bool) → Holds order only bits i own → piece xs side i ≡ own
    held i own h =
        let x = and_then_some (λ offset. option_and_then (λ count. cut_of bits offset count) (only i)) (begin_of only i order) own h in
        let y = and_then_some (λ count. cut_of bits x.0 count) (only i) own x.2 in
        let b = begun i x.0 x.1 in
        let long : length (piece xs side i) ≡ y.0 = each i y.0 y.1 in
        let count : (x.0 + y.0) - x.0 ≡ length (piece xs side i) = omega (arith, long) in
        sym (sym (cut_out (nat_le (x.0 + y.0) (length bits)) x.0 y.0 y.2) ∙ ((λ j. take (count j) (b.1 j)) ∙ taken (piece xs side i) b.0))
      where
        cut_out : (t : Bool) (offset count : ℕ) → cond t (Some (slice_range bits offset (offset + count))) None ≡ Some own → slice_range bits offset (offset + count) ≡ own
        cut_out true offset count e = cc
        cut_out false offset count e = absurd (cc)
