-- The header and the packed bits of a filling, compared with bits side by side.
use Rattle.std.proofs.Common.{◌≡◌, ◌∙◌, refl, sym, ap, ℕ, ◌+◌, zero, suc, Bool, true, false, cond, List, [], ◌∷◌, ◌++◌, length, map, filter, take, drop, add-one}
use Rattle.std.specs.Prelude.{Option, Some, None, slice_get, unwrap_or, ◌↔◌}
use Rattle.std.specs.List.{flat_map}
use Rattle.std.specs.Option.{option_map}
use Rattle.std.proofs.lemmas.Option.{slice_get-map}
use Rattle.sem_bits.specs.Cursor.{Place, Advances}
use Rattle.sem_bits.proofs.OctetsHeld.{split_same}
use Rattle.sem_profile.specs.declared.profile.Part.{Part}
use Rattle.sem_profile.specs.declared.profile.Part.TheVariants.{Header, Control, Local}
use Rattle.sem_filling.specs.declared.filling.FilledField.{FilledField}
use Rattle.sem_filling.specs.Fillings.{Sides, sides_of, is_header, header_bits, packed_bits}

-- bits that were gone past: what was left went on with the rest just where what is left now is the rest
pub goes_on : (old new : Place) (u rest : List Bool) → Advances old new u → (old.left ≡ u ++ rest) ↔ (new.left ≡ rest)
goes_on old new u rest a = (λ e. (split_same u u new.left rest refl (sym a.left ∙ e)).1, λ e. a.left ∙ ap (λ z. u ++ z) e)

front_of : (u rest : List Bool) → take (length u) (u ++ rest) ≡ u
front_of [] rest = refl
front_of (b ∷ bs) rest = ap (λ z. b ∷ z) (front_of bs rest)

-- and where they don't come next, it didn't
pub stops : (left u rest : List Bool) → (take (length u) left ≡ u → ⊥) → left ≡ u ++ rest → ⊥
stops left u rest wrong e = wrong (ap (take (length u)) e ∙ front_of u rest)

drop_at : {X : Type 0} (xs : List X) (i : ℕ) (x : X) → slice_get xs i ≡ Some x → drop i xs ≡ x ∷ drop (suc i) xs
drop_at [] i x e = absurd (cc)
drop_at (y ∷ ys) zero x e = let same : y ≡ x = cc in ap (λ z. z ∷ ys) same
drop_at (y ∷ ys) (suc i) x e = drop_at ys i x e

-- ---- the header

header_step : (s : Sides) (ss : List Sides) (b : Bool) → is_header s.declared.part ≡ b → header_bits (s ∷ ss) ≡ cond b (s.uncompressed ++ header_bits ss) (header_bits ss)
header_step s ss b is = ap (λ t. flat_map (λ (x : Sides). x.uncompressed) (cond t (s ∷ filter (λ (x : Sides). is_header x.declared.part) ss) (filter (λ (x : Sides). is_header x.declared.part) ss))) is ∙ by b
  where
    by : (t : Bool) → flat_map (λ (x : Sides). x.uncompressed) (cond t (s ∷ filter (λ (x : Sides). is_header x.declared.part) ss) (filter (λ (x : Sides). is_header x.declared.part) ss))
        ≡ cond t (s.uncompressed ++ header_bits ss) (header_bits ss)
    by true = refl
    by false = refl

-- what a field adds to the header, with the fields after it
header_more : (gs : List FilledField) (i : ℕ) (g : FilledField) (b : Bool) → slice_get gs i ≡ Some g → is_header (sides_of g).declared.part ≡ b
    → header_bits (map sides_of (drop i gs)) ≡ cond b ((sides_of g).uncompressed ++ header_bits (map sides_of (drop (i + 1) gs))) (header_bits (map sides_of (drop (i + 1) gs)))
header_more gs i g b at is =
    let one : suc i ≡ i + 1 = sym (add-one i) in
    ap (λ z. header_bits (map sides_of z)) (drop_at gs i g at ∙ ap (λ n. g ∷ drop n gs) one) ∙ header_step (sides_of g) (map sides_of (drop (i + 1) gs)) b is

module _ (bits : List Bool) (whole : List Bool) (gs : List FilledField) (i : ℕ) (g : FilledField) (at : slice_get gs i ≡ Some g) where
  -- a header field that comes next
  pub header_on : (old new : Place) → is_header (sides_of g).declared.part ≡ true → Advances old new (sides_of g).uncompressed → ((bits ≡ whole) ↔ (old.left ≡ header_bits (map sides_of (drop i gs))))
      → (bits ≡ whole) ↔ (new.left ≡ header_bits (map sides_of (drop (i + 1) gs)))
  header_on old new is a same =
      let next = goes_on old new (sides_of g).uncompressed (header_bits (map sides_of (drop (i + 1) gs))) a in
      let more = header_more gs i g true at is in
      (λ e. next.0 (same.0 e ∙ more), λ e. same.1 (next.1 e ∙ sym more))

  -- one that doesn't
  pub header_off : (left : List Bool) → is_header (sides_of g).declared.part ≡ true → (take (length (sides_of g).uncompressed) left ≡ (sides_of g).uncompressed → ⊥)
      → ((bits ≡ whole) ↔ (left ≡ header_bits (map sides_of (drop i gs)))) → bits ≡ whole → ⊥
  header_off left is wrong same e = stops left (sides_of g).uncompressed (header_bits (map sides_of (drop (i + 1) gs))) wrong (same.0 e ∙ header_more gs i g true at is)

  -- another field
  pub header_past : (left : List Bool) → is_header (sides_of g).declared.part ≡ false → ((bits ≡ whole) ↔ (left ≡ header_bits (map sides_of (drop i gs))))
      → (bits ≡ whole) ↔ (left ≡ header_bits (map sides_of (drop (i + 1) gs)))
  header_past left is same = let more = header_more gs i g false at is in (λ e. same.0 e ∙ more, λ e. same.1 (e ∙ sym more))

-- ---- the packed bits

-- the compressed side of a field that may be there
abbrev pub side_in : Option FilledField → List Bool
side_in o = unwrap_or (option_map (λ g. (sides_of g).compressed) o) []

side_at : (gs : List FilledField) (k : ℕ) (o : Option FilledField) → slice_get gs k ≡ o → unwrap_or (option_map (λ s. s.compressed) (slice_get (map sides_of gs) k)) [] ≡ side_in o
side_at gs k None e = ap (λ z. unwrap_or (option_map (λ (s : Sides). s.compressed) z) []) (slice_get-map sides_of gs k ∙ ap (option_map sides_of) e)
side_at gs k (Some g) e = ap (λ z. unwrap_or (option_map (λ (s : Sides). s.compressed) z) []) (slice_get-map sides_of gs k ∙ ap (option_map sides_of) e)

packed_more : (gs : List FilledField) (listing : List ℕ) (i k : ℕ) (o : Option FilledField) → slice_get listing i ≡ Some k → slice_get gs k ≡ o
    → packed_bits (drop i listing) (map sides_of gs) ≡ side_in o ++ packed_bits (drop (i + 1) listing) (map sides_of gs)
packed_more gs listing i k o at is =
    let one : suc i ≡ i + 1 = sym (add-one i) in
    ap (λ z. packed_bits z (map sides_of gs)) (drop_at listing i k at ∙ ap (λ n. k ∷ drop n listing) one) ∙ ap (λ z. z ++ packed_bits (drop (i + 1) listing) (map sides_of gs)) (side_at gs k o is)

module _ (bits : List Bool) (whole : List Bool) (gs : List FilledField) (listing : List ℕ) (i k : ℕ) (at : slice_get listing i ≡ Some k) where
  abbrev later : ℕ → List Bool
  later n = packed_bits (drop n listing) (map sides_of gs)

  pub packed_on : (g : FilledField) (old new : Place) → slice_get gs k ≡ Some g → Advances old new (sides_of g).compressed → ((bits ≡ whole) ↔ (old.left ≡ later i)) → (bits ≡ whole) ↔ (new.left ≡ later (i + 1))
  packed_on g old new is a same =
      let next = goes_on old new (sides_of g).compressed (later (i + 1)) a in
      let more = packed_more gs listing i k (Some g) at is in
      (λ e. next.0 (same.0 e ∙ more), λ e. same.1 (next.1 e ∙ sym more))

  pub packed_off : (g : FilledField) (left : List Bool) → slice_get gs k ≡ Some g → (take (length (sides_of g).compressed) left ≡ (sides_of g).compressed → ⊥) → ((bits ≡ whole) ↔ (left ≡ later i)) → bits ≡ whole → ⊥
  packed_off g left is wrong same e = stops left (sides_of g).compressed (later (i + 1)) wrong (same.0 e ∙ packed_more gs listing i k (Some g) at is)

  -- an index past the fields has no bits
  pub packed_past : (left : List Bool) → slice_get gs k ≡ None → ((bits ≡ whole) ↔ (left ≡ later i)) → (bits ≡ whole) ↔ (left ≡ later (i + 1))
  packed_past left is same = let more = packed_more gs listing i k None at is in (λ e. same.0 e ∙ more, λ e. same.1 (e ∙ sym more))

-- a field that is in no header
pub not_header : (p : Part) → (p ≡ Header → ⊥) → is_header p ≡ false
not_header Header apart = absurd (apart refl)
not_header Control apart = refl
not_header Local apart = refl
