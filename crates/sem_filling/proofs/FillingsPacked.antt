-- Packed bits that are joined one side after the other.
use Rattle.std.proofs.Common.{◌≡◌, refl, sym, ◌∙◌, ap, ℕ, ◌+◌, ◌<◌, ◌≤◌, ◌^◌, Bool, List, [], ◌++◌, length, map, drop, get_or, append_assoc, length-append, arith, add-one, drop-cons}
use Rattle.std.specs.Prelude.{Option, Some, None, slice_get, option_map, unwrap_or}
use Rattle.std.proofs.lemmas.Option.{slice_get-map}
use Rattle.sem_bits.specs.declared.bits.BitsError.{BitsError}
use Rattle.sem_bits.specs.declared.bits.BitsError.TheVariants.{Full, OutOfMemory}
use Rattle.sem_filling.specs.Fillings.{sides_of, packed_bits, FailsAbove}
use Rattle.sem_filling.specs.declared.filling.FilledField.{FilledField}

pub fails_above : (e : BitsError) (whole : List Bool) (n : ℕ) → (e ≡ Full → 2 ^ 31 ≤ n) → n ≤ length whole → FailsAbove e whole
fails_above Full whole n h le = let m = h refl in omega arith
fails_above OutOfMemory whole n h le = tt

-- the compressed side at an index, or no bits
abbrev pub side_at : List FilledField → ℕ → List Bool
side_at gs i = unwrap_or (option_map (λ s. s.compressed) (slice_get (map sides_of gs) i)) []

side_there : (gs : List FilledField) (i : ℕ) (o : Option FilledField) → o ≡ slice_get gs i → side_at gs i ≡ unwrap_or (option_map (λ g. (sides_of g).compressed) o) []
side_there gs i None e = ap (λ z. unwrap_or (option_map (λ s. s.compressed) z) []) (slice_get-map sides_of gs i ∙ ap (option_map sides_of) (sym e))
side_there gs i (Some g) e = ap (λ z. unwrap_or (option_map (λ s. s.compressed) z) []) (slice_get-map sides_of gs i ∙ ap (option_map sides_of) (sym e))

-- one more index, at which the fields have this or nothing
pub packed_more : (gs : List FilledField) (items : List ℕ) (k : ℕ) (o : Option FilledField) (front whole : List Bool)
    → k < length items → o ≡ slice_get gs (get_or items k 0) → front ++ packed_bits (drop k items) (map sides_of gs) ≡ whole
    → (front ++ unwrap_or (option_map (λ g. (sides_of g).compressed) o) []) ++ packed_bits (drop (k + 1) items) (map sides_of gs) ≡ whole
packed_more gs items k o front whole h e is =
    append_assoc front (unwrap_or (option_map (λ g. (sides_of g).compressed) o) []) (packed_bits (drop (k + 1) items) (map sides_of gs))
    ∙ ap (λ z. front ++ z) (ap (λ z. z ++ packed_bits (drop (k + 1) items) (map sides_of gs)) (sym (side_there gs (get_or items k 0) o e)) ∙ sym (cut items k h))
    ∙ is
  where
    cut : (items : List ℕ) (k : ℕ) → k < length items → packed_bits (drop k items) (map sides_of gs) ≡ side_at gs (get_or items k 0) ++ packed_bits (drop (k + 1) items) (map sides_of gs)
    cut items k h = rw (add-one, drop-cons items k 0) refl

-- so the whole is as long as the front and that side at least
pub packed_room : (gs : List FilledField) (items : List ℕ) (k : ℕ) (g : FilledField) (front whole : List Bool)
    → k < length items → Some g ≡ slice_get gs (get_or items k 0) → front ++ packed_bits (drop k items) (map sides_of gs) ≡ whole
    → length front + length (sides_of g).compressed ≤ length whole
packed_room gs items k g front whole h e is =
    let all = ap length (packed_more gs items k (Some g) front whole h e is) in
    omega (arith, simp length-append at all)

-- an index past the fields gives no bits
pub packed_past : (gs : List FilledField) (items : List ℕ) (k : ℕ) (front whole : List Bool)
    → k < length items → None ≡ slice_get gs (get_or items k 0) → front ++ packed_bits (drop k items) (map sides_of gs) ≡ whole
    → front ++ packed_bits (drop (k + 1) items) (map sides_of gs) ≡ whole
packed_past gs items k front whole h e is =
    sym (append_assoc front [] (packed_bits (drop (k + 1) items) (map sides_of gs))) ∙ packed_more gs items k None front whole h e is
