-- The packed bits of a filling, side by side.
use Rattle.std.proofs.Common.{◌≡◌, ◌∙◌, sym, ap, ℕ, ◌+◌, ◌<◌, List, [], ◌∷◌, length, map, drop, get_or, length-append, arith}
use Rattle.std.specs.Prelude.{Option, Some, None, fold, slice_get, option_map, unwrap_or}
use Rattle.std.specs.List.{sum}
use Rattle.std.proofs.lemmas.List.{drop_more}
use Rattle.std.proofs.lemmas.Option.{slice_get-map}
use Rattle.sem_filling.specs.Fillings.{fields_of, level, listing_of, packed, packed_bits, sides_of}
use Rattle.sem_filling.specs.declared.filling.FilledField.{FilledField}
use Rattle.sem_filling.specs.declared.filling.Filling.{Filling}
use Rattle.tool_items.specs.Counts.{field_lengths, side, side_length}

-- a field more, and the packed bits that are left
pub bits_more : (f : Filling) (items : List ℕ) (k len front next whole : ℕ) → k < length items → len ≡ side_length f (get_or items k 0) → next ≡ front + len → front + length (packed_bits (drop k items) (level f)) ≡ whole
    → next + length (packed_bits (drop (k + 1) items) (level f)) ≡ whole
bits_more f items k len front next whole h e n is =
    let here : length (packed_bits (drop k items) (level f)) ≡ side_length f (get_or items k 0) + length (packed_bits (drop (k + 1) items) (level f)) =
    ap (λ xs. length (packed_bits xs (level f))) (drop_more items k 0 h) ∙ length-append (side f (get_or items k 0)) (packed_bits (drop (k + 1) items) (level f)) in
    joined _ _ _ _ _ _ _ n e here is
  where
    joined : (next front len here left all whole : ℕ) → next ≡ front + len → len ≡ here → all ≡ here + left → front + all ≡ whole → next + left ≡ whole
    joined next front len here left all whole a b c d = omega (arith, a, b, c, d)

-- the compressed side at a place, where a field stands there or none does
pub side_there : (f : Filling) (i : ℕ) (o : Option FilledField) → o ≡ slice_get (fields_of f) i → side f i ≡ unwrap_or (option_map (λ g. (sides_of g).compressed) o) []
side_there f i None e = ap (λ z. unwrap_or (option_map (λ s. s.compressed) z) []) (slice_get-map sides_of (fields_of f) i ∙ ap (option_map sides_of) (sym e))
side_there f i (Some g) e = ap (λ z. unwrap_or (option_map (λ s. s.compressed) z) []) (slice_get-map sides_of (fields_of f) i ∙ ap (option_map sides_of) (sym e))

-- ---- the law

sums : (f : Filling) (listing : List ℕ) (n : ℕ) → fold (λ a x. a + x) n (map (side_length f) listing) ≡ n + length (packed_bits listing (level f))
sums f [] n = omega arith
sums f (i ∷ is) n =
    sums f is (n + side_length f i) ∙ (apart n (side_length f i) (length (packed_bits is (level f))) ∙ ap (λ z. n + z) (sym (length-append (side f i) (packed_bits is (level f)))))
  where
    apart : (n a b : ℕ) → (n + a) + b ≡ n + (a + b)
    apart n a b = omega arith

pub fields_add_up : (f : Filling) → sum (field_lengths f) ≡ length (packed f)
fields_add_up f = sums f (listing_of f) 0 ∙ from_zero (length (packed f))
  where
    from_zero : (n : ℕ) → 0 + n ≡ n
    from_zero n = omega arith
