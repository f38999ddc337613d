-- A level by a format's fields and what is shown of them.
use Rattle.std.proofs.Common.{◌≡◌, ◌∙◌, refl, sym, ap, ℕ, suc, zero, ◌+◌, ◌<◌, length, drop, get_or, List, [], ◌∷◌, ◌++◌, append_assoc, append-nil, add-one, drop-cons, Bool, true, false, arith}
use Rattle.std.specs.Prelude.{slice_get, Some, None, option_map, option_and_then, unwrap_or}
use Rattle.sem_profile.specs.declared.profile.Field.{Field}
use Rattle.sem_filling.specs.Fillings.{Sides, is_header, header_bits, packed_bits}
use Rattle.sem_pages.specs.declared.page.Shown.{Shown, out-Shown}
use Rattle.sem_pages.specs.Pages.{sides_by, level_by}

-- what stands at a place of a level
pub level_at : (ds : List Field) (ss : List Shown) (i : ℕ) (s : Shown) → length ss ≡ length ds → slice_get ss i ≡ Some s → (d : Field) × (slice_get ds i ≡ Some d) × (slice_get (level_by ds ss) i ≡ Some (sides_by d s))
level_at [] [] i s e at = let wrong : None ≡ Some s = at in absurd cc
level_at [] (t ∷ ss) i s e at = absurd (omega (arith, e))
level_at (d ∷ ds) [] i s e at = let wrong : None ≡ Some s = at in absurd cc
level_at (d ∷ ds) (t ∷ ss) zero s e at = let one : Some t ≡ Some s = at in (d, refl, ap (option_map (sides_by d)) one)
level_at (d ∷ ds) (t ∷ ss) (suc i) s e at = level_at ds ss i s (omega (arith, e)) at

-- a level has as many fields as what is shown
pub level_length : (ds : List Field) (ss : List Shown) → length ss ≡ length ds → length (level_by ds ss) ≡ length ss
level_length [] [] e = refl
level_length [] (t ∷ ss) e = absurd (omega (arith, e))
level_length (d ∷ ds) [] e = absurd (omega (arith, e))
level_length (d ∷ ds) (t ∷ ss) e = ap suc (level_length ds ss (omega (arith, e)))

-- the bits that a place of a listing adds
pub sent_at : (ds : List Field) (ss : List Shown) (i : ℕ) → length ss ≡ length ds
    → unwrap_or (option_map (λ (s : Sides). s.compressed) (slice_get (level_by ds ss) i)) [] ≡ unwrap_or (option_and_then (λ s. (out-Shown s).compressed) (slice_get ss i)) []
sent_at [] [] i e = refl
sent_at [] (t ∷ ss) i e = absurd (omega (arith, e))
sent_at (d ∷ ds) [] i e = absurd (omega (arith, e))
sent_at (d ∷ ds) (t ∷ ss) zero e = refl
sent_at (d ∷ ds) (t ∷ ss) (suc i) e = sent_at ds ss i (omega (arith, e))

-- a level from a place on
pub level_drop : (ds : List Field) (ss : List Shown) (i : ℕ) (d : Field) (s : Shown) → slice_get ds i ≡ Some d → slice_get ss i ≡ Some s → level_by (drop i ds) (drop i ss) ≡ sides_by d s ∷ level_by (drop (suc i) ds) (drop (suc i) ss)
level_drop [] ss i d s here there = let wrong : None ≡ Some d = here in absurd cc
level_drop (d' ∷ ds) [] i d s here there = let wrong : None ≡ Some s = there in absurd cc
level_drop (d' ∷ ds) (s' ∷ ss) zero d s here there =
    let one : Some d' ≡ Some d = here in
    let other : Some s' ≡ Some s = there in
    let d_is : d' ≡ d = cc in
    let s_is : s' ≡ s = cc in
    ap (λ x. sides_by x s' ∷ level_by ds ss) d_is ∙ ap (λ y. sides_by d y ∷ level_by ds ss) s_is
level_drop (d' ∷ ds) (s' ∷ ss) (suc i) d s here there = level_drop ds ss i d s here there

-- ---- joined sides

cut_header : (x : Sides) (xs : List Sides) → header_bits (x ∷ xs) ≡ header_bits (x ∷ []) ++ header_bits xs
cut_header x xs = by (is_header x.declared.part) refl
  where
    by : (b : Bool) → is_header x.declared.part ≡ b → header_bits (x ∷ xs) ≡ header_bits (x ∷ []) ++ header_bits xs
    by true e = rw e (ap (λ z. z ++ header_bits xs) (sym (append-nil x.uncompressed)))
    by false e = rw e refl

-- one more field
pub header_next : (ds : List Field) (ss : List Shown) (i : ℕ) (d : Field) (s : Shown) (front whole : List Bool) → slice_get ds i ≡ Some d → slice_get ss i ≡ Some s
    → front ++ header_bits (level_by (drop i ds) (drop i ss)) ≡ whole → (front ++ header_bits (sides_by d s ∷ [])) ++ header_bits (level_by (drop (i + 1) ds) (drop (i + 1) ss)) ≡ whole
header_next ds ss i d s front whole here there is =
    rw add-one (append_assoc front (header_bits (sides_by d s ∷ [])) (header_bits (level_by (drop (suc i) ds) (drop (suc i) ss)))
    ∙ ap (λ z. front ++ z) (sym (cut_header (sides_by d s) (level_by (drop (suc i) ds) (drop (suc i) ss))))
    ∙ ap (λ z. front ++ header_bits z) (sym (level_drop ds ss i d s here there))
    ∙ is)

-- one more place of the listing
pub packed_next : (ds : List Field) (ss : List Shown) (items : List ℕ) (k : ℕ) (front whole : List Bool) → length ss ≡ length ds → k < length items
    → front ++ packed_bits (drop k items) (level_by ds ss) ≡ whole
    → (front ++ unwrap_or (option_and_then (λ s. (out-Shown s).compressed) (slice_get ss (get_or items k 0))) []) ++ packed_bits (drop (k + 1) items) (level_by ds ss) ≡ whole
packed_next ds ss items k front whole e lt is =
    append_assoc front (unwrap_or (option_and_then (λ s. (out-Shown s).compressed) (slice_get ss (get_or items k 0))) []) (packed_bits (drop (k + 1) items) (level_by ds ss))
    ∙ ap (λ z. front ++ (z ++ packed_bits (drop (k + 1) items) (level_by ds ss))) (sym (sent_at ds ss (get_or items k 0) e))
    ∙ ap (λ z. front ++ z) (sym (cut items k lt))
    ∙ is
  where
    cut : (items : List ℕ) (k : ℕ) → k < length items
        → packed_bits (drop k items) (level_by ds ss) ≡ unwrap_or (option_map (λ (s : Sides). s.compressed) (slice_get (level_by ds ss) (get_or items k 0))) [] ++ packed_bits (drop (k + 1) items) (level_by ds ss)
    cut items k h = rw (add-one, drop-cons items k 0) refl
