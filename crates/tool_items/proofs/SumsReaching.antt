-- More sums of nothing.
use Rattle.std.proofs.Common.{◌≡◌, refl, ◌∙◌, ap, ℕ, zero, suc, List, [], ◌∷◌, ◌++◌}
use Rattle.tool_items.specs.declared.sums.FormatSums.{FormatSums}
use Rattle.tool_items.specs.declared.sums.PlaceSums.{PlaceSums}
use Rattle.tool_items.specs.Adding.{SameFormats, SamePlaces}
use Rattle.tool_items.specs.Sums.{no_row, no_spot, row_in, row_of, spot_in, spot_of}

format_more : (gs : List FormatSums) (g : FormatSums) → row_of g ≡ no_row → (n : ℕ) → row_in (gs ++ g ∷ []) n ≡ row_in gs n
format_more [] g is zero = is
format_more [] g is (suc n) = refl
format_more (h ∷ hs) g is zero = refl
format_more (h ∷ hs) g is (suc n) = format_more hs g is n

place_more : (qs : List PlaceSums) (q : PlaceSums) → spot_of q ≡ no_spot → (p : ℕ) → spot_in (qs ++ q ∷ []) p ≡ spot_in qs p
place_more [] q is zero = is
place_more [] q is (suc p) = refl
place_more (r ∷ rs) q is zero = refl
place_more (r ∷ rs) q is (suc p) = place_more rs q is p

pub formats_more : (old mid new : List FormatSums) (g : FormatSums) → SameFormats old mid → row_of g ≡ no_row → new ≡ mid ++ g ∷ [] → SameFormats old new
formats_more old mid new g so is grown n = ap (λ gs. row_in gs n) grown ∙ format_more mid g is n ∙ so n

pub places_more : (old mid new : List PlaceSums) (q : PlaceSums) → SamePlaces old mid → spot_of q ≡ no_spot → new ≡ mid ++ q ∷ [] → SamePlaces old new
places_more old mid new q so is grown p = ap (λ qs. spot_in qs p) grown ∙ place_more mid q is p ∙ so p
