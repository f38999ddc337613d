-- Texts and tables that grow by one entry at each turn of a loop.
use Rattle.std.proofs.Common.{◌≡◌, ℕ, zero, suc, ◌+◌, ◌*◌, ◌<◌, ◌≤◌, List, [], ◌∷◌, ◌++◌, length, drop, get_or, ap, sym, ◌∙◌, subst, append_assoc, length-append}
use Rattle.std.specs.Prelude.{Some, flat_map}
use Rattle.std.specs.List.{slice_get, enumerate_from}
use Rattle.std.proofs.lemmas.List.{append-nil, drop_more, drop_all}
use Rattle.std.proofs.lemmas.Option.{none-some, same_Some}
use Rattle.text_listing.specs.declared.places.ShortPlace.{ShortPlace}
use Rattle.text_listing.specs.Known.{IsPlace, AreKnown, place_of}

-- the text so far, and that of what is left, are the whole text
abbrev pub Goes : {A : Type 0} → (ℕ × A → List ℕ) → List A → ℕ → List ℕ → List ℕ → Type 0
Goes f xs i text whole = text ++ flat_map f (enumerate_from i (drop i xs)) ≡ whole

pub goes_on : {A : Type 0} (f : ℕ × A → List ℕ) (xs : List A) (i : ℕ) (x : A) (text more next whole : List ℕ) → i < length xs → x ≡ get_or xs i x → Goes f xs i text whole → more ≡ f (i, x) → next ≡ text ++ more → Goes f xs (i + 1) next whole
goes_on f xs i x text more next whole h e so m n =
    let here : drop i xs ≡ x ∷ drop (i + 1) xs = drop_more xs i x h ∙ ap (λ y. y ∷ drop (i + 1) xs) (sym e) in
    let left = flat_map f (enumerate_from (i + 1) (drop (i + 1) xs)) in
    ap (λ t. t ++ left) (n ∙ ap (λ t. text ++ t) m) ∙ append_assoc text (f (i, x)) left ∙ ap (λ ys. text ++ flat_map f (enumerate_from i ys)) (sym here) ∙ so

pub goes_end : {A : Type 0} (f : ℕ × A → List ℕ) (xs : List A) (i : ℕ) (text whole : List ℕ) → length xs ≤ i → Goes f xs i text whole → text ≡ whole
goes_end f xs i text whole h so = sym (append-nil text) ∙ ap (λ ys. text ++ flat_map f (enumerate_from i ys)) (sym (drop_all i xs h)) ∙ so

-- what holds of each entry holds after one more
pub pushed_holds : {A : Type 0} (P : ℕ → A → Type 0) (xs : List A) (y : A) → ((k : ℕ) (x : A) → slice_get xs k ≡ Some x → P k x) → P (length xs) y → (k : ℕ) (x : A) → slice_get (xs ++ y ∷ []) k ≡ Some x → P k x
pushed_holds P [] y h p zero x e = subst (P 0) (same_Some y x e) p
pushed_holds P [] y h p (suc k) x e = absurd (none-some x e)
pushed_holds P (z ∷ xs) y h p zero x e = h 0 x e
pushed_holds P (z ∷ xs) y h p (suc k) x e = pushed_holds (λ n. P (suc n)) xs y (λ n. h (suc n)) p k x e

pub known_on : (octets : List ℕ) (table next : List ShortPlace) (k : ℕ) (spot : ShortPlace) → AreKnown octets table → length table ≡ k → IsPlace octets (k * 16) (place_of spot) → next ≡ table ++ spot ∷ [] → AreKnown octets next
known_on octets table next k spot known count here n =
    let P : List ShortPlace → Type 0 = λ t. AreKnown octets t in
    let Q : ℕ → Type 0 = λ n. IsPlace octets (n * 16) (place_of spot) in
    subst P (sym n) (pushed_holds (λ k s. IsPlace octets (k * 16) (place_of s)) table spot known (subst Q (sym count) here))

pub count_on : (table next : List ShortPlace) (spot : ShortPlace) (i : ℕ) → length table ≡ i → next ≡ table ++ spot ∷ [] → length next ≡ i + 1
count_on table next spot i e n = ap length n ∙ length-append table (spot ∷ []) ∙ ap (λ k. k + 1) e

pub texts_joined : (a b c : List ℕ) → (a ++ b) ++ c ≡ a ++ (b ++ c)
texts_joined a b c = append_assoc a b c
