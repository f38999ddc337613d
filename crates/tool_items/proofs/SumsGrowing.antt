-- Sums with a filling more.
use Rattle.std.proofs.Common.{◌≡◌, refl, sym, ◌∙◌, ap, subst, ℕ, ◌+◌, ◌<◌, zero, suc, Bool, true, false, cond, List, [], ◌∷◌, ◌++◌, length, filter, get_or, nat_eq, set, arith, length-append}
use Rattle.std.specs.Prelude.{Option, Some, None}
use Rattle.std.specs.List.{cons_option, filter_map, sum_by}
use Rattle.std.proofs.lemmas.Bool.{eq-eqb, eqb-true}
use Rattle.std.proofs.lemmas.List.{append-nil}
use Rattle.std.proofs.lemmas.List.Elements.{filter-append, filter_map-append}
use Rattle.std.proofs.lemmas.List.Sums.{sum_by_push}
use Rattle.sem_filling.specs.Fillings.{packed}
use Rattle.sem_filling.specs.declared.filling.Filling.{Filling, out-Filling}
use Rattle.tool_items.specs.declared.sums.FormatSums.{FormatSums}
use Rattle.tool_items.specs.Adding.{AddsBelow, AddsInside, RowAdds, SameFormats}
use Rattle.tool_items.specs.Counts.{bits_at, inner_in, of_format, one_more, tally}
use Rattle.tool_items.specs.Sums.{AreBelow, Level, Row, row_in, row_of, spot_at, spot_in}

abbrev pub format_in : Filling → ℕ
format_in f = (out-Filling f).format

-- the filling, where this is so
abbrev pub only : Bool → Filling → List Filling
only b f = cond b (f ∷ []) []

filter_one : (p : Filling → Bool) (f : Filling) → filter p (f ∷ []) ≡ only (p f) f
filter_one p f = refl

of_format_more : (n : ℕ) (fs : List Filling) (f : Filling) → of_format n (fs ++ f ∷ []) ≡ of_format n fs ++ only (nat_eq (format_in f) n) f
of_format_more n fs f = filter-append (λ g. nat_eq (format_in g) n) fs (f ∷ [])

pub tally_more : (fs : List Filling) (f : Filling) → tally (fs ++ f ∷ []) ≡ one_more f (tally fs)
tally_more fs f = λ i. record { items = length-append fs (f ∷ []) i; bits = sum_by_push (λ g. length (packed g)) fs f i }

-- what is added to a format: the filling, where it has that format; and to those inside
abbrev pub RowGrows : Bool → Filling → Row → Row → Type 0
RowGrows true f old new = RowAdds f old new
RowGrows false f old new = new ≡ old

row_tally : (b : Bool) (f : Filling) (old new : Row) (gs : List Filling) → RowGrows b f old new → old.all ≡ tally gs → new.all ≡ tally (gs ++ only b f)
row_tally true f old new gs grows is = grows.all_is ∙ ap (one_more f) is ∙ sym (tally_more gs f)
row_tally false f old new gs grows is = ap (λ (r : Row). r.all) grows ∙ is ∙ ap tally (sym (append-nil gs))

spot_bits : (b : Bool) (f : Filling) (p : ℕ) (old new : Row) (gs : List Filling) → RowGrows b f old new → (spot_in old.places p).bits ≡ sum_by (bits_at p) gs → (spot_in new.places p).bits ≡ sum_by (bits_at p) (gs ++ only b f)
spot_bits true f p old new gs grows is = (grows.places_add p).bits_are ∙ ap (λ n. n + bits_at p f) is ∙ sym (sum_by_push (bits_at p) gs f)
spot_bits false f p old new gs grows is = ap (λ (r : Row). (spot_in r.places p).bits) grows ∙ is ∙ ap (sum_by (bits_at p)) (sym (append-nil gs))

abbrev one_or_none : Option Filling → List Filling
one_or_none None = []
one_or_none (Some f) = f ∷ []

inside_one : (p : ℕ) (f : Filling) (o : Option Filling) → inner_in p f ≡ o → filter_map (inner_in p) (f ∷ []) ≡ one_or_none o
inside_one p f None e = ap (λ o. cons_option o []) e
inside_one p f (Some g) e = ap (λ o. cons_option o []) e

below_more : (o : Option Filling) (old new : Level) (gs : List Filling) → AddsInside o old new → AreBelow gs old → AreBelow (gs ++ one_or_none o) new
below_more None old new gs same are = subst (λ hs. AreBelow hs new) (sym (append-nil gs)) (subst (AreBelow gs) (sym same) are)
below_more (Some f) old new gs adds are = adds gs are

spot_below : (b : Bool) (f : Filling) (p : ℕ) (old new : Row) (gs : List Filling) → RowGrows b f old new → AreBelow (filter_map (inner_in p) gs) (spot_in old.places p).inside → AreBelow (filter_map (inner_in p) (gs ++ only b f)) (spot_in new.places p).inside
spot_below true f p old new gs grows are =
    let more : filter_map (inner_in p) (gs ++ f ∷ []) ≡ filter_map (inner_in p) gs ++ one_or_none (inner_in p f) =
    filter_map-append (inner_in p) gs (f ∷ []) ∙ ap (λ hs. filter_map (inner_in p) gs ++ hs) (inside_one p f (inner_in p f) refl) in
    subst (λ hs. AreBelow hs (spot_in new.places p).inside) (sym more) (below_more (inner_in p f) _ _ _ (grows.places_add p).inside_is are)
spot_below false f p old new gs grows are =
    subst (λ hs. AreBelow (filter_map (inner_in p) hs) (spot_in new.places p).inside) (sym (append-nil gs)) (subst (λ (r : Row). AreBelow (filter_map (inner_in p) gs) (spot_in r.places p).inside) (sym grows) are)

-- a level whose formats have grown so
pub level_more : (f : Filling) (old new : Level) → new.all ≡ one_more f old.all → ((n : ℕ) → RowGrows (nat_eq (format_in f) n) f (row_in old.formats n) (row_in new.formats n)) → AddsBelow f old new
level_more f old new all rows fs are [] = record {
  all_is = all ∙ ap (one_more f) (are []).all_is ∙ sym (tally_more fs f);
  formats_are = λ n. row_tally (nat_eq (format_in f) n) f _ _ (of_format n fs) (rows n) ((are []).formats_are n) ∙ ap tally (sym (of_format_more n fs f));
  places_are = λ n p. spot_bits (nat_eq (format_in f) n) f p _ _ (of_format n fs) (rows n) ((are []).places_are n p) ∙ ap (sum_by (bits_at p)) (sym (of_format_more n fs f));
}
level_more f old new all rows fs are (at ∷ path) =
    subst (λ gs. AreBelow (filter_map (inner_in at.1) gs) (spot_at at.0 at.1 new).inside) (sym (of_format_more at.0 fs f))
    (spot_below (nat_eq (format_in f) at.0) f at.1 _ _ (of_format at.0 fs) (rows at.0) (λ more. are ((at.0, at.1) ∷ more))) path

-- ---- in a list of formats

row_set : (gs : List FormatSums) (n : ℕ) (g : FormatSums) → n < length gs → row_in (set gs n g) n ≡ row_of g
row_set [] n g h = absurd (omega (arith, h))
row_set (x ∷ xs) zero g h = refl
row_set (x ∷ xs) (suc n) g h = row_set xs n g (omega (arith, h))

row_other : (gs : List FormatSums) (n m : ℕ) (g : FormatSums) → (n ≡ m → ⊥) → row_in (set gs n g) m ≡ row_in gs m
row_other [] n m g e = refl
row_other (x ∷ xs) zero zero g e = absurd (e refl)
row_other (x ∷ xs) zero (suc m) g e = refl
row_other (x ∷ xs) (suc n) zero g e = refl
row_other (x ∷ xs) (suc n) (suc m) g e = row_other xs n m g (λ h. e (ap suc h))

row_read : (gs : List FormatSums) (n : ℕ) (g : FormatSums) → n < length gs → g ≡ get_or gs n g → row_in gs n ≡ row_of g
row_read [] n g h e = absurd (omega (arith, h))
row_read (x ∷ xs) zero g h e = ap row_of (sym e)
row_read (x ∷ xs) (suc n) g h e = row_read xs n g (omega (arith, h)) e

row_grows : (b : Bool) (f : Filling) (old mid : List FormatSums) (g h : FormatSums) (m : ℕ) → nat_eq (format_in f) m ≡ b → SameFormats old mid → format_in f < length mid → g ≡ get_or mid (format_in f) g → RowAdds f (row_of g) (row_of h)
    → RowGrows b f (row_in old m) (row_in (set mid (format_in f) h) m)
row_grows true f old mid g h m e same lt read adds =
    let n = format_in f in
    let there : row_in old n ≡ row_of g = sym (same n) ∙ row_read mid n g lt read in
    let grown : RowAdds f (row_in old n) (row_in (set mid n h) n) =
    subst (λ (r : Row). RowAdds f r (row_in (set mid n h) n)) (sym there) (subst (λ (r : Row). RowAdds f (row_of g) r) (sym (row_set mid n h lt)) adds) in
    subst (λ k. RowAdds f (row_in old k) (row_in (set mid n h) k)) (eqb-true n m e) grown
row_grows false f old mid g h m e same lt read adds = row_other mid (format_in f) m h (λ is. let wrong : true ≡ false = sym (eq-eqb (format_in f) m is) ∙ e in absurd (cc)) ∙ same m

pub sums_more : (f : Filling) (old new : Level) (mid : List FormatSums) (g h : FormatSums) → new.all ≡ one_more f old.all → SameFormats old.formats mid → format_in f < length mid → g ≡ get_or mid (format_in f) g → RowAdds f (row_of g) (row_of h)
    → new.formats ≡ set mid (format_in f) h → AddsBelow f old new
sums_more f old new mid g h all same lt read adds is =
    level_more f old new all (λ n. subst (λ gs. RowGrows (nat_eq (format_in f) n) f (row_in old.formats n) (row_in gs n)) (sym is) (row_grows (nat_eq (format_in f) n) f old.formats mid g h n refl same lt read adds))
