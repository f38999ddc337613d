-- What isn't told serves.
use Rattle.std.proofs.Common.{◌≡◌, ◌∙◌, refl, sym, ap, subst, ℕ, zero, suc, ◌+◌, ◌≤◌, List, [], ◌∷◌, ◌++◌, length, take, add-one, arith}
use Rattle.std.specs.Prelude.{◌↔◌, Some, slice_get}
use Rattle.std.proofs.lemmas.List.{append-nil}
use Rattle.cert_accepted.specs.Accepted.{Accepting}
use Rattle.sem_context.specs.Entries.{Entries, bits_at}
use Rattle.walk_engine.specs.Reading.{Fitting}
use Rattle.sem_filling.specs.declared.filling.Filling.{Filling}
use Rattle.sem_filling.specs.declared.filling.Item.{Item}
use Rattle.sem_filling.specs.Fillings.{item, packed}
use Rattle.walk_engine.specs.declared.search.Packed.{Packed}
use Rattle.sem_filling.specs.Fits.{Context}
use Rattle.sem_elsewhere.specs.Uses.{Use, Serves}
use Rattle.sem_elsewhere.specs.Listed.{IsAmong, UsesAre}
use Rattle.sem_elsewhere.proofs.Listing.{are_its_uses}
use Rattle.sem_elsewhere.proofs.Moving.{fits_elsewhere}
use Rattle.walk_loss.specs.declared.unserved.Unserved.{Unserved}
use Rattle.walk_loss.specs.Unserved.{AreUnserved, HasUnserved, IsTold, TheyServe, none_used, it_serves, it_fails}
use Rattle.walk_loss.specs.Reception.{IsHeard}
use Rattle.walk_loss.specs.declared.reception.Heard.TheVariants.{Right}
use Rattle.walk_loss.specs.Journal.{IsSent}
use Rattle.walk_loss.specs.Laws.{FitsWhereNoneIsTold}
use Rattle.walk_loss.specs.Uses.{FitsAnywhere}

none_told : {ctx : Context} {us : List Use} {xs : List Unserved} → AreUnserved ctx us xs → ((u : Use) → IsAmong u us → Serves ctx u) → xs ≡ []
none_told none_used all = refl
none_told (it_serves s rest) all = none_told rest (λ u m. all u (suc m.0, m.1))
none_told (it_fails {u = u} fails t rest) all = absurd (fails (all u (0, refl)))

all_serve : {ctx : Context} {us : List Use} {xs : List Unserved} → AreUnserved ctx us xs → xs ≡ [] → (v : Use) → IsAmong v us → Serves ctx v
all_serve none_used e v among = absurd (cc)
all_serve {ctx} (it_serves {u = u} s rest) e v (zero, at) = let same : u ≡ v = cc in subst (Serves ctx) same s
all_serve (it_serves s rest) e v (suc i, at) = all_serve rest e v (i, at)
all_serve (it_fails fails t rest) e v among = absurd (cc)

-- of joined lists the told ones are joined
joined : {ctx : Context} {us vs : List Use} {xs ys : List Unserved} → AreUnserved ctx us xs → AreUnserved ctx vs ys → AreUnserved ctx (us ++ vs) (xs ++ ys)
joined none_used more = more
joined (it_serves s rest) more = it_serves s (joined rest more)
joined (it_fails fails t rest) more = it_fails fails t (joined rest more)

first_more : (us : List Use) (i : ℕ) (u : Use) → slice_get us i ≡ Some u → take (suc i) us ≡ take i us ++ u ∷ []
first_more [] i u at = absurd (cc)
first_more (v ∷ us) zero u at = let same : v ≡ u = cc in ap (λ w. w ∷ []) same
first_more (v ∷ us) (suc i) u at = ap (λ ws. v ∷ ws) (first_more us i u at)

-- one use more, which serves
pub one_serves : (ctx : Context) (us : List Use) (i : ℕ) (u : Use) (xs : List Unserved) → slice_get us i ≡ Some u → AreUnserved ctx (take i us) xs → Serves ctx u → AreUnserved ctx (take (i + 1) us) xs
one_serves ctx us i u xs at before s =
    subst (λ n. AreUnserved ctx (take n us) xs) (sym (add-one i)) (subst (λ ws. AreUnserved ctx ws xs) (sym (first_more us i u at)) (subst (AreUnserved ctx (take i us ++ u ∷ [])) (append-nil xs) (joined before (it_serves s none_used))))

-- or doesn't
pub one_fails : (ctx : Context) (us : List Use) (i : ℕ) (u : Use) (xs : List Unserved) (x : Unserved) → slice_get us i ≡ Some u → AreUnserved ctx (take i us) xs → (Serves ctx u → ⊥) → IsTold ctx u x
    → AreUnserved ctx (take (i + 1) us) (xs ++ x ∷ [])
one_fails ctx us i u xs x at before fails told =
    subst (λ n. AreUnserved ctx (take n us) (xs ++ x ∷ [])) (sym (add-one i)) (subst (λ ws. AreUnserved ctx ws (xs ++ x ∷ [])) (sym (first_more us i u at)) (joined before (it_fails fails told none_used)))

take_all : (us : List Use) (i : ℕ) → length us ≤ i → take i us ≡ us
take_all [] zero l = refl
take_all [] (suc i) l = refl
take_all (u ∷ us) zero l = absurd (omega (arith, l))
take_all (u ∷ us) (suc i) l = ap (λ ws. u ∷ ws) (take_all us i (omega (arith, l)))

pub all_looked_at : (ctx : Context) (us : List Use) (i : ℕ) (xs : List Unserved) → length us ≤ i → AreUnserved ctx (take i us) xs → AreUnserved ctx us xs
all_looked_at ctx us i xs past told = subst (λ ws. AreUnserved ctx ws xs) (take_all us i past) told

-- a filling that fits in one context fits in another just where each of its uses serves there
pub fits_where_all_serve : (a : Accepting) (other : Entries) (f : Filling) → FitsAnywhere a.profile.methods a.profile.top [] [] f → (us : List Use) → UsesAre a.profile.methods a.profile.top [] [] f us → Fitting a other f ↔ TheyServe (bits_at other) us
fits_where_all_serve a other f here us are =
    let methods = a.profile.methods in
    let listed = are_its_uses methods a.profile.top [] [] f us are in
    let moved = fits_elsewhere methods a.profile.top here.context (bits_at other) [] [] f here.fits in
    (λ there u among. moved.0 there u ((listed u).1 among), λ all. moved.1 (λ u used. all u ((listed u).0 used)))

-- a filling that fits in one context fits in another just where nothing is told of it there
pub fits_where_none : (a : Accepting) (ctx other : Entries) (f : Filling) → Fitting a ctx f → (told : List Unserved) → HasUnserved a.profile.methods (bits_at other) a.profile.top [] [] f told → Fitting a other f ↔ (told ≡ [])
fits_where_none a ctx other f here told has =
    let fits = fits_where_all_serve a other f (record { context = bits_at ctx; fits = here }) has.uses has.uses_are in
    (λ there. none_told has.unserved (fits.0 there), λ none. fits.1 (all_serve has.unserved none))

pub fits_where_none_is_told : FitsWhereNoneIsTold
fits_where_none_is_told a ctx other it p packed told has = fits_where_none a ctx other p.filling packed.best.fits told has

-- a filling with the item each of whose uses serves is read
pub read_where_all_serve : (a : Accepting) (other : Entries) (it : Item) (p : Packed) → IsSent a p → item p.filling ≡ it → (us : List Use) → UsesAre a.profile.methods a.profile.top [] [] p.filling us → TheyServe (bits_at other) us
    → IsHeard a other it p.packed Right
read_where_all_serve a other it p sent has us are all = record {
  filling = p.filling;
  in_front = record { fits = (fits_where_all_serve a other p.filling sent.fits us are).1 all; rest = []; front = sent.packed_is ∙ sym (append-nil (packed p.filling)) };
  has = has;
}
