-- What is read right, packet by packet and in a run.
use Rattle.std.proofs.Common.{◌≡◌, ◌∙◌, refl, ap, subst, ℕ, Bool, List, ◌∷◌, ◌++◌}
use Rattle.std.specs.Prelude.{◌↔◌}
use Rattle.sem_context.specs.Entries.{Entries, bits_at}
use Rattle.sem_profile.specs.declared.profile.Method.{Method}
use Rattle.sem_filling.specs.declared.filling.Filling.{Filling}
use Rattle.sem_filling.specs.Fillings.{packed}
use Rattle.sem_filling.specs.Entries.{Path, next}
use Rattle.sem_filling.specs.Fronts.{Det, FitsTop, InFronts}
use Rattle.sem_elsewhere.specs.Runs.{Survives, all_survive, survives, Arrives, nothing, arrives, Reads, reads_none, reads, RightWhereFits, RightWhereSurvives, Heals}
use Rattle.sem_elsewhere.proofs.Agreeing.{repaired}

module _ (methods : List Method) (top : ℕ) where
  at_front : (other : Entries) (f : Filling) (rest : List Bool) → FitsTop methods top (bits_at other) f → InFronts methods top (bits_at other) (packed f ++ rest) f
  at_front other f rest it_fits = record { fits = it_fits; rest = rest; front = refl }

  module _ (det : Det methods top) where
    right : (other : Entries) (f g : Filling) (rest : List Bool) → InFronts methods top (bits_at other) (packed f ++ rest) g → (g ≡ f) ↔ FitsTop methods top (bits_at other) f
    right other f g rest here = (
      λ e. subst (λ z. FitsTop methods top (bits_at other) z) e here.fits,
      λ it_fits. det (bits_at other) (packed f ++ rest) g f here (at_front other f rest it_fits),
    )

    all_right : (other : Entries) {fs gs : List Filling} {bits : List (List Bool)} → Arrives fs bits → Reads methods top other bits gs → Survives methods top other fs → gs ≡ fs
    all_right other nothing reads_none all_survive = refl
    all_right other (arrives {f = f} {fs = fs} rest is later) (reads {more = more} {g = g} {gs = gs} here on) (survives it_fits s) =
        let one : g ≡ f = (right other f g rest (subst (λ z. InFronts methods top (bits_at other) z g) is here)).1 it_fits in
        let others : gs ≡ fs = all_right (next other f) later (subst (λ z. Reads methods top (next other z) more gs) one on) s in
        ap (λ z. z ∷ gs) one ∙ ap (λ z. f ∷ z) others

  -- what was read fits, one after the other
  all_fit : {other : Entries} {gs : List Filling} {bits : List (List Bool)} → Reads methods top other bits gs → Survives methods top other gs
  all_fit reads_none = all_survive
  all_fit (reads here on) = survives here.fits (all_fit on)

  -- the same in contexts that are the same maps
  same_next : (ctx other : Entries) (f : Filling) → ((path : Path) → bits_at ctx path ≡ bits_at other path) → (path : Path) → bits_at (next ctx f) path ≡ bits_at (next other f) path
  same_next ctx other f same = repaired ctx other f (λ path none. same path)

  same_run : {ctx other : Entries} {fs : List Filling} → Survives methods top ctx fs → ((path : Path) → bits_at ctx path ≡ bits_at other path) → Survives methods top other fs
  same_run all_survive same = all_survive
  same_run {ctx} {other} (survives {f = f} it_fits s) same =
      survives (subst (λ c. FitsTop methods top c f) (λ i path. same path i) it_fits) (same_run s (same_next ctx other f same))

  rest_of : {ctx : Entries} {f : Filling} {fs : List Filling} → Survives methods top ctx (f ∷ fs) → Survives methods top (next ctx f) fs
  rest_of (survives it_fits s) = s

pub right_where_fits : RightWhereFits
right_where_fits methods top det other f g rest here = right methods top det other f g rest here

pub right_where_survives : RightWhereSurvives
right_where_survives methods top det other fs gs bits come read = (
  λ e. subst (λ z. Survives methods top other z) e (all_fit methods top read),
  λ s. all_right methods top det other come read s,
)

pub heals : Heals
heals methods top ctx other f fs same s it_fits = survives it_fits (same_run methods top (rest_of methods top s) (repaired ctx other f same))
