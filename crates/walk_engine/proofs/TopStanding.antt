-- What is known of the top of an accepted profile.
use Rattle.std.proofs.Common.{◌≡◌, ◌∙◌, refl, sym, ap, subst, ℕ, zero, suc, ◌+◌, ◌/◌, ◌<◌, ◌≤◌, ◌^◌, Bool, List, [], ◌∷◌, length, arith}
use Rattle.std.specs.Prelude.{ℤ, slice_get, Some, None}
use Rattle.std.proofs.lemmas.Option.{same_Some}
use Rattle.sem_profile.proofs.ParametersWidening.{lie-in-parameters}
use Rattle.cert_accepted.specs.Accepted.{Accepting}
use Rattle.sem_context.specs.Entries.{Entries}
use Rattle.sem_filling.specs.declared.filling.Filling.{Filling}
use Rattle.sem_filling.specs.Fillings.{packed}
use Rattle.sem_filling.proofs.Fronts.{short_sides, within_limits}
use Rattle.sem_filling.specs.Ready.{ArgumentsLieAt}
use Rattle.sem_profile.specs.declared.profile.MethodSizes.{MethodSizes}
use Rattle.sem_profile.specs.Resolved.{Resolved, IsSound}
use Rattle.walk_engine.specs.Reading.{Fitting}
use Rattle.walk_engine.specs.Top.{IsMostOctets}

element : {A : Type 0} (xs : List A) (k : ℕ) → k < length xs → (x : A) × (slice_get xs k ≡ Some x)
element [] k h = absurd (omega arith)
element (x ∷ xs) zero h = (x, refl)
element (x ∷ xs) (suc k) h = element xs k (omega arith)

-- the top has no parameters, so no arguments lie in their ranges
pub no_arguments : (p : Resolved) → IsSound p → ArgumentsLieAt p p.top []
no_arguments p sound s at =
    let m = element p.methods p.top sound.within in
    let count : length s.parameters ≡ 0 = (lie-in-parameters p.methods p.sizes sound.sized).each p.top m.0 s m.1 at ∙ ap length (sound.rooted.plain m.0 m.1) in
    record { count = sym count; each = λ i r v at_r at_v. absurd (cc) }

-- of the place of the top, as the code has it
pub stands_at_top : (p : Resolved) → IsSound p → (a : Accepting) → p ≡ a.profile → (m : ℕ) → m ≡ p.top → (args : List ℤ) → args ≡ [] → (m < length a.profile.methods) × ArgumentsLieAt a.profile m args
stands_at_top p sound a is m at args none =
    let here : IsSound a.profile = subst IsSound is sound in
    let same : m ≡ a.profile.top = at ∙ ap (λ (q : Resolved). q.top) is in (
      subst (λ n. n < length a.profile.methods) (sym same) here.within,
      subst (λ n. ArgumentsLieAt a.profile n args) (sym same) (subst (ArgumentsLieAt a.profile a.profile.top) (sym none) (no_arguments a.profile here)),
    )

-- packed bits as the code has them
pub few_packed : (p : Resolved) → IsSound p → (a : Accepting) → a.profile ≡ p → (ctx : Entries) (f : Filling) → Fitting a ctx f → (b : List Bool) → b ≡ packed f → length b ≤ 2 ^ 18
few_packed p sound a is ctx f h b same =
    let here : IsSound a.profile = subst IsSound (sym is) sound in
    subst (λ l. length l ≤ 2 ^ 18) (sym same) (short_sides a.profile.methods a.profile.sizes here.sized _ a.profile.top [] [] f h).1

-- the packed bits of the top are few by its bounds
pub few_by_bounds : (p : Resolved) → IsSound p → (s : MethodSizes) → slice_get p.sizes p.top ≡ Some s → s.whole.compressed.most ≤ 2 ^ 18
few_by_bounds p sound s at =
    let m = element p.methods p.top sound.within in
    (within_limits s.whole (sound.sized.fine.within p.top m.0 s m.1 at)).1

-- the octets by the bounds that are there
pub octets_are : (a : Accepting) (found : MethodSizes) (n : ℕ) → slice_get a.profile.sizes a.profile.top ≡ Some found → n ≡ found.whole.compressed.most / 8 + 1 → IsMostOctets a n
octets_are a found n at is s at_s = is ∙ ap (λ (z : MethodSizes). z.whole.compressed.most / 8 + 1) (same_Some found s (sym at ∙ at_s))

pub no_octets : (a : Accepting) (n : ℕ) → slice_get a.profile.sizes a.profile.top ≡ None → IsMostOctets a n
no_octets a n none s at_s = let wrong : None ≡ Some s = sym none ∙ at_s in absurd cc
