use Rattle.std.proofs.Common.{◌≡◌, ℕ, List, Bool, ◌∷◌, ◌++◌, refl, sym, ap, ◌∙◌, subst, append_assoc}
use Rattle.sem_context.specs.Entries.{Entries}
use Rattle.sem_context.specs.Text.{IsContextText, AddsLine}

-- one more line of the text
pub print_more : (all s t : Entries) (text new : List ℕ) (e : List ℕ × List Bool) → s ≡ e ∷ t → ((rest : List ℕ) → IsContextText s rest → IsContextText all (text ++ rest)) → AddsLine text e new
    → (rest : List ℕ) → IsContextText t rest → IsContextText all (new ++ rest)
print_more all s t text new e is so_far adds rest h =
    let line : List ℕ = e.0 ++ (32 ∷ adds.0 ++ (10 ∷ rest)) in
    let here : IsContextText s line = subst (λ x. IsContextText x line) (sym is) (adds.0, rest, adds.1, h, refl) in
    let joined : new ++ rest ≡ text ++ line = ap (λ x. x ++ rest) adds.2 ∙ simp append_assoc in
    subst (IsContextText all) (sym joined) (so_far line here)
