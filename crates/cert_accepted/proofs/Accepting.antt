-- What is accepted is determinate.
use Rattle.std.proofs.Common.{◌≡◌, ℕ, List, [], sym, subst}
use Rattle.std.specs.Prelude.{ℤ}
use Rattle.sem_profile.specs.Outcome.{AreSizes}
use Rattle.sem_filling.specs.Entries.{Path}
use Rattle.sem_filling.specs.Fronts.{DetAt}
use Rattle.sem_profile.specs.Alike.{AreAlike}
use Rattle.sem_profile.specs.Resolved.{Resolved}
use Rattle.cert_rules.proofs.ViewsDeterminate.{determinate}
use Rattle.cert_accepted.specs.Accepted.{Accepting, IsAccepted, IsDeterminate}

pub determined : (a : Accepting) (p : Resolved) → a.profile ≡ p → AreSizes p.methods p.sizes → AreAlike p.methods → IsAccepted a → IsDeterminate a
determined a p is sized alike valid =
    let here : AreSizes a.profile.methods a.profile.sizes = subst (λ (q : Resolved). AreSizes q.methods q.sizes) (sym is) sized in
    let each : (k : ℕ) (args : List ℤ) (path : Path) → DetAt a.profile.methods k args path = determinate a.profile.methods a.profile.sizes a.profile.top a.certificate here (subst (λ (q : Resolved). AreAlike q.methods) (sym is) alike) valid.valid in
    record { top = each a.profile.top [] []; each = each }
