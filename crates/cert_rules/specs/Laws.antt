-- What follows from a valid certificate.
use Rattle.std.specs.Prelude.{◌≡◌, ℕ, ℤ, List}
use Rattle.sem_profile.specs.declared.profile.Method.{Method}
use Rattle.sem_profile.specs.declared.profile.MethodSizes.{MethodSizes}
use Rattle.sem_profile.specs.Methods.{IsOrder}
use Rattle.sem_profile.specs.Outcome.{AreSizes}
use Rattle.cert_types.specs.Kept.{Certified, Entries}
use Rattle.sem_filling.specs.Entries.{Path}
use Rattle.sem_filling.specs.Fronts.{DetAt}
use Rattle.cert_rules.specs.Counts.{AreCounts}
use Rattle.sem_profile.specs.Alike.{AreAlike}
use Rattle.cert_rules.specs.Valid.{Valid}

-- Where the table holds the bounds, the formats of each method have its header and control fields, and the certificate is valid, each method is determinate under any arguments and at any path: so is the top.
abbrev pub ValidIsDeterminate : Type 0
ValidIsDeterminate = (methods : List Method) (table : List MethodSizes) (top : ℕ) (cert : Certified) → AreSizes methods table → AreAlike methods → Valid methods table top cert →
    (k : ℕ) (args : List ℤ) (path : Path) → DetAt methods k args path

-- Where the methods stand in an order, callees first, a certificate has one list of counts.
abbrev pub OneCount : Type 0
OneCount = (methods : List Method) (order : List ℕ) (cert : Entries) (counts others : List ℕ) → IsOrder methods order → AreCounts methods cert counts → AreCounts methods cert others → counts ≡ others
