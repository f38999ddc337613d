-- Where a tree leads (docs/DEFINITIONS.md, Certificates).
use Rattle.std.specs.Prelude.{ℕ, Bool, List, [], Option, Some, None, ℤ}
use Rattle.sem_profile.specs.declared.profile.Format.{Format as Formatted}
use Rattle.sem_profile.specs.declared.profile.Method.{Method}
use Rattle.cert_types.specs.declared.certificate.MethodPlans.{MethodPlans}
use Rattle.cert_types.specs.Kept.{Entries}
use Rattle.cert_rules.specs.Counts.{entry_at}
use Rattle.cert_rules.specs.Trees.{Arrival, leads, nowhere, cut_off, way}
use Rattle.cert_tables.specs.declared.picks.Picked.{Picked}
use Rattle.cert_tables.specs.declared.picks.Picked.TheVariants.{Format, Nothing, Short}

-- where a way arrives
abbrev pub picked_of : Arrival → Picked
picked_of (leads n) = Format n
picked_of nowhere = Nothing
picked_of cut_off = Short

-- where the tree of an entry leads, nowhere without one
abbrev pub arrival : Option MethodPlans → (ℕ → Option ℤ) → List Bool → List ℤ → Arrival
arrival None refs bits args = nowhere
arrival (Some entry) refs bits args = way refs bits args 0 entry.tree

-- the formats of a method, none where there is no such method
abbrev pub formats_of : Option Method → List Formatted
formats_of (Some m) = m.formats
formats_of None = []

-- where a method's tree leads
abbrev pub picks : Entries → ℕ → (ℕ → Option ℤ) → List ℤ → List Bool → Picked
picks certificate method refs args bits = picked_of (arrival (entry_at certificate method) refs bits args)
