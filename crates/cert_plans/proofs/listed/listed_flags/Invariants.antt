use Rattle.std.proofs.Common.{◌≡◌, ◌||◌, ◌<◌, ℕ, false, drop, length, get_or}
use Rattle.sem_profile.specs.Fields.{lists}
use Rattle.cert_plans.proofs.listed.listed_flags.Given as goal

abbrev pub invariant-loop-listed : goal.invariant-loop-listed
invariant-loop-listed l =
    (length l.flags ≡ length l.format.fields) ×
    ((i : ℕ) → i < length l.format.fields → (lists (drop l.listed-index l.format.listing) i || get_or l.flags i false) ≡ lists l.format.listing i)
