-- What the slots of a walk that writes know (docs/DEFINITIONS.md, The steps of a writing walk).
use Rattle.std.specs.Prelude.{◌≡◌, Bool, true, List, [], ◌∷◌, Some, slice_get, ◌&&◌, ◌||◌, not}
use Rattle.sem_expr.specs.declared.expr.Side.TheVariants.{Uncompressed}
use Rattle.sem_profile.specs.declared.profile.Format.{Format}
use Rattle.sem_profile.specs.declared.profile.FormatSizes.{FormatSizes}
use Rattle.cert_types.specs.declared.certificate.Step.{Step}
use Rattle.cert_types.specs.declared.rule.Fact.{Fact}
use Rattle.cert_types.specs.declared.rule.Fact.TheVariants.{LengthOf, BitsOf, Done}
use Rattle.cert_types.specs.declared.rule.Rule.{Rule}
use Rattle.cert_rules.specs.declared.slots.Slot.{Slot}
use Rattle.cert_rules.specs.Plans.{enabled, known_at_start}
use Rattle.cert_types.specs.declared.certificate.Version.TheVariants.{Two}
use Rattle.cert_rules.specs.Rules.{common_rule}
use Rattle.cert_rules.specs.Slots.{has_length, has_bits, learnt_at, calls_at, is_there, slot_inner, knows_all, Grows}
use Rattle.cert_rules.specs.Reading.{start_slots}

-- The fact is among what they know. In writing a field is done where its uncompressed side is known, and the filling inside it if it calls.
abbrev pub writer_knows : Format → List Slot → Fact → Bool
writer_knows format slots (LengthOf side i) = has_length (learnt_at slots i side)
writer_knows format slots (BitsOf side i) = has_bits (learnt_at slots i side)
writer_knows format slots (Done i) = has_bits (learnt_at slots i Uncompressed) && (not (calls_at (slice_get format.fields i)) || is_there (slot_inner (slice_get slots i)))

-- all are among what they know
abbrev pub writer_knows_all : Format → List Slot → List Fact → Bool
writer_knows_all format slots [] = true
writer_knows_all format slots (x ∷ xs) = writer_knows format slots x && writer_knows_all format slots xs

-- ---- laws

-- the slots at the start know what is known at the start
abbrev pub StartKnown : Type 0
StartKnown = (format : Format) → writer_knows_all format (start_slots format.listing 0 format.fields) (known_at_start format) ≡ true

-- what an enabled step needs is known to slots that know all that is known
abbrev pub NeedsKnown : Type 0
NeedsKnown = (format : Format) (slots : List Slot) (known : List Fact) (r : Rule) → enabled known (Some r) ≡ true → writer_knows_all format slots known ≡ true → writer_knows_all format slots r.needs ≡ true

-- slots that grow know what they knew
abbrev pub GrownKnow : Type 0
GrownKnow = (format : Format) (old new : List Slot) (xs : List Fact) → Grows old new → writer_knows_all format old xs ≡ true → writer_knows_all format new xs ≡ true

-- A step that both directions have, by the rules of version two, needs and gives what slots know alike in both.
abbrev pub CommonKnown : Type 0
CommonKnown = (sizes : FormatSizes) (format : Format) (step : Step) (r : Rule) → common_rule Two sizes format step ≡ Some r → (slots : List Slot) →
    (writer_knows_all format slots r.needs ≡ knows_all format slots r.needs) × (writer_knows_all format slots r.gives ≡ knows_all format slots r.gives)
