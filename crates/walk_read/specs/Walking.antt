-- How far a walk that reads is (docs/DEFINITIONS.md, The steps of a reading walk).
use Rattle.std.specs.Prelude.{◌≡◌, ◌⊎◌, ℕ, ◌<◌, Bool, true, false, List, [], length, slice_get, Some, None, Result, Ok, Err, drop, string_bytes}
use Rattle.sem_profile.specs.Fields.{lists}
use Rattle.cert_types.specs.declared.certificate.Direction.TheVariants.{Read}
use Rattle.cert_types.specs.declared.certificate.Step.{Step}
use Rattle.cert_types.specs.declared.certificate.Step.TheVariants.{Call}
use Rattle.cert_types.specs.declared.rule.Fact.{Fact}
use Rattle.cert_types.specs.declared.rule.Fact.TheVariants.{Done}
use Rattle.sem_context.specs.Entries.{bits_at}
use Rattle.sem_filling.specs.declared.filling.Filling.{Filling, out-Filling}
use Rattle.sem_filling.specs.Fillings.{packed}
use Rattle.sem_filling.specs.Bounded.{sizes_at}
use Rattle.sem_filling.specs.Fits.{Fits, format_at}
use Rattle.sem_profile.specs.declared.profile.Format.{Format}
use Rattle.sem_profile.specs.declared.profile.FormatSizes.{FormatSizes}
use Rattle.cert_rules.specs.Facts.{has}
use Rattle.cert_rules.specs.Plans.{Way, goals_of, known_at_start, IsPlan}
use Rattle.cert_types.specs.declared.certificate.Version.TheVariants.{Two}
use Rattle.cert_rules.specs.Rules.{read_rule}
use Rattle.cert_rules.specs.Slots.{slot_inner, HasSlots, knows_all}
use Rattle.cert_rules.specs.Reading.{Spot, IsAhead, AllLonger, OnlyAhead, IsMade, bits_from, offset_of}
use Rattle.walk_steps.specs.Partial.{Reached, Lacks}
use Rattle.walk_steps.specs.declared.calls.Call as calling
use Rattle.walk_steps.specs.declared.fault.StepFault.{StepFault}
use Rattle.walk_steps.specs.declared.fault.StepFault.TheVariants as step
use Rattle.walk_steps.specs.declared.level_frame.LevelFrame.{LevelFrame}
use Rattle.walk_steps.specs.Finding.{Shows}
use Rattle.cert_accepted.specs.declared.frame.AcceptedFrame.{AcceptedFrame}
use Rattle.walk_read.specs.declared.fault.ReadFault.{ReadFault}
use Rattle.walk_read.specs.declared.fault.ReadFault.TheVariants.{Short, Refused, OutOfMemory}
use Rattle.walk_read.specs.declared.walk.Reading.{Reading}
use Rattle.walk_read.specs.Walk.{spot_of}

-- the bits that are read
abbrev pub bits_of : Reading → List Bool
bits_of reading = drop reading.from reading.cursor.now.left

-- ---- the plan of a format

-- the way to read a format from where these facts are known
abbrev pub way_from : FormatSizes → Format → List Fact → Way
way_from sizes format known = record { rule = read_rule Two sizes format; start = known; goals = goals_of Read format }

-- the steps are a plan to read the format of the method, if it has that format
abbrev pub IsPlanOf : AcceptedFrame → ℕ → List Step → Type 0
IsPlanOf place n steps = (format : Format) (sizes : FormatSizes) → format_at place.accepted.now.profile.methods place.frame.method n ≡ Some format → sizes_at place.accepted.now.profile.sizes place.frame.method n ≡ Some sizes →
    IsPlan (way_from sizes format (known_at_start format)) steps

-- the method has no such format
abbrev pub LacksFormat : AcceptedFrame → ℕ → Type 0
LacksFormat place n = (format : Format) → format_at place.accepted.now.profile.methods place.frame.method n ≡ Some format → ⊥

-- ---- a level with the steps that are still to come

-- The level, of the format n of the method, knows some facts, and from there these steps are a plan; each filling ahead of that format has all that it knows.
pub record IsUnderWay (place : AcceptedFrame) (n : ℕ) (bits : List Bool) (steps : List Step) (l : Reached) : Type 0 where
  pub format_is : format_at place.accepted.now.profile.methods place.frame.method n ≡ Some l.format
  pub sizes_are : sizes_at place.accepted.now.profile.sizes place.frame.method n ≡ Some l.sizes
  pub args_are : l.args ≡ place.frame.arguments.now
  pub known : List Fact
  pub knows : knows_all l.format l.slots known ≡ true
  pub plan : IsPlan (way_from l.sizes l.format known) steps
  -- a field whose filling inside is known was called
  pub once : (i : ℕ) → (slot_inner (slice_get l.slots i) ≡ None) ⊎ (has known (Done i) ≡ true)
  pub shown : (f : Filling) → IsAhead place.accepted.now.profile.methods (bits_at place.frame.context.now) (spot_of place bits) f → (out-Filling f).format ≡ n → HasSlots f l.slots

-- what a fault says of the fillings ahead of the format n: each is longer than the bits, or there is none
abbrev pub BlamesFormat : ReadFault → AcceptedFrame → ℕ → List Bool → Type 0
BlamesFormat (Short at) place n bits =
    (f : Filling) → IsAhead place.accepted.now.profile.methods (bits_at place.frame.context.now) (spot_of place bits) f → (out-Filling f).format ≡ n → length bits < length (packed f)
BlamesFormat (Refused at) place n bits = (f : Filling) → IsAhead place.accepted.now.profile.methods (bits_at place.frame.context.now) (spot_of place bits) f → (out-Filling f).format ≡ n → ⊥
BlamesFormat OutOfMemory place n bits = Unit {0}

-- ---- the end of a level

-- the filling that is made of what is known doesn't fit
pub record IsUnfit (place : AcceptedFrame) (n : ℕ) (l : Reached) : Type 0 where
  pub filling : Filling
  pub made : IsMade n l.format l.slots filling
  pub unfit : Fits place.accepted.now.profile.methods (bits_at place.frame.context.now) place.frame.method place.frame.arguments.now place.frame.path.now filling → ⊥

-- why nothing is made of a level: not all is known, or what is made doesn't fit
abbrev pub BlamesEnd : ReadFault → AcceptedFrame → ℕ → Reached → Type 0
BlamesEnd (Short at) place n l = ⊥
BlamesEnd (Refused at) place n l = Lacks l.slots ⊎ IsUnfit place n l
BlamesEnd OutOfMemory place n l = Unit {0}

-- ---- steps

-- the field of a call has no filling inside
abbrev pub IsFresh : Step → Reached → Type 0
IsFresh (Call i) l = slot_inner (slice_get l.slots i) ≡ None
IsFresh _ l = Unit {0}

-- the step is not a call
abbrev pub IsOwn : Step → Type 0
IsOwn (Call i) = ⊥
IsOwn _ = Unit {0}

-- what a fault says of the fillings that show what the level knows, with these bits in front: each is longer than they are, or there is none
abbrev pub BlamesShown : ReadFault → LevelFrame → Reached → List Bool → Type 0
BlamesShown (Short at) level_frame l bits = (f : Filling) → Shows level_frame l bits f → length bits < length (packed f)
BlamesShown (Refused at) level_frame l bits = (f : Filling) → Shows level_frame l bits f → ⊥
BlamesShown OutOfMemory level_frame l bits = Unit {0}

-- the fault of a step as that of the walk
abbrev pub fault_of : LevelFrame → StepFault → ReadFault
fault_of level_frame step.Short = Short (record { method = level_frame.frame.method; format = Some level_frame.format })
fault_of level_frame step.Refused = Refused (record { method = level_frame.frame.method; format = Some level_frame.format })
fault_of level_frame step.OutOfMemory = OutOfMemory

-- ---- calls

-- where the called method stands
abbrev pub spot_in : Reached → ℕ → calling.Call → List Bool → Spot
spot_in l i call bits = record { method = call.method; args = call.arguments; path = string_bytes call.path; bits = bits_from (lists l.format.listing i) (offset_of l.format l.slots i) bits }

-- the only filling ahead of a called method
abbrev pub IsOnlyInside : AcceptedFrame → Reached → ℕ → calling.Call → List Bool → Filling → Type 0
IsOnlyInside place l i call bits g = OnlyAhead place.accepted.now.profile.methods (bits_at place.frame.context.now) (spot_in l i call bits) g

-- what a fault says of the fillings ahead of a called method: the field is listed, and each is longer than the bits that are left for it; or there is none, but for those with packed bits
-- where the field is not listed
abbrev pub BlamesInside : ReadFault → AcceptedFrame → Reached → ℕ → calling.Call → List Bool → Type 0
BlamesInside (Short at) place l i call bits = (lists l.format.listing i ≡ true) × AllLonger place.accepted.now.profile.methods (bits_at place.frame.context.now) (spot_in l i call bits)
BlamesInside (Refused at) place l i call bits =
    (g : Filling) → IsAhead place.accepted.now.profile.methods (bits_at place.frame.context.now) (spot_in l i call bits) g → (lists l.format.listing i ≡ false → packed g ≡ []) → ⊥
BlamesInside OutOfMemory place l i call bits = Unit {0}

-- where no bits will come a shortage is a refusal
abbrev pub ended_fault : ReadFault → ReadFault
ended_fault (Short at) = Refused at
ended_fault fault = fault

abbrev pub ended : Result Filling ReadFault → Result Filling ReadFault
ended (Ok g) = Ok g
ended (Err e) = Err (ended_fault e)
