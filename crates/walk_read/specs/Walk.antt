-- What a walk that reads owes (docs/DEFINITIONS.md, The steps of a reading walk).
use Rattle.std.specs.Prelude.{◌≡◌, ◌⊎◌, ℕ, ◌+◌, ◌*◌, ◌^◌, ◌<◌, Bool, true, List, [], ◌∷◌, length, slice_get, Option, IsSomeAnd}
use Rattle.sem_context.specs.Entries.{bits_at}
use Rattle.cert_types.specs.declared.rule.Fact.TheVariants.{Done}
use Rattle.cert_types.specs.declared.rule.Rule.{Rule}
use Rattle.sem_filling.specs.declared.filling.Filling.{Filling}
use Rattle.sem_filling.specs.Fillings.{packed}
use Rattle.cert_rules.specs.Facts.{has_all}
use Rattle.cert_rules.specs.Slots.{slot_inner, HasSlots, Grows, knows_all}
use Rattle.cert_rules.specs.Reading.{Spot, AllLonger, NoneAhead, OnlyAhead}
use Rattle.walk_steps.specs.Partial.{Reached}
use Rattle.walk_steps.specs.declared.fault.StepFault.{StepFault}
use Rattle.walk_steps.specs.declared.fault.StepFault.TheVariants as step
use Rattle.walk_steps.specs.declared.level_frame.LevelFrame.{LevelFrame}
use Rattle.walk_steps.specs.Finding.{Shows}
use Rattle.cert_accepted.specs.declared.frame.AcceptedFrame.{AcceptedFrame}
use Rattle.walk_read.specs.declared.fault.ReadFault.{ReadFault}
use Rattle.walk_read.specs.declared.fault.ReadFault.TheVariants.{Short, Refused, OutOfMemory}

-- where these bits are ahead
abbrev pub spot_of : AcceptedFrame → List Bool → Spot
spot_of place bits = record { method = place.frame.method; args = place.frame.arguments.now; path = place.frame.path.now; bits = bits }

-- no other filling is ahead, whatever bits follow
abbrev pub IsOnlyAhead : AcceptedFrame → List Bool → Filling → Type 0
IsOnlyAhead place bits g = OnlyAhead place.accepted.now.profile.methods (bits_at place.frame.context.now) (spot_of place bits) g

-- what a fault says: each filling ahead is longer than the bits, or none is ahead, whatever bits follow
abbrev pub Blames : ReadFault → AcceptedFrame → List Bool → Type 0
Blames (Short at) place bits = AllLonger place.accepted.now.profile.methods (bits_at place.frame.context.now) (spot_of place bits)
Blames (Refused at) place bits = NoneAhead place.accepted.now.profile.methods (bits_at place.frame.context.now) (spot_of place bits)
Blames OutOfMemory place bits = Unit {0}

-- how many bits are enough at a depth of calls: each method takes at most 2^18, and its tree tests bits below 8,192
abbrev pub enough : ℕ → ℕ
enough depth = depth * 2 ^ 18 + 8192

-- where they ran out there were fewer
abbrev pub AreFew : ReadFault → ℕ → List Bool → Type 0
AreFew (Short at) depth bits = length bits < enough depth
AreFew (Refused at) depth bits = Unit {0}
AreFew OutOfMemory depth bits = Unit {0}

-- ---- steps

-- what the step gives is known, and what was known still is; each filling that showed what was known, with these bits in front, has what is known now
pub record LearnsAhead (level_frame : LevelFrame) (bits : List Bool) (rule : Option Rule) (old new : Reached) : Type 0 where
  pub format_is : new.format ≡ old.format
  pub sizes_are : new.sizes ≡ old.sizes
  pub args_are : new.args ≡ old.args
  pub grown : Grows old.slots new.slots
  -- a field whose filling inside is known is one whose filling was known, or the step says that it is done
  pub inners : (i : ℕ) → (slot_inner (slice_get new.slots i) ≡ slot_inner (slice_get old.slots i)) ⊎ IsSomeAnd rule (λ r. has_all r.gives (Done i ∷ []) ≡ true)
  pub gives : IsSomeAnd rule (λ r. knows_all old.format new.slots r.gives ≡ true)
  pub agrees : (f : Filling) → Shows level_frame old bits f → HasSlots f new.slots

-- what a step's fault says: each filling that shows what the level knows, with these bits in front, is longer than they are; or there is none
abbrev pub BlamesStep : StepFault → LevelFrame → Reached → List Bool → Type 0
BlamesStep step.Short level_frame l bits = (f : Filling) → Shows level_frame l bits f → length bits < length (packed f)
BlamesStep step.Refused level_frame l bits = (f : Filling) → Shows level_frame l bits f → ⊥
BlamesStep step.OutOfMemory level_frame l bits = Unit {0}

-- where a take runs out of bits there are fewer than the packed bits of a method may be
abbrev pub AreFewLeft : StepFault → List Bool → Type 0
AreFewLeft step.Short bits = length bits < 2 ^ 18
AreFewLeft step.Refused bits = Unit {0}
AreFewLeft step.OutOfMemory bits = Unit {0}
