-- What a walk that writes owes (docs/DEFINITIONS.md, The steps of a writing walk).
use Rattle.std.specs.Prelude.{◌≡◌, ℕ, ◌+◌, ◌<◌, ◌≤◌, Bool, true, List, slice_get, Option, Some, IsSomeAnd}
use Rattle.sem_bits.specs.Number.{num}
use Rattle.sem_context.specs.Entries.{bits_at}
use Rattle.sem_filling.specs.declared.filling.AskedValue.{AskedValue}
use Rattle.sem_filling.specs.declared.filling.Filling.{Filling}
use Rattle.cert_types.specs.declared.rule.Rule.{Rule}
use Rattle.sem_expr.specs.declared.expr.Side.TheVariants.{Uncompressed}
use Rattle.cert_rules.specs.declared.slots.Learnt.TheVariants.{Whole}
use Rattle.cert_rules.specs.declared.slots.Slot.{Slot}
use Rattle.cert_rules.specs.Reading.{IsLevel}
use Rattle.cert_rules.specs.Slots.{HasSlots, Grows, learnt_at}
use Rattle.cert_rules.specs.Views.{view, side_at}
use Rattle.walk_steps.specs.Partial.{Reached}
use Rattle.walk_steps.specs.declared.fault.StepFault.{StepFault}
use Rattle.walk_steps.specs.declared.fault.StepFault.TheVariants as step
use Rattle.walk_steps.specs.declared.level_frame.LevelFrame.{LevelFrame}
use Rattle.walk_steps.specs.Finding.{HaveSameInners}
use Rattle.cert_accepted.specs.declared.frame.AcceptedFrame.{AcceptedFrame}
use Rattle.cert_candidates.specs.Knowing.{writer_knows_all}
use Rattle.cert_candidates.specs.Writing.{Site, Begins, IsChosen, NoneNumbered, IsNumbered, spot_at}
use Rattle.walk_write.specs.declared.fault.WriteFault.{WriteFault}
use Rattle.walk_write.specs.declared.fault.WriteFault.TheVariants.{Failed, OutOfMemory}

-- where the header takes from these bits, and the asked fields have these values
abbrev pub site_of : AcceptedFrame → List Bool → List AskedValue → Site
site_of place source asked = record { method = place.frame.method; args = place.frame.arguments.now; path = place.frame.path.now; source = source; asked = asked }

-- the number is one of the method's candidates
abbrev pub IsBelow : AcceptedFrame → ℕ → Type 0
IsBelow place c = (n : ℕ) → slice_get place.accepted.now.counts place.frame.method ≡ Some n → c < n

-- the filling has the number c, and no other that begins the source has it
abbrev pub IsWritten : AcceptedFrame → List Bool → List AskedValue → ℕ → Filling → Type 0
IsWritten place source asked c g =
    IsNumbered place.accepted.now.profile.methods place.accepted.now.certificate.methods place.accepted.now.counts (bits_at place.frame.context.now) (site_of place source asked) c g

-- no filling that begins the source has one of so many numbers from c on, of which there are so many
pub record Fails (place : AcceptedFrame) (source : List Bool) (asked : List AskedValue) (c skipped : ℕ) : Type 0 where
  pub some : 0 < skipped
  pub within : (n : ℕ) → slice_get place.accepted.now.counts place.frame.method ≡ Some n → c + skipped ≤ n
  pub none : NoneNumbered place.accepted.now.profile.methods place.accepted.now.certificate.methods place.accepted.now.counts (bits_at place.frame.context.now) (site_of place source asked) c skipped

-- no filling that begins the source has one of the numbers from c on up to this one, all of them numbers of candidates
pub record Passes (place : AcceptedFrame) (source : List Bool) (asked : List AskedValue) (c next : ℕ) : Type 0 where
  pub many : ℕ
  pub next_is : c + many ≡ next
  pub fail : 0 < many → Fails place source asked c many

-- what a fault says
abbrev pub Blames : WriteFault → AcceptedFrame → List Bool → List AskedValue → ℕ → Type 0
Blames (Failed skipped) place source asked c = Fails place source asked c skipped
Blames OutOfMemory place source asked c = Unit {0}

-- ---- steps

-- where the level stands, with these bits before its header and these values of its asked fields
abbrev pub site_at : LevelFrame → Reached → List Bool → List AskedValue → Site
site_at level_frame l source asked = record { method = level_frame.frame.method; args = l.args; path = level_frame.frame.path.now; source = source; asked = asked }

-- a filling that begins the source, of the format, and has what the level knows
pub record IsHere (level_frame : LevelFrame) (l : Reached) (source : List Bool) (asked : List AskedValue) (f : Filling) : Type 0 where
  pub begins : Begins level_frame.frame.profile.now.methods (bits_at level_frame.frame.context.now) (site_at level_frame l source asked) f
  pub shows : IsLevel level_frame.frame.profile.now.methods (bits_at level_frame.frame.context.now) (spot_at (site_at level_frame l source asked)) level_frame.format l.format l.slots f

-- the step has a rule, and what it needs is known
abbrev pub IsReadyToWrite : Reached → Option Rule → Type 0
IsReadyToWrite l rule = IsSomeAnd rule (λ r. writer_knows_all l.format l.slots r.needs ≡ true)

-- what the step gives is known, and what was known still is; each of these fillings that had what was known has what is known now
pub record LearnsOf (Theirs : Filling → Type 0) (rule : Option Rule) (old new : Reached) : Type 0 where
  pub format_is : new.format ≡ old.format
  pub sizes_are : new.sizes ≡ old.sizes
  pub args_are : new.args ≡ old.args
  pub grown : Grows old.slots new.slots
  pub inners : HaveSameInners old.slots new.slots
  pub gives : IsSomeAnd rule (λ r. writer_knows_all old.format new.slots r.gives ≡ true)
  pub agrees : (f : Filling) → Theirs f → HasSlots f old.slots → HasSlots f new.slots

-- what a step's fault says: it is none of these fillings
abbrev pub BlamesStep : StepFault → (Filling → Type 0) → Type 0
BlamesStep step.Short Theirs = ⊥
BlamesStep step.Refused Theirs = (f : Filling) → Theirs f → ⊥
BlamesStep step.OutOfMemory Theirs = Unit {0}

-- those that are here with these values of their asked fields, whatever bits are before their header
pub record HasAsked (level_frame : LevelFrame) (l : Reached) (asked : List AskedValue) (f : Filling) : Type 0 where
  pub source : List Bool
  pub here : IsHere level_frame l source asked f

-- those that are here, whatever these are, and have the digit chosen
pub record HasChosen (level_frame : LevelFrame) (l : Reached) (i n digit : ℕ) (f : Filling) : Type 0 where
  pub source : List Bool
  pub asked : List AskedValue
  pub here : IsHere level_frame l source asked f
  pub chosen : IsChosen n digit (side_at (view f) i Uncompressed)

-- the bits of the digit are known
pub record KnowsChosen (slots : List Slot) (i digit : ℕ) : Type 0 where
  pub bits : List Bool
  pub known : learnt_at slots i Uncompressed ≡ Whole bits
  pub number_is : num bits ≡ digit
