-- Where a walk that writes stands in a plan (docs/DEFINITIONS.md, The steps of a writing walk).
use Rattle.std.specs.Prelude.{◌≡◌, ℕ, ◌+◌, ◌*◌, ◌^◌, ◌<◌, ◌≤◌, Bool, true, List, [], ◌∷◌, slice_get, Some}
use Rattle.sem_context.specs.Entries.{bits_at}
use Rattle.sem_profile.specs.declared.profile.Field.{Field}
use Rattle.sem_profile.specs.declared.profile.Format.{Format}
use Rattle.sem_filling.specs.declared.filling.AskedValue.{AskedValue}
use Rattle.sem_filling.specs.declared.filling.Filling.{Filling}
use Rattle.sem_filling.specs.Fillings.{is_header}
use Rattle.sem_profile.specs.Limits.{Chain}
use Rattle.sem_profile.specs.Resolved.{IsSound}
use Rattle.sem_profile.specs.Uses.{used_graph}
use Rattle.sem_filling.specs.Fits.{format_at}
use Rattle.sem_filling.specs.Ready.{ArgumentsLieAt}
use Rattle.cert_types.specs.declared.certificate.Direction.TheVariants.{Write}
use Rattle.cert_types.specs.declared.certificate.Plans.{Plans}
use Rattle.cert_types.specs.declared.certificate.Step.{Step}
use Rattle.cert_types.specs.declared.rule.Fact.{Fact}
use Rattle.cert_types.specs.declared.rule.Fact.TheVariants.{Done}
use Rattle.cert_rules.specs.Facts.{has}
use Rattle.cert_types.specs.declared.certificate.Version.TheVariants.{Two}
use Rattle.cert_rules.specs.Plans.{rule_of, known_after, all_enabled, goals_of, is_complete}
use Rattle.cert_rules.specs.Rules.{headers_before}
use Rattle.cert_rules.specs.Slots.{is_there, slot_inner}
use Rattle.cert_candidates.specs.declared.digits.Digits.{Digits}
use Rattle.cert_candidates.specs.declared.digits.Start.{Start}
use Rattle.cert_candidates.specs.Codes.{write_plan, ways_before}
use Rattle.cert_candidates.specs.Reading.{IsReading, ShareUpTo}
use Rattle.cert_accepted.specs.Accepted.{Accepting}
use Rattle.walk_steps.specs.Partial.{Reached}
use Rattle.walk_steps.specs.declared.calls.Call.{Call}
use Rattle.walk_steps.specs.declared.fault.StepFault.{StepFault}
use Rattle.walk_steps.specs.declared.fault.StepFault.TheVariants as step
use Rattle.walk_steps.specs.declared.level_frame.LevelFrame.{LevelFrame}
use Rattle.walk_steps.specs.Finding.{IsAt}
use Rattle.cert_accepted.specs.declared.frame.AcceptedFrame.{AcceptedFrame}
use Rattle.cert_candidates.specs.Knowing.{writer_knows_all}
use Rattle.cert_candidates.specs.Writing.{Site, IsChecked, IsWriting, NoneNumbered, IsNumbered, inner_site}
use Rattle.walk_write.specs.declared.fault.WriteFault.{WriteFault}
use Rattle.walk_write.specs.declared.fault.WriteFault.TheVariants.{Failed, OutOfMemory}
use Rattle.walk_write.specs.Walking.{site_at}

-- what a walk in a level frame rests on: the profile is the accepted one, whose certificate is valid and whose numbers of candidates are the true ones
pub record Serves (a : Accepting) (level_frame : LevelFrame) : Type 0 where
  pub profile_is : level_frame.frame.profile.now ≡ a.profile
  pub sound : IsSound level_frame.frame.profile.now
  pub checked : IsChecked level_frame.frame.profile.now.methods level_frame.frame.profile.now.sizes level_frame.frame.profile.now.top a.certificate.methods a.counts

-- no chain of calls from the level frame's method has more methods, itself among them
abbrev pub IsDeep : LevelFrame → ℕ → Type 0
IsDeep level_frame depth = (j n : ℕ) → Chain (used_graph level_frame.frame.profile.now.methods) level_frame.frame.method n j → n ≤ depth

-- Of the number c the digits are read up to these steps, and the level has what the steps before them gave; with the steps the plan is complete.
pub record IsGoing (a : Accepting) (level_frame : LevelFrame) (source : List Bool) (asked : List AskedValue) (steps : List Step) (c : ℕ) (digits : Digits) (l : Reached) : Type 0 where
  pub at : IsAt level_frame l
  pub lie : ArgumentsLieAt level_frame.frame.profile.now level_frame.frame.method l.args
  pub writing : IsWriting level_frame.frame.profile.now.methods a.certificate.methods a.counts (bits_at level_frame.frame.context.now) (site_at level_frame l source asked) level_frame.format l.format steps c digits l.slots
  -- what is known is enough for each step, and at the end for the goals
  pub known : List Fact
  pub knows : writer_knows_all l.format l.slots known ≡ true
  pub enabled : all_enabled (rule_of Two Write level_frame.frame.profile.now.sizes l.sizes l.format) known steps ≡ true
  pub complete : is_complete (goals_of Write l.format) (known_after (rule_of Two Write level_frame.frame.profile.now.sizes l.sizes l.format) known steps) ≡ true
  -- a filling is inside a field only where the field is done
  pub filled : (i : ℕ) → is_there (slot_inner (slice_get l.slots i)) ≡ true → has known (Done i) ≡ true
  -- those that share the digits are candidates of the method
  pub room : (n : ℕ) → slice_get a.counts level_frame.frame.method ≡ Some n → c + digits.span ≤ n + digits.rest

-- a walk stands before the step
pub record Goes (a : Accepting) (level_frame : LevelFrame) (source : List Bool) (asked : List AskedValue) (one : Step) (digits : Digits) (l : Reached) : Type 0 where
  pub serves : Serves a level_frame
  pub later : List Step
  pub number : ℕ
  pub going : IsGoing a level_frame source asked (one ∷ later) number digits l

-- each walk that stood before the step stands after it
abbrev pub StepsOn : Accepting → LevelFrame → List Bool → List AskedValue → Step → Digits → Reached → Digits → Reached → Type 0
StepsOn a level_frame source asked one digits l next new =
    (later : List Step) (c : ℕ) → IsGoing a level_frame source asked (one ∷ later) c digits l → IsGoing a level_frame source asked later c next new

-- the method has no filling with one of so many numbers from c on, all of them candidates
pub record FailsAt (a : Accepting) (level_frame : LevelFrame) (site : Site) (c skipped : ℕ) : Type 0 where
  pub some : 0 < skipped
  pub within : (n : ℕ) → slice_get a.counts site.method ≡ Some n → c + skipped ≤ n
  pub none : NoneNumbered level_frame.frame.profile.now.methods a.certificate.methods a.counts (bits_at level_frame.frame.context.now) site c skipped

abbrev pub BlamesAt : WriteFault → Accepting → LevelFrame → Site → ℕ → Type 0
BlamesAt (Failed skipped) a level_frame site c = FailsAt a level_frame site c skipped
BlamesAt OutOfMemory a level_frame site c = Unit {0}

-- what a step's fault says of each walk that stood before it
abbrev pub BlamesGoing : WriteFault → Accepting → LevelFrame → List Bool → List AskedValue → Step → Digits → Reached → Type 0
BlamesGoing e a level_frame source asked one digits l =
    (later : List Step) (c : ℕ) → IsGoing a level_frame source asked (one ∷ later) c digits l → BlamesAt e a level_frame (site_at level_frame l source asked) c

-- the fault of a walk whose step has that fault, where it would pass so many numbers
abbrev pub fault_of : StepFault → ℕ → WriteFault
fault_of step.Short skipped = Failed skipped
fault_of step.Refused skipped = Failed skipped
fault_of step.OutOfMemory skipped = OutOfMemory

-- ---- the start

-- where the digits of the number c begin: a format with a write plan
pub record Begins (place : AcceptedFrame) (c : ℕ) (start : Start) : Type 0 where
  pub sound : IsSound place.accepted.now.profile
  pub checked : IsChecked place.accepted.now.profile.methods place.accepted.now.profile.sizes place.accepted.now.profile.top place.accepted.now.certificate.methods place.accepted.now.counts
  pub format : Format
  pub plans : Plans
  pub format_is : format_at place.accepted.now.profile.methods place.frame.method start.format ≡ Some format
  pub plans_are : write_plan place.accepted.now.certificate.methods place.frame.method start.format ≡ Some plans
  pub reading : IsReading place.accepted.now.profile.methods place.accepted.now.certificate.methods place.accepted.now.counts place.frame.method start.format format plans.write c start.digits
  pub base_is : reading.base ≡ ways_before place.accepted.now.profile.methods place.accepted.now.certificate.methods place.accepted.now.counts place.frame.method start.format
  pub room : (n : ℕ) → slice_get place.accepted.now.counts place.frame.method ≡ Some n → c + start.digits.span ≤ n + start.digits.rest

-- ---- calls

-- where the called method of the field stands
abbrev pub inside : LevelFrame → Reached → List Bool → ℕ → Field → Call → Site
inside level_frame l source i d call = inner_site l.format l.slots (site_at level_frame l source []) i d call.method call.arguments

-- where the field is a header field those before it are taken or called
abbrev pub KnowsBefore : Reached → ℕ → Type 0
KnowsBefore l i = (d : Field) → slice_get l.format.fields i ≡ Some d → is_header d.declared.part ≡ true → writer_knows_all l.format l.slots (headers_before l.format i) ≡ true

-- the filling has the number, where the called method of the field stands
abbrev pub IsInside : Accepting → LevelFrame → Reached → List Bool → ℕ → Call → ℕ → Filling → Type 0
IsInside a level_frame l source i call c g = (d : Field) → slice_get l.format.fields i ≡ Some d →
    IsNumbered level_frame.frame.profile.now.methods a.certificate.methods a.counts (bits_at level_frame.frame.context.now) (inside level_frame l source i d call) c g

abbrev pub BlamesInside : WriteFault → Accepting → LevelFrame → Reached → List Bool → ℕ → Call → ℕ → Type 0
BlamesInside e a level_frame l source i call c = (d : Field) → slice_get l.format.fields i ≡ Some d → BlamesAt e a level_frame (inside level_frame l source i d call) c

-- the fault inside can be passed on: it passes a number, and so many digits are within 64 bits
abbrev pub CanPass : WriteFault → Digits → Type 0
CanPass (Failed m) digits = (0 < m) × (m * digits.span < 2 ^ 64)
CanPass OutOfMemory digits = Unit {0}

-- The fault that is passed on from inside: where the filling inside fails with m numbers, the candidates with one of the next m digits fail.
abbrev pub PassesOn : WriteFault → Digits → WriteFault → Type 0
PassesOn (Failed m) digits e = (k : ℕ) × (e ≡ Failed k) × (k + digits.rest ≡ m * digits.span) × ShareUpTo m digits k
PassesOn OutOfMemory digits e = e ≡ OutOfMemory

-- ---- the end

-- a walk has followed its plan
pub record HasEnded (a : Accepting) (level_frame : LevelFrame) (digits : Digits) (l : Reached) : Type 0 where
  pub serves : Serves a level_frame
  pub source : List Bool
  pub asked : List AskedValue
  pub number : ℕ
  pub going : IsGoing a level_frame source asked [] number digits l

-- the filling has the number of each walk that did
abbrev pub Ends : Accepting → LevelFrame → Digits → Reached → Filling → Type 0
Ends a level_frame digits l g = (source : List Bool) (asked : List AskedValue) (c : ℕ) → IsGoing a level_frame source asked [] c digits l →
    IsNumbered level_frame.frame.profile.now.methods a.certificate.methods a.counts (bits_at level_frame.frame.context.now) (site_at level_frame l source asked) c g

abbrev pub BlamesEnd : WriteFault → Accepting → LevelFrame → Digits → Reached → Type 0
BlamesEnd e a level_frame digits l = (source : List Bool) (asked : List AskedValue) (c : ℕ) → IsGoing a level_frame source asked [] c digits l → BlamesAt e a level_frame (site_at level_frame l source asked) c
