-- What the choices, the asked values and the calls of a plan tell, before the plan is followed.
use Rattle.std.specs.Prelude.{◌≡◌, ℕ, ◌+◌, ◌^◌, ◌<◌, ◌≤◌, ℤ, Bool, true, List, ◌∷◌, drop, slice_get, Some}
use Rattle.sem_bits.specs.Number.{num}
use Rattle.cert_types.specs.declared.certificate.Step.{Step}
use Rattle.sem_profile.specs.declared.profile.Field.{Field}
use Rattle.sem_profile.specs.declared.profile.Format.{Format}
use Rattle.sem_profile.specs.declared.profile.FormatSizes.{FormatSizes}
use Rattle.sem_profile.specs.Resolved.{IsSound}
use Rattle.sem_context.specs.Entries.{bits_at}
use Rattle.sem_filling.specs.declared.filling.AskedValue.{AskedValue}
use Rattle.sem_filling.specs.declared.filling.Filling.{Filling, out-Filling}
use Rattle.sem_filling.specs.Entries.{below}
use Rattle.sem_filling.specs.Fillings.{asked_values, is_header, level}
use Rattle.sem_filling.specs.Bounded.{sizes_at}
use Rattle.sem_filling.specs.Fits.{Fits, format_at}
use Rattle.cert_candidates.specs.declared.digits.Digits.{Digits}
use Rattle.cert_candidates.specs.Codes.{number, IsCandidate}
use Rattle.cert_candidates.specs.Digits.{InSpan}
use Rattle.cert_candidates.specs.Reading.{IsReading}
use Rattle.cert_accepted.specs.declared.frame.AcceptedFrame.{AcceptedFrame}
use Rattle.cert_candidates.specs.Writing.{IsChecked, asked_before}
use Rattle.walk_write.specs.declared.foresight.CalledField.{CalledField}
use Rattle.walk_write.specs.declared.foresight.Outlook.{Outlook}
use Rattle.walk_write.specs.declared.premises.Chosen.{Chosen}
use Rattle.walk_write.specs.Premises.{HasChosen}
use Rattle.cert_compiled.specs.Compiled.{IsLookedBy}
use Rattle.cert_compiled.specs.Offsets.{HaveBefore}
use Rattle.walk_write.specs.Refutation.{HasFalse, IsRefuted, operand}
use Rattle.walk_write.specs.Sources.{front}
use Rattle.walk_write.specs.Walking.{Fails, Passes}

-- ---- the digits that are read

-- a filling of the format n that fits there, whose asked fields have these values
pub record IsAsked (place : AcceptedFrame) (n : ℕ) (asked : List AskedValue) (f : Filling) : Type 0 where
  pub fits : Fits place.accepted.now.profile.methods (bits_at place.frame.context.now) place.frame.method place.frame.arguments.now place.frame.path.now f
  pub of_format : (out-Filling f).format ≡ n
  pub asked_are : asked_values (level f) ≡ asked

-- the number that the field is asked for
pub record IsAskedFor (format : Format) (asked : List AskedValue) (i digit : ℕ) : Type 0 where
  pub field : Field
  pub value : AskedValue
  pub field_is : slice_get format.fields i ≡ Some field
  pub is_asked : field.declared.asked ≡ true
  pub value_is : slice_get asked (asked_before format i) ≡ Some value
  pub digit_is : num value.bits ≡ digit

-- Of the number c, of the format n, the digits are read up to these steps; each candidate that has read the same and is asked for so has the choices.
pub record HasSeen (place : AcceptedFrame) (n : ℕ) (format : Format) (asked : List AskedValue) (steps : List Step) (c : ℕ) (digits : Digits) (choices : List Chosen) : Type 0 where
  pub sound : IsSound place.accepted.now.profile
  pub checked : IsChecked place.accepted.now.profile.methods place.accepted.now.profile.sizes place.accepted.now.profile.top place.accepted.now.certificate.methods place.accepted.now.counts
  pub format_is : format_at place.accepted.now.profile.methods place.frame.method n ≡ Some format
  pub reading : IsReading place.accepted.now.profile.methods place.accepted.now.certificate.methods place.accepted.now.counts place.frame.method n format steps c digits
  pub told : (f : Filling) → IsAsked place n asked f → IsCandidate place.accepted.now.profile.methods place.accepted.now.certificate.methods place.accepted.now.counts place.frame.method f →
      InSpan place.accepted.now.profile.methods place.accepted.now.certificate.methods place.accepted.now.counts place.frame.method format reading.base steps f → HasChosen f choices
  pub room : (m : ℕ) → slice_get place.accepted.now.counts place.frame.method ≡ Some m → c + digits.span ≤ m + digits.rest

-- they are read up to this step
pub record StandsBefore (place : AcceptedFrame) (n : ℕ) (format : Format) (asked : List AskedValue) (one : Step) (c : ℕ) (digits : Digits) (choices : List Chosen) : Type 0 where
  pub later : List Step
  pub seen : HasSeen place n format asked (one ∷ later) c digits choices

-- where they were read up to this step they are now read up to those after it
abbrev pub SeesOn : AcceptedFrame → ℕ → Format → List AskedValue → Step → ℕ → Digits → List Chosen → Digits → List Chosen → Type 0
SeesOn place n format asked one c digits choices next more =
    (later : List Step) → HasSeen place n format asked (one ∷ later) c digits choices → HasSeen place n format asked later c next more

-- The same where some candidates were passed by first, from the number c to a further one.
abbrev pub SeesFrom : AcceptedFrame → ℕ → Format → List AskedValue → Step → ℕ → Digits → List Chosen → ℕ → Digits → List Chosen → Type 0
SeesFrom place n format asked one c digits choices further next more =
    (later : List Step) → HasSeen place n format asked (one ∷ later) c digits choices → HasSeen place n format asked later further next more

-- 64 bits number all candidates of the method
pub record IsCounted (place : AcceptedFrame) : Type 0 where
  pub count : ℕ
  pub count_is : slice_get place.accepted.now.counts place.frame.method ≡ Some count
  pub fits : count < 2 ^ 64

-- ---- the filling inside

-- where the method j stands that a field calls with these values
pub record IsPlaceInside (place : AcceptedFrame) (d : Field) (j : ℕ) (args : List ℤ) (there : AcceptedFrame) : Type 0 where
  pub accepted_is : there.accepted.now ≡ place.accepted.now
  pub context_is : there.frame.context.now ≡ place.frame.context.now
  pub method_is : there.frame.method ≡ j
  pub args_are : there.frame.arguments.now ≡ args
  pub path_is : there.frame.path.now ≡ below place.frame.path.now d.declared.name

-- In a filling of the format n that begins the bits, a field that calls the method j with these values has no filling of the format m inside: a constraint of that format is false, or it is refuted where the field begins.
pub data IsRefutedInside (place : AcceptedFrame) (n : ℕ) (format : Format) (i : ℕ) (d : Field) (j : ℕ) (args : List ℤ) (m : ℕ) (bits : List Bool) : Type 0 where
  by_values : (inner : Format) → format_at place.accepted.now.profile.methods j m ≡ Some inner → HasFalse (operand args) inner.constraints → IsRefutedInside place n format i d j args m bits
  by_start : (sizes : FormatSizes) (offset : ℕ) (there : AcceptedFrame) → is_header d.declared.part ≡ true → sizes_at place.accepted.now.profile.sizes place.frame.method n ≡ Some sizes →
      HaveBefore format.fields sizes.fields i offset → IsPlaceInside place d j args there → IsRefuted there m (drop offset bits) → IsRefutedInside place n format i d j args m bits

-- Each candidate of the method j with one of so many numbers from c on, all of them numbers of candidates, is of a format that is refuted inside the field.
pub record AreRefutedInside (place : AcceptedFrame) (n : ℕ) (format : Format) (i : ℕ) (d : Field) (j : ℕ) (args : List ℤ) (c many : ℕ) (bits : List Bool) : Type 0 where
  pub some : 0 < many
  pub within : (m : ℕ) → slice_get place.accepted.now.counts j ≡ Some m → c + many ≤ m
  pub refuted : (g : Filling) → IsCandidate place.accepted.now.profile.methods place.accepted.now.certificate.methods place.accepted.now.counts j g →
      c ≤ number place.accepted.now.profile.methods place.accepted.now.certificate.methods place.accepted.now.counts g j →
      number place.accepted.now.profile.methods place.accepted.now.certificate.methods place.accepted.now.counts g j < c + many → IsRefutedInside place n format i d j args (out-Filling g).format bits

-- ---- by an outlook

-- what a look goes over is of its format
abbrev pub IsListed : Outlook → Type 0
IsListed o = IsLookedBy o.format.now (sizes_at o.place.now.accepted.now.profile.sizes o.place.now.frame.method o.index) o.looks.now

abbrev pub StandsAt : Outlook → Step → ℕ → Digits → List Chosen → Type 0
StandsAt o one c digits choices = StandsBefore o.place.now o.index o.format.now o.source.now.asked.now one c digits choices

abbrev pub ReadsOn : Outlook → Step → ℕ → Digits → List Chosen → Digits → List Chosen → Type 0
ReadsOn o one c digits choices next more = SeesOn o.place.now o.index o.format.now o.source.now.asked.now one c digits choices next more

abbrev pub ReadsFrom : Outlook → Step → ℕ → Digits → List Chosen → ℕ → Digits → List Chosen → Type 0
ReadsFrom o one c digits choices further next more = SeesFrom o.place.now o.index o.format.now o.source.now.asked.now one c digits choices further next more

abbrev pub FailsFrom : Outlook → ℕ → ℕ → Type 0
FailsFrom o c skipped = Fails o.place.now (front o.source.now) o.source.now.asked.now c skipped

abbrev pub PassesBy : Outlook → ℕ → ℕ → Type 0
PassesBy o c next = Passes o.place.now (front o.source.now) o.source.now.asked.now c next

abbrev pub RefutesInside : Outlook → CalledField → ℕ → Type 0
RefutesInside o x m = IsRefutedInside o.place.now o.index o.format.now x.index x.field.now x.method x.arguments.now m (front o.source.now)

abbrev pub RefutesAllInside : Outlook → CalledField → ℕ → ℕ → Type 0
RefutesAllInside o x c many = AreRefutedInside o.place.now o.index o.format.now x.index x.field.now x.method x.arguments.now c many (front o.source.now)
