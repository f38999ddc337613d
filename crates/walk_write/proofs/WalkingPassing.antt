-- How a walk goes on and fails at a step.
use Rattle.std.proofs.Common.{◌≡◌, refl, sym, ◌∙◌, ap, subst, ℕ, ◌+◌, ◌*◌, ◌<◌, ◌≤◌, Bool, true, false, List, [], ◌∷◌, ◌++◌, length, arith}
use Rattle.std.specs.Prelude.{Option, Some, None, Result, Ok, Err, OnOk, IfErr, IsSomeAnd, slice_get, ◌||◌}
use Rattle.std.proofs.Math.Nat.{mul-le-mul_right}
use Rattle.sem_context.specs.Entries.{bits_at}
use Rattle.sem_profile.specs.declared.profile.Format.{Format}
use Rattle.sem_profile.specs.declared.profile.FormatSizes.{FormatSizes}
use Rattle.sem_profile.specs.declared.profile.MethodSizes.{MethodSizes}
use Rattle.sem_filling.specs.declared.filling.AskedValue.{AskedValue}
use Rattle.sem_filling.specs.declared.filling.Filling.{Filling}
use Rattle.cert_types.specs.declared.certificate.Direction.TheVariants.{Write}
use Rattle.cert_types.specs.declared.certificate.Step.{Step}
use Rattle.cert_types.specs.declared.certificate.Step.TheVariants.{Take, Call, LibraryUp, LibraryDown, MethodLength, ConstraintLength, Solve, Choose, Ask}
use Rattle.cert_types.specs.declared.rule.Fact.{Fact}
use Rattle.cert_types.specs.declared.rule.Fact.TheVariants.{Done}
use Rattle.cert_types.specs.declared.rule.Rule.{Rule}
use Rattle.cert_rules.specs.declared.slots.Slot.{Slot}
use Rattle.cert_rules.specs.Facts.{same_fact, has}
use Rattle.cert_types.specs.declared.certificate.Version.TheVariants.{Two}
use Rattle.cert_rules.specs.Plans.{rule_of, enabled, learnt, all_enabled}
use Rattle.cert_rules.specs.Rules.{write_rule, common_rule}
use Rattle.cert_rules.specs.Slots.{Grows, is_there, slot_inner, knows_all}
use Rattle.cert_rules.proofs.ViewsAgree.{and_true}
use Rattle.cert_candidates.specs.declared.digits.Digits.{Digits}
use Rattle.cert_candidates.specs.Reading.{IsNext, IsReading, ShareDigits}
use Rattle.cert_accepted.specs.Accepted.{Accepting}
use Rattle.walk_steps.specs.Partial.{Reached, IsKept}
use Rattle.walk_steps.specs.declared.fault.StepFault.{StepFault}
use Rattle.walk_steps.specs.declared.fault.StepFault.TheVariants as fault
use Rattle.walk_steps.specs.declared.level_frame.LevelFrame.{LevelFrame}
use Rattle.walk_steps.specs.Finding as finding
use Rattle.walk_steps.specs.Finding.{HaveSameInners, Learns}
use Rattle.cert_candidates.specs.Knowing.{writer_knows, writer_knows_all}
use Rattle.cert_candidates.specs.WritingLaws.{is_plain}
use Rattle.cert_candidates.specs.Writing.{IsOpen, IsWriting}
use Rattle.cert_candidates.proofs.WritingLawsGoing.{writing_passes, writing_fails, begins_ahead}
use Rattle.cert_candidates.proofs.Knowing.{both_true, common_known, grown_known, needs_known}
use Rattle.walk_write.specs.declared.fault.WriteFault.{WriteFault}
use Rattle.walk_write.specs.Going.{Serves, IsGoing, StepsOn, FailsAt, BlamesAt, BlamesGoing, fault_of}
use Rattle.walk_write.specs.Walking.{site_at, IsHere, HasAsked, IsReadyToWrite, LearnsOf, BlamesStep}

-- ---- what is known

pub both_known : (format : Format) (slots : List Slot) (xs ys : List Fact) → writer_knows_all format slots xs ≡ true → writer_knows_all format slots ys ≡ true → writer_knows_all format slots (xs ++ ys) ≡ true
both_known format slots [] ys e h = h
both_known format slots (x ∷ xs) ys e h =
    let b = and_true (writer_knows format slots x) (writer_knows_all format slots xs) e in
    both_true (writer_knows format slots x) (writer_knows_all format slots (xs ++ ys)) b.0 (both_known format slots xs ys b.1 h)

pub has_more : (xs ys : List Fact) (x : Fact) → has ys x ≡ true → has (xs ++ ys) x ≡ true
has_more [] ys x e = e
has_more (y ∷ xs) ys x e = or (same_fact y x) (has (xs ++ ys) x) (has_more xs ys x e)
  where
    or : (a b : Bool) → b ≡ true → (a || b) ≡ true
    or true b e = refl
    or false b e = e

-- what an enabled step needs is known
pub needs_of : (format : Format) (slots : List Slot) (known : List Fact) (o : Option Rule) → enabled known o ≡ true → writer_knows_all format slots known ≡ true → IsSomeAnd o (λ r. writer_knows_all format slots r.needs ≡ true)
needs_of format slots known None e h = absurd (cc)
needs_of format slots known (Some r) e h = needs_known format slots known r e h

-- what a step gave is known with what was known
pub known_with : (format : Format) (slots : List Slot) (known : List Fact) (o : Option Rule) → IsSomeAnd o (λ r. writer_knows_all format slots r.gives ≡ true) → writer_knows_all format slots known ≡ true →
    writer_knows_all format slots (learnt o ++ known) ≡ true
known_with format slots known None e h = h
known_with format slots known (Some r) e h = both_known format slots r.gives known e h

-- ---- the numbers

next_span : (radix digit span : ℕ) → digit < radix → digit * span + span ≤ radix * span
next_span radix digit span below =
    let all : (digit + 1) * span ≤ radix * span = mul-le-mul_right span (omega (arith, below)) in
    let one : (digit + 1) * span ≡ digit * span + span = omega arith in
    subst (λ z. z ≤ radix * span) one all

-- those that share one digit more are candidates too
pub room_next : (radix c n digit : ℕ) (old next : Digits) → IsNext radix old digit next → c + old.span ≤ n + old.rest → c + next.span ≤ n + next.rest
room_next radix c n digit old next is room =
    let all = next_span radix digit next.span is.digit_below in
    let s = is.span_is in
    let r = is.rest_is in
    omega (arith, all, s, r, room)

-- ---- a walk in a level frame

module _ (a : Accepting) (level_frame : LevelFrame) (source : List Bool) (asked : List AskedValue) (serves : Serves a level_frame) where
  abbrev pub Open : Reached → ℕ → List Step → Filling → Type 0
  Open l base steps f = IsOpen level_frame.frame.profile.now.methods a.certificate.methods a.counts (bits_at level_frame.frame.context.now) (site_at level_frame l source asked) l.format base steps f

  abbrev Writes : Reached → List Step → ℕ → Digits → List Slot → Type 0
  Writes l steps c digits slots = IsWriting level_frame.frame.profile.now.methods a.certificate.methods a.counts (bits_at level_frame.frame.context.now) (site_at level_frame l source asked) level_frame.format l.format steps c digits slots

  abbrev Reads : Reached → List Step → ℕ → Digits → Type 0
  Reads l steps c digits = IsReading level_frame.frame.profile.now.methods a.certificate.methods a.counts level_frame.frame.method level_frame.format l.format steps c digits

  -- what is open is here
  pub here : (l : Reached) (steps : List Step) (c : ℕ) (digits : Digits) (w : Writes l steps c digits l.slots) (f : Filling) → Open l w.reading.base steps f → IsHere level_frame l source asked f
  here l steps c digits w f h = record {
    begins = h.begins;
    shows = begins_ahead level_frame.frame.profile.now.methods level_frame.frame.profile.now.sizes level_frame.frame.profile.now.top a.certificate.methods a.counts serves.checked (bits_at level_frame.frame.context.now) (site_at level_frame l source asked) level_frame.format l.format
        steps c digits l.slots w f h;
  }

  -- where none is open, all that share the digits fail
  pub fails : (l : Reached) (steps : List Step) (c : ℕ) (digits : Digits) (reading : Reads l steps c digits) → ((n : ℕ) → slice_get a.counts level_frame.frame.method ≡ Some n → c + digits.span ≤ n + digits.rest) →
      ((f : Filling) → Open l reading.base steps f → ⊥) → (alike : ℕ) → alike + digits.rest ≡ digits.span → ShareDigits digits alike → FailsAt a level_frame (site_at level_frame l source asked) c alike
  fails l steps c digits reading room none alike count share = record {
    some = let below = reading.below in omega (arith, below, count);
    within = λ n at. let all = room n at in omega (arith, all, count);
    none = writing_fails level_frame.frame.profile.now.methods level_frame.frame.profile.now.sizes level_frame.frame.profile.now.top a.certificate.methods a.counts serves.checked (bits_at level_frame.frame.context.now) (site_at level_frame l source asked) level_frame.format l.format
        steps c digits reading none alike share;
  }

  -- the fault of a step that finds none
  pub step_fails : (e : StepFault) (Theirs : Filling → Type 0) → BlamesStep e Theirs → (l : Reached) (steps : List Step) (c : ℕ) (digits : Digits) (reading : Reads l steps c digits) →
      ((n : ℕ) → slice_get a.counts level_frame.frame.method ≡ Some n → c + digits.span ≤ n + digits.rest) → ((f : Filling) → Open l reading.base steps f → Theirs f) →
      (alike : ℕ) → alike + digits.rest ≡ digits.span → ShareDigits digits alike → BlamesAt (fault_of e alike) a level_frame (site_at level_frame l source asked) c
  step_fails fault.Short Theirs blame l steps c digits reading room theirs alike count share = absurd (blame)
  step_fails fault.Refused Theirs blame l steps c digits reading room theirs alike count share = fails l steps c digits reading room (λ f h. blame f (theirs f h)) alike count share
  step_fails fault.OutOfMemory Theirs blame l steps c digits reading room theirs alike count share = tt

  -- a level whose slots alone are others
  pub renewed : (old new : Reached) → new.format ≡ old.format → new.sizes ≡ old.sizes → new.args ≡ old.args → (P : Reached → Type 0) → P (record { format = old.format; sizes = old.sizes; args = old.args; slots = new.slots }) → P new
  renewed old new format sizes args P h =
      let same : new ≡ record { format = old.format; sizes = old.sizes; args = old.args; slots = new.slots } = λ i. record { format = format i; sizes = sizes i; args = args i; slots = new.slots } in
      subst P (sym same) h

  -- after a step whose writing goes on
  pub went : (one : Step) (later : List Step) (c : ℕ) (digits next : Digits) (old : Reached) (slots : List Slot) (g : IsGoing a level_frame source asked (one ∷ later) c digits old) → Writes old later c next slots → Grows old.slots slots →
      IsSomeAnd (write_rule Two level_frame.frame.profile.now.sizes old.sizes old.format one) (λ r. writer_knows_all old.format slots r.gives ≡ true) →
      ((i : ℕ) → is_there (slot_inner (slice_get slots i)) ≡ true → has (learnt (write_rule Two level_frame.frame.profile.now.sizes old.sizes old.format one) ++ g.known) (Done i) ≡ true) →
      ((n : ℕ) → slice_get a.counts level_frame.frame.method ≡ Some n → c + next.span ≤ n + next.rest) →
      IsGoing a level_frame source asked later c next (record { format = old.format; sizes = old.sizes; args = old.args; slots = slots })
  went one later c digits next old slots g writing grown gives filled room =
      let rules = rule_of Two Write level_frame.frame.profile.now.sizes old.sizes old.format in
      let b = and_true (enabled g.known (rules one)) (all_enabled rules (learnt (rules one) ++ g.known) later) g.enabled in
      record {
        at = record { format_is = g.at.format_is; sizes_are = g.at.sizes_are };
        lie = g.lie;
        writing = writing;
        known = learnt (rules one) ++ g.known;
        knows = known_with old.format slots g.known (rules one) gives (grown_known old.format old.slots slots g.known grown g.knows);
        enabled = b.1;
        complete = g.complete;
        filled = filled;
        room = room;
      }

  -- what was inside is inside
  pub same_filled : (xs ys : List Fact) (old new : List Slot) → HaveSameInners old new → ((i : ℕ) → is_there (slot_inner (slice_get old i)) ≡ true → has ys (Done i) ≡ true) →
      (i : ℕ) → is_there (slot_inner (slice_get new i)) ≡ true → has (xs ++ ys) (Done i) ≡ true
  same_filled xs ys old new same was i there = has_more xs ys (Done i) (was i (ap is_there (sym (same i)) ∙ there))

  -- how many slots there are
  pub counted : (old new : Reached) (count : length old.slots ≡ length old.format.fields) → IsKept new → new.format ≡ old.format → length new.slots ≡ length old.slots
  counted old new count kept format = kept.count ∙ (ap (λ (z : Format). length z.fields) format ∙ sym count)

  -- ---- steps that have no digit

  pub is_ready : (one : Step) (later : List Step) (c : ℕ) (digits : Digits) (l : Reached) → IsGoing a level_frame source asked (one ∷ later) c digits l → IsReadyToWrite l (write_rule Two level_frame.frame.profile.now.sizes l.sizes l.format one)
  is_ready one later c digits l g =
      let rules = rule_of Two Write level_frame.frame.profile.now.sizes l.sizes l.format in
      needs_of l.format l.slots g.known (rules one) (and_true (enabled g.known (rules one)) (all_enabled rules (learnt (rules one) ++ g.known) later) g.enabled).0 g.knows

  pub plain_goes : (one : Step) → is_plain one ≡ true → (digits : Digits) (old new : Reached) → LearnsOf (IsHere level_frame old source asked) (write_rule Two level_frame.frame.profile.now.sizes old.sizes old.format one) old new → IsKept new → StepsOn a level_frame source asked one digits old digits new
  plain_goes one plain digits old new learns kept later c g =
      let has = λ (f : Filling) (h : Open old g.writing.reading.base (one ∷ later) f). learns.agrees f (here old (one ∷ later) c digits g.writing f h) (g.writing.have f h) in
      let writing = writing_passes level_frame.frame.profile.now.methods level_frame.frame.profile.now.sizes level_frame.frame.profile.now.top a.certificate.methods a.counts serves.checked (bits_at level_frame.frame.context.now) (site_at level_frame old source asked) level_frame.format old.format
      one later c digits old.slots new.slots g.writing plain (counted old new g.writing.count kept learns.format_is) learns.grown has in
      renewed old new learns.format_is learns.sizes_are learns.args_are (IsGoing a level_frame source asked later c digits)
      (went one later c digits digits old new.slots g writing learns.grown learns.gives
      (same_filled (learnt (write_rule Two level_frame.frame.profile.now.sizes old.sizes old.format one)) g.known old.slots new.slots learns.inners g.filled) g.room)

  pub plain_fails : (e : StepFault) (one : Step) (digits : Digits) (l : Reached) → BlamesStep e (IsHere level_frame l source asked) → (alike : ℕ) → alike + digits.rest ≡ digits.span → ShareDigits digits alike →
      (w : WriteFault) → w ≡ fault_of e alike → BlamesGoing w a level_frame source asked one digits l
  plain_fails e one digits l blame alike count share w is later c g =
      subst (λ z. BlamesAt z a level_frame (site_at level_frame l source asked) c) (sym is)
      (step_fails e (IsHere level_frame l source asked) blame l (one ∷ later) c digits g.writing.reading g.room (λ f h. here l (one ∷ later) c digits g.writing f h) alike count share)

-- what a library step learns, of those that are here
common_learns : (level_frame : LevelFrame) (source : List Bool) (asked : List AskedValue) (old new : Reached) (o : Option Rule) → ((r : Rule) → o ≡ Some r → writer_knows_all old.format new.slots r.gives ≡ knows_all old.format new.slots r.gives) →
    Learns level_frame o old new → LearnsOf (IsHere level_frame old source asked) o old new
common_learns level_frame source asked old new o alike learns = record {
  format_is = learns.format_is;
  sizes_are = learns.sizes_are;
  args_are = learns.args_are;
  grown = learns.grown;
  inners = learns.inners;
  gives = gives o alike learns.gives;
  agrees = λ f h has. learns.agrees [] f h.shows;
}
  where
    gives : (o : Option Rule) → ((r : Rule) → o ≡ Some r → writer_knows_all old.format new.slots r.gives ≡ knows_all old.format new.slots r.gives) → IsSomeAnd o (λ r. knows_all old.format new.slots r.gives ≡ true) →
        IsSomeAnd o (λ r. writer_knows_all old.format new.slots r.gives ≡ true)
    gives None alike e = e
    gives (Some r) alike e = alike r refl ∙ e

common_blames : (e : StepFault) (level_frame : LevelFrame) (source : List Bool) (asked : List AskedValue) (l : Reached) → finding.Blames e level_frame l → BlamesStep e (IsHere level_frame l source asked)
common_blames fault.Short level_frame source asked l blame = blame
common_blames fault.Refused level_frame source asked l blame = λ f h. blame [] f h.shows
common_blames fault.OutOfMemory level_frame source asked l blame = tt

-- a rule that is ready to be written is ready
common_ready : (l : Reached) (o : Option Rule) → ((r : Rule) → o ≡ Some r → writer_knows_all l.format l.slots r.needs ≡ knows_all l.format l.slots r.needs) → IsReadyToWrite l o → finding.IsReady l o
common_ready l None alike e = e
common_ready l (Some r) alike e = sym (alike r refl) ∙ e

-- a step that has no digit and neither takes nor asks has the rule of both directions
pub data IsCommon : Step → Type 0 where
  common : {one : Step} → ((table : List MethodSizes) (sizes : FormatSizes) (format : Format) → write_rule Two table sizes format one ≡ common_rule Two sizes format one) → IsCommon one

pub is_common : (one : Step) → is_plain one ≡ true → ((i : ℕ) → one ≡ Take i → ⊥) → ((i : ℕ) → one ≡ Ask i → ⊥) → IsCommon one
is_common (Take i) plain not_take not_ask = absurd (not_take i refl)
is_common (Ask i) plain not_take not_ask = absurd (not_ask i refl)
is_common (Call i) plain not_take not_ask = absurd (cc)
is_common (Choose i) plain not_take not_ask = absurd (cc)
is_common (LibraryUp i) plain not_take not_ask = common (λ table sizes format. refl)
is_common (LibraryDown i) plain not_take not_ask = common (λ table sizes format. refl)
is_common (MethodLength i side) plain not_take not_ask = common (λ table sizes format. refl)
is_common (ConstraintLength i side k) plain not_take not_ask = common (λ table sizes format. refl)
is_common (Solve i k) plain not_take not_ask = common (λ table sizes format. refl)

pub ready_common : (sizes : List MethodSizes) (l : Reached) (one : Step) → IsCommon one → IsReadyToWrite l (write_rule Two sizes l.sizes l.format one) → finding.IsReady l (common_rule Two l.sizes l.format one)
ready_common sizes l one (common same) ready = common_ready l (common_rule Two l.sizes l.format one) (λ r e. (common_known l.sizes l.format one r e l.slots).0) (subst (IsReadyToWrite l) (same sizes l.sizes l.format) ready)

pub learns_common : (level_frame : LevelFrame) (source : List Bool) (asked : List AskedValue) (old new : Reached) (one : Step) → IsCommon one → Learns level_frame (common_rule Two old.sizes old.format one) old new →
    LearnsOf (IsHere level_frame old source asked) (write_rule Two level_frame.frame.profile.now.sizes old.sizes old.format one) old new
learns_common level_frame source asked old new one (common same) learns =
    subst (λ o. LearnsOf (IsHere level_frame old source asked) o old new) (sym (same level_frame.frame.profile.now.sizes old.sizes old.format))
    (common_learns level_frame source asked old new (common_rule Two old.sizes old.format one) (λ r e. (common_known old.sizes old.format one r e new.slots).1) learns)

pub blames_common : (e : StepFault) (level_frame : LevelFrame) (source : List Bool) (asked : List AskedValue) (l : Reached) → finding.Blames e level_frame l → BlamesStep e (IsHere level_frame l source asked)
blames_common e level_frame source asked l blame = common_blames e level_frame source asked l blame

-- what an asked field learns
pub asked_learns : (level_frame : LevelFrame) (source : List Bool) (asked : List AskedValue) (o : Option Rule) (old new : Reached) → LearnsOf (HasAsked level_frame old asked) o old new → LearnsOf (IsHere level_frame old source asked) o old new
asked_learns level_frame source asked o old new learns = record {
  format_is = learns.format_is;
  sizes_are = learns.sizes_are;
  args_are = learns.args_are;
  grown = learns.grown;
  inners = learns.inners;
  gives = learns.gives;
  agrees = λ f h has. learns.agrees f (record { source = source; here = h }) has;
}

pub asked_blames : (e : StepFault) (level_frame : LevelFrame) (source : List Bool) (asked : List AskedValue) (l : Reached) → BlamesStep e (HasAsked level_frame l asked) → BlamesStep e (IsHere level_frame l source asked)
asked_blames fault.Short level_frame source asked l blame = blame
asked_blames fault.Refused level_frame source asked l blame = λ f h. blame f (record { source = source; here = h })
asked_blames fault.OutOfMemory level_frame source asked l blame = tt

-- ---- results

pub on_ok : {A E : Type 0} (P Q : Type 0) (r : Result A E) → (P → Q) → OnOk r P → OnOk r Q
on_ok P Q (Ok x) f h = f h
on_ok P Q (Err e) f h = h

pub if_err : {A E : Type 0} (P Q : E → Type 0) (r : Result A E) → ((e : E) → P e → Q e) → IfErr r P → IfErr r Q
if_err P Q (Ok x) f h = h
if_err P Q (Err e) f h = f e h
