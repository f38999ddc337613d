-- How a walk goes on and fails at a choice.
use Rattle.std.proofs.Common.{◌≡◌, sym, ◌∙◌, subst, ℕ, ◌+◌, ◌*◌, ◌^◌, ◌%◌, ◌≤◌, Bool, true, List, ◌∷◌, ◌++◌, arith}
use Rattle.std.specs.Prelude.{Option, Some, None, ℤ, pos, negsuc, nat_le, slice_get, option_and_then, option_map}
use Rattle.std.proofs.lemmas.Bool.{leb-true}
use Rattle.std.proofs.Math.Nat.{mod-eq_of_lt, pow-le-pow_right}
use Rattle.sem_context.specs.Entries.{bits_at}
use Rattle.sem_profile.specs.declared.profile.Format.{Format}
use Rattle.sem_filling.specs.declared.filling.AskedValue.{AskedValue}
use Rattle.sem_filling.specs.declared.filling.Filling.{Filling}
use Rattle.sem_filling.proofs.FitsSized.{and_then_some}
use Rattle.cert_types.specs.Kept.{choice_limit}
use Rattle.cert_types.specs.declared.certificate.Direction.TheVariants.{Write}
use Rattle.cert_types.specs.declared.certificate.Step.{Step}
use Rattle.cert_types.specs.declared.certificate.Step.TheVariants.{Choose}
use Rattle.cert_types.specs.declared.rule.Fact.{Fact}
use Rattle.cert_types.specs.declared.rule.Rule.{Rule}
use Rattle.cert_types.specs.declared.certificate.Version.TheVariants.{Two}
use Rattle.cert_rules.specs.Plans.{rule_of, enabled, learnt, all_enabled}
use Rattle.cert_rules.specs.Rules.{write_rule, choice, choosable, chosen_size}
use Rattle.cert_rules.proofs.ViewsAgree.{and_true, when_some}
use Rattle.cert_candidates.specs.declared.digits.Digits.{Digits}
use Rattle.cert_candidates.specs.Reading.{Divides, IsNext, ReadsOn, CarriesOn, ShareDigits}
use Rattle.cert_candidates.proofs.CodesKept.{reading_parts, ways_of_choice}
use Rattle.cert_accepted.specs.Accepted.{Accepting}
use Rattle.walk_steps.specs.Partial.{Reached, IsKept}
use Rattle.walk_steps.specs.declared.fault.StepFault.{StepFault}
use Rattle.walk_steps.specs.declared.level_frame.LevelFrame.{LevelFrame}
use Rattle.cert_candidates.proofs.WritingLawsGoing.{writing_chooses, choose_law}
use Rattle.walk_write.specs.declared.fault.WriteFault.{WriteFault}
use Rattle.walk_write.specs.Going.{Serves, IsGoing, StepsOn, BlamesAt, BlamesGoing, fault_of}
use Rattle.walk_write.specs.Walking.{site_at, HasChosen, KnowsChosen, LearnsOf, BlamesStep}
use Rattle.walk_write.proofs.WalkingPassing.{Open, here, step_fails, renewed, went, same_filled, counted, room_next}

-- ---- how many bits are chosen

choosable_few : (o : Option ℤ) (n : ℕ) → choosable o ≡ Some n → n ≤ choice_limit
choosable_few None n e = absurd (cc)
choosable_few (Some (pos m)) n e = let w = when_some (nat_le m choice_limit) m n e in subst (λ z. z ≤ choice_limit) w.1 (leb-true m choice_limit w.0)
choosable_few (Some (negsuc m)) n e = absurd (cc)

pub choice_few : (format : Format) (i n : ℕ) → option_and_then (choice format i) (slice_get format.fields i) ≡ Some n → n ≤ choice_limit
choice_few format i n e =
    let d = and_then_some (choice format i) (slice_get format.fields i) n e in
    let c = and_then_some _ (choosable (chosen_size i format.constraints d.0.encoding)) n d.2 in
    let w = when_some _ c.0 n c.2 in
    subst (λ z. z ≤ choice_limit) w.1 (choosable_few (chosen_size i format.constraints d.0.encoding) c.0 c.1)

pub chosen_at : (x format : Format) → x ≡ format → (i n : ℕ) → option_and_then (choice x i) (slice_get x.fields i) ≡ Some n → option_and_then (choice format i) (slice_get format.fields i) ≡ Some n
chosen_at x format same i n e = subst (λ (z : Format). option_and_then (choice z i) (slice_get z.fields i) ≡ Some n) same e

-- so many values are within 64 bits
pow_few : (n : ℕ) → n ≤ choice_limit → 1 * 2 ^ n % 2 ^ 64 ≡ 2 ^ n
pow_few n few =
    let up : 2 ^ n ≤ 2 ^ choice_limit = pow-le-pow_right (omega arith) few in
    mod-eq_of_lt (omega (arith, up)) ∙ omega arith

pub width_of : (format : Format) (i n : ℕ) → option_and_then (choice format i) (slice_get format.fields i) ≡ Some n → 1 * 2 ^ n % 2 ^ 64 ≡ 2 ^ n
width_of format i n e = pow_few n (choice_few format i n e)

-- a step that is enabled has a rule
ruled : (known : List Fact) (f : ℕ → Rule) (o : Option ℕ) → enabled known (option_map f o) ≡ true → o ≡ None → ⊥
ruled known f None e none = absurd (cc)
ruled known f (Some n) e none = absurd (cc)

module _ (a : Accepting) (level_frame : LevelFrame) (source : List Bool) (asked : List AskedValue) (serves : Serves a level_frame) where
  -- a choice that is followed has a width
  pub has_choice : (i : ℕ) (later : List Step) (c : ℕ) (digits : Digits) (l : Reached) → IsGoing a level_frame source asked (Choose i ∷ later) c digits l →
      option_and_then (choice l.format i) (slice_get l.format.fields i) ≡ None → ⊥
  has_choice i later c digits l g none =
      let rules = rule_of Two Write level_frame.frame.profile.now.sizes l.sizes l.format in
      ruled g.known _ (option_and_then (choice l.format i) (slice_get l.format.fields i)) (and_true (enabled g.known (rules (Choose i))) (all_enabled rules (learnt (rules (Choose i)) ++ g.known) later) g.enabled).0 none

  -- its ways part the span
  pub choice_divides : (i : ℕ) (later : List Step) (c : ℕ) (digits : Digits) (l : Reached) (g : IsGoing a level_frame source asked (Choose i ∷ later) c digits l) (n : ℕ) →
      option_and_then (choice l.format i) (slice_get l.format.fields i) ≡ Some n → Divides (2 ^ n) digits.span
  choice_divides i later c digits l g n is =
      reading_parts level_frame.frame.profile.now.methods a.certificate.methods a.counts level_frame.frame.method level_frame.format l.format (Choose i) later c digits g.writing.reading (2 ^ n) (sym (ways_of_choice a.counts l.format i n is))

  module _ (i n digit : ℕ) (digits next : Digits) (old : Reached) (is : option_and_then (choice old.format i) (slice_get old.format.fields i) ≡ Some n) (split : IsNext (2 ^ n) digits digit next) (carries : CarriesOn (2 ^ n) digits digit next) where
    read : (later : List Step) (c : ℕ) (g : IsGoing a level_frame source asked (Choose i ∷ later) c digits old) → ReadsOn level_frame.frame.profile.now.methods a.certificate.methods a.counts level_frame.frame.method level_frame.format old.format (Choose i) later c digits g.writing.reading digit next
    read later c g = carries level_frame.frame.profile.now.methods a.certificate.methods a.counts serves.checked.are_counts level_frame.frame.method level_frame.format old.format (Choose i) later c (sym (ways_of_choice a.counts old.format i n is)) g.writing.reading

    -- what is open with the digit has it chosen
    theirs : (later : List Step) (c : ℕ) (g : IsGoing a level_frame source asked (Choose i ∷ later) c digits old) (f : Filling) → Open a level_frame source asked serves old (read later c g).after.base later f → HasChosen level_frame old i n digit f
    theirs later c g f h =
        let reads = read later c g in
        let was : Open a level_frame source asked serves old g.writing.reading.base (Choose i ∷ later) f = record { begins = h.begins; within = reads.inside f h.within } in
        record {
          source = source;
          asked = asked;
          here = here a level_frame source asked serves old (Choose i ∷ later) c digits g.writing f was;
          chosen = choose_law level_frame.frame.profile.now.methods level_frame.frame.profile.now.sizes level_frame.frame.profile.now.top a.certificate.methods a.counts serves.checked (bits_at level_frame.frame.context.now) (site_at level_frame old source asked) level_frame.format
              old.format i later c digits old.slots g.writing digit next reads n is f h;
        }

    pub choice_goes : (new : Reached) → LearnsOf (HasChosen level_frame old i n digit) (write_rule Two level_frame.frame.profile.now.sizes old.sizes old.format (Choose i)) old new → KnowsChosen new.slots i digit → IsKept new →
        StepsOn a level_frame source asked (Choose i) digits old next new
    choice_goes new learns known kept later c g =
        let reads = read later c g in
        let has = λ (f : Filling) (h : Open a level_frame source asked serves old reads.after.base later f).
        let t = theirs later c g f h in learns.agrees f t (t.here.shows.has) in
        let writing = writing_chooses level_frame.frame.profile.now.methods level_frame.frame.profile.now.sizes level_frame.frame.profile.now.top a.certificate.methods a.counts serves.checked (bits_at level_frame.frame.context.now) (site_at level_frame old source asked) level_frame.format
        old.format i later c digits next old.slots new.slots g.writing digit reads (counted a level_frame source asked serves old new g.writing.count kept learns.format_is) learns.grown known.bits known.known known.number_is has in
        renewed a level_frame source asked serves old new learns.format_is learns.sizes_are learns.args_are (IsGoing a level_frame source asked later c next)
        (went a level_frame source asked serves (Choose i) later c digits next old new.slots g writing learns.grown learns.gives
        (same_filled a level_frame source asked serves (learnt (write_rule Two level_frame.frame.profile.now.sizes old.sizes old.format (Choose i))) g.known old.slots new.slots learns.inners g.filled)
        (λ k at. room_next (2 ^ n) c k digit digits next split (g.room k at)))

    pub choice_fails : (e : StepFault) → BlamesStep e (HasChosen level_frame old i n digit) → (alike : ℕ) → alike + next.rest ≡ next.span → ShareDigits next alike → (w : WriteFault) → w ≡ fault_of e alike →
        BlamesGoing w a level_frame source asked (Choose i) digits old
    choice_fails e blame alike count share w is_fault later c g =
        subst (λ z. BlamesAt z a level_frame (site_at level_frame old source asked) c) (sym is_fault)
        (step_fails a level_frame source asked serves e (HasChosen level_frame old i n digit) blame old later c next (read later c g).after (λ k at. room_next (2 ^ n) c k digit digits next split (g.room k at))
        (theirs later c g) alike count share)
