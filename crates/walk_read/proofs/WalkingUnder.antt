-- A level on its way through a plan: from its start, over each step, to its end.
use Rattle.std.proofs.Common.{◌≡◌, refl, sym, ◌∙◌, ap, subst, ℕ, zero, suc, ◌+◌, ◌<◌, Bool, true, false, List, [], ◌∷◌, ◌++◌, length, drop, get_or, arith, inl, inr}
use Rattle.std.specs.Prelude.{◌⊎◌, ◌&&◌, ◌||◌, not, Option, Some, None, IsSomeAnd, slice_get}
use Rattle.std.proofs.lemmas.Option.{same_Some}
use Rattle.sem_profile.proofs.FieldsRuling.{there}
use Rattle.cert_types.specs.declared.certificate.Direction.TheVariants.{Read}
use Rattle.cert_types.specs.declared.certificate.Step.{Step}
use Rattle.cert_types.specs.declared.certificate.Step.TheVariants.{Take, Call, LibraryUp, LibraryDown, MethodLength, ConstraintLength, Solve, Choose, Ask}
use Rattle.cert_types.specs.declared.rule.Fact.{Fact}
use Rattle.cert_types.specs.declared.rule.Fact.TheVariants.{Done}
use Rattle.cert_types.specs.declared.rule.Rule.{Rule}
use Rattle.sem_context.specs.Entries.{bits_at}
use Rattle.sem_filling.specs.declared.filling.Filling.{Filling, out-Filling}
use Rattle.sem_filling.specs.Bounded.{sizes_at}
use Rattle.sem_filling.specs.Fits.{Fits, format_at}
use Rattle.sem_filling.proofs.FitsSized.{and_then_some}
use Rattle.sem_profile.specs.declared.profile.Encoding.{Encoding}
use Rattle.sem_profile.specs.declared.profile.Encoding.TheVariants as encoding
use Rattle.sem_profile.specs.declared.profile.Field.{Field}
use Rattle.sem_profile.specs.declared.profile.Format.{Format}
use Rattle.cert_rules.specs.declared.slots.Slot.{Slot}
use Rattle.cert_rules.specs.Facts.{same_fact, has, has_all, has_none}
use Rattle.cert_rules.specs.Plans.{enabled, learnt, all_enabled, known_at_start, wanted, IsPlan}
use Rattle.cert_rules.specs.Reading.{Spot, IsAhead, NoneAhead, OneFormat, IsMade, start_slots}
use Rattle.cert_types.specs.declared.certificate.Version.TheVariants.{Two}
use Rattle.cert_rules.specs.Rules.{read_rule, read_call}
use Rattle.cert_rules.specs.Slots.{has_bits, learnt_at, slot_inner, HasSlots, knows, knows_all}
use Rattle.cert_rules.proofs.ViewsAgree.{and_true, not_true}
use Rattle.cert_rules.proofs.SlotsGrowing.{grown_know, knows_all_had, start_knows}
use Rattle.cert_rules.proofs.ViewsLearning.{only_made, start_has}
use Rattle.cert_rules.proofs.Plans.{all_learnt}
use Rattle.walk_steps.specs.Partial.{Reached, Lacks}
use Rattle.walk_steps.specs.declared.level_frame.LevelFrame.{LevelFrame}
use Rattle.walk_steps.specs.Finding.{IsAt, IsReady, Shows}
use Rattle.walk_steps.specs.Finding as finding
use Rattle.cert_accepted.specs.declared.frame.AcceptedFrame.{AcceptedFrame}
use Rattle.cert_accepted.specs.Standing.{IsLevelFrameOf, IsAtStart}
use Rattle.walk_read.specs.declared.fault.ReadFault.{ReadFault}
use Rattle.walk_read.specs.declared.fault.ReadFault.TheVariants.{Short, Refused, OutOfMemory}
use Rattle.walk_read.specs.Walk.{spot_of, IsOnlyAhead, Blames, LearnsAhead}
use Rattle.walk_read.specs.Walking.{way_from, IsPlanOf, IsUnderWay, BlamesFormat, IsUnfit, BlamesEnd, IsFresh, BlamesShown}

-- ---- a level frame of a place

module _ (place : AcceptedFrame) (level_frame : LevelFrame) (s : IsLevelFrameOf place level_frame.format level_frame) (spot : Spot) (f : Filling) where
  pub ahead_here : IsAhead place.accepted.now.profile.methods (bits_at place.frame.context.now) spot f → IsAhead level_frame.frame.profile.now.methods (bits_at level_frame.frame.context.now) spot f
  ahead_here h =
      subst (λ p. IsAhead p.methods (bits_at level_frame.frame.context.now) spot f) (sym s.profile_is) (subst (λ c. IsAhead place.accepted.now.profile.methods (bits_at c) spot f) (sym s.context_is) h)

  pub ahead_there : IsAhead level_frame.frame.profile.now.methods (bits_at level_frame.frame.context.now) spot f → IsAhead place.accepted.now.profile.methods (bits_at place.frame.context.now) spot f
  ahead_there h = subst (λ p. IsAhead p.methods (bits_at place.frame.context.now) spot f) s.profile_is (subst (λ c. IsAhead level_frame.frame.profile.now.methods (bits_at c) spot f) s.context_is h)

-- ---- lists of facts

both_true : (a b : Bool) → a ≡ true → b ≡ true → (a && b) ≡ true
both_true a b e h = λ i. (e ∙ refl) i && h i

or_right : (a b : Bool) → b ≡ true → (a || b) ≡ true
or_right true b e = refl
or_right false b e = e

or_kept : (a b c : Bool) → (b ≡ true → c ≡ true) → (a || b) ≡ true → (a || c) ≡ true
or_kept true b c h e = refl
or_kept false b c h e = h e

knows_joined : (format : Format) (slots : List Slot) (xs ys : List Fact) → knows_all format slots xs ≡ true → knows_all format slots ys ≡ true → knows_all format slots (xs ++ ys) ≡ true
knows_joined format slots [] ys e h = h
knows_joined format slots (x ∷ xs) ys e h =
    let b = and_true (knows format slots x) (knows_all format slots xs) e in
    both_true (knows format slots x) (knows_all format slots (xs ++ ys)) b.0 (knows_joined format slots xs ys b.1 h)

has_later : (xs ys : List Fact) (x : Fact) → has ys x ≡ true → has (xs ++ ys) x ≡ true
has_later [] ys x e = e
has_later (y ∷ xs) ys x e = or_right (same_fact y x) (has (xs ++ ys) x) (has_later xs ys x e)

has_first : (xs ys : List Fact) (x : Fact) → has xs x ≡ true → has (xs ++ ys) x ≡ true
has_first [] ys x e = absurd (cc)
has_first (y ∷ xs) ys x e = or_kept (same_fact y x) (has xs x) (has (xs ++ ys) x) (has_first xs ys x) e

enabled_parts : (known : List Fact) (o : Option Rule) → enabled known o ≡ true → (r : Rule) × (o ≡ Some r) × (has_all known r.needs ≡ true) × (has_none known r.absent ≡ true)
enabled_parts known None e = absurd (cc)
enabled_parts known (Some r) e = let b = and_true (has_all known r.needs) (has_none known r.absent) e in (r, refl, b.0, b.1)

gives_known : (format : Format) (slots : List Slot) (known : List Fact) (o : Option Rule) → IsSomeAnd o (λ r. knows_all format slots r.gives ≡ true) → knows_all format slots known ≡ true →
    knows_all format slots (learnt o ++ known) ≡ true
gives_known format slots known None g h = absurd g
gives_known format slots known (Some r) g h = knows_joined format slots r.gives known g h

gives_done : (known : List Fact) (o : Option Rule) (i : ℕ) → IsSomeAnd o (λ r. has_all r.gives (Done i ∷ []) ≡ true) → has (learnt o ++ known) (Done i) ≡ true
gives_done known None i g = absurd g
gives_done known (Some r) i g = has_first r.gives known (Done i) (and_true (has r.gives (Done i)) true g).0

-- ---- the start

start_inner : (listing : List ℕ) (n : ℕ) (ds : List Field) (i : ℕ) → slot_inner (slice_get (start_slots listing n ds) i) ≡ None
start_inner listing n [] i = refl
start_inner listing n (d ∷ ds) zero = refl
start_inner listing n (d ∷ ds) (suc i) = start_inner listing (suc n) ds i

pub started : (place : AcceptedFrame) (n : ℕ) (bits : List Bool) (steps : List Step) (l : Reached) → IsAtStart place n l → IsPlanOf place n steps → IsUnderWay place n bits steps l
started place n bits steps l a plan = record {
  format_is = a.format_is;
  sizes_are = a.sizes_are;
  args_are = a.args_are;
  known = known_at_start l.format;
  knows = subst (λ xs. knows_all l.format xs (known_at_start l.format) ≡ true) (sym a.slots_are) (start_knows l.format);
  plan = plan l.format l.sizes a.format_is a.sizes_are;
  once = λ i. inl (subst (λ xs. slot_inner (slice_get xs i) ≡ None) (sym a.slots_are) (start_inner l.format.listing 0 l.format.fields i));
  shown = λ f h is. subst (HasSlots f) (sym a.slots_are) (start_has place.accepted.now.profile.methods (bits_at place.frame.context.now) (spot_of place bits) n l.format f h is a.format_is);
}

-- ---- a step

no_filling : {A : Type 0} (o : Option A) (known : List Fact) (i : ℕ) → (o ≡ None) ⊎ (has known (Done i) ≡ true) → has known (Done i) ≡ false → o ≡ None
no_filling o known i (inl none) e = none
no_filling o known i (inr is) e = absurd (cc)

absent_of : (format : Format) (i : ℕ) (e : Encoding) (r : Rule) → read_call format i e ≡ Some r → r.absent ≡ Done i ∷ []
absent_of format i (encoding.Call k es) r e = let same = same_Some _ r e in sym (ap (λ (z : Rule). z.absent) same)
absent_of format i encoding.Bare r e = absurd (cc)
absent_of format i (encoding.Library l) r e = absurd (cc)

module _ (place : AcceptedFrame) (level_frame : LevelFrame) (s : IsLevelFrameOf place level_frame.format level_frame) (bits : List Bool) (steps : List Step) (l : Reached) (way : IsUnderWay place level_frame.format bits steps l)
    (count : length l.slots ≡ length l.format.fields) where
  pub at : IsAt level_frame l
  at = record {
    format_is = subst (λ k. format_at level_frame.frame.profile.now.methods k level_frame.format ≡ Some l.format) (sym s.method_is) (subst (λ p. format_at p.methods place.frame.method level_frame.format ≡ Some l.format) (sym s.profile_is) way.format_is);
    sizes_are = subst (λ k. sizes_at level_frame.frame.profile.now.sizes k level_frame.format ≡ Some l.sizes) (sym s.method_is) (subst (λ p. sizes_at p.sizes place.frame.method level_frame.format ≡ Some l.sizes) (sym s.profile_is) way.sizes_are);
  }

  same_spot : finding.spot_of level_frame l bits ≡ spot_of place bits
  same_spot = λ i. record { method = s.method_is i; args = way.args_are i; path = s.path_is i; bits = bits }

  pub shows : (f : Filling) → IsAhead place.accepted.now.profile.methods (bits_at place.frame.context.now) (spot_of place bits) f → (out-Filling f).format ≡ level_frame.format → Shows level_frame l bits f
  shows f h is = record {
    ahead = subst (λ z. IsAhead level_frame.frame.profile.now.methods (bits_at level_frame.frame.context.now) z f) (sym same_spot) (ahead_here place level_frame s (spot_of place bits) f h);
    format_is = is;
    at = at.format_is;
    count = count;
    has = way.shown f h is;
  }

  pub blames : (e : ReadFault) → BlamesShown e level_frame l bits → BlamesFormat e place level_frame.format bits
  blames (Short _) h = λ f a is. h f (shows f a is)
  blames (Refused _) h = λ f a is. h f (shows f a is)
  blames OutOfMemory h = tt

  module _ (step : Step) (rest : List Step) (next : steps ≡ step ∷ rest) where
    plan_next : IsPlan (way_from l.sizes l.format way.known) (step ∷ rest)
    plan_next = subst (IsPlan (way_from l.sizes l.format way.known)) next way.plan

    on : (enabled way.known (read_rule Two l.sizes l.format step) ≡ true) × (all_enabled (read_rule Two l.sizes l.format) (learnt (read_rule Two l.sizes l.format step) ++ way.known) rest ≡ true)
    on = and_true (enabled way.known (read_rule Two l.sizes l.format step)) (all_enabled (read_rule Two l.sizes l.format) (learnt (read_rule Two l.sizes l.format step) ++ way.known) rest) plan_next.enabled

    pub ready : IsReady l (read_rule Two l.sizes l.format step)
    ready =
        let p = enabled_parts way.known (read_rule Two l.sizes l.format step) on.0 in
        subst (λ o. IsSomeAnd o (λ r. knows_all l.format l.slots r.needs ≡ true)) (sym p.1) (knows_all_had l.format l.slots way.known p.0.needs p.2 way.knows)

    fresh_call : (i : ℕ) → step ≡ Call i → slot_inner (slice_get l.slots i) ≡ None
    fresh_call i is =
        let p = enabled_parts way.known (read_rule Two l.sizes l.format step) on.0 in
        let a = and_then_some (λ d. read_call l.format i d.encoding) (slice_get l.format.fields i) p.0 (ap (read_rule Two l.sizes l.format) (sym is) ∙ p.1) in
        let none : has_none way.known (Done i ∷ []) ≡ true = subst (λ z. has_none way.known z ≡ true) (absent_of l.format i a.0.encoding p.0 a.2) p.3 in
        no_filling (slot_inner (slice_get l.slots i)) way.known i (way.once i) (not_true (has way.known (Done i)) (and_true (not (has way.known (Done i))) true none).0)

    pub fresh : IsFresh step l
    fresh = by step fresh_call
      where
        by : (x : Step) → ((i : ℕ) → x ≡ Call i → slot_inner (slice_get l.slots i) ≡ None) → IsFresh x l
        by (Call i) h = h i refl
        by (Take i) h = tt
        by (LibraryUp i) h = tt
        by (LibraryDown i) h = tt
        by (MethodLength i side) h = tt
        by (ConstraintLength i side n) h = tt
        by (Solve i n) h = tt
        by (Choose i) h = tt
        by (Ask i) h = tt

    pub gone_on : (new : Reached) → LearnsAhead level_frame bits (read_rule Two l.sizes l.format step) l new → IsUnderWay place level_frame.format bits rest new
    gone_on new h = record {
      format_is = way.format_is ∙ ap Some (sym h.format_is);
      sizes_are = way.sizes_are ∙ ap Some (sym h.sizes_are);
      args_are = h.args_are ∙ way.args_are;
      known = learnt (read_rule Two l.sizes l.format step) ++ way.known;
      knows = subst (λ m. knows_all m new.slots (learnt (read_rule Two l.sizes l.format step) ++ way.known) ≡ true) (sym h.format_is)
          (gives_known l.format new.slots way.known (read_rule Two l.sizes l.format step) h.gives (grown_know l.format l.slots new.slots way.known h.grown way.knows));
      plan = subst (λ m. IsPlan (way_from new.sizes m (learnt (read_rule Two l.sizes l.format step) ++ way.known)) rest) (sym h.format_is)
          (subst (λ z. IsPlan (way_from z l.format (learnt (read_rule Two l.sizes l.format step) ++ way.known)) rest) (sym h.sizes_are) record { enabled = on.1; complete = plan_next.complete });
      once = λ i. by i (way.once i) (h.inners i);
      shown = λ f a is. h.agrees f (shows f a is);
    } where
      by : (i : ℕ) → (slot_inner (slice_get l.slots i) ≡ None) ⊎ (has way.known (Done i) ≡ true) →
          (slot_inner (slice_get new.slots i) ≡ slot_inner (slice_get l.slots i)) ⊎ IsSomeAnd (read_rule Two l.sizes l.format step) (λ r. has_all r.gives (Done i ∷ []) ≡ true) →
          (slot_inner (slice_get new.slots i) ≡ None) ⊎ (has (learnt (read_rule Two l.sizes l.format step) ++ way.known) (Done i) ≡ true)
      by i (inl none) (inl same) = inl (same ∙ none)
      by i (inr is) (inl same) = inr (has_later (learnt (read_rule Two l.sizes l.format step)) way.known (Done i) is)
      by i was (inr given) = inr (gives_done way.known (read_rule Two l.sizes l.format step) i given)

-- ---- the end

module _ (place : AcceptedFrame) (n : ℕ) (bits : List Bool) (l : Reached) (way : IsUnderWay place n bits [] l) (count : length l.slots ≡ length l.format.fields)
    (one : OneFormat place.accepted.now.profile.methods (bits_at place.frame.context.now) (spot_of place bits) n) where
  pub only : (g : Filling) → IsMade n l.format l.slots g → IsOnlyAhead place bits g
  only g made f h =
      only_made place.accepted.now.profile.methods (bits_at place.frame.context.now) (spot_of place bits) n l.format l.slots f
      record { ahead = h; format_is = one f h; at = way.format_is; count = count; has = way.shown f h (one f h) } way.known way.plan.complete way.knows g made

  none_lacks : Lacks l.slots → ⊥
  none_lacks lacks =
      let d = there l.format.fields lacks.field (omega (arith, lacks.within, count)) in
      let all = knows_all_had l.format l.slots way.known (wanted Read l.format lacks.field d.0 lacks.side) (all_learnt Read l.format way.known way.plan.complete lacks.field d.0 lacks.side d.1) way.knows in
      let here : has_bits (learnt_at l.slots lacks.field lacks.side) ≡ true = (and_true (has_bits (learnt_at l.slots lacks.field lacks.side)) _ all).0 in
      let wrong : false ≡ true = sym lacks.unknown ∙ here in
      absurd cc

  none_unfit : IsUnfit place n l → NoneAhead place.accepted.now.profile.methods (bits_at place.frame.context.now) (spot_of place bits)
  none_unfit u f h =
      u.unfit (subst (Fits place.accepted.now.profile.methods (bits_at place.frame.context.now) place.frame.method place.frame.arguments.now place.frame.path.now) (only u.filling u.made f h) h.in_front.fits)

  pub ended_by : (e : ReadFault) → BlamesEnd e place n l → Blames e place bits
  ended_by (Short _) h = absurd h
  ended_by (Refused _) (inl lacks) = absurd (none_lacks lacks)
  ended_by (Refused _) (inr unfit) = none_unfit unfit
  ended_by OutOfMemory h = tt

-- ---- the steps that are left

pub drop_next : {A : Type 0} (xs : List A) (i : ℕ) (d : A) → i < length xs → drop i xs ≡ get_or xs i d ∷ drop (i + 1) xs
drop_next {A} xs i d within = let one : suc i ≡ i + 1 = omega arith in from xs i within ∙ ap (λ k. get_or xs i d ∷ drop k xs) one
  where
    from : (ys : List A) (k : ℕ) → k < length ys → drop k ys ≡ get_or ys k d ∷ drop (suc k) ys
    from [] k less = absurd (omega (arith, less))
    from (y ∷ ys) zero less = refl
    from (y ∷ ys) (suc k) less = from ys k (omega (arith, less))
