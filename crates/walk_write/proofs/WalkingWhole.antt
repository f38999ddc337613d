-- A walk of a format from its start to its end, where the method stands.
use Rattle.std.proofs.Common.{◌≡◌, refl, sym, ◌∙◌, ap, subst, ℕ, zero, suc, ◌+◌, ◌≤◌, Bool, true, List, [], ◌∷◌, arith}
use Rattle.std.specs.Prelude.{Some, ℤ, slice_get}
use Rattle.std.proofs.lemmas.Option.{same_Some}
use Rattle.sem_context.specs.Entries.{bits_at}
use Rattle.sem_profile.specs.declared.profile.Field.{Field}
use Rattle.sem_profile.specs.declared.profile.Format.{Format}
use Rattle.sem_profile.specs.declared.profile.FormatSizes.{FormatSizes}
use Rattle.sem_profile.specs.Limits.{Chain}
use Rattle.sem_profile.specs.Resolved.{Resolved, IsSound}
use Rattle.sem_profile.specs.Uses.{used_graph}
use Rattle.sem_filling.specs.declared.filling.AskedValue.{AskedValue}
use Rattle.sem_filling.specs.declared.filling.Filling.{Filling}
use Rattle.sem_filling.specs.Bounded.{sizes_at}
use Rattle.sem_filling.specs.Fits.{format_at}
use Rattle.sem_filling.specs.Ready.{ArgumentsLieAt}
use Rattle.cert_types.specs.declared.certificate.Direction.TheVariants.{Write}
use Rattle.cert_types.specs.declared.certificate.Plans.{Plans}
use Rattle.sem_filling.proofs.FitsSized.{and_then_some}
use Rattle.sem_profile.specs.declared.profile.MethodSizes.{MethodSizes}
use Rattle.cert_rules.proofs.RulesVersions.{plans_go_on}
use Rattle.cert_types.specs.declared.certificate.Version.TheVariants.{Two}
use Rattle.cert_rules.specs.Plans.{known_at_start, way_of, IsPlan}
use Rattle.cert_rules.specs.Reading.{start_slots}
use Rattle.cert_rules.specs.Slots.{is_there, slot_inner}
use Rattle.cert_candidates.specs.declared.digits.Digits.{Digits}
use Rattle.cert_candidates.specs.declared.digits.Start.{Start}
use Rattle.cert_candidates.specs.Codes.{write_plan, ways_before}
use Rattle.cert_candidates.specs.Reading.{IsReading, ShareDigits}
use Rattle.cert_candidates.proofs.CodesFitting.{write_by}
use Rattle.cert_accepted.specs.Accepted.{Accepting}
use Rattle.walk_steps.specs.Partial.{Reached}
use Rattle.walk_steps.specs.declared.level_frame.LevelFrame.{LevelFrame}
use Rattle.cert_accepted.specs.declared.frame.AcceptedFrame.{AcceptedFrame}
use Rattle.cert_accepted.specs.Standing.{Stands, HasDepth, IsLevelFrameOf, IsAtStart, NeverFits}
use Rattle.cert_candidates.specs.Writing.{IsChecked, IsWriting, NoneNumbered, IsNumbered}
use Rattle.cert_candidates.proofs.WritingLawsGoing.{writing_starts, writing_fails, tried}
use Rattle.cert_candidates.specs.Knowing.{writer_knows_all}
use Rattle.cert_candidates.proofs.Knowing.{start_known}
use Rattle.walk_write.specs.declared.fault.WriteFault.{WriteFault}
use Rattle.walk_write.specs.declared.fault.WriteFault.TheVariants.{Failed, OutOfMemory}
use Rattle.walk_write.specs.Going.{Serves, IsDeep, IsGoing, BlamesAt, Begins}
use Rattle.walk_write.specs.Refutation.{NeverBegins}
use Rattle.walk_write.specs.Walking.{site_of, site_at, Fails, Blames, IsWritten}
use Rattle.walk_write.proofs.GoingInner.{moved}

-- a field at the start has no filling inside
none_inside : (listing : List ℕ) (k : ℕ) (ds : List Field) (i : ℕ) → is_there (slot_inner (slice_get (start_slots listing k ds) i)) ≡ true → ⊥
none_inside listing k [] i e = absurd (cc)
none_inside listing k (d ∷ ds) zero e = absurd (cc)
none_inside listing k (d ∷ ds) (suc i) e = none_inside listing (suc k) ds i e

-- what is so of a format n of the method k of a profile
record Facts (a : Accepting) (format : Format) (sizes : FormatSizes) (args : List ℤ) (plans : Plans) (c : ℕ) (digits : Digits) (p : Resolved) (k n : ℕ) : Type 0 where
  pub sound : IsSound p
  pub checked : IsChecked p.methods p.sizes p.top a.certificate.methods a.counts
  pub lie : ArgumentsLieAt p k args
  pub format_is : format_at p.methods k n ≡ Some format
  pub sizes_are : sizes_at p.sizes k n ≡ Some sizes
  pub plans_are : write_plan a.certificate.methods k n ≡ Some plans
  pub reading : IsReading p.methods a.certificate.methods a.counts k n format plans.write c digits
  pub base_is : reading.base ≡ ways_before p.methods a.certificate.methods a.counts k n
  pub room : (m : ℕ) → slice_get a.counts k ≡ Some m → c + digits.span ≤ m + digits.rest

module _ (place : AcceptedFrame) (stands : Stands place) (c : ℕ) (start : Start) (b : Begins place c start) where
  abbrev p : Resolved
  p = place.accepted.now.profile

  -- where none of the format begins the source none has the number
  pub never_begins : (source : List Bool) → NeverBegins place start.format source → (asked : List AskedValue) (alike : ℕ) → alike + start.digits.rest ≡ start.digits.span → ShareDigits start.digits alike → Fails place source asked c alike
  never_begins source never asked alike count share = record {
    some = let below = b.reading.below in omega (arith, below, count);
    within = λ n at. let room = b.room n at in omega (arith, room, count);
    none = writing_fails p.methods p.sizes p.top place.accepted.now.certificate.methods place.accepted.now.counts b.checked (bits_at place.frame.context.now) (site_of place source asked) start.format b.format b.plans.write c start.digits
        b.reading (λ f h. never asked f h.begins
        (b.reading.all f (tried p.methods p.sizes p.top place.accepted.now.certificate.methods place.accepted.now.counts b.checked (bits_at place.frame.context.now) (site_of place source asked) f h.begins) h.within).format_is) alike share;
  }

  -- where no filling of the format fits none begins the source
  pub never_fits : NeverFits place start.format → (source : List Bool) (asked : List AskedValue) (alike : ℕ) → alike + start.digits.rest ≡ start.digits.span → ShareDigits start.digits alike → Fails place source asked c alike
  never_fits never source asked alike count share = never_begins source (λ asked f h. never f h.fits) asked alike count share

  module _ (level_frame : LevelFrame) (is : IsLevelFrameOf place start.format level_frame) where
    pub serves : Serves place.accepted.now level_frame
    serves = record {
      profile_is = is.profile_is;
      sound = subst IsSound (sym is.profile_is) b.sound;
      checked = subst (λ (z : Resolved). IsChecked z.methods z.sizes z.top place.accepted.now.certificate.methods place.accepted.now.counts) (sym is.profile_is) b.checked;
    }

    pub deep : (depth : ℕ) → HasDepth place depth → IsDeep level_frame depth
    deep depth least j n chain = least j n (subst (λ k. Chain (used_graph p.methods) k n j) is.method_is (subst (λ (z : Resolved). Chain (used_graph z.methods) level_frame.frame.method n j) is.profile_is chain))

    -- the site of a level of this place
    same_site : (l : Reached) → l.args ≡ place.frame.arguments.now → (source : List Bool) (asked : List AskedValue) → site_at level_frame l source asked ≡ site_of place source asked
    same_site l args source asked = λ k. record { method = is.method_is k; args = args k; path = is.path_is k; source = source; asked = asked }

    pub blamed : (e : WriteFault) (l : Reached) → l.args ≡ place.frame.arguments.now → (source : List Bool) (asked : List AskedValue) → BlamesAt e place.accepted.now level_frame (site_at level_frame l source asked) c → Blames e place source asked c
    blamed OutOfMemory l args source asked h = tt
    blamed (Failed m) l args source asked h = record {
      some = h.some;
      within = λ n counted. h.within n (subst (λ k. slice_get place.accepted.now.counts k ≡ Some n) (sym is.method_is) counted);
      none = moved (λ methods a ctx site. NoneNumbered methods a.certificate.methods a.counts ctx site c m) level_frame.frame.profile.now.methods p.methods (ap (λ (z : Resolved). z.methods) is.profile_is) place.accepted.now place.accepted.now refl
          (bits_at level_frame.frame.context.now) (bits_at place.frame.context.now) (ap bits_at is.context_is) (site_at level_frame l source asked) (site_of place source asked) (same_site l args source asked) h.none;
    }

    pub written : (l : Reached) → l.args ≡ place.frame.arguments.now → (source : List Bool) (asked : List AskedValue) (g : Filling) →
        IsNumbered level_frame.frame.profile.now.methods place.accepted.now.certificate.methods place.accepted.now.counts (bits_at level_frame.frame.context.now) (site_at level_frame l source asked) c g → IsWritten place source asked c g
    written l args source asked g h =
        moved (λ methods a ctx site. IsNumbered methods a.certificate.methods a.counts ctx site c g) level_frame.frame.profile.now.methods p.methods (ap (λ (z : Resolved). z.methods) is.profile_is) place.accepted.now place.accepted.now refl
        (bits_at level_frame.frame.context.now) (bits_at place.frame.context.now) (ap bits_at is.context_is) (site_at level_frame l source asked) (site_of place source asked) (same_site l args source asked) h

    module _ (l : Reached) (at : IsAtStart place start.format l) (plans : Plans) (plans_are : write_plan place.accepted.now.certificate.methods place.frame.method start.format ≡ Some plans) where
      here : Facts place.accepted.now l.format l.sizes l.args plans c start.digits p place.frame.method start.format
      here = record {
        sound = b.sound;
        checked = b.checked;
        lie = subst (ArgumentsLieAt p place.frame.method) (sym at.args_are) stands.lie;
        format_is = at.format_is;
        sizes_are = at.sizes_are;
        plans_are = plans_are;
        reading = moved_reading.0;
        base_is = moved_reading.1;
        room = b.room;
      }
        where
          Both : Format → Plans → Type 0
          Both format plans = (reading : IsReading p.methods place.accepted.now.certificate.methods place.accepted.now.counts place.frame.method start.format format plans.write c start.digits)
              × (reading.base ≡ ways_before p.methods place.accepted.now.certificate.methods place.accepted.now.counts place.frame.method start.format)

          moved_reading : Both l.format plans
          moved_reading = subst (Both l.format) (same_Some b.plans plans (sym b.plans_are ∙ plans_are)) (subst (λ z. Both z b.plans) (same_Some b.format l.format (sym b.format_is ∙ at.format_is)) (b.reading, b.base_is))

      there : Facts place.accepted.now l.format l.sizes l.args plans c start.digits level_frame.frame.profile.now level_frame.frame.method level_frame.format
      there =
          subst (Facts place.accepted.now l.format l.sizes l.args plans c start.digits level_frame.frame.profile.now level_frame.frame.method) (sym is.format_is)
          (subst (λ k. Facts place.accepted.now l.format l.sizes l.args plans c start.digits level_frame.frame.profile.now k start.format) (sym is.method_is)
          (subst (λ z. Facts place.accepted.now l.format l.sizes l.args plans c start.digits z place.frame.method start.format) (sym is.profile_is) here))

      pub going : (source : List Bool) (asked : List AskedValue) → IsGoing place.accepted.now level_frame source asked plans.write c start.digits l
      going source asked =
          let f = there in
          let a = place.accepted.now in
          let methods = level_frame.frame.profile.now.methods in
          let table = level_frame.frame.profile.now.sizes in
          let z = and_then_some (λ (s : MethodSizes). slice_get s.formats level_frame.format) (slice_get table level_frame.frame.method) l.sizes f.sizes_are in
          let w = write_by methods table level_frame.frame.profile.now.top f.checked.version a.certificate.methods f.checked.are_sizes f.checked.valid level_frame.frame.method level_frame.format l.format f.format_is z.0 l.sizes z.1 z.2 in
          let one : w.0 ≡ plans = same_Some w.0 plans (sym w.1 ∙ f.plans_are) in
          let plan = subst (λ (z : Plans). IsPlan (way_of Two Write table l.sizes l.format) z.write) one (plans_go_on f.checked.version Write table l.sizes l.format w.0.write w.2) in
          let starts = writing_starts methods table level_frame.frame.profile.now.top a.certificate.methods a.counts f.checked (bits_at level_frame.frame.context.now) (site_at level_frame l source asked) level_frame.format l.format plans f.format_is f.plans_are c
          start.digits f.reading f.base_is in
          record {
            at = record { format_is = f.format_is; sizes_are = f.sizes_are };
            lie = f.lie;
            writing = subst (IsWriting methods a.certificate.methods a.counts (bits_at level_frame.frame.context.now) (site_at level_frame l source asked) level_frame.format l.format plans.write c start.digits) (sym at.slots_are) starts;
            known = known_at_start l.format;
            knows = subst (λ z. writer_knows_all l.format z (known_at_start l.format) ≡ true) (sym at.slots_are) (start_known l.format);
            enabled = plan.enabled;
            complete = plan.complete;
            filled = λ i e. absurd (none_inside l.format.listing 0 l.format.fields i (subst (λ z. is_there (slot_inner (slice_get z i)) ≡ true) at.slots_are e));
            room = f.room;
          }
