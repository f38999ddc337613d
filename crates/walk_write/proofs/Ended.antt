-- How a walk that has followed its plan ends.
use Rattle.std.proofs.Common.{◌≡◌, refl, sym, ◌∙◌, subst, ℕ, zero, suc, ◌+◌, ◌<◌, Bool, true, false, List, [], ◌∷◌, length, arith}
use Rattle.std.specs.Prelude.{Option, Some, None, IfSome, IfNone, slice_get, ◌&&◌}
use Rattle.std.proofs.lemmas.Option.{slice_get_within}
use Rattle.sem_context.specs.Entries.{bits_at}
use Rattle.sem_profile.specs.declared.profile.Field.{Field}
use Rattle.sem_profile.specs.declared.profile.Format.{Format}
use Rattle.sem_profile.specs.declared.profile.Method.{Method}
use Rattle.sem_filling.specs.declared.filling.AskedValue.{AskedValue}
use Rattle.sem_filling.specs.declared.filling.Filling.{Filling}
use Rattle.sem_filling.specs.Fits.{Fits, format_at}
use Rattle.sem_filling.proofs.FitsSized.{and_then_some}
use Rattle.cert_types.specs.declared.certificate.Direction.TheVariants.{Write}
use Rattle.cert_types.specs.declared.rule.Fact.TheVariants.{BitsOf}
use Rattle.cert_rules.specs.declared.slots.Slot.{Slot}
use Rattle.cert_rules.specs.Facts.{has}
use Rattle.cert_rules.specs.Reading.{IsMade}
use Rattle.cert_rules.proofs.ViewsAgree.{and_true}
use Rattle.cert_rules.proofs.Plans.{all_learnt}
use Rattle.cert_candidates.specs.declared.digits.Digits.{Digits}
use Rattle.cert_candidates.specs.Reading.{ShareDigits}
use Rattle.cert_accepted.specs.Accepted.{Accepting}
use Rattle.walk_steps.specs.Partial.{Reached, Lacks}
use Rattle.walk_steps.specs.declared.level_frame.LevelFrame.{LevelFrame}
use Rattle.cert_candidates.specs.Knowing.{writer_knows}
use Rattle.cert_candidates.specs.Writing.{IsNumbered}
use Rattle.cert_candidates.proofs.KnowingEnding.{writing_ends}
use Rattle.cert_candidates.proofs.Knowing.{all_had}
use Rattle.walk_write.specs.Going.{Serves, IsGoing, FailsAt}
use Rattle.walk_write.specs.Walking.{site_at}
use Rattle.walk_write.proofs.WalkingPassing.{Open, fails}

-- the method of a format is there
pub method_within : (methods : List Method) (k n : ℕ) (format : Format) → format_at methods k n ≡ Some format → k < length methods
method_within methods k n format e =
    let m = and_then_some (λ (x : Method). slice_get x.formats n) (slice_get methods k) format e in
    slice_get_within methods k m.0 m.1

module _ (a : Accepting) (level_frame : LevelFrame) (source : List Bool) (asked : List AskedValue) (serves : Serves a level_frame) (c : ℕ) (digits : Digits) (l : Reached) (g : IsGoing a level_frame source asked [] c digits l) where
  -- all sides are known
  pub lacks_none : Lacks l.slots → ⊥
  lacks_none lacks =
      let field = there l.format.fields l.slots lacks.field g.writing.count lacks.within in
      let has_wanted = all_learnt Write l.format g.known g.complete lacks.field field.0 lacks.side field.1 in
      let first = and_true (has g.known (BitsOf lacks.side lacks.field)) _ has_wanted in
      let knows = all_had l.format l.slots g.known (BitsOf lacks.side lacks.field ∷ []) (λ i. first.0 i && true) g.knows in
      let known = and_true (writer_knows l.format l.slots (BitsOf lacks.side lacks.field)) true knows in
      let wrong : true ≡ false = sym known.0 ∙ lacks.unknown in
      absurd (cc)
    where
      there : (ds : List Field) (slots : List Slot) (i : ℕ) → length slots ≡ length ds → i < length slots → (d : Field) × (slice_get ds i ≡ Some d)
      there [] slots i count within = absurd (omega (arith, count, within))
      there (d ∷ ds) [] i count within = absurd (omega (arith, within))
      there (d ∷ ds) (s ∷ slots) zero count within = (d, refl)
      there (d ∷ ds) (s ∷ slots) (suc i) count within = there ds slots i (omega (arith, count)) (omega (arith, within))

  -- what is made of them has the number
  pub ended : (made : Filling) → IsMade level_frame.format l.format l.slots made →
      IsNumbered level_frame.frame.profile.now.methods a.certificate.methods a.counts (bits_at level_frame.frame.context.now) (site_at level_frame l source asked) c made
  ended made is =
      writing_ends level_frame.frame.profile.now.methods level_frame.frame.profile.now.sizes level_frame.frame.profile.now.top a.certificate.methods a.counts serves.checked (bits_at level_frame.frame.context.now) (site_at level_frame l source asked) level_frame.format l.format c digits l.slots
      g.writing g.known g.complete g.knows made is

  -- where it doesn't fit nothing has the number
  pub ended_fails : (made : Filling) → IsMade level_frame.format l.format l.slots made → (Fits level_frame.frame.profile.now.methods (bits_at level_frame.frame.context.now) level_frame.frame.method l.args level_frame.frame.path.now made → ⊥) →
      (alike : ℕ) → alike + digits.rest ≡ digits.span → ShareDigits digits alike → FailsAt a level_frame (site_at level_frame l source asked) c alike
  ended_fails made is misfit alike count share = fails a level_frame source asked serves l [] c digits g.writing.reading g.room none alike count share
    where
      none : (f : Filling) → Open a level_frame source asked serves l g.writing.reading.base [] f → ⊥
      none f h =
          let from = h.within.from in
          let to = h.within.to in
          let span = g.writing.reading.span_is in
          let below = g.writing.reading.below in
          let number = g.writing.reading.number_is in
          let same : f ≡ made = (ended made is).alone f h.begins (omega (arith, from, to, span, below, number)) in
          misfit (subst (Fits level_frame.frame.profile.now.methods (bits_at level_frame.frame.context.now) level_frame.frame.method l.args level_frame.frame.path.now) same h.begins.fits)

  pub lacking_fails : Lacks l.slots → (alike : ℕ) → FailsAt a level_frame (site_at level_frame l source asked) c alike
  lacking_fails lacks alike = absurd (lacks_none lacks)

-- what was made, if it was
pub some_made : {A : Type 0} (P : A → Type 0) (o : Option A) (x : A) → o ≡ Some x → IfSome o P → P x
some_made P o x e h = subst (λ z. IfSome z P) e h

pub none_made : {A : Type 0} (P : Type 0) (o : Option A) → ((x : A) → o ≡ Some x → ⊥) → IfNone o P → P
none_made P None none h = h
none_made P (Some x) none h = absurd (none x refl)
