-- What a step learns that finds the bits of a field.
use Rattle.std.proofs.Common.{◌≡◌, refl, sym, ◌∙◌, subst, ℕ, ◌<◌, Bool, true, List, [], ◌∷◌, length}
use Rattle.std.specs.Prelude.{Option, Some, IsSomeAnd, Result, Ok, Err, IfErr, ◌&&◌}
use Rattle.sem_expr.specs.declared.expr.Side.TheVariants.{Uncompressed}
use Rattle.sem_profile.specs.Resolved.{IsSound}
use Rattle.sem_filling.specs.declared.filling.Filling.{Filling}
use Rattle.sem_filling.specs.Bounded.{LiesBetween}
use Rattle.cert_types.specs.declared.rule.Fact.TheVariants.{LengthOf, BitsOf}
use Rattle.cert_types.specs.declared.rule.Rule.{Rule}
use Rattle.cert_rules.specs.declared.slots.Learnt.TheVariants.{Whole}
use Rattle.cert_rules.specs.Slots.{has_length, has_bits, learnt_at, HasSide}
use Rattle.cert_rules.specs.Views.{view, side_at}
use Rattle.walk_steps.specs.Partial.{Reached, IsKept, Learns, bounds_at}
use Rattle.walk_steps.proofs.SidesGained as gained
use Rattle.walk_steps.specs.declared.fault.StepFault.{StepFault}
use Rattle.walk_steps.specs.declared.fault.StepFault.TheVariants.{Short, Refused, OutOfMemory}
use Rattle.walk_steps.specs.declared.level_frame.LevelFrame.{LevelFrame}
use Rattle.walk_steps.specs.Finding.{IsAt}
use Rattle.walk_steps.proofs.FindingGaining.{has_known}
use Rattle.walk_steps.proofs.FindingShown.{lies}
use Rattle.cert_candidates.specs.Knowing.{writer_knows_all}
use Rattle.walk_write.specs.Take.{HasBits}
use Rattle.walk_write.specs.Walking.{LearnsOf, BlamesStep}

-- bits that the level can't have are those of no filling
pub refuses : (level_frame : LevelFrame) (old : Reached) (i : ℕ) (bits : List Bool) → IsSound level_frame.frame.profile.now → IsKept old → IsAt level_frame old → i < length old.slots →
    ((x : List Bool) → HasSide x (learnt_at old.slots i Uncompressed) → HasSide x (Whole bits) → LiesBetween (bounds_at old.sizes i Uncompressed) (length x) → ⊥) → (f : Filling) → HasBits level_frame old i bits f → ⊥
refuses level_frame old i bits sound kept at within never f h =
    never (side_at (view f) i Uncompressed) (has_known f old.slots h.here.shows.has i Uncompressed) h.bits_are (lies level_frame old sound kept at [] f h.here.shows i within Uncompressed)

-- what is refused of some fillings is refused of those that are among them
pub blamed : (r : Result (Unit {0}) StepFault) (Theirs Mine : Filling → Type 0) → ((f : Filling) → Mine f → Theirs f) → IfErr r (λ e. BlamesStep e Theirs) → IfErr r (λ e. BlamesStep e Mine)
blamed (Ok x) Theirs Mine among h = tt
blamed (Err Short) Theirs Mine among h = h
blamed (Err Refused) Theirs Mine among h = λ f m. h f (among f m)
blamed (Err OutOfMemory) Theirs Mine among h = tt

module _ (old new : Reached) (i : ℕ) (bits : List Bool) (h : Learns old i Uncompressed (Whole bits) new) where
  pub length_now : has_length (learnt_at new.slots i Uncompressed) ≡ true
  length_now = gained.length_known (bounds_at old.sizes i Uncompressed) i Uncompressed (Whole bits) old.slots new.slots h.slots_are refl

  pub bits_now : has_bits (learnt_at new.slots i Uncompressed) ≡ true
  bits_now = gained.bits_known (bounds_at old.sizes i Uncompressed) i Uncompressed (Whole bits) old.slots new.slots h.slots_are refl

  pub whole_now : learnt_at new.slots i Uncompressed ≡ Whole bits
  whole_now = gained.known_now (bounds_at old.sizes i Uncompressed) i Uncompressed (Whole bits) old.slots new.slots h.slots_are ∙ h.slots_are.joint.gained

  -- where these fillings have the bits, a step that gives no more than what is known now has learnt of them
  pub learns_of : (Theirs : Filling → Type 0) → ((f : Filling) → Theirs f → side_at (view f) i Uncompressed ≡ bits) → (rule : Option Rule) (r : Rule) → rule ≡ Some r →
      writer_knows_all old.format new.slots r.gives ≡ true → LearnsOf Theirs rule old new
  learns_of Theirs have rule r is gives =
      let b = bounds_at old.sizes i Uncompressed in
      record {
        format_is = h.format_is;
        sizes_are = h.sizes_are;
        args_are = h.args_are;
        grown = gained.grown b i Uncompressed (Whole bits) old.slots new.slots h.slots_are;
        inners = gained.inners b i Uncompressed (Whole bits) old.slots new.slots h.slots_are;
        gives = subst (λ z. IsSomeAnd z (λ r. writer_knows_all old.format new.slots r.gives ≡ true)) (sym is) gives;
        agrees = λ f theirs has. gained.still_had b i Uncompressed (Whole bits) old.slots new.slots h.slots_are f has (have f theirs);
      }

  -- such as its length and its bits
  pub both_known : writer_knows_all old.format new.slots (LengthOf Uncompressed i ∷ BitsOf Uncompressed i ∷ []) ≡ true
  both_known = λ j. length_now j && (bits_now j && true)
