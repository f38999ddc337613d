-- Steps that both directions have, as steps of reading.
use Rattle.std.proofs.Common.{◌≡◌, refl, subst, ℕ, List, Bool, true, inl}
use Rattle.std.specs.Prelude.{Option, IsSomeAnd, Result, Ok, Err, IfErr}
use Rattle.cert_types.specs.declared.certificate.Step.{Step}
use Rattle.cert_types.specs.declared.certificate.Step.TheVariants.{Take, Call, LibraryUp, LibraryDown, MethodLength, ConstraintLength, Solve, Choose, Ask}
use Rattle.cert_types.specs.declared.rule.Rule.{Rule}
use Rattle.sem_profile.specs.declared.profile.Format.{Format}
use Rattle.sem_profile.specs.declared.profile.FormatSizes.{FormatSizes}
use Rattle.cert_types.specs.declared.certificate.Version.TheVariants.{Two}
use Rattle.cert_rules.specs.Rules.{read_rule, common_rule}
use Rattle.cert_rules.specs.Slots.{knows_all}
use Rattle.walk_steps.specs.Partial.{Reached}
use Rattle.walk_steps.specs.declared.fault.StepFault.{StepFault}
use Rattle.walk_steps.specs.declared.fault.StepFault.TheVariants as step
use Rattle.walk_steps.specs.declared.level_frame.LevelFrame.{LevelFrame}
use Rattle.walk_steps.specs.Finding.{Learns}
use Rattle.walk_steps.specs.Finding as finding
use Rattle.walk_read.specs.Walk.{LearnsAhead, BlamesStep, AreFewLeft}
use Rattle.walk_read.specs.Walking.{IsOwn}

pub on_err : {A E : Type 0} (P Q : E → Type 0) (r : Result A E) → ((e : E) → P e → Q e) → IfErr r P → IfErr r Q
on_err P Q (Ok x) f h = tt
on_err P Q (Err e) f h = f e h

pub shared_rule : (sizes : FormatSizes) (format : Format) (s : Step) → IsOwn s → ((i : ℕ) → s ≡ Take i → ⊥) → common_rule Two sizes format s ≡ read_rule Two sizes format s
shared_rule sizes format (Take i) own other = absurd (other i refl)
shared_rule sizes format (Call i) own other = absurd own
shared_rule sizes format (LibraryUp i) own other = refl
shared_rule sizes format (LibraryDown i) own other = refl
shared_rule sizes format (MethodLength i side) own other = refl
shared_rule sizes format (ConstraintLength i side n) own other = refl
shared_rule sizes format (Solve i n) own other = refl
shared_rule sizes format (Choose i) own other = refl
shared_rule sizes format (Ask i) own other = refl

module _ (level_frame : LevelFrame) (old new : Reached) (bits : List Bool) where
  pub learns_ahead : (rule other : Option Rule) → rule ≡ other → Learns level_frame rule old new → LearnsAhead level_frame bits other old new
  learns_ahead rule other e h = record {
    format_is = h.format_is;
    sizes_are = h.sizes_are;
    args_are = h.args_are;
    grown = h.grown;
    inners = λ i. inl (h.inners i);
    gives = subst (λ o. IsSomeAnd o (λ r. knows_all old.format new.slots r.gives ≡ true)) e h.gives;
    agrees = λ f shows. h.agrees bits f shows;
  }

  pub blames_ahead : (e : StepFault) → finding.Blames e level_frame old → BlamesStep e level_frame old bits
  blames_ahead step.Short h = absurd h
  blames_ahead step.Refused h = λ f shows. h bits f shows
  blames_ahead step.OutOfMemory h = tt

  pub none_few : (e : StepFault) → finding.Blames e level_frame old → AreFewLeft e bits
  none_few step.Short h = absurd h
  none_few step.Refused h = tt
  none_few step.OutOfMemory h = tt
