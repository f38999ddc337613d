-- What a step finds, and what a walk owes for it (docs/DEFINITIONS.md, The steps of a walk).
use Rattle.std.specs.Prelude.{◌≡◌, ◌≤ℤ◌, ◌<ℤ◌, ◌-ℤ◌, ◌++◌, ℕ, ℤ, pos, true, Bool, List, length, slice_get, Option, Some, None, IfSome, IsSomeAnd}
use Rattle.sem_context.specs.Entries.{bits_at}
use Rattle.cert_types.specs.declared.rule.Rule.{Rule}
use Rattle.sem_expr.specs.declared.expr.Expr.{Expr}
use Rattle.sem_expr.specs.declared.expr.Side.{Side}
use Rattle.sem_expr.specs.Values.{Assignment, remainder, val}
use Rattle.sem_filling.specs.declared.filling.Filling.{Filling}
use Rattle.sem_filling.specs.Entries.{below}
use Rattle.sem_filling.specs.Fits.{format_at, reference_of}
use Rattle.sem_profile.specs.declared.profile.Field.{Field}
use Rattle.sem_filling.specs.Bounded.{sizes_at}
use Rattle.cert_rules.specs.declared.slots.Learnt.{Learnt}
use Rattle.cert_rules.specs.declared.slots.Slot.{Slot}
use Rattle.cert_rules.specs.declared.slots.Learnt.TheVariants.{Length}
use Rattle.cert_rules.specs.Reading.{Spot, IsLevel, known_numbers}
use Rattle.cert_rules.specs.Slots.{slot_inner, has_length, has_bits, learnt_at, HasSide, HasSlots, Grows, knows_all}
use Rattle.sem_profile.specs.declared.profile.Constraint.{Constraint}
use Rattle.cert_rules.specs.Facts.{inputs}
use Rattle.cert_rules.specs.Rules.{Congruence, value_given, remainder_given}
use Rattle.cert_rules.specs.Views.{view, side_at}
use Rattle.walk_steps.specs.Partial.{Reached, IsAsked}
use Rattle.walk_steps.specs.declared.level_frame.LevelFrame.{LevelFrame}
use Rattle.walk_steps.specs.declared.fault.StepFault.{StepFault}
use Rattle.walk_steps.specs.declared.fault.StepFault.TheVariants.{Short, Refused, OutOfMemory}

-- ---- where a level stands

-- the level is of the format that the level frame names, with its bounds
pub record IsAt (level_frame : LevelFrame) (l : Reached) : Type 0 where
  pub format_is : format_at level_frame.frame.profile.now.methods level_frame.frame.method level_frame.format ≡ Some l.format
  pub sizes_are : sizes_at level_frame.frame.profile.now.sizes level_frame.frame.method level_frame.format ≡ Some l.sizes

-- where these bits are ahead
abbrev pub spot_of : LevelFrame → Reached → List Bool → Spot
spot_of level_frame l bits = record { method = level_frame.frame.method; args = l.args; path = level_frame.frame.path.now; bits = bits }

-- a filling that fits here, has the bits in front, and has what the level knows
abbrev pub Shows : LevelFrame → Reached → List Bool → Filling → Type 0
Shows level_frame l bits f = IsLevel level_frame.frame.profile.now.methods (bits_at level_frame.frame.context.now) (spot_of level_frame l bits) level_frame.format l.format l.slots f

-- ---- what is found

-- the bits are as was found; where nothing was found none are
abbrev pub AreFound : Option Learnt → List Bool → Type 0
AreFound None bits = ⊥
AreFound (Some l) bits = HasSide bits l

-- What was found of a side of the field is so of each filling that shows what the level knows, whatever bits are in front; where nothing was found there is none.
abbrev pub Finds : LevelFrame → Reached → ℕ → Side → Option Learnt → Type 0
Finds level_frame l i side found = (bits : List Bool) (f : Filling) → Shows level_frame l bits f → AreFound found (side_at (view f) i side)

-- the count, if it is one, is the length of that side of each filling that shows what the level knows; where there is none there is no such filling
abbrev pub Counts : LevelFrame → Reached → ℕ → Side → Option ℤ → Type 0
Counts level_frame l i side count = (bits : List Bool) (f : Filling) → Shows level_frame l bits f → count ≡ Some (pos (length (side_at (view f) i side)))

-- the length that was found
abbrev pub counted : Option ℤ → Option Learnt
counted (Some (pos n)) = Some (Length n)
counted _ = None

-- the numbers that the level shows
abbrev pub shown_numbers : Reached → Assignment
shown_numbers l = known_numbers l.format l.slots l.args

-- the reference of a field
abbrev pub reference_at : LevelFrame → Field → Option (List Bool)
reference_at level_frame d = reference_of d.declared.part (bits_at level_frame.frame.context.now) (below level_frame.frame.path.now d.declared.name) d.initial

-- each may be asked for
abbrev pub AllAsked : Reached → List Expr → Type 0
AllAsked l es = (n : ℕ) (e : Expr) → slice_get es n ≡ Some e → IsAsked l.format e

-- ---- what a constraint gives for a value

-- where all that they ask for is known, the number is what is left of the remainder
abbrev pub IsRemaining : Reached → Congruence → Option ℤ → Type 0
IsRemaining l c number = knows_all l.format l.slots (inputs l.format c.more ++ inputs l.format c.left) ≡ true →
    (more left : ℤ) → val (shown_numbers l) c.more ≡ Some more → val (shown_numbers l) c.left ≡ Some left → pos 0 ≤ℤ left → left <ℤ c.by → number ≡ remainder (left -ℤ more) c.by

-- the number is that of the field's value by an equation, or where there is none of a remainder
pub record IsSolved (l : Reached) (i : ℕ) (k : Constraint) (number : Option ℤ) : Type 0 where
  pub by_equation : IfSome (value_given i k) (λ e. knows_all l.format l.slots (inputs l.format e) ≡ true → number ≡ val (shown_numbers l) e)
  pub by_remainder : value_given i k ≡ None → IfSome (remainder_given l.sizes i k) (λ c. IsRemaining l c number)

-- ---- what is learnt

-- the step has a rule, and what it needs is known
abbrev pub IsReady : Reached → Option Rule → Type 0
IsReady l rule = IsSomeAnd rule (λ r. knows_all l.format l.slots r.needs ≡ true)

-- the fillings inside the fields are those that were known
abbrev pub HaveSameInners : List Slot → List Slot → Type 0
HaveSameInners old new = (i : ℕ) → slot_inner (slice_get new i) ≡ slot_inner (slice_get old i)

-- what was found of a side of the field is known, and what was known still is; each filling that showed what was known, whatever bits are in front, has what is known now
pub record Gains (level_frame : LevelFrame) (old : Reached) (i : ℕ) (side : Side) (found : Option Learnt) (new : Reached) : Type 0 where
  pub format_is : new.format ≡ old.format
  pub sizes_are : new.sizes ≡ old.sizes
  pub args_are : new.args ≡ old.args
  pub grown : Grows old.slots new.slots
  pub inners : HaveSameInners old.slots new.slots
  pub length_known : IsSomeAnd found (λ l. has_length l ≡ true → has_length (learnt_at new.slots i side) ≡ true)
  pub bits_known : IsSomeAnd found (λ l. has_bits l ≡ true → has_bits (learnt_at new.slots i side) ≡ true)
  pub agrees : (bits : List Bool) (f : Filling) → Shows level_frame old bits f → HasSlots f new.slots

-- what the step gives is known, and what was known still is; each filling that showed what was known, whatever bits are in front, has what is known now
pub record Learns (level_frame : LevelFrame) (rule : Option Rule) (old new : Reached) : Type 0 where
  pub format_is : new.format ≡ old.format
  pub sizes_are : new.sizes ≡ old.sizes
  pub args_are : new.args ≡ old.args
  pub grown : Grows old.slots new.slots
  pub inners : HaveSameInners old.slots new.slots
  pub gives : IsSomeAnd rule (λ r. knows_all old.format new.slots r.gives ≡ true)
  pub agrees : (bits : List Bool) (f : Filling) → Shows level_frame old bits f → HasSlots f new.slots

-- no filling shows what the level knows, whatever bits are in front
abbrev pub NoneShows : LevelFrame → Reached → Type 0
NoneShows level_frame l = (bits : List Bool) (f : Filling) → Shows level_frame l bits f → ⊥

-- why a step that takes no bits has no outcome
abbrev pub Blames : StepFault → LevelFrame → Reached → Type 0
Blames Short level_frame l = ⊥
Blames Refused level_frame l = NoneShows level_frame l
Blames OutOfMemory level_frame l = Unit {0}
