-- A field that calls a method: what it is called with, and the filling that it gets (docs/DEFINITIONS.md, The steps of a walk).
use Rattle.std.specs.Prelude.{◌≡◌, ◌≢◌, ℕ, true, Bool, List, slice_get, Some, string_bytes}
use Rattle.sem_expr.specs.declared.expr.Expr.{Expr}
use Rattle.sem_expr.specs.declared.expr.Side.{Side}
use Rattle.sem_expr.specs.declared.expr.Side.TheVariants.{Uncompressed, Compressed}
use Rattle.sem_filling.specs.declared.filling.Filling.{Filling}
use Rattle.sem_filling.specs.Fillings.{header, packed, inner_at}
use Rattle.sem_filling.specs.Entries.{below}
use Rattle.sem_filling.specs.Fits.{vals}
use Rattle.sem_filling.specs.Ready.{ArgumentsLieAt}
use Rattle.sem_profile.specs.declared.profile.Encoding.TheVariants as encoding
use Rattle.sem_profile.specs.declared.profile.Field.{Field}
use Rattle.cert_rules.specs.declared.slots.Learnt.TheVariants.{Whole}
use Rattle.cert_rules.specs.Facts.{inputs_of_all}
use Rattle.cert_rules.specs.Slots.{learnt_at, slot_inner, HasSlots, Grows, knows_all}
use Rattle.cert_rules.specs.Views.{view, side_at}
use Rattle.walk_steps.specs.Partial.{Reached}
use Rattle.walk_steps.specs.declared.calls.Call.{Call}
use Rattle.walk_steps.specs.declared.fault.StepFault.{StepFault}
use Rattle.walk_steps.specs.declared.fault.StepFault.TheVariants.{Short, Refused, OutOfMemory}
use Rattle.walk_steps.specs.declared.level_frame.LevelFrame.{LevelFrame}
use Rattle.walk_steps.specs.Finding.{Shows, shown_numbers}

-- the field calls a method, and all that the arguments ask for is known
pub record MayCall (l : Reached) (i : ℕ) : Type 0 where
  pub field : Field
  pub method : ℕ
  pub exprs : List Expr
  pub field_is : slice_get l.format.fields i ≡ Some field
  pub encoding_is : field.encoding ≡ encoding.Call method exprs
  pub known : knows_all l.format l.slots (inputs_of_all l.format exprs) ≡ true

-- the call of the field: its method, the values of its arguments, which lie in the ranges of the parameters, and the field's path
pub record IsCall (level_frame : LevelFrame) (l : Reached) (i : ℕ) (call : Call) : Type 0 where
  pub field : Field
  pub exprs : List Expr
  pub field_is : slice_get l.format.fields i ≡ Some field
  pub encoding_is : field.encoding ≡ encoding.Call call.method exprs
  pub args_are : vals (shown_numbers l) exprs ≡ Some call.arguments
  pub path_is : string_bytes call.path ≡ below level_frame.frame.path.now field.declared.name
  pub lie : ArgumentsLieAt level_frame.frame.profile.now call.method call.arguments

-- what the filling inside a field gives for a side of it: its header, or its packed bits
abbrev pub side_given : Side → Filling → List Bool
side_given Uncompressed g = header g
side_given Compressed g = packed g

-- the field is filled by this filling, with its two sides
pub record IsFilledBy (f : Filling) (i : ℕ) (g : Filling) : Type 0 where
  pub inner_is : inner_at f i ≡ Some g
  pub uncompressed : side_at (view f) i Uncompressed ≡ header g
  pub compressed : side_at (view f) i Compressed ≡ packed g

-- the filling inside the field and its two sides are known, and what was known still is; each filling that had what was known, and has this one inside, has what is known now
pub record Fills (old : Reached) (i : ℕ) (g : Filling) (new : Reached) : Type 0 where
  pub format_is : new.format ≡ old.format
  pub sizes_are : new.sizes ≡ old.sizes
  pub args_are : new.args ≡ old.args
  pub grown : Grows old.slots new.slots
  pub inner_is : slot_inner (slice_get new.slots i) ≡ Some g
  pub others : (j : ℕ) → j ≢ i → slot_inner (slice_get new.slots j) ≡ slot_inner (slice_get old.slots j)
  pub uncompressed_is : learnt_at new.slots i Uncompressed ≡ Whole (header g)
  pub compressed_is : learnt_at new.slots i Compressed ≡ Whole (packed g)
  pub agrees : (f : Filling) → HasSlots f old.slots → IsFilledBy f i g → HasSlots f new.slots

-- why a field isn't filled: no filling that shows what the level knows, whatever bits are in front, has this one inside
abbrev pub BlamesFilling : StepFault → LevelFrame → Reached → ℕ → Filling → Type 0
BlamesFilling Short level_frame l i g = ⊥
BlamesFilling Refused level_frame l i g = (bits : List Bool) (f : Filling) → Shows level_frame l bits f → IsFilledBy f i g → ⊥
BlamesFilling OutOfMemory level_frame l i g = Unit {0}
