-- What a step that takes bits finds (docs/DEFINITIONS.md, The steps of a writing walk).
use Rattle.std.specs.Prelude.{◌≡◌, ℕ, Bool, List}
use Rattle.sem_expr.specs.declared.expr.Side.TheVariants.{Uncompressed}
use Rattle.sem_filling.specs.declared.filling.AskedValue.{AskedValue}
use Rattle.sem_filling.specs.declared.filling.Filling.{Filling}
use Rattle.cert_rules.specs.Views.{view, side_at}
use Rattle.walk_steps.specs.Partial.{Reached}
use Rattle.walk_steps.specs.declared.level_frame.LevelFrame.{LevelFrame}
use Rattle.walk_write.specs.Walking.{IsHere}

-- those that are here, whatever bits are before their header and whatever values their asked fields have, with these bits as the field's uncompressed side
pub record HasBits (level_frame : LevelFrame) (l : Reached) (i : ℕ) (bits : List Bool) (f : Filling) : Type 0 where
  pub source : List Bool
  pub asked : List AskedValue
  pub here : IsHere level_frame l source asked f
  pub bits_are : side_at (view f) i Uncompressed ≡ bits
