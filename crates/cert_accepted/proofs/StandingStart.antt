-- A level at the start of a walk is where its level frame names it.
use Rattle.std.proofs.Common.{◌∙◌, ℕ}
use Rattle.sem_filling.specs.Bounded.{sizes_at}
use Rattle.sem_filling.specs.Fits.{format_at}
use Rattle.walk_steps.specs.Partial.{Reached}
use Rattle.walk_steps.specs.declared.level_frame.LevelFrame.{LevelFrame}
use Rattle.walk_steps.specs.Finding.{IsAt}
use Rattle.cert_accepted.specs.declared.frame.AcceptedFrame.{AcceptedFrame}
use Rattle.cert_accepted.specs.Standing.{IsLevelFrameOf, IsAtStart}

pub starts_at : (place : AcceptedFrame) (n : ℕ) (level_frame : LevelFrame) (l : Reached) → IsLevelFrameOf place n level_frame → IsAtStart place n l → IsAt level_frame l
starts_at place n level_frame l of start = record {
  format_is = (λ j. format_at (of.profile_is j).methods (of.method_is j) (of.format_is j)) ∙ start.format_is;
  sizes_are = (λ j. sizes_at (of.profile_is j).sizes (of.method_is j) (of.format_is j)) ∙ start.sizes_are;
}
