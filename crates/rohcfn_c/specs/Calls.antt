-- The calls behind a handle: with no session they answer that it is closed, and change nothing.
use Rattle.std.specs.Prelude.{◌≡◌, ℕ, List, Option, Some, None}
use Rattle.rohcfn_c.specs.declared.opened.Opened.{Opened}
use Rattle.rohcfn_c.specs.declared.steps.Counts.{Counts}
use Rattle.rohcfn_c.specs.declared.answer.CallAnswer.{CallAnswer}
use Rattle.rohcfn_c.specs.declared.answer.CallAnswer.TheVariants.{Done, NoMemory, Closed}
use Rattle.rohcfn_c.specs.Lines.{IsCut, why_text}
use Rattle.rohcfn_c.specs.Steps.{PackTold, UnpackTold, ResetTold, RobustTold, ContextsTold, AreMost, AskedTold}

-- there is no session behind the handle, and the room is as it was
pub record IsClosed (new : Option Opened) (room room_new : List ℕ) (told : CallAnswer) : Type 0 where
  pub told_is : told ≡ Closed
  pub stays : new ≡ None
  pub room_stays : room_new ≡ room

abbrev pub Packs : ℕ → List ℕ → ℕ → List ℕ → Option Opened → Option Opened → List ℕ → List ℕ → ℕ → ℕ → CallAnswer → Type 0
Packs flow header count asked None new room written before n told = IsClosed new room written told
Packs flow header count asked (Some o) None room written before n told = ⊥
Packs flow header count asked (Some o) (Some new) room written before n told = PackTold o new flow header count asked room written before n told

abbrev pub Unpacks : ℕ → List ℕ → ℕ → Option Opened → Option Opened → List ℕ → List ℕ → List ℕ → List ℕ → Counts → Counts → CallAnswer → Type 0
Unpacks flow packed count None new header header_written asked asked_written before n told = IsClosed new header header_written told × (asked_written ≡ asked)
Unpacks flow packed count (Some o) None header header_written asked asked_written before n told = ⊥
Unpacks flow packed count (Some o) (Some new) header header_written asked asked_written before n told = UnpackTold o new flow packed count header header_written asked asked_written before n told

abbrev pub Resets : ℕ → Option Opened → Option Opened → CallAnswer → Type 0
Resets flow None new told = (told ≡ Closed) × (new ≡ None)
Resets flow (Some o) None told = ⊥
Resets flow (Some o) (Some new) told = ResetTold o new flow told

abbrev pub Endures : ℕ → ℕ → Option Opened → Option Opened → CallAnswer → Type 0
Endures flow lost None new told = (told ≡ Closed) × (new ≡ None)
Endures flow lost (Some o) None told = ⊥
Endures flow lost (Some o) (Some new) told = RobustTold o new flow lost told

abbrev pub CountsHeld : ℕ → Option Opened → ℕ → ℕ → CallAnswer → Type 0
CountsHeld flow None before n told = told ≡ Closed
CountsHeld flow (Some o) before n told = ContextsTold o flow before n told

abbrev pub TellsMost : Option Opened → ℕ → ℕ → CallAnswer → Type 0
TellsMost None header packet told = told ≡ Closed
TellsMost (Some o) header packet told = (told ≡ Done) × AreMost o header packet

abbrev pub TellsAsked : ℕ → Option Opened → List ℕ → List ℕ → ℕ → ℕ → ℕ → ℕ → CallAnswer → Type 0
TellsAsked index None name name_new said said_new bits bits_new told = told ≡ Closed
TellsAsked index (Some o) name name_new said said_new bits bits_new told = AskedTold o index name name_new said said_new bits bits_new told

-- the line of the last refusal is told, or memory ran out
abbrev pub TellsWhy : Option Opened → List ℕ → List ℕ → ℕ → CallAnswer → Type 0
TellsWhy None line line_new said told = told ≡ Closed
TellsWhy (Some o) line line_new said Done = IsCut (why_text o.session.accepted.profile.methods o.last) line line_new said
TellsWhy (Some o) line line_new said NoMemory = line_new ≡ line
TellsWhy (Some o) line line_new said told = ⊥
