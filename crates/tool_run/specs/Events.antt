-- The lines of events.
use Rattle.std.specs.Prelude.{◌≡◌, ◌==◌, ◌<◌, ℕ, List, [], ◌∷◌, codes, decimal}
use Rattle.std.specs.List.{slice_split}
use Rattle.sem_filling.specs.declared.filling.Item.{Item}
use Rattle.walk_line.specs.Lines.{flow_limit}
use Rattle.walk_line.specs.declared.runs.Event.{Event}
use Rattle.walk_line.specs.declared.runs.Event.TheVariants.{Send, Reset}
use Rattle.tool_input.specs.Inputs.{AreItemWords}

-- the word is the number of a flow, of some line
pub record IsFlow (word : List ℕ) (flow : ℕ) : Type 0 where
  pub below : flow < flow_limit
  pub spelled : word ≡ decimal flow

-- a flow, and then the words of an item
abbrev pub AreSendWords : List (List ℕ) → ℕ → Item → Type 0
AreSendWords [] flow it = ⊥
AreSendWords (word ∷ words) flow it = IsFlow word flow × AreItemWords words it

-- a flow, and nothing else
abbrev pub AreResetWords : List (List ℕ) → ℕ → Type 0
AreResetWords [] flow = ⊥
AreResetWords (word ∷ words) flow = IsFlow word flow × (words ≡ [])

-- `send`, a flow and an item; or `reset` and a flow
abbrev pub AreEventWords : List (List ℕ) → Event → Type 0
AreEventWords [] e = ⊥
AreEventWords (word ∷ words) (Send flow it) = (word ≡ codes "send") × AreSendWords words flow it
AreEventWords (word ∷ words) (Reset flow) = (word ≡ codes "reset") × AreResetWords words flow

-- the line is read as this event: its words are those between the blanks
abbrev pub IsEvent : List ℕ → Event → Type 0
IsEvent line e = AreEventWords (slice_split (λ octet. octet == 32) line) e

-- the words between the blanks are a flow and an item; or a flow, and nothing else
abbrev pub IsSend : List ℕ → ℕ → Item → Type 0
IsSend text flow it = AreSendWords (slice_split (λ octet. octet == 32) text) flow it

abbrev pub IsReset : List ℕ → ℕ → Type 0
IsReset text flow = AreResetWords (slice_split (λ octet. octet == 32) text) flow
