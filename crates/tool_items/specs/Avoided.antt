-- What `why --not` prints of a format: what stands against it for the items that are packed by others (docs/FORMATS.md).
use Rattle.std.specs.Prelude.{◌≡◌, ℕ, ◌-◌, ◌==◌, if◌then◌else◌, List, [], ◌∷◌, ◌++◌, codes, decimal, slice_get, Option, Some, None}
use Rattle.sem_filling.specs.declared.filling.AskedValue.{AskedValue}
use Rattle.sem_filling.specs.declared.filling.Item.{Item}
use Rattle.sem_profile.specs.Resolved.{Resolved}
use Rattle.tool_items.specs.declared.avoided.Fate.{Fate}
use Rattle.tool_items.specs.declared.avoided.Fate.TheVariants.{Refused, Absent, Taken, Against, Later}
use Rattle.tool_items.specs.declared.avoided.Verdict.{Verdict}
use Rattle.tool_items.specs.declared.avoided.Verdicts.{Verdicts}
use Rattle.tool_items.specs.Why.{reasons_text}
use Rattle.tool_names.specs.Names.{format_name}

-- how many items are packed by the format, by others, and not at all
abbrev pub head_text : List ℕ → ℕ → ℕ → ℕ → List ℕ
head_text name taken others refused = codes "format " ++ name ++ codes " items " ++ decimal taken ++ codes " others " ++ decimal others ++ codes " refused " ++ decimal refused

-- how many packets have no method with the format
abbrev pub counted_without : ℕ → List ℕ
counted_without n = codes " without " ++ decimal n

abbrev pub without_words : ℕ → List ℕ
without_words n = if n == 0 then [] else counted_without n

-- the first line
abbrev pub count_line : List ℕ → Verdicts → List ℕ
count_line name vs = head_text name vs.taken vs.others vs.refused ++ without_words vs.without

-- how many items are of a kind, and which is the first
abbrev pub block_head : ℕ → ℕ → List ℕ
block_head count number = codes "\nitems " ++ decimal count ++ codes " first " ++ decimal number

abbrev pub later_words : ℕ → List ℕ
later_words bits = codes ": it fits with " ++ decimal bits ++ codes " bits, and comes later"

-- the asked values of the item of a number, counted from 1
abbrev pub asked_in : Option Item → List AskedValue
asked_in None = []
asked_in (Some it) = it.asked

abbrev pub asked_of : List Item → ℕ → List AskedValue
asked_of items n = if n == 0 then [] else asked_in (slice_get items (n - 1))

-- by which format the item is packed, and what stands against the other one, or that it comes later
abbrev pub fate_text : List ℕ → Resolved → List AskedValue → Fate → List ℕ
fate_text octets p asked Refused = []
fate_text octets p asked Absent = []
fate_text octets p asked Taken = []
fate_text octets p asked (Against method taken lines) = codes " by " ++ format_name p.methods method taken ++ reasons_text octets p asked lines
fate_text octets p asked (Later method taken bits) = codes " by " ++ format_name p.methods method taken ++ later_words bits

abbrev pub block_text : List ℕ → Resolved → List Item → ℕ → Verdict → List ℕ
block_text octets p items count v = block_head count v.number ++ fate_text octets p (asked_of items v.number) v.fate

-- Blocks, each of a verdict that is kept. Which ones stand there, how they are counted and in which order they stand is tested.
pub data AreBlocks (octets : List ℕ) (p : Resolved) (items : List Item) (kept : List Verdict) : List ℕ → Type 0 where
  no_blocks : AreBlocks octets p items kept []
  a_block : {rest : List ℕ} (place count : ℕ) (v : Verdict) → slice_get kept place ≡ Some v → AreBlocks octets p items kept rest → AreBlocks octets p items kept (block_text octets p items count v ++ rest)

pub record IsAvoidedText (octets : List ℕ) (p : Resolved) (name : List ℕ) (items : List Item) (vs : Verdicts) (text : List ℕ) : Type 0 where
  pub blocks : List ℕ
  pub blocks_are : AreBlocks octets p items vs.kept blocks
  pub text_is : text ≡ count_line name vs ++ blocks

-- what is kept stays as it is, or this verdict is kept, too
pub data Keeps (n : ℕ) (fate : Fate) (old new : List Verdict) : Type 0 where
  keeps_same : new ≡ old → Keeps n fate old new
  keeps_more : new ≡ old ++ record { number = n; fate = fate } ∷ [] → Keeps n fate old new
