-- What is answered to `loss` (docs/FORMATS.md).
use Rattle.std.specs.Prelude.{◌≡◌, ℕ, ◌+◌, nat_eq, nat_lt, List, [], ◌∷◌, ◌++◌, drop, length, Option, Some, None, string_bytes, if◌then◌else◌}
use Rattle.cert_accepted.specs.Accepted.{Accepting}
use Rattle.sem_context.specs.Entries.{Entries}
use Rattle.walk_engine.specs.declared.search.Packed.{Packed}
use Rattle.walk_robust.specs.declared.sender.RobustFault.{RobustFault}
use Rattle.sem_filling.specs.declared.filling.Filling.{Filling}
use Rattle.sem_filling.specs.declared.filling.Item.{Item}
use Rattle.walk_loss.specs.declared.journal.Journal.{Journal}
use Rattle.walk_loss.specs.Journal.{AddsAll, AreHeard, Entry, IsJournal}
use Rattle.tool_items.specs.declared.counts.Tally.{Tally}
use Rattle.tool_items.specs.Counts.{one_more, tally}
use Rattle.tool_input.specs.OneLine.{IsLine}
use Rattle.tool_input.specs.Refusals as refusals
use Rattle.tool_input.specs.declared.status.Answer.{Answer}
use Rattle.tool_input.specs.declared.status.Status.{Status}
use Rattle.tool_input.specs.declared.status.Status.TheVariants as status
use Rattle.tool_loss.specs.Loss.{loss_text}
use Rattle.tool_loss.specs.LossObjects.{loss_objects}
use Rattle.tool_words.specs.declared.words.Form.{Form}
use Rattle.tool_words.specs.declared.words.Form.TheVariants as form
use Rattle.tool_run.specs.Senders.{Blames, IsSenderFault, RefusesSent, Sends, own_of}
use Rattle.tool_run.specs.declared.loss.LossRun.{LossRun}
use Rattle.tool_run.specs.declared.sender.Sender.{Sender}

-- ---- the contexts that are held

-- of more than one for each number of lost packets the oldest goes
abbrev pub fewer : ℕ → List Entries → List Entries
fewer most cs = if nat_lt (most + 1) (length cs) then drop 1 cs else cs

-- Before the first packet a receiver has read nothing: that context goes.
abbrev pub kept : ℕ → List Entries → List Entries
kept n held = if nat_eq n 1 then [] else held

-- after the packet of the number n
abbrev pub held_after : ℕ → ℕ → List Entries → Entries → List Entries
held_after most n held c = fewer most (kept n held ++ c ∷ [])

-- ---- packet by packet

-- The sender packs each of these items, and receivers in each of the held contexts hear its packet: the fillings, and what is heard. The context of the sender
-- after it is held then.
pub data Loses (a : Accepting) (most : ℕ) : Sender → List Entries → ℕ → List Item → List Filling → List Entry → Type 0 where
  none_left : {s : Sender} {held : List Entries} {n : ℕ} → Loses a most s held n [] [] []
  one_lost : {s : Sender} {held : List Entries} {n : ℕ} {it : Item} {its : List Item} {fs : List Filling} {es more : List Entry} (p : Packed) (after : Sender) → Sends a s it p after
      → AreHeard a held n it p (length held) es → Loses a most after (held_after most n held (own_of after)) (n + 1) its fs more → Loses a most s held n (it ∷ its) (p.filling ∷ fs) (es ++ more)

-- The first of these that is refused has this line.
pub data IsLossFault (a : Accepting) : Sender → ℕ → List Item → List ℕ → Type 0 where
  refused_now : {s : Sender} {n : ℕ} {it : Item} {its : List Item} {text : List ℕ} → RefusesSent a s n it text → IsLossFault a s n (it ∷ its) text
  refused_later : {s : Sender} {n : ℕ} {it : Item} {its : List Item} {text : List ℕ} (p : Packed) (after : Sender) → Sends a s it p after
      → IsLossFault a after (n + 1) its text → IsLossFault a s n (it ∷ its) text

-- what is told of all readings, as text or as objects
abbrev pub losses_in : Form → Accepting → ℕ → Tally → Journal → List ℕ
losses_in form.Text a most all j = loss_text a.profile.methods a.profile.top most all j.readings j.cases
losses_in form.Json a most all j = loss_objects a.profile.methods a.profile.top most all j.readings j.cases

-- What `loss` prints for items that a sender packs: what is counted and told of all packets, or the line of the first item that is refused.
pub data LossBy (form : Form) (most : ℕ) (a : Accepting) (s : Sender) (items : List Item) : Status → List ℕ → Type 0 where
  losses_told : (fs : List Filling) (es : List Entry) (j : Journal) → Loses a most s (own_of s ∷ []) 1 items fs es → IsJournal a es j
      → LossBy form most a s items status.Done (losses_in form a most (tally fs) j ++ 10 ∷ [])
  item_refused : (text : List ℕ) → IsLossFault a s 1 items text → LossBy form most a s items status.Refused (text ++ 10 ∷ [])

-- ---- the steps

abbrev pub LosesItems : Form → ℕ → Accepting → Sender → List Item → Answer → Type 0
LosesItems form most a s items = refusals.Holds (LossBy form most a s items)

-- the line of a fault
abbrev pub IsRefusedLoss : RobustFault → ℕ → Answer → Type 0
IsRefusedLoss e n answer = (text : List ℕ) × IsSenderFault e n text × IsLine text × refusals.IsRefusal text answer

-- what came of an item that was packed
pub record IsLost (a : Accepting) (most : ℕ) (from to : Sender) (old new : List Entries) (before after : Tally) (was is : Journal) (n : ℕ) (it : Item) : Type 0 where
  pub packed : Packed
  pub sent : Sends a from it packed to
  pub adds : AddsAll a old n it packed was is
  pub tally_is : after ≡ one_more packed.filling before
  pub new_is : new ≡ held_after most n old (own_of to)

-- or of one that was refused
abbrev pub IsLossStep : Accepting → ℕ → LossRun → LossRun → ℕ → Item → Option RobustFault → Type 0
IsLossStep a most old new n it None = IsLost a most old.sender new.sender old.held new.held old.tally new.tally old.journal new.journal n it
IsLossStep a most old new n it (Some e) = Blames e a old.sender it

pub record IsPrintedLoss (form : Form) (a : Accepting) (most : ℕ) (all : Tally) (j : Journal) (answer : Answer) : Type 0 where
  pub status_is : answer.status ≡ status.Done
  pub output_is : string_bytes answer.output ≡ losses_in form a most all j ++ 10 ∷ []
