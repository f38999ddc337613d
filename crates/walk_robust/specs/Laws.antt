-- Packets of the robust sender, and what a receiver reads of those that come through (docs/DEFINITIONS.md, Losses).
use Rattle.std.specs.Prelude.{◌≡◌, ℕ, suc, ◌<◌, Bool, List, [], ◌∷◌, Some, fold, map, slice_get}
use Rattle.sem_context.specs.Entries.{Entries}
use Rattle.sem_filling.specs.declared.filling.Filling.{Filling}
use Rattle.sem_filling.specs.declared.filling.Item.{Item}
use Rattle.sem_filling.specs.Fillings.{item}
use Rattle.sem_filling.specs.Entries.{next}
use Rattle.cert_accepted.specs.Accepted.{Accepting, IsDeterminate}
use Rattle.walk_engine.specs.declared.search.Packed.{Packed}
use Rattle.walk_engine.specs.declared.writer.PackFault.{PackFault}
use Rattle.walk_engine.specs.Writing as writing
use Rattle.sem_elsewhere.specs.Held.{Holding, IsHeld}
use Rattle.sem_elsewhere.specs.Robust.{ComesThrough}
use Rattle.sem_elsewhere.specs.Runs.{Arrives}
use Rattle.walk_engine.specs.Laws.{AreSame}
use Rattle.walk_loss.specs.Losses.{AreReadBack}
use Rattle.walk_robust.specs.declared.sender.RobustFault.{RobustFault}
use Rattle.walk_robust.specs.declared.sender.RobustFault.TheVariants as fault
use Rattle.walk_robust.specs.Sending.{Sending, held}
use Rattle.walk_robust.specs.Answers.{IsSent, Blames, emptied}

-- what the sender packed of items, one after the other
pub data Packs (a : Accepting) : Sending → List Item → List Packed → Sending → Type 0 where
  packs_none : {s : Sending} → Packs a s [] [] s
  packs : {s end : Sending} {it : Item} {its : List Item} {p : Packed} {ps : List Packed} (new : Sending) → IsSent a s it p new → Packs a new its ps end → Packs a s (it ∷ its) (p ∷ ps) end

-- the context of a receiver after it read fillings
abbrev pub after : Entries → List Filling → Entries
after ctx fs = fold next ctx fs

abbrev pub fillings : List Packed → List Filling
fillings ps = map (λ p. p.filling) ps

-- Each packet that comes through is read as the item that it was packed for, and the receiver's context is one of those held.
pub record DoesNoHarm (a : Accepting) (end : Sending) (other : Entries) (its : List Item) (ps : List Packed) (got : List Filling) (bits : List (List Bool)) : Type 0 where
  pub items_are : map item (fillings ps) ≡ its
  pub read_back : AreReadBack a other got bits
  pub gap : ℕ
  pub is_held : IsHeld (held end) gap (after other got)

-- Whatever is lost of what the sender packed, never more packets in a row than it was told: it does no harm to a receiver that began in the sender's context.
abbrev pub LossDoesNoHarm : Type 0
LossDoesNoHarm = (a : Accepting) → IsDeterminate a → (s end : Sending) → s.others ≡ [] → (other : Entries) → AreSame s.own other → (its : List Item) (ps : List Packed) → Packs a s its ps end →
    (got : List Filling) (bits : List (List Bool)) → ComesThrough s.lost 0 (fillings ps) got → Arrives got bits → DoesNoHarm a end other its ps got bits

-- the answers are those of `pack`, and nothing beside the own context is held then
pub record AnswersAsPack (a : Accepting) (s : Sending) (it : Item) : Type 0 where
  pub sent : (p : Packed) (new : Sending) → IsSent a s it p new → writing.IsPacked a s.own it p × (new.others ≡ [])
  pub refused : (e : RobustFault) → Blames e a s it → (f : PackFault) × (e ≡ fault.Pack f) × writing.Blames f a s.own it

abbrev pub AsPack : Type 0
AsPack = (a : Accepting) (s : Sending) → s.others ≡ [] → s.lost ≡ 0 → (it : Item) → AnswersAsPack a s it

-- What is held after a reset: the empty context, where it came; and where it was lost, and so many may be, what it was.
pub record ResetGoesOn (s : Sending) : Type 0 where
  pub came : IsHeld (held (emptied s)) 0 []
  pub lost : (i : ℕ) (h : Holding) → slice_get (held s) i ≡ Some h → h.gap < s.lost → IsHeld (held (emptied s)) (suc h.gap) h.context

abbrev pub ResetsAreHeld : Type 0
ResetsAreHeld = (s : Sending) → ResetGoesOn s
