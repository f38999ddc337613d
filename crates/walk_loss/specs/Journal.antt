-- What is read of packets after losses, one after the other (docs/DEFINITIONS.md, Losses).
use Rattle.std.specs.Prelude.{◌≡◌, ◌≢◌, ℕ, ◌+◌, ◌-◌, nat_eq, Bool, true, false, ◌&&◌, ◌||◌, is_some, List, [], ◌∷◌, ◌++◌, length, map, find, slice_get, Option, Some, None}
use Rattle.sem_context.specs.Entries.{Entries, bits_at}
use Rattle.sem_filling.specs.declared.filling.Filling.{Filling, out-Filling}
use Rattle.sem_filling.specs.declared.filling.Item.{Item}
use Rattle.sem_filling.specs.Fillings.{packed}
use Rattle.cert_accepted.specs.Accepted.{Accepting}
use Rattle.walk_engine.specs.declared.search.Packed.{Packed}
use Rattle.walk_loss.specs.declared.reception.Heard.{Heard}
use Rattle.walk_loss.specs.declared.reception.HeardKind.{HeardKind}
use Rattle.walk_loss.specs.declared.reception.HeardKind.TheVariants as kinds
use Rattle.walk_loss.specs.declared.journal.Case.{Case}
use Rattle.walk_loss.specs.declared.journal.Journal.{Journal}
use Rattle.walk_loss.specs.declared.journal.Reading.{Reading}
use Rattle.walk_loss.specs.Reception.{IsHeard, kind}
use Rattle.walk_loss.specs.Unserved.{HasUnserved}
use Rattle.walk_loss.specs.Uses.{FitsAnywhere}

-- what was sent fits somewhere, and its bits are those that were packed
pub record IsSent (a : Accepting) (p : Packed) : Type 0 where
  pub fits : FitsAnywhere a.profile.methods a.profile.top [] [] p.filling
  pub packed_is : p.packed ≡ packed p.filling

-- what a receiver in a context heard of the packet of a number to which so many right before were lost
pub record Entry : Type 0 where
  pub lost : ℕ
  pub number : ℕ
  pub filling : Filling
  pub context : Entries
  pub heard : Heard

-- what is counted of it
abbrev pub reading_of : Entry → Reading
reading_of e = record { lost = e.lost; format = (out-Filling e.filling).format; kind = kind e.heard }

abbrev pub same_kind : HeardKind → HeardKind → Bool
same_kind kinds.Right kinds.Right = true
same_kind kinds.Wrong kinds.Wrong = true
same_kind kinds.Refused kinds.Refused = true
same_kind _ _ = false

-- ---- the first of a kind after so many lost packets

abbrev pub is_entry : ℕ → HeardKind → Entry → Bool
is_entry n k e = nat_eq e.lost n && same_kind (kind e.heard) k

abbrev pub first_entry : ℕ → HeardKind → List Entry → Option Entry
first_entry n k es = find (is_entry n k) es

abbrev pub is_case : ℕ → HeardKind → Case → Bool
is_case n k c = nat_eq c.lost n && same_kind (kind c.heard) k

abbrev pub first_case : ℕ → HeardKind → List Case → Option Case
first_case n k cs = find (is_case n k) cs

-- nothing is to be told of that kind after so many lost packets: it is right, or there is a case of it
abbrev pub is_known : ℕ → HeardKind → List Case → Bool
is_known n k cs = same_kind k kinds.Right || is_some (first_case n k cs)

-- the case tells of what was heard, and of each use that didn't serve
pub record IsCaseOf (a : Accepting) (e : Entry) (c : Case) : Type 0 where
  pub lost_is : c.lost ≡ e.lost
  pub number_is : c.number ≡ e.number
  pub format_is : c.format ≡ (out-Filling e.filling).format
  pub heard_is : c.heard ≡ e.heard
  pub unserved : HasUnserved a.profile.methods (bits_at e.context) a.profile.top [] [] e.filling c.unserved

-- both are there, and the case tells of it, or neither is
abbrev pub TellsOf : Accepting → Option Entry → Option Case → Type 0
TellsOf a (Some e) (Some c) = IsCaseOf a e c
TellsOf a None None = Unit {0}
TellsOf a _ _ = ⊥

-- the journal of what was heard: what is counted of each; and after so many lost packets the first wrong case, and the first that is refused
pub record IsJournal (a : Accepting) (es : List Entry) (j : Journal) : Type 0 where
  pub readings_are : j.readings ≡ map reading_of es
  pub cases_are : (n : ℕ) (k : HeardKind) → k ≢ kinds.Right → TellsOf a (first_entry n k es) (first_case n k j.cases)

-- ---- what is added

abbrev pub entry : ℕ → ℕ → Packed → Entries → Heard → Entry
entry lost number p ctx h = record { lost = lost; number = number; filling = p.filling; context = ctx; heard = h }

-- what one receiver heard
pub record AddsOne (a : Accepting) (ctx : Entries) (lost number : ℕ) (it : Item) (p : Packed) (old new : Journal) : Type 0 where
  pub heard : Heard
  pub is_heard : IsHeard a ctx it p.packed heard
  pub grows : (es : List Entry) → IsJournal a es old → IsJournal a (es ++ entry lost number p ctx heard ∷ []) new

-- the context so many before the newest one
abbrev pub back : List Entries → ℕ → Option Entries
back held lost = slice_get held (length held - (lost + 1))

-- What is heard of a packet by the first n receivers: in the newest context, in the one before it, and so on.
pub data AreHeard (a : Accepting) (held : List Entries) (number : ℕ) (it : Item) (p : Packed) : ℕ → List Entry → Type 0 where
  none_heard : AreHeard a held number it p 0 []
  one_hears : {n : ℕ} {es : List Entry} (c : Entries) (h : Heard) → AreHeard a held number it p n es → back held n ≡ Some c → IsHeard a c it p.packed h → AreHeard a held number it p (n + 1) (es ++ entry n number p c h ∷ [])

-- what all hear
pub record AddsFirst (a : Accepting) (held : List Entries) (number : ℕ) (it : Item) (p : Packed) (n : ℕ) (old new : Journal) : Type 0 where
  pub entries : List Entry
  pub are_heard : AreHeard a held number it p n entries
  pub grows : (es : List Entry) → IsJournal a es old → IsJournal a (es ++ entries) new

abbrev pub AddsAll : Accepting → List Entries → ℕ → Item → Packed → Journal → Journal → Type 0
AddsAll a held number it p old new = AddsFirst a held number it p (length held) old new
