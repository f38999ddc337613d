-- What the robust sender answers (docs/DEFINITIONS.md, Losses).
use Rattle.std.specs.Prelude.{◌≡◌, ℕ, ◌-◌, ◌<◌, ◌≤◌, List, [], Some, length, option_map, slice_get, unwrap_or}
use Rattle.sem_context.specs.Entries.{Entries}
use Rattle.cert_candidates.specs.Best.{IsUpTo}
use Rattle.cert_candidates.specs.Codes.{code}
use Rattle.sem_filling.specs.declared.filling.Filling.{Filling}
use Rattle.sem_filling.specs.declared.filling.Item.{Item}
use Rattle.sem_filling.specs.Entries.{next}
use Rattle.sem_filling.specs.Fillings.{item, packed}
use Rattle.cert_accepted.specs.Accepted.{Accepting}
use Rattle.sem_elsewhere.specs.Held.{Holding}
use Rattle.walk_engine.specs.declared.search.Packed.{Packed}
use Rattle.walk_engine.specs.declared.writer.PackFault.{PackFault}
use Rattle.walk_engine.specs.declared.writer.PackFault.TheVariants as pack
use Rattle.walk_engine.specs.Reading.{Fitting}
use Rattle.walk_engine.specs.Writing as writing
use Rattle.walk_engine.specs.Writing.{IsWritable}
use Rattle.walk_robust.specs.declared.sender.RobustFault.{RobustFault}
use Rattle.walk_robust.specs.declared.sender.RobustFault.TheVariants as fault
use Rattle.walk_robust.specs.Sending.{AreHeldAfter, HasJust, Sending, held, stayed}

abbrev pub pair_limit : ℕ
pair_limit = 256

-- the filling fits in each of the contexts
abbrev pub FitsEach : Accepting → List Holding → Filling → Type 0
FitsEach a hs f = (i : ℕ) (h : Holding) → slice_get hs i ≡ Some h → Fitting a h.context f

-- it fits in the own context, too
abbrev pub FitsAll : Accepting → Entries → List Holding → Filling → Type 0
FitsAll a own others f = Fitting a own f × FitsEach a others f

-- The filling fits in the own context and in each of the others, and has the item; and what does, and does not come later, is the filling itself.
pub record IsBest (a : Accepting) (own : Entries) (others : List Holding) (it : Item) (f : Filling) : Type 0 where
  pub fits : Fitting a own f
  pub each : FitsEach a others f
  pub has : item f ≡ it
  pub first : (g : Filling) → Fitting a own g → FitsEach a others g → item g ≡ it → IsUpTo (code a.profile.methods a.certificate.methods g a.profile.top) (code a.profile.methods a.certificate.methods f a.profile.top) → g ≡ f

-- this is what is packed of the item
pub record IsBestFor (a : Accepting) (own : Entries) (others : List Holding) (it : Item) (p : Packed) : Type 0 where
  pub writable : IsWritable a it
  pub best : IsBest a own others it p.filling
  pub packed_is : p.packed ≡ packed p.filling

-- a filling that fits in the context has the item
abbrev pub IsPackable : Accepting → Entries → Item → Type 0
IsPackable a own it = (f : Filling) × Fitting a own f × (item f ≡ it)

-- A filling that fits in the own context has the item, and none that fits in all does.
pub record HasNoReach (a : Accepting) (own : Entries) (others : List Holding) (it : Item) : Type 0 where
  pub writable : IsWritable a it
  pub some : Filling
  pub fits : Fitting a own some
  pub has : item some ≡ it
  pub none : (g : Filling) → Fitting a own g → FitsEach a others g → item g ≡ it → ⊥

-- why no filling was found
abbrev pub LacksReach : RobustFault → Accepting → Entries → List Holding → Item → Type 0
LacksReach (fault.Pack e) a own others it = writing.Blames e a own it
LacksReach fault.NoReach a own others it = HasNoReach a own others it
LacksReach fault.Contexts a own others it = ⊥

-- the context of the last of the others, or the own one where there is none
abbrev pub last_of : Entries → List Holding → Entries
last_of own others = unwrap_or (option_map (λ h. h.context) (slice_get others (length others - 1))) own

-- a fault of `pack` in one context, in the place of that in the own one: where no filling fits there, some fits in the own one, or why none does
abbrev pub IsRefusal : PackFault → Accepting → Entries → Item → RobustFault → Type 0
IsRefusal pack.NoFormat a own it fault.NoReach = IsPackable a own it
IsRefusal pack.NoFormat a own it (fault.Pack e) = writing.Blames e a own it
IsRefusal pack.NoFormat a own it fault.Contexts = ⊥
IsRefusal e a own it r = r ≡ fault.Pack e

-- ---- going on

-- the sender after a filling
pub record HasPacked (old : Sending) (f : Filling) (new : Sending) : Type 0 where
  pub own_is : new.own ≡ next old.own f
  pub lost_is : new.lost ≡ old.lost
  pub held_are : AreHeldAfter old.lost (held old) (held new) f
  pub few : length (held new) ≤ pair_limit

-- the oldest context is taken out, or nothing, so that the same stay where the next packet is lost
pub record SparesOldest (old new : Sending) : Type 0 where
  pub own_is : new.own ≡ old.own
  pub lost_is : new.lost ≡ old.lost
  pub staying : stayed new.lost (held new) ≡ stayed old.lost (held old)

-- the oldest context stays no longer, and it and the own one have just the paths of these entries, in their order
pub record CanSpare (s : Sending) (left : Entries) : Type 0 where
  pub oldest : Holding
  pub at : slice_get s.others (length s.others - 1) ≡ Some oldest
  pub gone : s.lost ≤ oldest.gap
  pub has_just : HasJust left oldest.context
  pub own_has_just : HasJust left s.own

-- more would be held after it
pub record HasTooMany (old : Sending) (f : Filling) : Type 0 where
  pub after : List Holding
  pub held_are : AreHeldAfter old.lost (held old) after f
  pub many : pair_limit < length after

abbrev pub Overflows : RobustFault → Sending → Filling → Type 0
Overflows (fault.Pack pack.OutOfMemory) s f = Unit {0}
Overflows fault.Contexts s f = HasTooMany s f
Overflows e s f = ⊥

-- ---- packing

-- what was sent: the best filling for the item, with its packed bits; and the sender has gone on by it
pub record IsSent (a : Accepting) (old : Sending) (it : Item) (p : Packed) (new : Sending) : Type 0 where
  pub best : IsBestFor a old.own old.others it p
  pub goes_on : HasPacked old p.filling new

-- the best filling leaves too many pairs
pub record HasNoRoom (a : Accepting) (old : Sending) (it : Item) : Type 0 where
  pub packed : Packed
  pub best : IsBestFor a old.own old.others it packed
  pub many : HasTooMany old packed.filling

-- what a fault says of the item
abbrev pub Blames : RobustFault → Accepting → Sending → Item → Type 0
Blames (fault.Pack e) a s it = writing.Blames e a s.own it
Blames fault.NoReach a s it = HasNoReach a s.own s.others it
Blames fault.Contexts a s it = HasNoRoom a s it

-- ---- resets

-- A reset empties the own context. It is itself a packet that may be lost, so what was held stays so where more may be lost.
abbrev pub emptied : Sending → Sending
emptied s = record { own = []; others = stayed s.lost (held s); lost = s.lost }

-- the sender after a reset
pub record IsEmptied (old new : Sending) : Type 0 where
  pub new_is : new ≡ emptied old
  pub few : length (held new) ≤ pair_limit

-- why there was none: more would be held after it, or memory ran out
abbrev pub LacksRoom : RobustFault → Sending → Type 0
LacksRoom (fault.Pack pack.OutOfMemory) s = Unit {0}
LacksRoom fault.Contexts s = pair_limit < length (held (emptied s))
LacksRoom e s = ⊥
