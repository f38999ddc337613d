-- Who packs items: the plain sender in its context, or the one whose packets survive losses (docs/DEFINITIONS.md, Losses).
use Rattle.std.specs.Prelude.{◌≡◌, ◌≢◌, ℕ, List, [], ◌++◌, codes, decimal}
use Rattle.cert_accepted.specs.Accepted.{Accepting}
use Rattle.sem_context.specs.Entries.{Entries}
use Rattle.walk_engine.specs.Writing as writing
use Rattle.walk_engine.specs.declared.search.Packed.{Packed}
use Rattle.walk_engine.specs.declared.writer.PackFault.TheVariants as writer
use Rattle.sem_filling.specs.Entries.{next}
use Rattle.sem_filling.specs.declared.filling.Item.{Item}
use Rattle.walk_robust.specs.Answers as robust
use Rattle.walk_robust.specs.Lacks as lacking
use Rattle.walk_loss.specs.declared.unserved.Lack.{Lack}
use Rattle.walk_robust.specs.declared.sender.RobustFault.{RobustFault}
use Rattle.walk_robust.specs.declared.sender.RobustFault.TheVariants.{Pack, NoReach, Contexts}
use Rattle.tool_input.specs.OneLine.{IsLine}
use Rattle.tool_run.specs.Refused.{IsItemFault}
use Rattle.tool_run.specs.declared.sender.Sender.{Sender}
use Rattle.tool_run.specs.declared.sender.Sender.TheVariants.{Plain, Surviving}

-- the robust sender in a context, where so many packets in a row may be lost
abbrev pub surviving : Entries → ℕ → Sender
surviving ctx lost = Surviving (record { own = ctx; others = []; lost = lost })

-- a sender's own context
abbrev pub own_of : Sender → Entries
own_of (Plain ctx) = ctx
own_of (Surviving s) = s.own

-- the best filling that fits in the context is packed, and its entries go over the context
abbrev pub SendsPlain : Accepting → Entries → Item → Packed → Entries → Type 0
SendsPlain a ctx it p after = writing.IsPacked a ctx it p × (after ≡ next ctx p.filling)

-- what is packed of an item, and the sender as it is then
abbrev pub Sends : Accepting → Sender → Item → Packed → Sender → Type 0
Sends a (Plain ctx) it p (Plain after) = SendsPlain a ctx it p after
Sends a (Plain ctx) it p (Surviving after) = ⊥
Sends a (Surviving s) it p (Surviving after) = robust.IsSent a s it p after
Sends a (Surviving s) it p (Plain after) = ⊥

-- what a fault says of an item: in a context that of `pack`
abbrev pub BlamesPlain : RobustFault → Accepting → Entries → Item → Type 0
BlamesPlain (Pack e) a ctx it = writing.Blames e a ctx it
BlamesPlain NoReach a ctx it = ⊥
BlamesPlain Contexts a ctx it = ⊥

abbrev pub Blames : RobustFault → Accepting → Sender → Item → Type 0
Blames e a (Plain ctx) it = BlamesPlain e a ctx it
Blames e a (Surviving s) it = robust.Blames e a s it

-- that a line lacks a flow is said of events alone
abbrev pub IsOfItem : RobustFault → Type 0
IsOfItem (Pack e) = e ≢ writer.Flow
IsOfItem NoReach = Unit {0}
IsOfItem Contexts = Unit {0}

-- the line of a refused item, by its number from 1 (docs/FAULTS.md)
abbrev pub IsSenderFault : RobustFault → ℕ → List ℕ → Type 0
IsSenderFault (Pack e) n text = IsItemFault e n text
IsSenderFault NoReach n text = text ≡ codes "item " ++ decimal n ++ codes ": F5 NoReach"
IsSenderFault Contexts n text = text ≡ codes "item " ++ decimal n ++ codes ": F6 Contexts"

-- a fault that is there, with its line, which is one
abbrev pub RefusesSent : Accepting → Sender → ℕ → Item → List ℕ → Type 0
RefusesSent a s n it text = (e : RobustFault) × Blames e a s it × IsSenderFault e n text × IsLine text

-- what stands against an item that can't be packed for all that a receiver may hold
abbrev pub AreLacks : Accepting → Sender → Item → List Lack → Type 0
AreLacks a (Plain ctx) it ls = ⊥
AreLacks a (Surviving s) it ls = lacking.AreLacks a s.own s.others it ls
