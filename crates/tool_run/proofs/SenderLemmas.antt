-- What is said of senders, their packets and their refusals.
use Rattle.cert_accepted.specs.Accepted.{Accepting}
use Rattle.sem_context.specs.Entries.{bits_at}
use Rattle.walk_engine.specs.declared.search.Packed.{Packed}
use Rattle.sem_filling.specs.declared.filling.Item.{Item}
use Rattle.walk_loss.specs.Journal.{IsSent}
use Rattle.walk_robust.specs.declared.sender.RobustFault.{RobustFault}
use Rattle.walk_robust.specs.declared.sender.RobustFault.TheVariants.{Pack, NoReach, Contexts}
use Rattle.tool_run.specs.Senders.{Blames, IsOfItem, Sends}
use Rattle.tool_run.specs.declared.sender.Sender.{Sender}
use Rattle.tool_run.specs.declared.sender.Sender.TheVariants.{Plain, Surviving}
use Rattle.tool_run.proofs.PrintedStepping.{no_flow_blamed}

-- of an item no missing flow is blamed
pub of_item : (a : Accepting) (s : Sender) (it : Item) (e : RobustFault) → Blames e a s it → IsOfItem e
of_item a (Plain ctx) it (Pack e) blames = no_flow_blamed a ctx it e blames
of_item a (Plain ctx) it NoReach blames = tt
of_item a (Plain ctx) it Contexts blames = tt
of_item a (Surviving s) it (Pack e) blames = no_flow_blamed a s.own it e blames
of_item a (Surviving s) it NoReach blames = tt
of_item a (Surviving s) it Contexts blames = tt

-- what is sent fits somewhere, and has its bits
pub sent_anywhere : (a : Accepting) (s after : Sender) (it : Item) (p : Packed) → Sends a s it p after → IsSent a p
sent_anywhere a (Plain ctx) (Plain after) it p is = record { fits = record { context = bits_at ctx; fits = is.0.best.fits }; packed_is = is.0.packed_is }
sent_anywhere a (Plain ctx) (Surviving after) it p is = absurd is
sent_anywhere a (Surviving s) (Surviving after) it p is = record { fits = record { context = bits_at s.own; fits = is.best.best.fits }; packed_is = is.best.packed_is }
sent_anywhere a (Surviving s) (Plain after) it p is = absurd is
