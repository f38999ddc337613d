-- What a receiver reads of the packed bits of an item (docs/DEFINITIONS.md, Losses).
use Rattle.std.specs.Prelude.{◌≡◌, ◌≢◌, Bool, List}
use Rattle.sem_context.specs.Entries.{Entries}
use Rattle.sem_filling.specs.declared.filling.Filling.{Filling}
use Rattle.sem_filling.specs.declared.filling.Item.{Item}
use Rattle.sem_filling.specs.Fillings.{item}
use Rattle.cert_accepted.specs.Accepted.{Accepting}
use Rattle.walk_engine.specs.declared.reader.UnpackFault.TheVariants.{OutOfMemory}
use Rattle.walk_engine.specs.Reading.{Blames, Fronts}
use Rattle.walk_loss.specs.declared.reception.Heard.{Heard}
use Rattle.walk_loss.specs.declared.reception.Heard.TheVariants as heard
use Rattle.walk_loss.specs.declared.reception.HeardKind.{HeardKind}
use Rattle.walk_loss.specs.declared.reception.HeardKind.TheVariants as kinds

abbrev pub kind : Heard → HeardKind
kind heard.Right = kinds.Right
kind (heard.Wrong f) = kinds.Wrong
kind (heard.Refused e) = kinds.Refused

-- a filling with the item is at the front of the bits
pub record IsThere (a : Accepting) (ctx : Entries) (it : Item) (bits : List Bool) : Type 0 where
  pub filling : Filling
  pub in_front : Fronts a ctx bits filling
  pub has : item filling ≡ it

-- What `unpack` reads in the context, of bits that are those of the item: right where that has the item, wrong where it has another one, refused where a fault is told.
abbrev pub IsHeard : Accepting → Entries → Item → List Bool → Heard → Type 0
IsHeard a ctx it bits heard.Right = IsThere a ctx it bits
IsHeard a ctx it bits (heard.Wrong f) = Fronts a ctx bits f × (item f ≢ it)
IsHeard a ctx it bits (heard.Refused e) = Blames e a ctx bits × (e ≢ OutOfMemory)

-- what a filling that was read is
abbrev pub IsJudged : Item → Filling → Heard → Type 0
IsJudged it f heard.Right = item f ≡ it
IsJudged it f (heard.Wrong g) = (g ≡ f) × (item f ≢ it)
IsJudged it f (heard.Refused e) = ⊥
