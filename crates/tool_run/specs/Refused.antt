-- The line of a refused item (docs/FAULTS.md).
use Rattle.std.specs.Prelude.{◌≡◌, ℕ, List, ◌++◌, codes, decimal}
use Rattle.cert_accepted.specs.Accepted.{Accepting}
use Rattle.sem_context.specs.Entries.{Entries}
use Rattle.walk_engine.specs.Writing as writing
use Rattle.walk_engine.specs.declared.writer.PackFault.{PackFault}
use Rattle.walk_engine.specs.declared.writer.PackFault.TheVariants as writer
use Rattle.sem_filling.specs.declared.filling.Item.{Item}
use Rattle.tool_input.specs.OneLine.{IsLine}

-- a refused item, by its number from 1; that a line lacks a flow is said of events alone
abbrev pub IsItemFault : PackFault → ℕ → List ℕ → Type 0
IsItemFault writer.HeaderLength n text = text ≡ codes "item " ++ decimal n ++ codes ": F1 HeaderLength"
IsItemFault (writer.Asked name) n text = text ≡ codes "item " ++ decimal n ++ codes ": F2 Asked " ++ name
IsItemFault writer.NoFormat n text = text ≡ codes "item " ++ decimal n ++ codes ": F3 NoFormat"
IsItemFault writer.Flow n text = ⊥
IsItemFault writer.OutOfMemory n text = ⊥

-- a fault that is there, with its line, which is one
abbrev pub RefusesItem : Accepting → Entries → ℕ → Item → List ℕ → Type 0
RefusesItem a ctx n it text = (e : PackFault) × writing.Blames e a ctx it × IsItemFault e n text × IsLine text
