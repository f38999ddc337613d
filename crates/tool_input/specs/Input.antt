-- What is read of an input.
use Rattle.std.specs.Prelude.{◌≡◌, ◌<◌, ◌≤◌, ℕ, List, length, Option}
use Rattle.tool_input.specs.Counted.{Account, HasFailed, most_octets}
use Rattle.tool_input.specs.declared.status.Failure.{Failure}
use Rattle.tool_input.specs.declared.status.Failure.TheVariants.{Reading, Writing, Memory}
use Rattle.tool_input.specs.declared.input.Input.{Input}
use Rattle.tool_input.specs.declared.input.Input.TheVariants.{Whole, Large}

-- the whole of what a reader had left, or that it is too long
abbrev pub IsInput : List ℕ → Input → Type 0
IsInput all (Whole input) = (input.items ≡ all) × (length all ≤ most_octets)
IsInput all Large = most_octets < length all

-- what was read is no more than the program takes
abbrev pub IsShortInput : Input → Type 0
IsShortInput (Whole input) = length input.items ≤ most_octets
IsShortInput Large = Unit {0}

-- why nothing was read: a read has failed, or memory ran out
abbrev pub BlamesRead : Failure → Option Account → Type 0
BlamesRead Reading account = HasFailed account
BlamesRead Writing account = ⊥
BlamesRead Memory account = Unit {0}
