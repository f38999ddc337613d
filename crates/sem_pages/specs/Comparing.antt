-- How far bits are compared with others.
use Rattle.std.specs.Prelude.{◌≡◌, ◌≤◌, Bool, List, ◌++◌, length, take}
use Rattle.sem_pages.specs.declared.sides.Compared.{Compared}

-- the bits that are compared, and the others that come next, are these together
abbrev pub HasCome : List Bool → Compared → List Bool → Type 0
HasCome left c bits = (c.place ≤ length left) × (take c.place left ++ c.tail ≡ bits)
