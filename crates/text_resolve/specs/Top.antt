-- The method that a profile starts with.
use Rattle.std.specs.Prelude.{ℕ, Bool, List, ◌&&◌, ◌==◌, length}
use Rattle.std.specs.Str.{bytes_eq}
use Rattle.text_tree.specs.declared.tree.Method.{Method}
use Rattle.sem_profile.specs.Words.{word}
use Rattle.sem_profile.specs.Faults.{unnamed}
use Rattle.sem_profile.specs.declared.fault.ProfileFault.{ProfileFault}
use Rattle.sem_profile.specs.declared.fault.ProfileFaultKind.TheVariants as kinds

-- it has the name and no parameters
abbrev pub is_top : List ℕ → List ℕ → Method → Bool
is_top text name method = bytes_eq name (word text method.name) && length method.parameters == 0

-- the fault of a file without such a method, which stands at the start
abbrev pub no_top : ProfileFault
no_top = unnamed kinds.NoTop (record { from = 0; to = 0 })
