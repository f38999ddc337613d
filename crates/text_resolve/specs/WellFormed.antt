-- The normal forms of methods keep what each method of a profile keeps.
use Rattle.std.specs.Prelude.{ℕ, List, Option}
use Rattle.text_tree.specs.declared.tree.Part.{Part}
use Rattle.sem_profile.specs.declared.profile.Method.{Method}
use Rattle.sem_profile.specs.Alike.{AreAlike}
use Rattle.sem_profile.specs.Uses.{AreReached}
use Rattle.sem_profile.specs.WellFormed.{AreWellFormed}
use Rattle.text_resolve.specs.Methods.{HaveForm}

-- the normal forms of a file's methods are well formed
abbrev pub FormIsWellFormed : Type 0
FormIsWellFormed = (text : List ℕ) (parts : List Part) (top : Option ℕ) (methods : List Method) → HaveForm text parts top methods → AreWellFormed methods

-- and they stay so when those that the top doesn't reach lose their formats
abbrev pub KeptIsWellFormed : Type 0
KeptIsWellFormed = (methods kept : List Method) (top : ℕ) → AreWellFormed methods → AreReached methods top kept → AreWellFormed kept

-- in the normal forms of a file's methods each format of a method has the header and control fields of the others
abbrev pub FormIsAlike : Type 0
FormIsAlike = (text : List ℕ) (parts : List Part) (top : Option ℕ) (methods : List Method) → HaveForm text parts top methods → AreAlike methods

-- and that stays so
abbrev pub KeptIsAlike : Type 0
KeptIsAlike = (methods kept : List Method) (top : ℕ) → AreAlike methods → AreReached methods top kept → AreAlike kept
