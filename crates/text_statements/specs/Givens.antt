-- What a method gives its fields beside encodings.
use Rattle.std.specs.Prelude.{◌≡◌, Bool, true, false, List, []}
use Rattle.text_tree.specs.declared.tree.Section.{Section}
use Rattle.sem_profile.specs.declared.fault.ProfileFault.{ProfileFault}
use Rattle.text_statements.specs.Names.{Names}
use Rattle.text_statements.specs.declared.method.Givens.{Givens}
use Rattle.text_statements.specs.Initials.{bounds_in, AreInitials, HasNoValue}
use Rattle.text_statements.specs.Enforced.{set_names}
use Rattle.text_statements.specs.Asked.{control_items, AreAsked}

-- The values are those of INITIAL. The top method asks for the fields of CONTROL that nothing else gives; another method asks for none.
pub record AreGiven (s : Names) (sections : List Section) (is_top : Bool) (g : Givens) : Type 0 where
  pub initials : AreInitials s (bounds_in sections) g.names g.values
  pub asked : is_top ≡ true → AreAsked s (set_names s.text (control_items sections)) (control_items sections) g.asked
  pub inner : is_top ≡ false → g.asked ≡ []

-- A statement of INITIAL gives its field no value. Of all their faults this one comes first.
abbrev pub IsNotGiven : Names → List Section → ProfileFault → Type 0
IsNotGiven s sections = HasNoValue s (bounds_in sections)
