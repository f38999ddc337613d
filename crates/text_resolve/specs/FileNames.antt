-- The tables of a file's names, the values of its constants, and how many parameters its methods have.
use Rattle.std.specs.Prelude.{ℕ, List, map, length}
use Rattle.text_tree.specs.declared.tree.Part.{Part}
use Rattle.sem_profile.specs.declared.fault.ProfileFault.{ProfileFault}
use Rattle.text_statements.specs.Constants.{IsFirstFault}
use Rattle.text_resolve.specs.Parts.{constants_of, constant_names, methods_of}
use Rattle.text_resolve.specs.Twice.{AreDistinct, Twice}

-- for each method how many parameters it has
abbrev pub arities_of : List Part → List ℕ
arities_of parts = map (λ m. length m.parameters) (methods_of parts)

-- why a file has no head
pub data HeadCause (text : List ℕ) (parts : List Part) : ProfileFault → Type 0 where
  -- a name is defined twice
  named_twice : {fault : ProfileFault} → Twice text parts fault → HeadCause text parts fault
  -- no name is, and a constant has no value
  valueless : {fault : ProfileFault} → AreDistinct text parts → IsFirstFault text (constant_names text parts) (constants_of parts) fault → HeadCause text parts fault
