-- The constants and methods of a file, by their names.
use Rattle.std.specs.Prelude.{ℕ, List, Option, Some, None, map}
use Rattle.std.specs.List.{filter_map}
use Rattle.text_source.specs.declared.span.Span.{Span}
use Rattle.text_tree.specs.declared.tree.Constant.{Constant}
use Rattle.text_tree.specs.declared.tree.Method.{Method}
use Rattle.text_tree.specs.declared.tree.Part.{Part}
use Rattle.text_tree.specs.declared.tree.Part.TheVariants as part
use Rattle.sem_profile.specs.Words.{word}
use Rattle.sem_profile.specs.Faults.{about}
use Rattle.sem_profile.specs.declared.fault.ProfileFault.{ProfileFault}
use Rattle.sem_profile.specs.declared.fault.ProfileFaultKind.TheVariants as kinds

abbrev pub as_constant : Part → Option Constant
as_constant (part.Constant c) = Some c
as_constant (part.Method m) = None

abbrev pub as_method : Part → Option Method
as_method (part.Constant c) = None
as_method (part.Method m) = Some m

abbrev pub constants_of : List Part → List Constant
constants_of parts = filter_map as_constant parts

abbrev pub methods_of : List Part → List Method
methods_of parts = filter_map as_method parts

-- the names of the constants, and of the methods, in the order of the text
abbrev pub constant_names : List ℕ → List Part → List (List ℕ)
constant_names text parts = map (λ c. word text c.name) (constants_of parts)

abbrev pub method_names : List ℕ → List Part → List (List ℕ)
method_names text parts = map (λ m. word text m.name) (methods_of parts)

-- the places of the methods' names, in the order of the text
abbrev pub method_places : List Part → List Span
method_places parts = map (λ m. m.name) (methods_of parts)

-- the fault of a name that is defined before
abbrev pub twice_at : Span → ProfileFault
twice_at name = about kinds.DefinedTwice name
