-- Names that are defined twice.
use Rattle.std.specs.Prelude.{◌≡◌, ℕ, true, false, List, ◌∷◌, ◌++◌, slice_get, Some, Contains}
use Rattle.std.specs.List.{IsDistinct}
use Rattle.std.specs.Str.{bytes_eq}
use Rattle.text_tree.specs.declared.tree.Constant.{Constant}
use Rattle.text_tree.specs.declared.tree.Method.{Method}
use Rattle.text_tree.specs.declared.tree.Part.{Part}
use Rattle.text_tree.specs.declared.tree.Part.TheVariants as part
use Rattle.sem_profile.specs.Words.{word}
use Rattle.sem_profile.specs.declared.fault.ProfileFault.{ProfileFault}
use Rattle.text_statements.specs.Callees.{is_library}
use Rattle.text_resolve.specs.Parts.{methods_of, constant_names, method_names, twice_at}

-- no two constants have one name, no two methods, and no method that of a library method
pub record AreDistinct (text : List ℕ) (parts : List Part) : Type 0 where
  pub constants : IsDistinct bytes_eq (constant_names text parts)
  pub methods : IsDistinct bytes_eq (method_names text parts)
  pub own : (k : ℕ) (m : Method) → slice_get (methods_of parts) k ≡ Some m → is_library (word text m.name) ≡ false

-- the tables of a file
pub record AreTables (text : List ℕ) (parts : List Part) (constants methods : List (List ℕ)) : Type 0 where
  pub constants_are : constants ≡ constant_names text parts
  pub methods_are : methods ≡ method_names text parts
  pub distinct : AreDistinct text parts

-- Which name is defined twice: of a file parted before its definition, the front has it already.
pub data Twice (text : List ℕ) (parts : List Part) : ProfileFault → Type 0 where
  -- a constant that has the name of an earlier one
  constant_twice : (front back : List Part) (c : Constant) → parts ≡ front ++ part.Constant c ∷ back → Contains (constant_names text front) (word text c.name)
      → Twice text parts (twice_at c.name)
  -- a method that has the name of an earlier one
  method_twice : (front back : List Part) (m : Method) → parts ≡ front ++ part.Method m ∷ back → Contains (method_names text front) (word text m.name)
      → Twice text parts (twice_at m.name)
  -- a method that has the name of a library method
  library_twice : (front back : List Part) (m : Method) → parts ≡ front ++ part.Method m ∷ back → is_library (word text m.name) ≡ true
      → Twice text parts (twice_at m.name)
