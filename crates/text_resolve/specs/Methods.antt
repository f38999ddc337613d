-- The methods of a file in their normal form.
use Rattle.std.specs.Prelude.{◌≡◌, ◌==◌, ℕ, ◌+◌, Bool, false, List, [], ◌∷◌, ◌++◌, Option, Some, None, map, slice_get, drop}
use Rattle.text_tree.specs.declared.tree.Method.{Method as TreeMethod}
use Rattle.text_tree.specs.declared.tree.Part.{Part}
use Rattle.sem_profile.specs.declared.profile.Method.{Method}
use Rattle.sem_profile.specs.declared.fault.ProfileFault.{ProfileFault}
use Rattle.text_sections.specs.declared.mention.Mention.{Mention}
use Rattle.text_sections.specs.Mentions.{listed}
use Rattle.text_statements.specs.Constants.{AreValues}
use Rattle.text_methods.specs.declared.methods.FileSetting.{FileSetting}
use Rattle.text_methods.specs.Methods.{IsMethod, MethodCause}
use Rattle.text_resolve.specs.declared.file_names.FileHead.{FileHead}
use Rattle.text_resolve.specs.declared.methods.Drafts.{Drafts}
use Rattle.text_resolve.specs.FileNames.{arities_of}
use Rattle.text_resolve.specs.Parts.{constants_of, constant_names, methods_of, method_names}

-- the places where constants are named
abbrev pub constant_mentions : List Part → List Mention
constant_mentions parts = map (λ c. listed c.name) (constants_of parts)

-- what is known of a file before its methods are read
pub record IsHead (text : List ℕ) (parts : List Part) (head : FileHead) : Type 0 where
  pub names_are : head.constants.names ≡ constant_names text parts
  pub values_are : AreValues text (constant_names text parts) (constants_of parts) head.constants.values
  pub methods_are : head.names.methods ≡ method_names text parts
  pub arities_are : head.arities ≡ arities_of parts

-- what all methods of the file have in common
pub record IsFile (text : List ℕ) (parts : List Part) (file : FileSetting) : Type 0 where
  pub text_is : file.text.now ≡ text
  pub constants_are : file.constants.now ≡ constant_names text parts
  pub values_are : AreValues text (constant_names text parts) (constants_of parts) file.values.now
  pub methods_are : file.methods.now.names.now ≡ method_names text parts
  pub arities_are : file.methods.now.arities.now ≡ arities_of parts

abbrev pub is_at : Option ℕ → ℕ → Bool
is_at (Some top) k = top == k
is_at None k = false

-- the normal forms of methods, the first of which has the place
pub data AreMethods (file : FileSetting) (constants : List Mention) (top : Option ℕ) : ℕ → List TreeMethod → List Method → Type 0 where
  no_methods : {k : ℕ} → AreMethods file constants top k [] []
  a_method : {k : ℕ} {m : TreeMethod} {ms : List TreeMethod} {r : Method} {rs : List Method} → IsMethod file constants m (is_at top k) r → AreMethods file constants top (k + 1) ms rs
      → AreMethods file constants top k (m ∷ ms) (r ∷ rs)

-- the methods of a file have these normal forms
pub record HaveForm (text : List ℕ) (parts : List Part) (top : Option ℕ) (methods : List Method) : Type 0 where
  pub file : FileSetting
  pub is_file : IsFile text parts file
  pub are_methods : AreMethods file (constant_mentions parts) top 0 (methods_of parts) methods

-- a fault of one of the methods
pub data InMethod (file : FileSetting) (parts : List Part) : ProfileFault → Type 0 where
  in_method : {m : TreeMethod} {f : ProfileFault} (k : ℕ) → slice_get (methods_of parts) k ≡ Some m → MethodCause file (constant_mentions parts) m f → InMethod file parts f

pub data FormCause (text : List ℕ) (parts : List Part) : ProfileFault → Type 0 where
  form_cause : {file : FileSetting} {f : ProfileFault} → IsFile text parts file → InMethod file parts f → FormCause text parts f

-- what is found so far, where these methods of the file are still to come
pub record Leads (file : FileSetting) (parts : List Part) (top : Option ℕ) (k : ℕ) (rest : List TreeMethod) (all : Drafts) : Type 0 where
  pub at : drop k (methods_of parts) ≡ rest
  pub finds : all.fault ≡ None → (rs : List Method) → AreMethods file (constant_mentions parts) top k rest rs
      → AreMethods file (constant_mentions parts) top 0 (methods_of parts) (all.found ++ rs)
  pub causes : (f : ProfileFault) → all.fault ≡ Some f → InMethod file parts f
