-- The methods of a file in their normal form.
use Rattle.std.specs.Prelude.{◌≡◌, ◌⊎◌, Bool, List, [], map, Option, Some, None}
use Rattle.text_tree.specs.declared.tree.Method.{Method as TreeMethod}
use Rattle.sem_profile.specs.declared.profile.Format.{Format}
use Rattle.sem_profile.specs.declared.profile.Method.{Method}
use Rattle.sem_profile.specs.declared.fault.ProfileFault.{ProfileFault}
use Rattle.sem_profile.specs.Words.{word}
use Rattle.text_sections.specs.declared.mention.Mention.{Mention}
use Rattle.text_sections.specs.Names.{NameCause}
use Rattle.text_statements.specs.Names.{Names, names}
use Rattle.text_statements.specs.declared.method.Givens.{Givens}
use Rattle.text_statements.specs.Givens.{AreGiven, IsNotGiven}
use Rattle.text_methods.specs.declared.drafts.Setting.{Setting}
use Rattle.text_methods.specs.declared.methods.FileSetting.{FileSetting}
pub use Rattle.text_methods.specs.Parameters.{distinct_words}
use Rattle.text_methods.specs.Defaults.{default_fault}
use Rattle.text_methods.specs.MethodFormats.{AreFormats, FormatCause}

-- what names stand for where no field is known
abbrev pub bare_scope : FileSetting → TreeMethod → Names
bare_scope file m = names file.text.now file.constants.now file.values.now (distinct_words file.text.now m.parameters) []

-- the setting is that of a method of the file
pub record IsSetting (file : FileSetting) (m : TreeMethod) (x : Setting) : Type 0 where
  pub text_is : x.text.now ≡ file.text.now
  pub constants_are : x.constants.now ≡ file.constants.now
  pub values_are : x.values.now ≡ file.values.now
  pub parameters_are : x.parameters.now ≡ distinct_words file.text.now m.parameters
  pub methods_are : x.methods.now ≡ file.methods.now
  pub sections_are : x.sections.now ≡ m.sections

-- beside it, what INITIAL and CONTROL give
pub record HasGivens (g : Givens) (x : Setting) : Type 0 where
  pub names_are : x.initial_names.now ≡ g.names
  pub values_are : x.initial_values.now ≡ g.values
  pub asked_are : x.asked.now ≡ g.asked

-- the formats that the sections of a method give
pub record IsBody (file : FileSetting) (m : TreeMethod) (is_top : Bool) (formats : List Format) : Type 0 where
  pub setting : Setting
  pub is_setting : IsSetting file m setting
  pub givens : Givens
  pub given : AreGiven (bare_scope file m) m.sections is_top givens
  pub has_givens : HasGivens givens setting
  pub formats_are : AreFormats setting 0 m.sections formats
  -- each statement of DEFAULT has a meaning
  pub defaults : default_fault setting ≡ None

-- the method in its normal form, where the constants have these names
pub record IsMethod (file : FileSetting) (constants : List Mention) (m : TreeMethod) (is_top : Bool) (r : Method) : Type 0 where
  pub name_is : r.name ≡ word file.text.now m.name
  pub place_is : r.place ≡ m.name
  pub parameters_are : r.parameters ≡ map (word file.text.now) m.parameters
  -- nothing is wrong with its names and sections
  pub named : (f : ProfileFault) → NameCause file.text.now constants m f → ⊥
  pub body : IsBody file m is_top r.formats

-- why the sections of a method give no formats
pub data BodyCause (file : FileSetting) (m : TreeMethod) : ProfileFault → Type 0 where
  -- a statement of INITIAL gives no value
  in_initial : {f : ProfileFault} → IsNotGiven (bare_scope file m) m.sections f → BodyCause file m f
  -- a format has a fault
  in_format : {f : ProfileFault} {x : Setting} → IsSetting file m x → FormatCause x f → BodyCause file m f
  -- a statement of DEFAULT has one, whatever format uses it
  in_default : {f : ProfileFault} {x : Setting} → IsSetting file m x → default_fault x ≡ Some f → BodyCause file m f

-- why a method has no normal form
pub data MethodCause (file : FileSetting) (constants : List Mention) (m : TreeMethod) : ProfileFault → Type 0 where
  -- of its names and sections
  in_names : {f : ProfileFault} → NameCause file.text.now constants m f → MethodCause file constants m f
  -- of what they give
  in_body : {f : ProfileFault} → BodyCause file m f → MethodCause file constants m f

-- the formats of a setting, or a fault of the formats or of DEFAULT
pub record AreListed (x : Setting) (formats : List Format) (fault : Option ProfileFault) : Type 0 where
  pub listed : fault ≡ None → AreFormats x 0 x.sections.now formats
  pub defaults : fault ≡ None → default_fault x ≡ None
  pub causes : (f : ProfileFault) → fault ≡ Some f → FormatCause x f ⊎ (default_fault x ≡ Some f)

-- the formats with these givens, or a fault of the formats or of DEFAULT
pub record HasFormats (file : FileSetting) (m : TreeMethod) (givens : Givens) (formats : List Format) (fault : Option ProfileFault) : Type 0 where
  pub setting : Setting
  pub is_setting : IsSetting file m setting
  pub has_givens : HasGivens givens setting
  pub listed : fault ≡ None → AreFormats setting 0 m.sections formats
  pub defaults : fault ≡ None → default_fault setting ≡ None
  pub causes : (f : ProfileFault) → fault ≡ Some f → BodyCause file m f
