-- The names of a profile: each stands once where it is looked up, and is a letter, then letters, digits and underscores.
use Rattle.std.specs.Prelude.{◌≡◌, ◌&&◌, ℕ, Bool, true, List, Option, Some, None, slice_get, IsTrue}
use Rattle.std.specs.List.{list_all}
use Rattle.sem_profile.specs.declared.profile.Field.{Field}
use Rattle.sem_profile.specs.declared.profile.Format.{Format}
use Rattle.sem_profile.specs.declared.profile.Method.{Method}
use Rattle.sem_profile.specs.Words.{is_name}

-- no two fields of a format have one name
abbrev pub FormatIsNamed : Format → Type 0
FormatIsNamed f = (i j : ℕ) (d e : Field) → slice_get f.fields i ≡ Some d → slice_get f.fields j ≡ Some e → d.declared.name ≡ e.declared.name → i ≡ j

pub record MethodIsNamed (m : Method) : Type 0 where
  -- no two parameters have one name
  pub parameters : (i j : ℕ) (name : List ℕ) → slice_get m.parameters i ≡ Some name → slice_get m.parameters j ≡ Some name → i ≡ j
  -- no two formats have
  pub formats : (i j : ℕ) (f g : Format) → slice_get m.formats i ≡ Some f → slice_get m.formats j ≡ Some g → f.name ≡ g.name → i ≡ j
  -- a format without a name stands alone
  pub alone : (i j : ℕ) (f g : Format) → slice_get m.formats i ≡ Some f → f.name ≡ None → slice_get m.formats j ≡ Some g → i ≡ j
  pub fields : (k : ℕ) (f : Format) → slice_get m.formats k ≡ Some f → FormatIsNamed f

-- no two methods have one name, and the names in each stand once
pub record AreNamed (methods : List Method) : Type 0 where
  pub once : (i j : ℕ) (m n : Method) → slice_get methods i ≡ Some m → slice_get methods j ≡ Some n → m.name ≡ n.name → i ≡ j
  pub each : (k : ℕ) (m : Method) → slice_get methods k ≡ Some m → MethodIsNamed m

-- ---- words

abbrev pub field_has_word : Field → Bool
field_has_word d = is_name d.declared.name

abbrev pub is_name_if_any : Option (List ℕ) → Bool
is_name_if_any (Some name) = is_name name
is_name_if_any None = true

abbrev pub format_has_words : Format → Bool
format_has_words f = is_name_if_any f.name && list_all field_has_word f.fields

abbrev pub method_has_words : Method → Bool
method_has_words m = is_name m.name && (list_all is_name m.parameters && list_all format_has_words m.formats)

-- each name of a method, a parameter, a format and a field is a letter, then letters, digits and underscores
abbrev pub AreWords : List Method → Type 0
AreWords methods = IsTrue (list_all method_has_words methods)
