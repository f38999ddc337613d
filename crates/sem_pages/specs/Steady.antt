-- What of a page fits again in each context that has its entries (docs/DEFINITIONS.md, Pages).
use Rattle.std.specs.Prelude.{◌≡◌, ℕ, Bool, List, Some, slice_get, ℤ}
use Rattle.sem_context.specs.Entries.{Entries}
use Rattle.sem_expr.specs.declared.expr.Expr.{Expr}
use Rattle.sem_profile.specs.declared.profile.Encoding.{Encoding}
use Rattle.sem_profile.specs.declared.profile.Encoding.TheVariants as encoding
use Rattle.sem_profile.specs.declared.profile.Field.{Field}
use Rattle.sem_profile.specs.declared.profile.Format.{Format}
use Rattle.sem_profile.specs.declared.profile.Library.{Library}
use Rattle.sem_profile.specs.declared.profile.Library.TheVariants as library
use Rattle.sem_profile.specs.declared.profile.Method.{Method}
use Rattle.sem_profile.specs.declared.profile.Part.{Part}
use Rattle.sem_profile.specs.declared.profile.Part.TheVariants.{Header, Control, Local}
use Rattle.sem_filling.specs.Entries.{Path}
use Rattle.sem_filling.specs.Fits.{Context, format_at}
use Rattle.sem_pages.specs.declared.page.Page.{Page, out-Page}
use Rattle.sem_pages.specs.declared.page.Shown.{Shown, out-Shown}
use Rattle.sem_pages.specs.Pages.{HasField, Looked}
use Rattle.sem_pages.specs.Prepared.{IsNumber}

-- a field of this part leaves an entry
abbrev pub HasEntry : Part → Type 0
HasEntry Header = Unit {0}
HasEntry Control = Unit {0}
HasEntry Local = ⊥

-- the expression is a number, whatever is known
abbrev pub IsLiteral : Expr → Type 0
IsLiteral e = (n : ℤ) × IsNumber e n

abbrev pub AreLiterals : List Expr → Type 0
AreLiterals es = (i : ℕ) (e : Expr) → slice_get es i ≡ Some e → IsLiteral e

-- a field of this part is a constant by its library method, or `static` with an entry
abbrev pub IsSteadyBy : Part → Library → Type 0
IsSteadyBy part (library.UncompressedValue len value) = IsLiteral len × IsLiteral value
IsSteadyBy part (library.CompressedValue len value) = IsLiteral len × IsLiteral value
IsSteadyBy part (library.Irregular len) = ⊥
IsSteadyBy part library.Static = HasEntry part
IsSteadyBy part (library.Lsb bits offset) = ⊥
IsSteadyBy part (library.Crc crc) = ⊥

-- a field with nothing inside that is so
abbrev pub IsLeafBy : Part → Encoding → Type 0
IsLeafBy part encoding.Bare = ⊥
IsLeafBy part (encoding.Library l) = IsSteadyBy part l
IsLeafBy part (encoding.Call k es) = ⊥

abbrev pub IsLeaf : Field → Type 0
IsLeaf d = IsLeafBy d.declared.part d.encoding

abbrev pub AreLeaves : List Field → Type 0
AreLeaves ds = (i : ℕ) (d : Field) → slice_get ds i ≡ Some d → IsLeaf d

-- a page is inside the field, of a format of the method k all of whose fields are so
pub record IsSteadyInside (methods : List Method) (k : ℕ) (s : Shown) : Type 0 where
  pub page : Page
  pub page_is : (out-Shown s).inner ≡ Some page
  pub format : Format
  pub format_is : format_at methods k (out-Page page).format ≡ Some format
  pub leaves : AreLeaves format.fields

-- the field is so, or calls with numbers a method inside which all are
abbrev pub IsSteadyAs : List Method → Part → Encoding → Shown → Type 0
IsSteadyAs methods part encoding.Bare s = ⊥
IsSteadyAs methods part (encoding.Library l) s = IsSteadyBy part l
IsSteadyAs methods part (encoding.Call k es) s = AreLiterals es × IsSteadyInside methods k s

abbrev pub IsSteady : List Method → Field → Shown → Type 0
IsSteady methods d s = IsSteadyAs methods d.declared.part d.encoding s

-- these entries are in the context
abbrev pub Has : Context → Entries → Type 0
Has ctx es = (n : ℕ) (e : Path × List Bool) → slice_get es n ≡ Some e → ctx e.0 ≡ Some e.1

-- each steady field of the format fits its encoding on each level, with what stands there
abbrev pub AreKept : List Method → Context → Path → Format → List Shown → Type 0
AreKept methods ctx path format ss = (i : ℕ) (d : Field) (s : Shown) → slice_get format.fields i ≡ Some d → slice_get ss i ≡ Some s → IsSteady methods d s → (l : Looked) → HasField methods ctx path l d s

-- the same of a page of the method k
abbrev pub IsKept : List Method → Context → ℕ → Path → Page → Type 0
IsKept methods ctx k path p = (format : Format) → format_at methods k (out-Page p).format ≡ Some format → AreKept methods ctx path format (out-Page p).fields
