-- The worked example of the definitions (docs/DEFINITIONS.md, Candidates): a method that chooses a bit and calls a method with three candidates, or does neither.
use Rattle.std.specs.Prelude.{◌≡◌, ℕ, true, false, List, [], ◌∷◌, map, None, Some, pos, codes}
use Rattle.text_source.specs.declared.span.Span.{Span}
use Rattle.sem_expr.specs.declared.expr.Expr.TheVariants.{Number}
use Rattle.sem_profile.specs.declared.profile.Part.TheVariants.{Control}
use Rattle.sem_profile.specs.declared.profile.Library.TheVariants as library
use Rattle.sem_profile.specs.declared.profile.Encoding.{Encoding}
use Rattle.sem_profile.specs.declared.profile.Encoding.TheVariants as encoding
use Rattle.sem_profile.specs.declared.profile.Field.{Field}
use Rattle.sem_profile.specs.declared.profile.Format.{Format}
use Rattle.sem_profile.specs.declared.profile.Method.{Method}
use Rattle.sem_filling.specs.declared.filling.Filling.{Filling, roll-Filling}
use Rattle.sem_filling.specs.declared.filling.FilledField.{FilledField, roll-FilledField}
use Rattle.cert_types.specs.declared.certificate.Step.{Step}
use Rattle.cert_types.specs.declared.certificate.Step.TheVariants.{Call, Choose}
use Rattle.cert_types.specs.declared.certificate.MethodPlans.{MethodPlans}
use Rattle.cert_types.specs.Kept.{Entries}
use Rattle.cert_rules.specs.Counts.{AreCounts}
use Rattle.cert_candidates.specs.Codes.{code, number}

-- the place of everything
abbrev pub at : Span
at = record { from = 0; to = 0 }

-- a control field
abbrev pub field : Encoding → Field
field e = record { declared = record { name = codes "f"; part = Control; asked = false }; encoding = e; initial = None }

-- of one bit that is sent, and one that is the second method's
abbrev pub bit : Field
bit = field (encoding.Library (library.Irregular (Number at (pos 1))))

abbrev pub inner : Field
inner = field (encoding.Call 1 [])

-- a format of fields that are all listed
abbrev pub format : List Field → List ℕ → Format
format fields listing = record { name = None; fields = fields; listing = listing; constraints = [] }

-- a method of a format with fields and of an empty one
abbrev pub method : Format → Method
method first = record { name = codes "m"; place = at; parameters = []; formats = first ∷ format [] [] ∷ [] }

abbrev pub methods : List Method
methods = method (format (bit ∷ inner ∷ []) (0 ∷ 1 ∷ [])) ∷ method (format (bit ∷ []) (0 ∷ [])) ∷ []

-- the plans of such a method: what is open in the first format
abbrev pub entry : List Step → MethodPlans
entry steps = record {
  name = codes "m";
  parameters = [];
  tree = [];
  formats = map (λ write. record { name = None; fields = []; plans = Some record { read = []; write = write } }) (steps ∷ [] ∷ []);
}

abbrev pub entries : Entries
entries = Some (entry (Choose 0 ∷ Call 1 ∷ [])) ∷ Some (entry (Choose 0 ∷ [])) ∷ []

-- 2 * 3 + 1, and 2 + 1
abbrev pub counts : List ℕ
counts = 7 ∷ 3 ∷ []

-- the field with a bit that is 1
abbrev pub one : FilledField
one = roll-FilledField record { declared = bit.declared; uncompressed = true ∷ []; compressed = true ∷ []; inner = None }

-- a filling of a first format
abbrev pub filled : List ℕ → List FilledField → Filling
filled listing fields = roll-Filling record { format = 0; listing = listing; fields = fields }

-- that of the first method, with one of the second inside
abbrev pub filling : Filling
filling = filled (0 ∷ 1 ∷ []) (one ∷ roll-FilledField record { declared = inner.declared; uncompressed = []; compressed = true ∷ []; inner = Some (filled (0 ∷ []) (one ∷ [])) } ∷ [])

-- These are the numbers of candidates; the filling is number 4, and its code its format, its bit, and the code of the filling inside.
pub record ExampleIsNumbered : Type 0 where
  pub counted : AreCounts methods entries counts
  pub number_is : number methods entries counts filling 0 ≡ 4
  pub code_is : code methods entries filling 0 ≡ 0 ∷ 1 ∷ 0 ∷ 1 ∷ []
