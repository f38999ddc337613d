-- The prover's order of the steps of a format (docs/DEFINITIONS.md, The order of a plan).
use Rattle.std.specs.Prelude.{ℕ, List, [], ◌∷◌, map, length}
use Rattle.std.specs.List.{flat_map, range_with_len}
use Rattle.sem_expr.specs.declared.expr.Side.TheVariants.{Uncompressed, Compressed}
use Rattle.sem_profile.specs.declared.profile.Format.{Format}
use Rattle.cert_types.specs.declared.certificate.Direction.{Direction}
use Rattle.cert_types.specs.declared.certificate.Direction.TheVariants.{Read, Write}
use Rattle.cert_types.specs.declared.certificate.Step.{Step}
use Rattle.cert_types.specs.declared.certificate.Step.TheVariants.{Take, Call, LibraryUp, LibraryDown, MethodLength, ConstraintLength, Solve, Choose, Ask}
use Rattle.cert_prove.specs.declared.kinds.StepKind.{StepKind}
use Rattle.cert_prove.specs.declared.kinds.StepKind.TheVariants as kind

-- the kinds in their order
abbrev pub kinds_of : Direction → List StepKind
kinds_of Read = kind.TakeOrCall ∷ kind.Up ∷ kind.Solve ∷ kind.Length Compressed ∷ kind.Length Uncompressed ∷ kind.Down ∷ []
kinds_of Write = kind.TakeOrCall ∷ kind.Ask ∷ kind.Down ∷ kind.Up ∷ kind.Solve ∷ kind.Length Uncompressed ∷ kind.Length Compressed ∷ kind.Choose ∷ []

-- the steps of a kind for the field at an index, by the constraints of these numbers; of a field either take or call has a rule
abbrev pub steps_of : List ℕ → StepKind → ℕ → List Step
steps_of numbers kind.TakeOrCall i = Take i ∷ Call i ∷ []
steps_of numbers kind.Ask i = Ask i ∷ []
steps_of numbers kind.Up i = LibraryUp i ∷ []
steps_of numbers kind.Down i = LibraryDown i ∷ []
steps_of numbers kind.Solve i = map (Solve i) numbers
steps_of numbers (kind.Length side) i = MethodLength i side ∷ map (ConstraintLength i side) numbers
steps_of numbers kind.Choose i = Choose i ∷ []

-- through the kinds, and in each kind through the fields
abbrev pub in_order : List StepKind → List ℕ → List ℕ → List Step
in_order kinds fields numbers = flat_map (λ kind. flat_map (steps_of numbers kind) fields) kinds

-- all steps of a format
abbrev pub order_of : Direction → Format → List Step
order_of direction format = in_order (kinds_of direction) (range_with_len 0 (length format.fields)) (range_with_len 0 (length format.constraints))
