-- Of which field a step of a plan learns something (docs/FORMATS.md, Certificates).
use Rattle.std.specs.Prelude.{ℕ}
use Rattle.cert_types.specs.declared.certificate.Step.{Step}
use Rattle.cert_types.specs.declared.certificate.Step.TheVariants.{Take, Call, LibraryUp, LibraryDown, MethodLength, ConstraintLength, Solve, Choose, Ask}

-- the field of a step
abbrev pub field_of : Step → ℕ
field_of (Take i) = i
field_of (Call i) = i
field_of (LibraryUp i) = i
field_of (LibraryDown i) = i
field_of (MethodLength i side) = i
field_of (ConstraintLength i side n) = i
field_of (Solve i n) = i
field_of (Choose i) = i
field_of (Ask i) = i
