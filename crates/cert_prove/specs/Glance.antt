-- Which steps have no rule, at a glance.
use Rattle.std.specs.Prelude.{◌≡◌, Bool, true, false, not, List, Option, Some, None}
use Rattle.sem_expr.specs.declared.expr.Side.{Side}
use Rattle.cert_types.specs.declared.certificate.Version.{Version}
use Rattle.cert_types.specs.declared.certificate.Direction.{Direction}
use Rattle.cert_types.specs.declared.certificate.Step.{Step}
use Rattle.cert_types.specs.declared.certificate.Step.TheVariants.{Take, Call, LibraryUp, LibraryDown, MethodLength, ConstraintLength, Solve, Choose, Ask}
use Rattle.sem_profile.specs.declared.profile.Constraint.{Constraint}
use Rattle.sem_profile.specs.declared.profile.Constraint.TheVariants.{Bracket, Enforce}
use Rattle.sem_profile.specs.declared.profile.Encoding.{Encoding}
use Rattle.sem_profile.specs.declared.profile.Encoding.TheVariants as encoding
use Rattle.sem_profile.specs.declared.profile.Field.{Field}
use Rattle.sem_profile.specs.declared.profile.Format.{Format}
use Rattle.sem_profile.specs.declared.profile.FormatSizes.{FormatSizes}
use Rattle.sem_profile.specs.declared.profile.MethodSizes.{MethodSizes}
use Rattle.std.specs.Prelude.{slice_get}
use Rattle.cert_rules.specs.Facts.{same_side}
use Rattle.cert_rules.specs.Rules.{is_call}
use Rattle.cert_rules.specs.Plans.{rule_of}

-- the step has no rule
abbrev pub HasNone : Version → Direction → List MethodSizes → FormatSizes → Format → Step → Type 0
HasNone version direction table sizes format step = rule_of version direction table sizes format step ≡ None

-- whether the field has a library method
abbrev pub is_library : Encoding → Bool
is_library (encoding.Library l) = true
is_library encoding.Bare = false
is_library (encoding.Call k es) = false

-- whether the constraint is no bracket
abbrev pub is_enforced : Constraint → Bool
is_enforced (Enforce condition place) = true
is_enforced (Bracket j which lengths place) = false

-- whether it may give a value, if it is there
abbrev pub may_solve : Option Constraint → Bool
may_solve None = false
may_solve (Some k) = is_enforced k

-- whether it is no bracket on the other side
abbrev pub is_on : Side → Constraint → Bool
is_on side (Enforce condition place) = true
is_on side (Bracket j which lengths place) = same_side which side

-- whether it may give the length of that side, if it is there
abbrev pub may_tell : Side → Option Constraint → Bool
may_tell side None = false
may_tell side (Some k) = is_on side k

-- whether the step on that field may have a rule
abbrev pub may_be_on : Format → Field → Step → Bool
may_be_on format d (Take i) = not (is_call d.encoding)
may_be_on format d (Call i) = is_call d.encoding
may_be_on format d (LibraryUp i) = is_library d.encoding
may_be_on format d (LibraryDown i) = is_library d.encoding
may_be_on format d (MethodLength i side) = is_library d.encoding
may_be_on format d (Ask i) = d.declared.asked
may_be_on format d (Solve i n) = may_solve (slice_get format.constraints n)
may_be_on format d (ConstraintLength i side n) = may_tell side (slice_get format.constraints n)
may_be_on format d (Choose i) = true
