-- Formats that have one candidate for an item: all fillings of them that have the item have the same number (docs/DEFINITIONS.md, Candidates).
use Rattle.std.specs.Prelude.{◌≡◌, ℕ, ℤ, Bool, true, List, slice_get, Option, Some, option_and_then}
use Rattle.sem_expr.specs.declared.expr.Attribute.{Attribute}
use Rattle.sem_expr.specs.declared.expr.Expr.{Expr}
use Rattle.sem_expr.specs.declared.expr.Expr.TheVariants as expr
use Rattle.sem_expr.specs.declared.expr.Expr.TheVariants.{Number, Parameter, Binary'}
use Rattle.sem_expr.specs.declared.expr.Side.{Side}
use Rattle.sem_expr.specs.declared.expr.Side.TheVariants.{Uncompressed}
use Rattle.sem_expr.specs.declared.expr.Subject.{Subject}
use Rattle.sem_expr.specs.declared.expr.Subject.TheVariants as subject
use Rattle.sem_expr.specs.Values.{Assignment}
use Rattle.sem_profile.specs.declared.profile.Constraint.{Constraint}
use Rattle.sem_profile.specs.declared.profile.Encoding.TheVariants as encoding
use Rattle.sem_profile.specs.declared.profile.Field.{Field}
use Rattle.sem_profile.specs.declared.profile.Format.{Format}
use Rattle.sem_profile.specs.declared.profile.Method.{Method}
use Rattle.sem_filling.specs.Fits.{Holds, format_at}
use Rattle.cert_types.specs.declared.certificate.FormatPlans.{FormatPlans}
use Rattle.cert_types.specs.declared.certificate.MethodPlans.{MethodPlans}
use Rattle.cert_types.specs.declared.certificate.Plans.{Plans}
use Rattle.cert_types.specs.declared.certificate.Step.{Step}
use Rattle.cert_types.specs.declared.certificate.Step.TheVariants.{Call, Choose}
use Rattle.cert_types.specs.Kept.{Entries}
use Rattle.cert_rules.specs.Counts.{entry_at}
use Rattle.cert_rules.specs.Valid.{plans_at}

-- ---- formats of a called method that a parameter tells apart

-- where the constraint holds, the parameter is this number
abbrev pub Keeps : ℕ → ℤ → Constraint → Type 0
Keeps p key c = (side : Subject → Side → List Bool) (a : Assignment) → Holds side a c → a.parameter p ≡ Some key

-- one of the constraints says so
abbrev pub HasKey : ℕ → List Constraint → ℤ → Type 0
HasKey p constraints key = (j : ℕ) × (c : Constraint) × (slice_get constraints j ≡ Some c) × Keeps p key c

-- each format has a number of its own for the parameter
pub record HaveKeys (p : ℕ) (formats : List Format) : Type 0 where
  pub keys : List ℤ
  pub each : (n : ℕ) (format : Format) → slice_get formats n ≡ Some format → (key : ℤ) × (slice_get keys n ≡ Some key) × HasKey p format.constraints key
  pub apart : (m n : ℕ) (key : ℤ) → slice_get keys m ≡ Some key → slice_get keys n ≡ Some key → m ≡ n

-- the step is no choice and no call
abbrev pub IsPlain : Step → Type 0
IsPlain (Choose i) = ⊥
IsPlain (Call i) = ⊥
IsPlain _ = Unit {0}

-- no plan that is written by has a choice or a call
abbrev pub ArePlain : MethodPlans → Type 0
ArePlain entry = (n : ℕ) (plans : Plans) → plans_at entry n ≡ Some plans → (j : ℕ) (s : Step) → slice_get plans.write j ≡ Some s → IsPlain s

-- The parameter tells the method's formats apart, each of which has one candidate.
pub record IsTeller (formats : List Format) (entry : Option MethodPlans) (p : ℕ) : Type 0 where
  pub have : HaveKeys p formats
  pub plain : (e : MethodPlans) → entry ≡ Some e → ArePlain e

-- for each method, where one was found
abbrev pub AreTellers : List Method → Entries → List (Option ℕ) → Type 0
AreTellers methods cert tellers = (k p : ℕ) (m : Method) → slice_get tellers k ≡ Some (Some p) → slice_get methods k ≡ Some m → IsTeller m.formats (entry_at cert k) p

-- ---- formats whose calls are told by what is asked

-- an attribute of the uncompressed side of an asked field
pub record IsAsked (format : Format) (t : Attribute) : Type 0 where
  pub index : ℕ
  pub field : Field
  pub field_is : slice_get format.fields index ≡ Some field
  pub asked : field.declared.asked ≡ true
  pub subject_is : t.subject ≡ subject.Field index
  pub side_is : t.side ≡ Uncompressed

-- a number, or such an attribute: it is the same for all fillings that have the item
abbrev pub IsTold : Format → Expr → Type 0
IsTold format (Number s n) = Unit {0}
IsTold format (Parameter s i) = ⊥
IsTold format (expr.Attribute s t) = IsAsked format t
IsTold format (Binary' s op p x q y) = ⊥

-- the field calls a method whose formats are told apart by an argument that is told
pub record IsCallTold (tellers : List (Option ℕ)) (format : Format) (i : ℕ) : Type 0 where
  pub field : Field
  pub field_is : slice_get format.fields i ≡ Some field
  pub method : ℕ
  pub arguments : List Expr
  pub calls : field.encoding ≡ encoding.Call method arguments
  pub teller : ℕ
  pub teller_is : slice_get tellers method ≡ Some (Some teller)
  pub argument : Expr
  pub argument_is : slice_get arguments teller ≡ Some argument
  pub told : IsTold format argument

-- the step is no choice, and if it is a call, that is told
abbrev pub IsStepTold : List (Option ℕ) → Format → Step → Type 0
IsStepTold tellers format (Choose i) = ⊥
IsStepTold tellers format (Call i) = IsCallTold tellers format i
IsStepTold tellers format _ = Unit {0}

abbrev pub AreStepsTold : List (Option ℕ) → Format → List Step → Type 0
AreStepsTold tellers format steps = (j : ℕ) (s : Step) → slice_get steps j ≡ Some s → IsStepTold tellers format s

-- of each format with a flag the steps of its write plan are so
abbrev pub AreTold : List (Option ℕ) → List Format → List FormatPlans → List Bool → Type 0
AreTold tellers formats entries flags = (n : ℕ) (format : Format) (plans : Plans) → slice_get flags n ≡ Some true → slice_get formats n ≡ Some format → option_and_then (λ f. f.plans) (slice_get entries n) ≡ Some plans →
    AreStepsTold tellers format plans.write

-- the same of a method, by what the certificate says of it
abbrev pub IsLineTold : List (Option ℕ) → List Format → Option MethodPlans → List Bool → Type 0
IsLineTold tellers formats entry line = (e : MethodPlans) → entry ≡ Some e → AreTold tellers formats e.formats line

-- and of each method
abbrev pub AreLinesTold : List (Option ℕ) → List Method → Entries → List (List Bool) → Type 0
AreLinesTold tellers methods cert flags = (k : ℕ) (m : Method) (line : List Bool) → slice_get methods k ≡ Some m → slice_get flags k ≡ Some line → IsLineTold tellers m.formats (entry_at cert k) line

-- All fillings of the format that have an item have the same number, by what is told of the steps of its write plan.
pub record IsSingle (methods : List Method) (cert : Entries) (format : Format) (steps : List Step) : Type 0 where
  pub tellers : List (Option ℕ)
  pub are : AreTellers methods cert tellers
  pub told : AreStepsTold tellers format steps

-- the flag of a format of a method, both by their indices
abbrev pub flag_at : List (List Bool) → ℕ → ℕ → Option Bool
flag_at flags k n = option_and_then (λ line. slice_get line n) (slice_get flags k)

-- each format with a flag, where it has a write plan, is such a format
abbrev pub AreSingles : List Method → Entries → List (List Bool) → Type 0
AreSingles methods cert flags = (k n : ℕ) (format : Format) (plans : Plans) → flag_at flags k n ≡ Some true → format_at methods k n ≡ Some format → option_and_then (λ entry. plans_at entry n) (entry_at cert k) ≡ Some plans →
    IsSingle methods cert format plans.write
