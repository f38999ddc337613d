-- What each method of a profile keeps, though its type does not say so: indices are in range, a call has as many arguments as the called method has parameters, and
-- a field has what its format needs of it.
use Rattle.std.specs.Prelude.{◌≡◌, ℕ, ◌<◌, ◌≤◌, Bool, true, false, List, Some, length, slice_get}
use Rattle.text_source.specs.declared.span.Span.{Span}
use Rattle.sem_expr.specs.declared.expr.Attribute.{Attribute}
use Rattle.sem_expr.specs.declared.expr.Cond.{Cond}
use Rattle.sem_expr.specs.declared.expr.Expr.{Expr}
use Rattle.sem_expr.specs.declared.expr.Side.{Side}
use Rattle.sem_expr.specs.declared.expr.Subject.TheVariants as subjects
use Rattle.sem_expr.specs.declared.inputs.Input.{Input}
use Rattle.sem_expr.specs.declared.inputs.Input.TheVariants as input
use Rattle.sem_expr.specs.Inputs.{inputs_of, condition_inputs_of}
use Rattle.sem_profile.specs.declared.profile.Constraint.TheVariants.{Bracket, Enforce}
use Rattle.sem_profile.specs.declared.profile.CrcArguments.{CrcArguments}
use Rattle.sem_profile.specs.declared.profile.Encoding.{Encoding}
use Rattle.sem_profile.specs.declared.profile.Encoding.TheVariants as encoding
use Rattle.sem_profile.specs.declared.profile.Field.{Field}
use Rattle.sem_profile.specs.declared.profile.Format.{Format}
use Rattle.sem_profile.specs.declared.profile.Library.TheVariants as library
use Rattle.sem_profile.specs.declared.profile.Method.{Method}
use Rattle.sem_profile.specs.declared.profile.Part.TheVariants as parts
use Rattle.sem_profile.specs.BoundsLaws.{StandsIn}

-- each attribute is one of THIS or of one of so many fields, and each parameter is one of so many
pub record AreWithin (fields parameters : ℕ) (inputs : List Input) : Type 0 where
  pub of_fields : (k i : ℕ) (t : Attribute) → slice_get inputs k ≡ Some (input.Attribute t) → t.subject ≡ subjects.Field i → i < fields
  pub of_parameters : (k i : ℕ) → slice_get inputs k ≡ Some (input.Parameter i) → i < parameters

-- the same of all attributes and parameters in an expression
abbrev pub IsWithin : ℕ → ℕ → Expr → Type 0
IsWithin fields parameters e = AreWithin fields parameters (inputs_of e)

abbrev pub ConditionIsWithin : ℕ → ℕ → Cond → Type 0
ConditionIsWithin fields parameters c = AreWithin fields parameters (condition_inputs_of c)

-- the encoding is static or lsb: it refers to what the context holds of its field
abbrev pub refers : Encoding → Bool
refers (encoding.Library library.Static) = true
refers (encoding.Library (library.Lsb bits offset)) = true
refers _ = false

-- no value that INITIAL gives has more bits
abbrev pub initial_limit : ℕ
initial_limit = 64

-- a format of a method with so many parameters, where these are the methods
pub record FormatIsSound (methods : List Method) (parameters : ℕ) (f : Format) : Type 0 where
  -- what it lists are fields of its own
  pub listed : (n i : ℕ) → slice_get f.listing n ≡ Some i → i < length f.fields
  -- each at most once
  pub once : (n m i : ℕ) → slice_get f.listing n ≡ Some i → slice_get f.listing m ≡ Some i → n ≡ m
  -- and each with an encoding
  pub encoded : (n i : ℕ) (d : Field) → slice_get f.listing n ≡ Some i → slice_get f.fields i ≡ Some d → d.encoding ≡ encoding.Bare → ⊥
  -- a field of the format alone has no value of INITIAL, and none of these is too long
  pub initials : (i : ℕ) (d : Field) (bits : List Bool) → slice_get f.fields i ≡ Some d → d.initial ≡ Some bits → (length bits ≤ initial_limit) × (d.declared.part ≡ parts.Local → ⊥)
  -- nor does its encoding refer to the context
  pub referring : (i : ℕ) (d : Field) → slice_get f.fields i ≡ Some d → refers d.encoding ≡ true → d.declared.part ≡ parts.Local → ⊥
  -- a bracket is on such a field
  pub bracketed : (n i : ℕ) (side : Side) (lengths : List Expr) (place : Span) → slice_get f.constraints n ≡ Some (Bracket i side lengths place) → i < length f.fields
  -- its expressions and conditions name fields of its own and parameters of the method
  pub expressions : (e : Expr) → StandsIn f e → IsWithin (length f.fields) parameters e
  pub conditions : (n : ℕ) (c : Cond) (place : Span) → slice_get f.constraints n ≡ Some (Enforce c place) → ConditionIsWithin (length f.fields) parameters c
  -- the data of a crc are those of THIS or of such a field
  pub crcs : (i n : ℕ) (d : Field) (c : CrcArguments) → slice_get f.fields i ≡ Some d → d.encoding ≡ encoding.Library (library.Crc c) → c.subject ≡ subjects.Field n → n < length f.fields
  -- a called method is there, and has as many parameters as the call has arguments
  pub calls : (i k : ℕ) (d : Field) (arguments : List Expr) → slice_get f.fields i ≡ Some d → d.encoding ≡ encoding.Call k arguments
      → (callee : Method) × (slice_get methods k ≡ Some callee) × (length arguments ≡ length callee.parameters)

-- each format of each method is sound
pub record AreWellFormed (methods : List Method) : Type 0 where
  pub formats : (k n : ℕ) (m : Method) (f : Format) → slice_get methods k ≡ Some m → slice_get m.formats n ≡ Some f → FormatIsSound methods (length m.parameters) f
