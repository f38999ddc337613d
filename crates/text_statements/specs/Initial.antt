-- The values that INITIAL gives (docs/NOTATION.md): of `uncompressed_value` with two constants, and of nothing else.
use Rattle.std.specs.Prelude.{◌≡◌, ℕ, ℤ, Bool, true, false, List, [], ◌∷◌, length, nat_eq, None, Some, codes}
use Rattle.std.specs.Str.{bytes_eq}
use Rattle.text_source.specs.declared.span.Span.{Span}
use Rattle.text_tree.specs.declared.tree.Bound.{Bound}
use Rattle.text_tree.specs.declared.tree.Bracket.{Bracket}
use Rattle.text_tree.specs.declared.tree.Encoding.{Encoding}
use Rattle.text_tree.specs.declared.tree.Encoding.TheVariants as given
use Rattle.text_tree.specs.declared.tree.Expr.{Expr as Tree}
use Rattle.sem_library.specs.Methods.{Spells}
use Rattle.sem_profile.specs.declared.fault.ProfileFault.{ProfileFault}
use Rattle.sem_profile.specs.declared.fault.ProfileFaultKind.TheVariants as kinds
use Rattle.sem_profile.specs.declared.fault.ResolveError.{ResolveError}
use Rattle.sem_profile.specs.declared.fault.ResolveError.TheVariants as errors
use Rattle.sem_profile.specs.Faults.{unnamed}
use Rattle.sem_profile.specs.Words.{word}
use Rattle.text_statements.specs.Constants as constants
use Rattle.text_statements.specs.Names.{Names}

abbrev pub no_value : Span → ProfileFault
no_value field = unnamed kinds.NoValue field

abbrev pub at_field : Span → ResolveError → ResolveError
at_field field (errors.Fault f) = errors.Fault (no_value field)
at_field field errors.OutOfMemory = errors.OutOfMemory

-- ---- what gives a value

abbrev pub IsSpelled : ℤ → ℤ → List Bool → Type 0
IsSpelled count value bits = Spells count value bits

abbrev pub IsValue : Names → Tree → ℤ → Type 0
IsValue s part v = constants.IsValue s part v

-- a length and a number, each a constant
pub data AreArguments (s : Names) : List Tree → List Bool → Type 0 where
  are_arguments : {x y : Tree} {bits : List Bool} (count value : ℤ) → IsValue s x count → IsValue s y value → IsSpelled count value bits → AreArguments s (x ∷ y ∷ []) bits

abbrev pub is_uncompressed_value : List ℕ → Bool
is_uncompressed_value name = bytes_eq name (codes "uncompressed_value")

pub data IsEncoded (s : Names) : Encoding → List Bool → Type 0 where
  is_encoded : {name : Span} {arguments : List Tree} {bits : List Bool} → is_uncompressed_value (word s.text name) ≡ true → AreArguments s arguments bits
      → IsEncoded s (given.Call name arguments) bits

pub record IsInitial (s : Names) (bound : Bound) (bits : List Bool) : Type 0 where
  pub no_bracket : bound.bracket ≡ None
  pub encoded : IsEncoded s bound.encoding bits

-- ---- what gives none, as a fault of the field

pub data IsNotSpelled (field : Span) (count value : ℤ) : ProfileFault → Type 0 where
  -- no bits, or more than 64, have that length and number
  not_spelled : ((bits : List Bool) → IsSpelled count value bits → ⊥) → IsNotSpelled field count value (no_value field)

pub data IsNoValue (s : Names) (field : Span) (part : Tree) : ProfileFault → Type 0 where
  -- an argument is no constant with a value
  no_constant : {f : ProfileFault} → constants.ValueFault s part f → IsNoValue s field part (no_value field)

pub data AreNoArguments (s : Names) (field : Span) : List Tree → ProfileFault → Type 0 where
  -- more or fewer than two
  wrong_count : {arguments : List Tree} → nat_eq (length arguments) 2 ≡ false → AreNoArguments s field arguments (no_value field)
  -- one that is no constant with a value
  bad_length : {x y : Tree} {f : ProfileFault} → IsNoValue s field x f → AreNoArguments s field (x ∷ y ∷ []) f
  bad_value : {x y : Tree} {f : ProfileFault} → IsNoValue s field y f → AreNoArguments s field (x ∷ y ∷ []) f
  -- no bits for them
  does_not_fit : {x y : Tree} {f : ProfileFault} (count value : ℤ) → IsValue s x count → IsValue s y value → IsNotSpelled field count value f → AreNoArguments s field (x ∷ y ∷ []) f

pub data IsNotEncoded (s : Names) (field : Span) : Encoding → ProfileFault → Type 0 where
  bit_text : {at : Span} {count value : ℕ} → IsNotEncoded s field (given.Bits at count value) (no_value field)
  other_method : {name : Span} {arguments : List Tree} → is_uncompressed_value (word s.text name) ≡ false → IsNotEncoded s field (given.Call name arguments) (no_value field)
  other_arguments : {name : Span} {arguments : List Tree} {f : ProfileFault} → AreNoArguments s field arguments f → IsNotEncoded s field (given.Call name arguments) f

pub data IsNoInitial (s : Names) (bound : Bound) : ProfileFault → Type 0 where
  -- a bracket stands there
  has_bracket : (b : Bracket) → bound.bracket ≡ Some b → IsNoInitial s bound (no_value bound.name)
  -- it is encoded otherwise
  other_encoding : {f : ProfileFault} → IsNotEncoded s bound.name bound.encoding f → IsNoInitial s bound f
