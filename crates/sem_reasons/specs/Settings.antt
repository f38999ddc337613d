-- What is asked for: fillings of a method of which one side begins given bits (docs/DEFINITIONS.md, Reasons).
use Rattle.std.specs.Prelude.{◌≡◌, ℕ, ℤ, Bool, true, List, [], ◌++◌, slice_get, Some}
use Rattle.sem_context.specs.Entries.{Entries, bits_at}
use Rattle.sem_expr.specs.declared.expr.Side.{Side}
use Rattle.sem_expr.specs.declared.expr.Side.TheVariants.{Uncompressed, Compressed}
use Rattle.sem_expr.specs.declared.interval.Interval.{Interval}
use Rattle.sem_filling.specs.declared.filling.AskedValue.{AskedValue}
use Rattle.sem_filling.specs.declared.filling.Filling.{Filling, out-Filling}
use Rattle.sem_filling.specs.Entries.{Path}
use Rattle.sem_filling.specs.Fillings.{asked_values, header, level, packed}
use Rattle.sem_filling.specs.Bounded.{ArgumentsLie}
use Rattle.sem_filling.specs.Fits.{Fits}
use Rattle.sem_filling.specs.Ready.{ArgumentsLieAt}
use Rattle.sem_profile.specs.Resolved.{Resolved}
use Rattle.sem_reasons.specs.declared.question.Question.{Question}

-- where fillings of a method stand, what is known of the arguments, and which bits the one side of them begins
pub record Setting : Type 0 where
  pub profile : Resolved
  pub context : Entries
  pub method : ℕ
  -- a range for each parameter
  pub parameters : List Interval
  pub path : Path
  pub side : Side
  pub bits : List Bool
  -- the side is all of the bits
  pub is_whole : Bool
  -- the first values of the asked fields, in their order, as far as they are known
  pub asked : List AskedValue

abbrev pub setting_of : Question → Setting
setting_of s = record {
  profile = s.profile.now;
  context = s.context.now;
  method = s.method;
  parameters = s.parameters.now;
  path = s.path.now;
  side = s.side;
  bits = s.bits.now;
  is_whole = s.is_whole;
  asked = s.asked.now;
}

abbrev pub whole_side : Side → Filling → List Bool
whole_side Uncompressed f = header f
whole_side Compressed f = packed f

-- a filling of the format n that is asked for: it fits under arguments that lie in the ranges, its side begins the bits, and its asked fields have the values
pub record IsSought (s : Setting) (n : ℕ) (f : Filling) : Type 0 where
  pub args : List ℤ
  pub in_table : ArgumentsLieAt s.profile s.method args
  pub in_ranges : ArgumentsLie s.parameters args
  pub fits : Fits s.profile.methods (bits_at s.context) s.method args s.path f
  pub format_is : (out-Filling f).format ≡ n
  pub rest : List Bool
  pub in_front : s.bits ≡ whole_side s.side f ++ rest
  pub whole_is : s.is_whole ≡ true → rest ≡ []
  pub asked_are : (k : ℕ) (value : AskedValue) → slice_get s.asked k ≡ Some value → slice_get (asked_values (level f)) k ≡ Some value

-- no filling of the format n is asked for
abbrev pub IsOut : Setting → ℕ → Type 0
IsOut s n = (f : Filling) → IsSought s n f → ⊥
