-- Bits that say of each step whether it has to be looked at, and what it waits for.
use Rattle.std.specs.Prelude.{◌≡◌, ℕ, ◌+◌, ◌*◌, ◌/◌, ◌%◌, ◌<◌, false, List, length, get_or}
use Rattle.std.specs.Int.{bit_at}
use Rattle.cert_types.specs.declared.rule.Fact.{Fact}
use Rattle.cert_types.specs.declared.rule.Fact.TheVariants.{LengthOf, BitsOf, Done}
use Rattle.cert_rules.specs.Facts.{has}
use Rattle.cert_plans.specs.Knowing.{field_of}

-- a bit of one of these words
abbrev pub bit_in : List ℕ → ℕ → ℕ → ℕ
bit_in words word bit = bit_at (get_or words word 0) bit

-- the step has to be looked at; 64 steps share a word
abbrev pub IsDue : List ℕ → ℕ → Type 0
IsDue due i = bit_in due (i / 64) (i % 64) ≡ 1

-- facts of bits are of a kind of their own
abbrev pub kind_of : Fact → ℕ
kind_of (LengthOf side i) = 0
kind_of (BitsOf side i) = 1
kind_of (Done i) = 0

-- of the 128 rows of a word the one of a fact
abbrev pub row_of : ℕ → Fact → ℕ
row_of word x = word * 128 + kind_of x * 64 + field_of x % 64

-- the step stands in the row of the fact
abbrev pub IsInRow : List ℕ → Fact → ℕ → Type 0
IsInRow noted x i = bit_in noted (row_of (i / 64) x) (i % 64) ≡ 1

-- Those that were due are due. One that stood in the row of a fact and isn't due stands there still, and the fact isn't among these.
pub record AreWoken (facts : List Fact) (due noted more left : List ℕ) : Type 0 where
  pub many : length more ≡ length due
  pub rows : length left ≡ length noted
  pub keeps : (i : ℕ) → IsDue due i → IsDue more i
  pub rests : (i : ℕ) (x : Fact) → i < 64 * length due → IsInRow noted x i → (IsDue more i → ⊥) → (has facts x ≡ false) × IsInRow left x i
