-- The rules that a text keeps beside its grammar.
use Rattle.std.specs.Prelude.{◌≡◌, ℕ, ◌+◌, ◌==◌, Bool, true, false, ◌&&◌, nat_le}
use Rattle.text_tree.specs.declared.tree.Operator.{Operator}
use Rattle.text_tree.specs.declared.progress.Progress.{Progress}
use Rattle.text_tree.specs.Operators.{is_late, follows}

-- Which rules count: round brackets and `!` may nest so many levels deeper than the limit; whether sections may repeat,
-- `%` may stand beside other integer operators, and there may be any number of parts.
pub record Rules : Type 0 where
  pub deeper : ℕ
  pub repeats : Bool
  pub sums : Bool
  pub counts : Bool

-- every rule counts
abbrev pub all : Rules
all = record { deeper = 0; repeats = true; sums = true; counts = true }

-- none does but that nesting has an end
abbrev pub none : ℕ → Rules
none deeper = record { deeper = deeper; repeats = false; sums = false; counts = false }

-- how deep round brackets and `!` may nest
abbrev pub nesting : Rules → ℕ
nesting r = 64 + r.deeper

abbrev pub most_constants : ℕ
most_constants = 1024

abbrev pub most_methods : ℕ
most_methods = 128

abbrev pub most_parameters : ℕ
most_parameters = 32

abbrev pub most_formats : ℕ
most_formats = 64

abbrev pub most_statements : ℕ
most_statements = 128

-- arguments of a call, and lengths in a bracket
abbrev pub most_values : ℕ
most_values = 32

-- of a whole expression, with what its brackets hold
abbrev pub most_operators : ℕ
most_operators = 256

-- as many are there as may be
abbrev pub is_full : Rules → ℕ → ℕ → Bool
is_full r most count = r.counts && nat_le most count

-- no more may come
abbrev pub is_out : Rules → ℕ → Bool
is_out r left = r.counts && left == 0

-- The rules let this operator stand here.
pub record Admits (r : Rules) (operator : Operator) (progress : Progress) : Type 0 where
  pub room : is_full r most_operators progress.operators ≡ false
  pub timely : (r.sums && is_late operator progress.sum) ≡ false
  pub apart : (r.sums && follows operator progress.sum) ≡ false
