-- Expressions as chains of operators.
use Rattle.std.specs.Prelude.{◌≡◌, ℕ, ℤ, List, [], ◌∷◌, Option, Some, slice_get}
use Rattle.sem_expr.specs.declared.expr.Attribute.{Attribute}
use Rattle.sem_expr.specs.declared.expr.Measure.TheVariants.{Value}
use Rattle.sem_expr.specs.declared.expr.Operator.{Operator}
use Rattle.sem_expr.specs.declared.expr.Side.TheVariants.{Uncompressed}
use Rattle.sem_expr.specs.declared.expr.Subject.TheVariants as subject
use Rattle.sem_expr.specs.Values.{Assignment, apply, both}
use Rattle.sem_pages.specs.declared.chains.Chain.{Chain}
use Rattle.sem_pages.specs.declared.chains.Link.{Link}
use Rattle.sem_pages.specs.declared.chains.Operand.{Operand}
use Rattle.sem_pages.specs.declared.chains.Pair.{Pair}
use Rattle.sem_pages.specs.declared.chains.Operand.TheVariants as operand

-- the value of something, for each assignment under which it has one
abbrev pub Meaning : Type 0
Meaning = Assignment → Option ℤ

-- the number of the uncompressed side of a field
abbrev pub up : ℕ → Attribute
up i = record { subject = subject.Field i; side = Uncompressed; measure = Value }

abbrev pub pair_means : Pair → Meaning
pair_means p a = both (apply p.operator) (a.attribute (up p.field)) (Some p.number)

mutual
  -- the operand among these chains means this
  pub data IsOperand (chains : List Chain) : Operand → Meaning → Type 0 where
    number : {n : ℤ} {m : Meaning} → ((a : Assignment) → m a ≡ Some n) → IsOperand chains (operand.Number n) m
    parameter : {i : ℕ} {m : Meaning} → ((a : Assignment) → m a ≡ a.parameter i) → IsOperand chains (operand.Parameter i) m
    field : {i : ℕ} {m : Meaning} → ((a : Assignment) → m a ≡ a.attribute (up i)) → IsOperand chains (operand.Field i) m
    attribute : {t : Attribute} {m : Meaning} → ((a : Assignment) → m a ≡ a.attribute t) → IsOperand chains (operand.Attribute t) m
    pair : {p : Pair} {m : Meaning} → ((a : Assignment) → m a ≡ pair_means p a) → IsOperand chains (operand.Pair p) m
    chain : {j : ℕ} {c : Chain} {m whole : Meaning} → slice_get chains j ≡ Some c → IsOperand chains c.first m → Follows chains c.links m whole → IsOperand chains (operand.Chain j) whole

  -- what the links make of the one is the other
  pub data Follows (chains : List Chain) : List Link → Meaning → Meaning → Type 0 where
    ends : {m whole : Meaning} → ((a : Assignment) → whole a ≡ m a) → Follows chains [] m whole
    goes : {l : Link} {ls : List Link} {m r next whole : Meaning} → IsOperand chains l.right r → ((a : Assignment) → next a ≡ both (apply l.operator) (m a) (r a)) → Follows chains ls next whole → Follows chains (l ∷ ls) m whole

-- the links make this of the operand
pub record Spells (chains : List Chain) (first : Operand) (links : List Link) (whole : Meaning) : Type 0 where
  pub begun : Meaning
  pub is_first : IsOperand chains first begun
  pub follow : Follows chains links begun whole

-- the operator makes the whole of the one and the other
abbrev pub IsApplied : Operator → Meaning → Meaning → Meaning → Type 0
IsApplied operator one other whole = (a : Assignment) → whole a ≡ both (apply operator) (one a) (other a)
