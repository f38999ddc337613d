-- The rules beside the grammar, as statements about trees.
use Rattle.std.specs.Prelude.{◌≡◌, ◌≤◌, ◌+◌, ℕ, max, Bool, true, false, List, [], ◌∷◌, length, Option, Some, None}
use Rattle.std.specs.List.{AllByRecursion, count_by}
use Rattle.text_source.specs.declared.token.Token.{Token}
use Rattle.text_tree.specs.declared.tree.Operator.{Operator}
use Rattle.text_tree.specs.declared.tree.Operator.TheVariants as op
use Rattle.text_tree.specs.declared.tree.Expr.{Expr, fold-Expr}
use Rattle.text_tree.specs.declared.tree.Expr.TheOpen.{Expr-F}
use Rattle.text_tree.specs.declared.tree.Encoding.{Encoding}
use Rattle.text_tree.specs.declared.tree.Encoding.TheVariants as encodings
use Rattle.text_tree.specs.declared.tree.Bracket.{Bracket}
use Rattle.text_tree.specs.declared.tree.Bracket.TheVariants as brackets
use Rattle.text_tree.specs.declared.tree.Item.{Item}
use Rattle.text_tree.specs.declared.tree.Item.TheVariants as i
use Rattle.text_tree.specs.declared.tree.Section.{Section}
use Rattle.text_tree.specs.declared.tree.SectionKind.{SectionKind}
use Rattle.text_tree.specs.declared.tree.SectionKind.TheVariants as kinds
use Rattle.text_tree.specs.declared.tree.Method.{Method}
use Rattle.text_tree.specs.declared.tree.Part.{Part}
use Rattle.text_tree.specs.declared.tree.Part.TheVariants as parts
use Rattle.text_tree.specs.declared.tree.File.{File}
use Rattle.text_tree.specs.Operators.{is_integer}
use Rattle.text_tree.specs.Grammar.{IsText}

-- ---- expressions

abbrev pub operators_step : Expr-F ℕ → ℕ
operators_step (Expr-F.Group at x) = x
operators_step (Expr-F.Not at x) = x
operators_step (Expr-F.Binary at operator sign x y) = x + y + 1
operators_step _ = 0

-- how many operators an expression has, with what its brackets hold
abbrev pub operators : Expr → ℕ
operators = fold-Expr ℕ operators_step

abbrev pub levels_step : Expr-F ℕ → ℕ
levels_step (Expr-F.Group at x) = x + 1
levels_step (Expr-F.Not at x) = x + 1
levels_step (Expr-F.Binary at operator sign x y) = max x y
levels_step _ = 0

-- how deep its round brackets and `!` nest
abbrev pub levels : Expr → ℕ
levels = fold-Expr ℕ levels_step

-- Which of ^ * / % + - stand between the same brackets, comparisons, `&&` and `||`: none, one `%` alone, others without a
-- `%`, or a `%` beside another.
pub data Sums : Type 0 where
  empty : Sums
  remainder : Sums
  plain : Sums
  mixed : Sums

-- both, one after the other
abbrev pub beside : Sums → Sums → Sums
beside empty s = s
beside s empty = s
beside plain plain = plain
beside _ _ = mixed

abbrev pub sum_of_operator : Operator → Sums
sum_of_operator op.Remainder = remainder
sum_of_operator _ = plain

-- in brackets, beside a comparison, `&&` or `||` another sum begins
abbrev pub closed : Sums → Sums
closed mixed = mixed
closed _ = empty

abbrev pub joined_sums : Bool → Operator → Sums → Sums → Sums
joined_sums true operator x y = beside x (beside (sum_of_operator operator) y)
joined_sums false operator x y = beside (closed x) (closed y)

abbrev pub sums_step : Expr-F Sums → Sums
sums_step (Expr-F.Group at x) = closed x
sums_step (Expr-F.Not at x) = closed x
sums_step (Expr-F.Binary at operator sign x y) = joined_sums (is_integer operator) operator x y
sums_step _ = empty

-- the outermost sum of an expression, or mixed where any sum in it is
abbrev pub sums_in : Expr → Sums
sums_in = fold-Expr Sums sums_step

abbrev pub is_mixed : Sums → Bool
is_mixed mixed = true
is_mixed _ = false

-- ---- the expressions of a file, in their lists: the arguments of a call, the lengths of a bracket, or one alone

module _ (Keep : List Expr → Type 0) where
  abbrev pub BracketKeeps : Option Bracket → Type 0
  BracketKeeps (Some (brackets.Lengths at xs)) = Keep xs
  BracketKeeps (Some (brackets.Variable at)) = Unit {0}
  BracketKeeps None = Unit {0}

  abbrev pub EncodingKeeps : Encoding → Type 0
  EncodingKeeps (encodings.Bits at count value) = Unit {0}
  EncodingKeeps (encodings.Call at xs) = Keep xs

  abbrev pub ItemKeeps : Item → Type 0
  ItemKeeps (i.Field at b) = BracketKeeps b
  ItemKeeps (i.Bound b) = EncodingKeeps b.encoding × BracketKeeps b.bracket
  ItemKeeps (i.Enforce at x) = Keep (x ∷ [])

  abbrev pub SectionKeeps : Section → Type 0
  SectionKeeps s = AllByRecursion ItemKeeps s.items

  abbrev pub PartKeeps : Part → Type 0
  PartKeeps (parts.Constant c) = Keep (c.value ∷ [])
  PartKeeps (parts.Method m) = AllByRecursion SectionKeeps m.sections

  -- each list of expressions of the file
  abbrev pub Lists : File → Type 0
  Lists file = AllByRecursion PartKeeps file.parts

-- ---- sections and parts

abbrev pub is_format_kind : SectionKind → Bool
is_format_kind (kinds.Compressed name) = true
is_format_kind _ = false

abbrev pub is_control_kind : SectionKind → Bool
is_control_kind kinds.Control = true
is_control_kind _ = false

abbrev pub is_initial_kind : SectionKind → Bool
is_initial_kind kinds.Initial = true
is_initial_kind _ = false

abbrev pub is_default_kind : SectionKind → Bool
is_default_kind kinds.Default = true
is_default_kind _ = false

-- no CONTROL, INITIAL or DEFAULT is repeated
pub record IsOnce (sections : List Section) : Type 0 where
  pub control : count_by (λ s. is_control_kind s.kind) sections ≤ 1
  pub initial : count_by (λ s. is_initial_kind s.kind) sections ≤ 1
  pub default : count_by (λ s. is_default_kind s.kind) sections ≤ 1

-- a method has few parameters and formats, and each section has few statements
pub record IsFew (method : Method) : Type 0 where
  pub parameters : length method.parameters ≤ 32
  pub formats : count_by (λ s. is_format_kind s.kind) method.sections ≤ 64
  pub statements : AllByRecursion (λ s. length s.items ≤ 128) method.sections

abbrev pub PartIsOnce : Part → Type 0
PartIsOnce (parts.Constant constant) = Unit {0}
PartIsOnce (parts.Method method) = IsOnce method.sections

abbrev pub PartIsFew : Part → Type 0
PartIsFew (parts.Constant constant) = Unit {0}
PartIsFew (parts.Method method) = IsFew method

abbrev pub is_constant : Part → Bool
is_constant (parts.Constant constant) = true
is_constant (parts.Method method) = false

abbrev pub is_method : Part → Bool
is_method (parts.Constant constant) = false
is_method (parts.Method method) = true

-- ---- the rules

-- round brackets and `!` nest at most 64 deep
abbrev pub IsShallow : File → Type 0
IsShallow = Lists (AllByRecursion (λ x. levels x ≤ 64))

-- no method repeats CONTROL, INITIAL or DEFAULT
abbrev pub IsUnrepeated : File → Type 0
IsUnrepeated file = AllByRecursion PartIsOnce file.parts

-- no `%` stands beside another of ^ * / % + - without brackets
abbrev pub IsUnmixed : File → Type 0
IsUnmixed = Lists (AllByRecursion (λ x. is_mixed (sums_in x) ≡ false))

-- at most 32 arguments or lengths, with at most 256 operators each
abbrev pub AreFew : List Expr → Type 0
AreFew xs = (length xs ≤ 32) × AllByRecursion (λ x. operators x ≤ 256) xs

-- there are no more parts than may be
pub record IsLimited (file : File) : Type 0 where
  pub expressions : Lists AreFew file
  pub methods : AllByRecursion PartIsFew file.parts
  pub constants : count_by is_constant file.parts ≤ 1024
  pub parts : count_by is_method file.parts ≤ 128

-- The tokens are a text of the grammar that keeps every rule, and the file is its tree.
pub record Parsed (tokens : List Token) (file : File) : Type 0 where
  pub text : IsText tokens file
  pub shallow : IsShallow file
  pub unrepeated : IsUnrepeated file
  pub unmixed : IsUnmixed file
  pub limited : IsLimited file
