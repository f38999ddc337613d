-- The test that the prover's order has for a set of formats (docs/DEFINITIONS.md, Trees of the prover's order).
use Rattle.std.specs.Prelude.{◌≡◌, ℕ, ◌+◌, ◌^◌, ◌<◌, Bool, true, false, nat_lt, ◌&&◌, List, [], ◌∷◌, Option, Some, None, slice_get, ℤ, pos, negsuc, int_le}
use Rattle.std.specs.List.{find, filter_map, flat_map, list_any, list_all}
use Rattle.sem_expr.specs.declared.interval.Interval.{Interval}
use Rattle.sem_profile.specs.declared.profile.Format.{Format}
use Rattle.sem_profile.specs.declared.profile.FormatSizes.{FormatSizes}
use Rattle.sem_profile.specs.declared.profile.MethodSizes.{MethodSizes}
use Rattle.cert_types.specs.declared.certificate.Version.{Version}
use Rattle.cert_types.specs.declared.certificate.Version.TheVariants.{One, Two}
use Rattle.cert_types.specs.declared.certificate.Node.{Node}
use Rattle.cert_types.specs.declared.certificate.Node.TheVariants as node
use Rattle.cert_rules.specs.Trees.{known_bit, is_bit, never_at, never_refers}
use Rattle.cert_trees.specs.declared.equations.Equation.{Equation}
use Rattle.cert_trees.specs.Equations.{equation_of, reference_of}

-- ---- sets of formats

-- a format of a method with its number and its bounds; a set of formats is a list of these, in file order
pub record Numbered : Type 0 where
  pub number : ℕ
  pub format : Format
  pub sizes : FormatSizes

-- the formats that have bounds, from a number on
abbrev pub numbered : ℕ → List Format → List FormatSizes → List Numbered
numbered n [] sizes = []
numbered n (format ∷ formats) [] = []
numbered n (format ∷ formats) (z ∷ sizes) = record { number = n; format = format; sizes = z } ∷ numbered (n + 1) formats sizes

-- all formats of a method
abbrev pub all_of : List Format → MethodSizes → List Numbered
all_of formats s = numbered 0 formats s.formats

-- ---- bits

-- of the format the bit at the offset is known, and is this one
abbrev pub knows : Bool → ℕ → Numbered → Bool
knows b o z = is_bit b (known_bit z.format.fields z.sizes.fields z.format.listing o)

-- the offset is below the least length of its packed bits
abbrev pub is_longer : ℕ → Numbered → Bool
is_longer o z = nat_lt o z.sizes.whole.compressed.least

-- a test of the bit parts the set: the offset is below the least length of each, and the bit is known 0 of one and 1 of another
abbrev pub parts_at : List Numbered → ℕ → Bool
parts_at set o = list_all (is_longer o) set && (list_any (knows false o) set && list_any (knows true o) set)

-- ---- parameters

-- the number lies in the range, where there is one
abbrev pub lies_in : Option Interval → ℤ → Bool
lies_in None c = true
lies_in (Some range) c = int_le range.from c && int_le c range.to

-- p == c parts the set: c lies in the range of p, and some format of the set has p == d for another d, or p != c
abbrev pub parts_by : List Interval → List Numbered → Equation → Bool
parts_by ranges set e = e.equal && (lies_in (slice_get ranges e.tested) e.constant && list_any (λ z. never_at e.tested e.constant z.format) set)

-- the constraints p == c and p != c of the formats, in file order, in each the constraints rising
abbrev pub equations : List Numbered → List Equation
equations set = flat_map (λ z. filter_map equation_of z.format.constraints) set

-- ---- references

-- the number has 64 bits
abbrev pub is_word : ℤ → Bool
is_word (pos n) = nat_lt n (2 ^ 64)
is_word (negsuc n) = false

-- f == c of a static field parts the set: c has 64 bits, and some format of the set in which the field is static has f == d for another d, or f != c
abbrev pub refers_apart : List Numbered → Equation → Bool
refers_apart set e = e.equal && (is_word e.constant && list_any (λ z. never_refers e.tested e.constant z.format) set)

-- the constraints f == c and f != c of static fields of the formats, in file order, in each the constraints rising; version one tests none
abbrev pub references : Version → List Numbered → List Equation
references One set = []
references Two set = flat_map (λ z. filter_map (reference_of z.format.fields) z.format.constraints) set

-- ---- the rule

-- The test of a set of formats in certificates of a version: of the bit at the least offset that parts it; else of the parameter and constant of the first p == c that does;
-- else of the field and constant of the first f == c of a static field that does, in version two; else there is none.
pub data TreeRule (version : Version) (ranges : List Interval) (set : List Numbered) : Option Node → Type 0 where
  least_offset : {o : ℕ} → parts_at set o ≡ true → ((q : ℕ) → q < o → parts_at set q ≡ false) → TreeRule version ranges set (Some (node.Bit o))
  first_equation : {e : Equation} → ((o : ℕ) → parts_at set o ≡ false) → find (parts_by ranges set) (equations set) ≡ Some e → TreeRule version ranges set (Some (node.Parameter e.tested e.constant))
  first_reference : {e : Equation} → ((o : ℕ) → parts_at set o ≡ false) → find (parts_by ranges set) (equations set) ≡ None → find (refers_apart set) (references version set) ≡ Some e →
      TreeRule version ranges set (Some (node.Reference e.tested e.constant))
  no_test : ((o : ℕ) → parts_at set o ≡ false) → find (parts_by ranges set) (equations set) ≡ None → find (refers_apart set) (references version set) ≡ None → TreeRule version ranges set None

-- The node of a set: none for the empty one, a leaf for one format, else the test.
abbrev pub NodeRule : Version → List Interval → List Numbered → Node → Type 0
NodeRule version ranges [] x = x ≡ node.Nowhere
NodeRule version ranges (z ∷ []) x = x ≡ node.Leaf z.number
NodeRule version ranges (z ∷ w ∷ set) x = TreeRule version ranges (z ∷ w ∷ set) (Some x)
