-- What may be known of a field, and the inputs of an expression (docs/DEFINITIONS.md, Certificates).
use Rattle.std.specs.Prelude.{ℕ, suc, Bool, true, false, List, [], ◌∷◌, ◌++◌, map, nat_eq, ◌&&◌, ◌||◌, not}
use Rattle.sem_expr.specs.declared.expr.Subject.{Subject}
use Rattle.sem_expr.specs.declared.expr.Subject.TheVariants as subject
use Rattle.sem_expr.specs.declared.expr.Side.{Side}
use Rattle.sem_expr.specs.declared.expr.Side.TheVariants.{Uncompressed, Compressed}
use Rattle.sem_expr.specs.declared.expr.Measure.{Measure}
use Rattle.sem_expr.specs.declared.expr.Measure.TheVariants as measure
use Rattle.sem_expr.specs.declared.expr.Expr.{Expr}
use Rattle.sem_expr.specs.declared.expr.Expr.TheVariants as expr
use Rattle.sem_expr.specs.declared.expr.Expr.TheVariants.{Number, Parameter, Binary'}
use Rattle.sem_profile.specs.declared.profile.Field.{Field}
use Rattle.sem_profile.specs.declared.profile.Format.{Format}
use Rattle.sem_profile.specs.Fields.{lists}
use Rattle.sem_filling.specs.Fillings.{is_header}
use Rattle.cert_types.specs.declared.rule.Fact.{Fact}
use Rattle.cert_types.specs.declared.rule.Fact.TheVariants.{LengthOf, BitsOf, Done}

-- equality of sides
abbrev pub same_side : Side → Side → Bool
same_side Uncompressed Uncompressed = true
same_side Compressed Compressed = true
same_side _ _ = false

-- whether two facts are one
abbrev pub same_fact : Fact → Fact → Bool
same_fact (LengthOf s i) (LengthOf t j) = same_side s t && nat_eq i j
same_fact (BitsOf s i) (BitsOf t j) = same_side s t && nat_eq i j
same_fact (Done i) (Done j) = nat_eq i j
same_fact _ _ = false

-- whether a fact is among those that are known
abbrev pub has : List Fact → Fact → Bool
has [] x = false
has (y ∷ ys) x = same_fact y x || has ys x

-- whether all of them are
abbrev pub has_all : List Fact → List Fact → Bool
has_all known [] = true
has_all known (x ∷ xs) = has known x && has_all known xs

-- whether none of them is
abbrev pub has_none : List Fact → List Fact → Bool
has_none known [] = true
has_none known (x ∷ xs) = not (has known x) && has_none known xs

-- what tells a measure of a side of the field at an index
abbrev pub fact_of : Side → Measure → ℕ → Fact
fact_of side measure.Length = LengthOf side
fact_of side measure.Value = BitsOf side

-- put before the others where the field is a header field
abbrev pub of_header : Bool → Fact → List Fact → List Fact
of_header true x xs = x ∷ xs
of_header false x xs = xs

-- that fact of each header field, from the index n on
abbrev pub of_headers : (ℕ → Fact) → ℕ → List Field → List Fact
of_headers fact n [] = []
of_headers fact n (d ∷ ds) = of_header (is_header d.declared.part) (fact n) (of_headers fact (suc n) ds)

-- what tells one attribute
abbrev pub side_facts : Format → Subject → Side → Measure → List Fact
side_facts format (subject.Field i) side m = fact_of side m i ∷ []
side_facts format subject.This Uncompressed m = of_headers (fact_of Uncompressed m) 0 format.fields
side_facts format subject.This Compressed m = map (fact_of Compressed m) format.listing

-- what an expression needs
abbrev pub inputs : Format → Expr → List Fact
inputs format (Number s n) = []
inputs format (Parameter s i) = []
inputs format (expr.Attribute s t) = side_facts format t.subject t.side t.measure
inputs format (Binary' s op p x q y) = inputs format x ++ inputs format y

-- what several expressions need
abbrev pub inputs_of_all : Format → List Expr → List Fact
inputs_of_all format [] = []
inputs_of_all format (e ∷ es) = inputs format e ++ inputs_of_all format es

-- one more, unless the place is found
abbrev pub before_more : Bool → ℕ → List ℕ → List ℕ
before_more true k ks = []
before_more false k ks = k ∷ ks

-- the fields listed before the first place of i
abbrev pub before : ℕ → List ℕ → List ℕ
before i [] = []
before i (k ∷ ks) = before_more (nat_eq k i) k (before i ks)

-- known from the start: a field that isn't listed has no packed bits
abbrev pub unlisted : Bool → ℕ → List Fact → List Fact
unlisted true n xs = xs
unlisted false n xs = LengthOf Compressed n ∷ BitsOf Compressed n ∷ xs

-- those of each field, from the index n on
abbrev pub at_start : List ℕ → ℕ → List Field → List Fact
at_start listing n [] = []
at_start listing n (d ∷ ds) = unlisted (lists listing n) n (at_start listing (suc n) ds)
