-- What keeps every filling from a format: where its reason stands in the profile, and its words (docs/FORMATS.md).
use Rattle.std.specs.Prelude.{ℕ, ℤ, List, [], ◌++◌, Option, None, Some, codes, decimal, slice_get, option_and_then, option_map, ◌∷◌, ◌&&◌, nat_eq, unwrap_or, if◌then◌else◌, ◌+◌, true}
use Rattle.sem_profile.specs.declared.profile.Method.{Method}
use Rattle.std.specs.Fmt.{signed_decimal}
use Rattle.std.specs.Option.{option_or}
use Rattle.text_source.specs.declared.span.Span.{Span}
use Rattle.sem_expr.specs.declared.expr.Side.{Side}
use Rattle.sem_expr.specs.declared.expr.Side.TheVariants.{Uncompressed, Compressed}
use Rattle.sem_profile.specs.declared.profile.Bounds.{Bounds}
use Rattle.sem_profile.specs.declared.profile.Constraint.{Constraint}
use Rattle.sem_profile.specs.declared.profile.Constraint.TheVariants.{Bracket, Enforce}
use Rattle.sem_profile.specs.declared.profile.Encoding.{Encoding}
use Rattle.sem_profile.specs.declared.profile.Encoding.TheVariants as encoding
use Rattle.sem_profile.specs.declared.profile.Field.{Field}
use Rattle.sem_profile.specs.declared.profile.FormatSizes.{FormatSizes}
use Rattle.sem_profile.specs.declared.profile.MethodSizes.{MethodSizes}
use Rattle.sem_profile.specs.Resolved.{Resolved}
use Rattle.cert_rules.specs.Facts.{same_side}
use Rattle.sem_filling.specs.declared.obstacle.DeadFormat.{DeadFormat}
use Rattle.sem_filling.specs.declared.obstacle.Obstacle.{Obstacle}
use Rattle.sem_filling.specs.declared.obstacle.Obstacle.TheVariants as obstacle
use Rattle.sem_profile.specs.BoundsFaults.{side_bounds}
use Rattle.sem_filling.specs.Bounded.{sizes_at}
use Rattle.tool_names.specs.Names.{constraints_at, field_at, field_name, method_name, method_place}

-- the place of a bracket of this side of the field i
abbrev pub bracket_of : ℕ → Side → Constraint → Option Span
bracket_of i side (Bracket j other lengths place) = if nat_eq i j && same_side side other then Some place else None
bracket_of i side (Enforce condition place) = None

-- that of the first such bracket
abbrev pub first_bracket : ℕ → Side → List Constraint → Option Span
first_bracket i side [] = None
first_bracket i side (c ∷ cs) = option_or (bracket_of i side c) (first_bracket i side cs)

-- of a bracket, or of the first token of a conjunct
abbrev pub constraint_place : Constraint → Span
constraint_place (Bracket i side lengths place) = place
constraint_place (Enforce condition place) = place

-- the bracket of the side that has no length, or of what `lsb`, `crc` or a call sends; the argument, or its part without a value; the condition or the bracket; the method's name where there
-- is no bracket
abbrev pub obstacle_place : List Constraint → Span → Obstacle → Span
obstacle_place cs at (obstacle.NoLength i side) = unwrap_or (first_bracket i side cs) at
obstacle_place cs at (obstacle.SendsMore i) = unwrap_or (first_bracket i Compressed cs) at
obstacle_place cs at (obstacle.SplitsOctets i) = unwrap_or (first_bracket i Compressed cs) at
obstacle_place cs at (obstacle.NoValue place) = place
obstacle_place cs at (obstacle.OutOfRange u) = u.at
obstacle_place cs at (obstacle.CallsDead i) = unwrap_or (first_bracket i Compressed cs) at
obstacle_place cs at (obstacle.NeverTrue j) = unwrap_or (option_map constraint_place (slice_get cs j)) at

abbrev pub place_of : List Method → DeadFormat → Span
place_of methods d = obstacle_place (constraints_at methods d.method d.format) (method_place methods d.method) d.obstacle

abbrev pub side_name : Side → List ℕ
side_name Uncompressed = codes "uncompressed"
side_name Compressed = codes "compressed"

-- the bounds of a side of a field
abbrev pub bounds_at : List MethodSizes → ℕ → ℕ → ℕ → Side → Bounds
bounds_at table k n i side =
    unwrap_or (option_map (side_bounds side) (option_and_then (λ (s : FormatSizes). slice_get s.fields i) (sizes_at table k n))) (record { least = 0; most = 0 })

abbrev pub length_text : List ℕ → ℕ → ℕ → List ℕ → List ℕ
length_text name least most side = name ++ codes " has at least " ++ decimal least ++ codes " and at most " ++ decimal most ++ codes " bits " ++ side

abbrev pub length_words : List ℕ → Bounds → Side → List ℕ
length_words name b side = length_text name b.least b.most (side_name side)

abbrev pub lsb_words : List ℕ → ℕ → ℕ → List ℕ
lsb_words name sent most = codes "lsb of " ++ decimal sent ++ codes " bits on " ++ name ++ codes ", which has at most " ++ decimal most

abbrev pub crc_words : List ℕ → List ℕ
crc_words name = codes "crc " ++ name ++ codes " is over bits that are never whole octets"

abbrev pub range_words : ℤ → ℤ → List ℕ
range_words from to = codes "this argument has to be from " ++ signed_decimal from ++ codes " to " ++ signed_decimal to ++ codes ", and never is"

-- of a bracket, with the bounds of its side; of a condition
abbrev pub bracket_words : List ℕ → Bounds → Side → List ℕ
bracket_words name b side = length_words name b side ++ codes ", and this bracket has no such length"

abbrev pub constraint_words : Resolved → ℕ → ℕ → Option Constraint → List ℕ
constraint_words p k n (Some (Bracket i side lengths place)) = bracket_words (field_name p.methods k n i) (bounds_at p.sizes k n i side) side
constraint_words p k n (Some (Enforce condition place)) = codes "the condition is never true"
constraint_words p k n None = codes "the condition is never true"

-- the method that a field calls, by its name
abbrev pub called_by : Encoding → Option ℕ
called_by (encoding.Call j arguments) = Some j
called_by _ = None

abbrev pub callee_at : List Method → ℕ → ℕ → ℕ → Option ℕ
callee_at methods k n i = option_and_then (λ (d : Field). called_by d.encoding) (field_at methods k n i)

abbrev pub callee_name : List Method → Option ℕ → List ℕ
callee_name methods (Some j) = method_name methods j
callee_name methods None = codes "-"

abbrev pub called_name : List Method → ℕ → ℕ → ℕ → List ℕ
called_name methods k n i = callee_name methods (callee_at methods k n i)

abbrev pub call_words : List ℕ → List ℕ → List ℕ
call_words name called = name ++ codes " calls " ++ called ++ codes ", by which nothing can be packed"

-- what keeps every filling from the format n of the method k
abbrev pub obstacle_words : Resolved → ℕ → ℕ → Obstacle → List ℕ
obstacle_words p k n (obstacle.NoLength i side) = length_words (field_name p.methods k n i) (bounds_at p.sizes k n i side) side
obstacle_words p k n (obstacle.SendsMore i) =
    lsb_words (field_name p.methods k n i) (bounds_at p.sizes k n i Compressed).least (bounds_at p.sizes k n i Uncompressed).most
obstacle_words p k n (obstacle.SplitsOctets i) = crc_words (field_name p.methods k n i)
obstacle_words p k n (obstacle.NoValue place) = codes "this has no value: it divides by 0, or its exponent is below 0"
obstacle_words p k n (obstacle.OutOfRange u) = range_words u.due.from u.due.to
obstacle_words p k n (obstacle.NeverTrue j) = constraint_words p k n (slice_get (constraints_at p.methods k n) j)
obstacle_words p k n (obstacle.CallsDead i) = call_words (field_name p.methods k n i) (called_name p.methods k n i)
