-- The bounds on the lengths of a field in a format.
use Rattle.std.specs.Prelude.{ℕ, ◌^◌, ℤ, pos, negsuc, int_le, min, max, Bool, true, false, ◌&&◌, nat_eq, List, [], ◌∷◌, slice_get, fold, option_map, option_and_then, unwrap_or, Option, Some, None, if◌then◌else◌}
use Rattle.std.specs.List.{list_any}
use Rattle.sem_expr.specs.declared.expr.Expr.{Expr}
use Rattle.sem_expr.specs.declared.expr.Side.{Side}
use Rattle.sem_expr.specs.declared.expr.Side.TheVariants.{Uncompressed, Compressed}
use Rattle.sem_profile.specs.declared.profile.Bounds.{Bounds}
use Rattle.sem_profile.specs.declared.profile.Sizes.{Sizes}
use Rattle.sem_profile.specs.declared.profile.MethodSizes.{MethodSizes}
use Rattle.sem_profile.specs.declared.profile.Library.{Library}
use Rattle.sem_profile.specs.declared.profile.Library.TheVariants as library
use Rattle.sem_profile.specs.declared.profile.Encoding.{Encoding}
use Rattle.sem_profile.specs.declared.profile.Encoding.TheVariants as encoding
use Rattle.sem_profile.specs.declared.profile.Constraint.{Constraint}
use Rattle.sem_profile.specs.declared.profile.Constraint.TheVariants.{Bracket, Enforce}
use Rattle.sem_profile.specs.declared.profile.Field.{Field}
use Rattle.sem_profile.specs.declared.profile.Format.{Format}
use Rattle.sem_profile.specs.Constants.{constant}

abbrev pub bounds : ℕ → ℕ → Bounds
bounds n m = record { least = n; most = m }

abbrev pub sides : Bounds → Bounds → Sizes
sides u c = record { uncompressed = u; compressed = c }

-- an integer as a count of bits: 0 where it is negative, 2^64 where it is above that
abbrev pub counted : ℤ → ℕ
counted (pos n) = min n (2 ^ 64)
counted (negsuc n) = 0

-- by the argument that is a length: that many bits where it is a constant from 0 to 64, else from 0 to 64
abbrev pub by_length : Option ℤ → Bounds
by_length (Some v) = if int_le (pos 0) v && int_le v (pos 64) then bounds (counted v) (counted v) else bounds 0 64
by_length None = bounds 0 64

abbrev pub library_sizes : Library → Sizes
library_sizes (library.UncompressedValue len v) = sides (by_length (constant len)) (bounds 0 0)
library_sizes (library.CompressedValue len v) = sides (bounds 0 0) (by_length (constant len))
library_sizes (library.Irregular len) = sides (by_length (constant len)) (by_length (constant len))
library_sizes library.Static = sides (bounds 0 64) (bounds 0 0)
library_sizes (library.Lsb k offset) = sides (bounds 0 64) (by_length (constant k))
library_sizes (library.Crc crc) = sides (bounds 0 0) (by_length (constant crc.bits))

-- those of a method by the table; none past its end
abbrev pub whole_at : List MethodSizes → ℕ → Sizes
whole_at table k = unwrap_or (option_map (λ m. m.whole) (slice_get table k)) (sides (bounds 0 0) (bounds 0 0))

abbrev pub encoding_sizes : List MethodSizes → Encoding → Sizes
encoding_sizes table encoding.Bare = sides (bounds 0 64) (bounds 0 0)
encoding_sizes table (encoding.Library l) = library_sizes l
encoding_sizes table (encoding.Call k arguments) = whole_at table k

abbrev pub lists : List ℕ → ℕ → Bool
lists listing i = list_any (λ k. nat_eq k i) listing

-- what is not listed has no compressed bits, whatever its encoding
abbrev pub where_listed : Bool → Sizes → Sizes
where_listed true s = s
where_listed false s = sides s.uncompressed (bounds 0 0)

-- the least and the greatest of the numbers so far and of one more
abbrev pub enclosing : Option Bounds → ℕ → Bounds
enclosing None n = bounds n n
enclosing (Some b) n = bounds (min b.least n) (max b.most n)

-- the same of the values of the expressions, if each is a constant
abbrev pub enclosing_all : Option Bounds → List Expr → Option Bounds
enclosing_all o [] = o
enclosing_all o (e ∷ es) = option_and_then (λ v. enclosing_all (Some (enclosing o (counted v))) es) (constant e)

-- the least and the greatest value in a bracket of constants
abbrev pub bracket_bounds : List Expr → Option Bounds
bracket_bounds lengths = enclosing_all None lengths

-- the greater lower bound and the lesser upper one
abbrev pub meet : Bounds → Bounds → Bounds
meet b c = bounds (max b.least c.least) (min b.most c.most)

abbrev pub narrowed_by : Option Bounds → Side → Sizes → Sizes
narrowed_by None side s = s
narrowed_by (Some b) Uncompressed s = sides (meet s.uncompressed b) s.compressed
narrowed_by (Some b) Compressed s = sides s.uncompressed (meet s.compressed b)

-- what a constraint makes of the bounds of the field i
abbrev pub narrowed : ℕ → Sizes → Constraint → Sizes
narrowed i s (Bracket field side lengths place) = if nat_eq field i then narrowed_by (bracket_bounds lengths) side s else s
narrowed i s (Enforce condition place) = s

-- the bounds by the encoding alone
abbrev pub encoded_sizes : List MethodSizes → Format → ℕ → Field → Sizes
encoded_sizes table format i field = where_listed (lists format.listing i) (encoding_sizes table field.encoding)

-- the bounds of the field i: by its encoding, then by each bracket on it
abbrev pub field_sizes : List MethodSizes → Format → ℕ → Field → Sizes
field_sizes table format i field = fold (narrowed i) (encoded_sizes table format i field) format.constraints
