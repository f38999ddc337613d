-- The packed bits of a field that calls no method are at most 64.
use Rattle.std.proofs.Common.{◌≡◌, refl, sym, subst, ℕ, ◌≤◌, ◌^◌, Bool, true, false, List, [], ◌∷◌, arith}
use Rattle.std.specs.Prelude.{◌&&◌, Option, Some, None, ℤ, pos, negsuc, min, fold, nat_eq, nat_le, if◌then◌else◌}
use Rattle.std.proofs.lemmas.Bool.Decides.{nat_tests}
use Rattle.sem_expr.specs.declared.expr.Side.{Side}
use Rattle.sem_expr.specs.declared.expr.Side.TheVariants.{Uncompressed, Compressed}
use Rattle.sem_profile.specs.declared.profile.Bounds.{Bounds}
use Rattle.sem_profile.specs.declared.profile.Constraint.{Constraint}
use Rattle.sem_profile.specs.declared.profile.Constraint.TheVariants.{Bracket, Enforce}
use Rattle.sem_profile.specs.declared.profile.Encoding.{Encoding}
use Rattle.sem_profile.specs.declared.profile.Encoding.TheVariants as encoding
use Rattle.sem_profile.specs.declared.profile.Library.{Library}
use Rattle.sem_profile.specs.declared.profile.Library.TheVariants as library
use Rattle.sem_profile.specs.declared.profile.Field.{Field}
use Rattle.sem_profile.specs.declared.profile.Format.{Format}
use Rattle.sem_profile.specs.declared.profile.MethodSizes.{MethodSizes}
use Rattle.sem_profile.specs.declared.profile.Sizes.{Sizes}
use Rattle.sem_profile.specs.Constants.{constant}
use Rattle.sem_profile.specs.Fields.{bounds, by_length, library_sizes, encoding_sizes, lists, where_listed, bracket_bounds, narrowed_by, narrowed, encoded_sizes, field_sizes}
use Rattle.cert_rules.specs.Rules.{is_call}

argument_short : (o : Option ℤ) → (by_length o).most ≤ 64
argument_short None = omega arith
argument_short (Some (negsuc n)) = omega arith
argument_short (Some (pos n)) = by (nat_le n 64) refl
  where
    by : (b : Bool) → nat_le n 64 ≡ b → (if nat_le 0 n && b then bounds (min n (2 ^ 64)) (min n (2 ^ 64)) else bounds 0 64).most ≤ 64
    by true e =
        let le : n ≤ 64 = grind (arith, nat_tests) in
        let z : nat_le 0 n ≡ true = grind (arith, nat_tests) in
        subst (λ c. (if c && true then bounds (min n (2 ^ 64)) (min n (2 ^ 64)) else bounds 0 64).most ≤ 64) (sym z) (omega arith)
    by false e =
        let z : nat_le 0 n ≡ true = grind (arith, nat_tests) in
        subst (λ c. (if c && false then bounds (min n (2 ^ 64)) (min n (2 ^ 64)) else bounds 0 64).most ≤ 64) (sym z) (omega arith)

library_short : (l : Library) → (library_sizes l).compressed.most ≤ 64
library_short (library.UncompressedValue len v) = omega arith
library_short (library.CompressedValue len v) = argument_short (constant len)
library_short (library.Irregular len) = argument_short (constant len)
library_short library.Static = omega arith
library_short (library.Lsb k offset) = argument_short (constant k)
library_short (library.Crc crc) = argument_short (constant crc.bits)

encoding_short : (table : List MethodSizes) (e : Encoding) → is_call e ≡ false → (encoding_sizes table e).compressed.most ≤ 64
encoding_short table encoding.Bare plain = omega arith
encoding_short table (encoding.Library l) plain = library_short l
encoding_short table (encoding.Call k es) plain = absurd (cc)

listed_short : (b : Bool) (s : Sizes) → s.compressed.most ≤ 64 → (where_listed b s).compressed.most ≤ 64
listed_short true s h = h
listed_short false s h = omega arith

bracket_short : (o : Option Bounds) (side : Side) (s : Sizes) → (narrowed_by o side s).compressed.most ≤ s.compressed.most
bracket_short None side s = omega arith
bracket_short (Some b) Uncompressed s = omega arith
bracket_short (Some b) Compressed s = omega arith

constraint_short : (i : ℕ) (s : Sizes) (k : Constraint) → s.compressed.most ≤ 64 → (narrowed i s k).compressed.most ≤ 64
constraint_short i s (Enforce condition place) h = h
constraint_short i s (Bracket field side lengths place) h = by (nat_eq field i)
  where
    by : (b : Bool) → (if b then narrowed_by (bracket_bounds lengths) side s else s).compressed.most ≤ 64
    by true = omega (arith, bracket_short (bracket_bounds lengths) side s)
    by false = h

constraints_short : (i : ℕ) (s : Sizes) (ks : List Constraint) → s.compressed.most ≤ 64 → (fold (narrowed i) s ks).compressed.most ≤ 64
constraints_short i s [] h = h
constraints_short i s (k ∷ ks) h = constraints_short i (narrowed i s k) ks (constraint_short i s k h)

pub uncalled_short : (table : List MethodSizes) (format : Format) (i : ℕ) (d : Field) → is_call d.encoding ≡ false → (field_sizes table format i d).compressed.most ≤ 64
uncalled_short table format i d plain =
    constraints_short i (encoded_sizes table format i d) format.constraints (listed_short (lists format.listing i) (encoding_sizes table d.encoding) (encoding_short table d.encoding plain))
