-- A length that is told is the length of the side in each filling that is asked for.
use Rattle.std.proofs.Common.{◌≡◌, ◌∙◌, refl, sym, ap, subst, ℕ, zero, suc, ◌+◌, Bool, List, [], ◌∷◌, length, arith}
use Rattle.std.specs.Prelude.{ℤ, pos, negsuc, Option, Some, None, slice_get}
use Rattle.sem_expr.specs.declared.expr.Expr.{Expr}
use Rattle.sem_expr.specs.declared.expr.Side.{Side}
use Rattle.sem_expr.specs.declared.expr.Side.TheVariants.{Uncompressed, Compressed}
use Rattle.sem_expr.specs.declared.expr.Subject.{Subject}
use Rattle.sem_expr.specs.declared.ranges.Ranges.{Ranges}
use Rattle.sem_expr.specs.Ranged.{Bounding}
use Rattle.sem_expr.specs.Values.{Assignment, val}
use Rattle.sem_library.specs.Methods as lib
use Rattle.sem_library.specs.Methods.{Lib, LsbHolds}
use Rattle.sem_profile.specs.declared.profile.Field.{Field}
use Rattle.sem_profile.specs.declared.profile.FormatSizes.{FormatSizes}
use Rattle.sem_profile.specs.declared.profile.Library.{Library}
use Rattle.sem_profile.specs.declared.profile.Library.TheVariants as library
use Rattle.sem_profile.specs.BoundsLaws.{library_exprs}
use Rattle.sem_filling.specs.Fits.{method_of, vals}
use Rattle.sem_filling.proofs.FitsSized.{first_value, map_some, some_and, two_parts, crc_parts}
use Rattle.sem_reasons.specs.Places.{length_in}
use Rattle.sem_reasons.specs.Settings.{Setting}
use Rattle.sem_reasons.specs.Told.{as_length, bits_length, length_at, lengths_from, library_length, pinned}
use Rattle.sem_reasons.proofs.ToldPinned.{LiesIn, one_value_of}

abbrev pub pick : Side → List Bool → List Bool → List Bool
pick Uncompressed u c = u
pick Compressed u c = c

as_number : (o : Option ℤ) (n : ℕ) → as_length o ≡ Some n → o ≡ Some (pos n)
as_number (Some (pos m)) n e = let same : m ≡ n = cc in ap (λ z. Some (pos z)) same
as_number (Some (negsuc m)) n e = absurd (cc)
as_number None n e = absurd (cc)

same_length : (m n : ℕ) → pos m ≡ pos n → m ≡ n
same_length m n e = cc

-- the length that an argument tells is its value
by_value : (r : Bounding) (a : Assignment) (e : Expr) → LiesIn r a e → (n m : ℕ) (v : ℤ) → as_length (pinned r e) ≡ Some n → val a e ≡ Some v → pos m ≡ v → m ≡ n
by_value r a e lies n m v told is long = same_length m n (long ∙ one_value_of r a e lies (pos n) v (as_number (pinned r e) n told) is)

by_bits : (ref : Option (List Bool)) (bits : List Bool) (n : ℕ) → ref ≡ Some bits → bits_length ref ≡ Some n → length bits ≡ n
by_bits (Some b) bits n is told = let same : b ≡ bits = cc in let long : length b ≡ n = cc in ap length (sym same) ∙ long
by_bits None bits n is told = absurd (cc)

pub library_has : (r : Bounding) (a : Assignment) (sides : Subject → Side → List Bool) (ref : Option (List Bool)) (l : Library) (m : lib.Method) (u c : List Bool) (side : Side) (n : ℕ)
    → ((q : ℕ) (e : Expr) → slice_get (library_exprs l) q ≡ Some e → LiesIn r a e) → method_of sides a l ≡ Some m → Lib m ref u c → library_length r ref l side ≡ Some n → length (pick side u c) ≡ n
library_has r a sides ref (library.UncompressedValue len v) m u c Uncompressed n lies is h told =
    let x = two_parts lib.uncompressed_value (val a len) (val a v) m is in
    let holds = (subst (λ z. Lib z ref u c) (sym x.4) h).0 in
    by_value r a len (lies zero len refl) n (length u) x.0 told x.2 holds.length_is
library_has r a sides ref (library.UncompressedValue len v) m u c Compressed n lies is h told = absurd (cc)
library_has r a sides ref (library.CompressedValue len v) m u c Uncompressed n lies is h told = absurd (cc)
library_has r a sides ref (library.CompressedValue len v) m u c Compressed n lies is h told =
    let x = two_parts lib.compressed_value (val a len) (val a v) m is in
    let holds = (subst (λ z. Lib z ref u c) (sym x.4) h).1 in
    by_value r a len (lies zero len refl) n (length c) x.0 told x.2 holds.length_is
library_has r a sides ref (library.Irregular len) m u c side n lies is h told =
    let x = map_some lib.irregular (val a len) m is in
    let holds = subst (λ z. Lib z ref u c) (sym x.2) h in
    let long = by_value r a len (lies zero len refl) n (length u) x.0 told x.1 holds.1 in
    both side holds.0 long
  where
    both : (z : Side) → u ≡ c → length u ≡ n → length (pick z u c) ≡ n
    both Uncompressed same long = long
    both Compressed same long = ap length (sym same) ∙ long
library_has r a sides ref library.Static m u c Uncompressed n lies is h told =
    let same : lib.static ≡ m = cc in
    by_bits ref u n (subst (λ z. Lib z ref u c) (sym same) h).0 told
library_has r a sides ref library.Static m u c Compressed n lies is h told = absurd (cc)
library_has r a sides ref (library.Lsb k offset) m u c Uncompressed n lies is h told =
    let x = two_parts lib.lsb (val a k) (val a offset) m is in
    let t = some_and ref (λ z. LsbHolds x.0 x.1 z u c) (subst (λ z. Lib z ref u c) (sym x.4) h) in
    t.2.as_long ∙ by_bits ref t.0 n t.1 told
library_has r a sides ref (library.Lsb k offset) m u c Compressed n lies is h told =
    let x = two_parts lib.lsb (val a k) (val a offset) m is in
    let t = some_and ref (λ z. LsbHolds x.0 x.1 z u c) (subst (λ z. Lib z ref u c) (sym x.4) h) in
    by_value r a k (lies zero k refl) n (length c) x.0 told x.2 t.2.bits_are
library_has r a sides ref (library.Crc crc) m u c Uncompressed n lies is h told = absurd (cc)
library_has r a sides ref (library.Crc crc) m u c Compressed n lies is h told =
    let es = crc.polynomial ∷ crc.initial ∷ crc.length ∷ [] in
    let x = crc_parts (sides crc.subject crc.side) (vals a (crc.bits ∷ es)) m is in
    let holds = (subst (λ z. Lib z ref u c) (sym x.5) h).1 in
    by_value r a crc.bits (lies zero crc.bits refl) n (length c) x.0 told (first_value a crc.bits es x.0 (x.1 ∷ x.2 ∷ x.3 ∷ []) x.4) holds.bits_are

-- a length that is noted is that of a field
pub noted : (s : Setting) (base : Ranges) (sizes : FormatSizes) (k : ℕ) (ds : List Field) (i m : ℕ) → length_in (lengths_from s base sizes k ds) i ≡ Some m
    → (d : Field) × (slice_get ds i ≡ Some d) × (length_at s base sizes (k + i) d ≡ Some m)
noted s base sizes k [] i m e = absurd (cc)
noted s base sizes k (d ∷ ds) zero m e = let here : k + 0 ≡ k = omega arith in (d, refl, ap (λ z. length_at s base sizes z d) here ∙ e)
noted s base sizes k (d ∷ ds) (suc i) m e =
    let t = noted s base sizes (k + 1) ds i m e in
    let here : k + suc i ≡ k + 1 + i = omega arith in
    (t.0, t.1, ap (λ z. length_at s base sizes z t.0) here ∙ t.2)
