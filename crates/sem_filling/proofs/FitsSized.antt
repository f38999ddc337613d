-- The lengths of the two sides of a field under a library method.
use Rattle.std.proofs.Common.{◌≡◌, ◌∙◌, refl, sym, ap, subst, ℕ, ◌≤◌, Bool, true, List, [], ◌∷◌, length, arith}
use Rattle.std.specs.Prelude.{Option, Some, None, IsSomeAnd, ℤ, pos}
use Rattle.std.specs.Option.{option_map, option_and_then}
use Rattle.sem_expr.specs.declared.expr.Subject.{Subject}
use Rattle.sem_expr.specs.declared.expr.Side.{Side}
use Rattle.sem_expr.specs.declared.expr.Side.TheVariants.{Uncompressed, Compressed}
use Rattle.sem_expr.specs.declared.expr.Expr.{Expr}
use Rattle.sem_expr.specs.Values.{Assignment, val}
use Rattle.sem_library.specs.Methods.{Method, Lib, LsbHolds}
use Rattle.sem_library.specs.Methods as lib
use Rattle.sem_profile.specs.declared.profile.Library.{Library}
use Rattle.sem_profile.specs.declared.profile.Library.TheVariants as library
use Rattle.sem_profile.specs.HasBounds.{size_of, is_empty}
use Rattle.sem_filling.specs.Fits.{vals, two_values, crc_values, method_of}

-- one of two sides
abbrev pub end_of : Side → List Bool → List Bool → List Bool
end_of Uncompressed u c = u
end_of Compressed u c = c

abbrev Short : List Bool → List Bool → Side → Type 0
Short u c z = length (end_of z u c) ≤ 64

abbrev Empty : Library → List Bool → List Bool → Side → Type 0
Empty l u c z = is_empty z l ≡ true → length (end_of z u c) ≡ 0

abbrev Given : Assignment → Library → List Bool → List Bool → Side → Type 0
Given a l u c z = (e : Expr) → size_of z l ≡ Some e → val a e ≡ Some (pos (length (end_of z u c)))

-- an option has one value
pub one_value : {A : Type 0} → (o : Option A) (x y : A) → o ≡ Some x → o ≡ Some y → x ≡ y
one_value o x y e h = cc

-- what a library method says of the lengths
pub record Sized (a : Assignment) (l : Library) (u c : List Bool) : Type 0 where
  pub short : (z : Side) → Short u c z
  pub empty : (z : Side) → Empty l u c z
  pub given : (z : Side) → Given a l u c z

by_side : (P : Side → Type 0) → P Uncompressed → P Compressed → (z : Side) → P z
by_side P u c Uncompressed = u
by_side P u c Compressed = c

pub and_then_some : {A B : Type 0} → (f : A → Option B) (o : Option A) (y : B) → option_and_then f o ≡ Some y → (x : A) × (o ≡ Some x) × (f x ≡ Some y)
and_then_some f None y e = absurd (cc)
and_then_some f (Some x) y e = (x, refl, e)

pub map_some : {A B : Type 0} → (f : A → B) (o : Option A) (y : B) → option_map f o ≡ Some y → (x : A) × (o ≡ Some x) × (f x ≡ y)
map_some f None y e = absurd (cc)
map_some f (Some x) y e = (x, refl, cc)

pub two_parts : (make : ℤ → ℤ → Method) (o q : Option ℤ) (m : Method) → two_values make o q ≡ Some m → (x : ℤ) × (y : ℤ) × (o ≡ Some x) × (q ≡ Some y) × (make x y ≡ m)
two_parts make (Some x) (Some y) m e = (x, y, refl, refl, cc)
two_parts make (Some x) None m e = absurd (cc)
two_parts make None q m e = absurd (cc)

pub crc_parts : (covered : List Bool) (o : Option (List ℤ)) (m : Method) → crc_values covered o ≡ Some m
    → (n : ℤ) × (poly : ℤ) × (init : ℤ) × (len : ℤ) × (o ≡ Some (n ∷ poly ∷ init ∷ len ∷ [])) × (lib.crc n poly init covered len ≡ m)
crc_parts covered (Some (n ∷ poly ∷ init ∷ len ∷ [])) m e = (n, poly, init, len, refl, cc)
crc_parts covered _ m e = absurd (cc)

pub first_value : (a : Assignment) (e : Expr) (es : List Expr) (n : ℤ) (ns : List ℤ) → vals a (e ∷ es) ≡ Some (n ∷ ns) → val a e ≡ Some n
first_value a e es n ns h =
    let t = and_then_some (λ v. option_map (λ vs. v ∷ vs) (vals a es)) (val a e) (n ∷ ns) h in
    let s = map_some (λ vs. t.0 ∷ vs) (vals a es) (n ∷ ns) t.2 in
    let same : t.0 ≡ n = let q = s.2 in cc in
    t.1 ∙ ap Some same

pub some_and : {T : Type 0} → (o : Option T) (P : T → Type 0) → IsSomeAnd o P → (x : T) × (o ≡ Some x) × P x
some_and None P h = absurd h
some_and (Some x) P h = (x, refl, h)

-- the value of the argument is the length
value_is : (a : Assignment) (x e : Expr) (v : ℤ) (n : ℕ) → Some x ≡ Some e → val a x ≡ Some v → pos n ≡ v → val a e ≡ Some (pos n)
value_is a x e v n is value len = let same : x ≡ e = cc in ap (val a) (sym same) ∙ value ∙ ap Some (sym len)

pub sized : (side : Subject → Side → List Bool) (a : Assignment) (l : Library) (m : Method) (ref : Option (List Bool)) (u c : List Bool)
    → method_of side a l ≡ Some m → Lib m ref u c → Sized a l u c
sized side a (library.UncompressedValue len x) m ref u c e h =
    let t = two_parts lib.uncompressed_value (val a len) (val a x) m e in
    let k = subst (λ z. Lib z ref u c) (sym t.4) h in
    let none : length c ≡ 0 = ap length k.1 in
    record {
      short = by_side (Short u c) k.0.short (omega (arith, none));
      empty = by_side (Empty (library.UncompressedValue len x) u c) (λ is. absurd (cc)) (λ is. none);
      given = by_side (Given a (library.UncompressedValue len x) u c) (λ y is. value_is a len y t.0 (length u) is t.2 k.0.length_is) (λ y is. absurd (cc));
    }
sized side a (library.CompressedValue len x) m ref u c e h =
    let t = two_parts lib.compressed_value (val a len) (val a x) m e in
    let k = subst (λ z. Lib z ref u c) (sym t.4) h in
    let none : length u ≡ 0 = ap length k.0 in
    record {
      short = by_side (Short u c) (omega (arith, none)) k.1.short;
      empty = by_side (Empty (library.CompressedValue len x) u c) (λ is. none) (λ is. absurd (cc));
      given = by_side (Given a (library.CompressedValue len x) u c) (λ y is. absurd (cc)) (λ y is. value_is a len y t.0 (length c) is t.2 k.1.length_is);
    }
sized side a (library.Irregular len) m ref u c e h =
    let t = map_some lib.irregular (val a len) m e in
    let k = subst (λ z. Lib z ref u c) (sym t.2) h in
    let same : length u ≡ length c = ap length k.0 in
    record {
      short = by_side (Short u c) k.2 (subst (λ n. n ≤ 64) same k.2);
      empty = by_side (Empty (library.Irregular len) u c) (λ is. absurd (cc)) (λ is. absurd (cc));
      given = by_side (Given a (library.Irregular len) u c) (λ y is. value_is a len y t.0 (length u) is t.1 k.1) (λ y is. value_is a len y t.0 (length c) is t.1 (ap pos (sym same) ∙ k.1));
    }
sized side a library.Static m ref u c e h =
    let is_static : lib.static ≡ m = cc in
    let k = subst (λ z. Lib z ref u c) (sym is_static) h in
    let none : length c ≡ 0 = ap length k.2 in
    record {
      short = by_side (Short u c) k.1 (omega (arith, none));
      empty = by_side (Empty library.Static u c) (λ is. absurd (cc)) (λ is. none);
      given = by_side (Given a library.Static u c) (λ y is. absurd (cc)) (λ y is. absurd (cc));
    }
sized side a (library.Lsb b offset) m ref u c e h =
    let t = two_parts lib.lsb (val a b) (val a offset) m e in
    let k = subst (λ z. Lib z ref u c) (sym t.4) h in
    let r = some_and ref (λ x. LsbHolds t.0 t.1 x u c) k in
    let within : length c ≤ length u = r.2.within in
    let narrow : length u ≤ 64 = r.2.short in
    record {
      short = by_side (Short u c) narrow (omega (arith, within, narrow));
      empty = by_side (Empty (library.Lsb b offset) u c) (λ is. absurd (cc)) (λ is. absurd (cc));
      given = by_side (Given a (library.Lsb b offset) u c) (λ y is. absurd (cc)) (λ y is. value_is a b y t.0 (length c) is t.2 r.2.bits_are);
    }
sized side a (library.Crc crc) m ref u c e h =
    let es = crc.polynomial ∷ crc.initial ∷ crc.length ∷ [] in
    let t = crc_parts (side crc.subject crc.side) (vals a (crc.bits ∷ es)) m e in
    let k = subst (λ z. Lib z ref u c) (sym t.5) h in
    let none : length u ≡ 0 = ap length k.0 in
    let bits = first_value a crc.bits es t.0 (t.1 ∷ t.2 ∷ t.3 ∷ []) t.4 in
    record {
      short = by_side (Short u c) (omega (arith, none)) k.1.short;
      empty = by_side (Empty (library.Crc crc) u c) (λ is. none) (λ is. absurd (cc));
      given = by_side (Given a (library.Crc crc) u c) (λ y is. absurd (cc)) (λ y is. value_is a crc.bits y t.0 (length c) is bits k.1.bits_are);
    }
