-- Each library method has one side where what it needs agrees.
use Rattle.std.proofs.Common.{◌≡◌, sym, ◌∙◌, ap, subst, ℕ, Bool, List, [], ◌∷◌, length, ◌%◌, ◌^◌}
use Rattle.std.specs.Prelude.{Option, Some, ℤ, pos}
use Rattle.sem_bits.specs.Number.{num, enc}
use Rattle.sem_bits.proofs.Numbers.{enc-num}
use Rattle.sem_library.specs.Methods.{Method, Lib, Spells, LsbHolds, CrcHolds}
use Rattle.sem_library.specs.Methods as lib
use Rattle.sem_library.specs.Crc.{crc_register}
use Rattle.sem_library.proofs.MethodsSolutions.{one_up}
use Rattle.sem_expr.specs.Values.{Assignment, val}
use Rattle.sem_expr.specs.declared.expr.Subject.{Subject}
use Rattle.sem_expr.specs.declared.expr.Side.{Side}
use Rattle.sem_expr.specs.declared.expr.Side.TheVariants.{Uncompressed, Compressed}
use Rattle.sem_expr.specs.declared.expr.Measure.TheVariants as measure
use Rattle.sem_expr.specs.declared.expr.Expr.{Expr}
use Rattle.sem_profile.specs.declared.profile.Library.{Library}
use Rattle.sem_profile.specs.declared.profile.Library.TheVariants as library
use Rattle.sem_profile.specs.declared.profile.Format.{Format}
use Rattle.sem_filling.specs.Fits.{vals, method_of, side_of, assigned}
use Rattle.sem_filling.proofs.FitsSized.{map_some, two_parts, crc_parts, some_and, first_value}
use Rattle.cert_rules.specs.Facts.{inputs, inputs_of_all, side_facts}
use Rattle.cert_rules.specs.Rules.{up_needs, down_needs, length_needs}
use Rattle.cert_rules.specs.Views.{View, side_at, AgreeAll}
use Rattle.cert_rules.proofs.ViewsAgree.{agree_left, agree_right}
use Rattle.cert_rules.proofs.ViewsInputs.{declared_of, declared_in, val_same, vals_same, value_same}

pub num_same : (x y : List Bool) → length x ≡ length y → num x ≡ num y → x ≡ y
num_same x y l n = sym (enc-num x) ∙ ((λ i. enc (l i) (n i)) ∙ enc-num y)

-- a library method's relation, with the values of its arguments
abbrev pub Solved : (Subject → Side → List Bool) → Assignment → Library → Option (List Bool) → List Bool → List Bool → Type 0
Solved side a (library.UncompressedValue len v) ref u c = (p : ℤ) × (q : ℤ) × (val a len ≡ Some p) × (val a v ≡ Some q) × Spells p q u × (c ≡ [])
Solved side a (library.CompressedValue len v) ref u c = (p : ℤ) × (q : ℤ) × (val a len ≡ Some p) × (val a v ≡ Some q) × Spells p q c × (u ≡ [])
Solved side a (library.Irregular len) ref u c = (p : ℤ) × (val a len ≡ Some p) × (u ≡ c) × (pos (length u) ≡ p)
Solved side a library.Static ref u c = (ref ≡ Some u) × (c ≡ [])
Solved side a (library.Lsb k offset) ref u c = (p : ℤ) × (q : ℤ) × (r : List Bool) × (val a k ≡ Some p) × (val a offset ≡ Some q) × (ref ≡ Some r) × LsbHolds p q r u c
Solved side a (library.Crc crc) ref u c = (n : ℤ) × (poly : ℤ) × (init : ℤ) × (len : ℤ) ×
    (vals a (crc.bits ∷ crc.polynomial ∷ crc.initial ∷ crc.length ∷ []) ≡ Some (n ∷ poly ∷ init ∷ len ∷ [])) × (u ≡ []) × CrcHolds n poly init (side crc.subject crc.side) len c

pub solved : (side : Subject → Side → List Bool) (a : Assignment) (l : Library) (v : Method) (ref : Option (List Bool)) (u c : List Bool) → method_of side a l ≡ Some v → Lib v ref u c → Solved side a l ref u c
solved side a (library.UncompressedValue len x) v ref u c e h =
    let t = two_parts lib.uncompressed_value (val a len) (val a x) v e in
    let h' = subst (λ z. Lib z ref u c) (sym t.4) h in (t.0, t.1, t.2, t.3, h'.0, h'.1)
solved side a (library.CompressedValue len x) v ref u c e h =
    let t = two_parts lib.compressed_value (val a len) (val a x) v e in
    let h' = subst (λ z. Lib z ref u c) (sym t.4) h in (t.0, t.1, t.2, t.3, h'.1, h'.0)
solved side a (library.Irregular len) v ref u c e h =
    let t = map_some lib.irregular (val a len) v e in
    let h' = subst (λ z. Lib z ref u c) (sym t.2) h in (t.0, t.1, h'.0, h'.1)
solved side a library.Static v ref u c e h =
    let same : lib.static ≡ v = cc in
    let h' = subst (λ z. Lib z ref u c) (sym same) h in (h'.0, h'.2)
solved side a (library.Lsb k offset) v ref u c e h =
    let t = two_parts lib.lsb (val a k) (val a offset) v e in
    let h' = subst (λ z. Lib z ref u c) (sym t.4) h in
    let r = some_and ref (λ r. LsbHolds t.0 t.1 r u c) h' in (t.0, t.1, r.0, t.2, t.3, r.1, r.2)
solved side a (library.Crc crc) v ref u c e h =
    let t = crc_parts (side crc.subject crc.side) (vals a (crc.bits ∷ crc.polynomial ∷ crc.initial ∷ crc.length ∷ [])) v e in
    let h' = subst (λ z. Lib z ref u c) (sym t.5) h in (t.0, t.1, t.2, t.3, t.4, h'.0, h'.1)

spells_same : (p q p' q' : ℤ) (x y : List Bool) → Spells p q x → Spells p' q' y → p ≡ p' → q ≡ q' → x ≡ y
spells_same p q p' q' x y h h' e e' =
    let l : length x ≡ length y = let a = h.length_is in let b = h'.length_is in cc in
    let n : num x ≡ num y = let a = h.number_is in let b = h'.number_is in cc in
    num_same x y l n

one_value : (o o' : Option ℤ) (p q : ℤ) → o ≡ o' → o ≡ Some p → o' ≡ Some q → p ≡ q
one_value o o' p q e h h' = cc

crc_same : (n poly init len n' poly' init' len' : ℤ) → Some (n ∷ poly ∷ init ∷ len ∷ []) ≡ Some (n' ∷ poly' ∷ init' ∷ len' ∷ []) →
    (x y : List Bool) → x ≡ y → (c c' : List Bool) → CrcHolds n poly init x len c → CrcHolds n' poly' init' y len' c' → c ≡ c'
crc_same n poly init len n' poly' init' len' e x y same c c' h k =
    let l : length c ≡ length c' = let a = h.bits_are in let b = k.bits_are in cc in
    let ep : h.polynomial ≡ k.polynomial = let a = h.polynomial_is in let b = k.polynomial_is in cc in
    let ei : h.initial ≡ k.initial = let a = h.initial_is in let b = k.initial_is in cc in
    num_same c c' l (h.number_is ∙ ((λ j. crc_register (ep j) (ei j) (same j)) ∙ sym k.number_is))

module _ (f g : View) (format : Format) (shape_f : declared_of f.sides ≡ declared_in format.fields) (shape_g : declared_of g.sides ≡ declared_in format.fields) (args : List ℤ) where
  abbrev S : View → Subject → Side → List Bool
  S z = side_of format.listing z.sides

  abbrev A : View → Assignment
  A z = assigned format.listing z.sides args

  arg : (e : Expr) (p q : ℤ) → AgreeAll f g (inputs format e) → val (A f) e ≡ Some p → val (A g) e ≡ Some q → p ≡ q
  arg e p q h x y = one_value (val (A f) e) (val (A g) e) p q (val_same f g format shape_f shape_g args e h) x y

  module _ (i : ℕ) (ref : Option (List Bool)) (u c u' c' : List Bool) where
    pub up_same : (l : Library) → side_at f i Compressed ≡ c → side_at g i Compressed ≡ c' → Solved (S f) (A f) l ref u c → Solved (S g) (A g) l ref u' c' → AgreeAll f g (up_needs format i l) → u ≡ u'
    up_same (library.UncompressedValue len v) ec ec' h k n =
        spells_same h.0 h.1 k.0 k.1 u u' h.4 k.4 (arg len h.0 k.0 (agree_left f g (inputs format len) (inputs format v) n) h.2 k.2) (arg v h.1 k.1 (agree_right f g (inputs format len) (inputs format v) n) h.3 k.3)
    up_same (library.CompressedValue len v) ec ec' h k n = h.5 ∙ sym k.5
    up_same (library.Irregular len) ec ec' h k n = h.2 ∙ (sym ec ∙ (n.0 ∙ (ec' ∙ sym k.2)))
    up_same library.Static ec ec' h k n = let a = h.0 in let b = k.0 in cc
    up_same (library.Lsb b offset) ec ec' h k n =
        let p : h.0 ≡ k.0 = arg b h.0 k.0 (agree_left f g (inputs format b) (inputs format offset) n.1) h.3 k.3 in
        let q : h.1 ≡ k.1 = arg offset h.1 k.1 (agree_right f g (inputs format b) (inputs format offset) n.1) h.4 k.4 in
        let r : h.2 ≡ k.2 = let a = h.5 in let b = k.5 in cc in
        let same : c' ≡ c = sym ec' ∙ (sym n.0 ∙ ec) in
        one_up (lib.lsb h.0 h.1) (Some h.2) u u' c h.6 (subst (λ z. LsbHolds z h.1 h.2 u' c) (sym p) (subst (λ z. LsbHolds k.0 z h.2 u' c) (sym q) (subst (λ z. LsbHolds k.0 k.1 z u' c) (sym r) (subst (λ z. LsbHolds k.0 k.1 k.2 u' z) same k.6))))
    up_same (library.Crc crc) ec ec' h k n = h.5 ∙ sym k.5

    pub down_same : (l : Library) → side_at f i Uncompressed ≡ u → side_at g i Uncompressed ≡ u' → Solved (S f) (A f) l ref u c → Solved (S g) (A g) l ref u' c' → AgreeAll f g (down_needs format i l) → c ≡ c'
    down_same (library.UncompressedValue len v) eu eu' h k n = h.5 ∙ sym k.5
    down_same (library.CompressedValue len v) eu eu' h k n =
        spells_same h.0 h.1 k.0 k.1 c c' h.4 k.4 (arg len h.0 k.0 (agree_left f g (inputs format len) (inputs format v) n) h.2 k.2) (arg v h.1 k.1 (agree_right f g (inputs format len) (inputs format v) n) h.3 k.3)
    down_same (library.Irregular len) eu eu' h k n = sym h.2 ∙ (sym eu ∙ (n.0 ∙ (eu' ∙ k.2)))
    down_same library.Static eu eu' h k n = h.1 ∙ sym k.1
    down_same (library.Lsb b offset) eu eu' h k n =
        let p : h.0 ≡ k.0 = arg b h.0 k.0 n.1 h.3 k.3 in
        let l : length c ≡ length c' = let a = h.6.bits_are in let b = k.6.bits_are in cc in
        let same : u ≡ u' = sym eu ∙ (n.0 ∙ eu') in
        num_same c c' l (h.6.low_part ∙ ((λ j. num (same j) % 2 ^ l j) ∙ sym k.6.low_part))
    down_same (library.Crc crc) eu eu' h k n =
        let es = crc.bits ∷ crc.polynomial ∷ crc.initial ∷ crc.length ∷ [] in
        let bits : S f crc.subject crc.side ≡ S g crc.subject crc.side = value_same f g format shape_f shape_g crc.subject crc.side (agree_left f g (side_facts format crc.subject crc.side measure.Value) (inputs_of_all format es) n) in
        let vs : vals (A f) es ≡ vals (A g) es = vals_same f g format shape_f shape_g args es (agree_right f g (side_facts format crc.subject crc.side measure.Value) (inputs_of_all format es) n) in
        crc_same h.0 h.1 h.2 h.3 k.0 k.1 k.2 k.3 (sym h.4 ∙ (vs ∙ k.4)) (S f crc.subject crc.side) (S g crc.subject crc.side) bits c c' h.6 k.6

    pub c_lengths_same : (l : Library) → Solved (S f) (A f) l ref u c → Solved (S g) (A g) l ref u' c' → AgreeAll f g (length_needs format Compressed l) → length c ≡ length c'
    c_lengths_same (library.UncompressedValue len v) h k n = ap length (h.5 ∙ sym k.5)
    c_lengths_same (library.CompressedValue len v) h k n = let p = arg len h.0 k.0 n h.2 k.2 in let a = h.4.length_is in let b = k.4.length_is in cc
    c_lengths_same (library.Irregular len) h k n = let p = arg len h.0 k.0 n h.1 k.1 in let a = h.3 in let b = k.3 in let x = ap length h.2 in let y = ap length k.2 in cc
    c_lengths_same library.Static h k n = ap length (h.1 ∙ sym k.1)
    c_lengths_same (library.Lsb b offset) h k n = let p = arg b h.0 k.0 n h.3 k.3 in let x = h.6.bits_are in let y = k.6.bits_are in cc
    c_lengths_same (library.Crc crc) h k n =
        let es = crc.polynomial ∷ crc.initial ∷ crc.length ∷ [] in
        let p = arg crc.bits h.0 k.0 n (first_value (A f) crc.bits es h.0 (h.1 ∷ h.2 ∷ h.3 ∷ []) h.4) (first_value (A g) crc.bits es k.0 (k.1 ∷ k.2 ∷ k.3 ∷ []) k.4) in
        let x = h.6.bits_are in let y = k.6.bits_are in cc

    pub u_lengths_same : (l : Library) → Solved (S f) (A f) l ref u c → Solved (S g) (A g) l ref u' c' → AgreeAll f g (length_needs format Uncompressed l) → length u ≡ length u'
    u_lengths_same (library.UncompressedValue len v) h k n = let p = arg len h.0 k.0 n h.2 k.2 in let a = h.4.length_is in let b = k.4.length_is in cc
    u_lengths_same (library.CompressedValue len v) h k n = ap length (h.5 ∙ sym k.5)
    u_lengths_same (library.Irregular len) h k n = let p = arg len h.0 k.0 n h.1 k.1 in let a = h.3 in let b = k.3 in cc
    u_lengths_same library.Static h k n = let a = h.0 in let b = k.0 in let same : u ≡ u' = cc in ap length same
    u_lengths_same (library.Lsb b offset) h k n =
        let a = h.5 in let b = k.5 in let r : h.2 ≡ k.2 = cc in h.6.as_long ∙ (ap length r ∙ sym k.6.as_long)
    u_lengths_same (library.Crc crc) h k n = ap length (h.5 ∙ sym k.5)
