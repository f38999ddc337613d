-- What each step finds of a filling ahead.
use Rattle.std.proofs.Common.{◌≡◌, refl, sym, ◌∙◌, ap, subst, ℕ, zero, suc, ◌+◌, ◌≤◌, Bool, true, false, List, [], ◌∷◌, ◌++◌, length, take, drop, arith, ◌%◌, ◌^◌}
use Rattle.std.specs.Prelude.{Option, Some, ℤ, pos, ◌||◌, nat_eq}
use Rattle.std.proofs.lemmas.Bool.{eqb-true}
use Rattle.sem_bits.specs.Number.{num}
use Rattle.sem_expr.specs.Values.{Assignment, val}
use Rattle.sem_expr.specs.declared.expr.Subject.{Subject}
use Rattle.sem_expr.specs.declared.expr.Side.{Side}
use Rattle.sem_expr.specs.declared.expr.Side.TheVariants.{Uncompressed, Compressed}
use Rattle.sem_expr.specs.declared.expr.Measure.TheVariants as measure
use Rattle.sem_expr.specs.declared.expr.Expr.{Expr}
use Rattle.sem_library.specs.Methods.{LsbHolds, CrcHolds}
use Rattle.sem_profile.specs.declared.profile.Library.{Library}
use Rattle.sem_profile.specs.declared.profile.Library.TheVariants as library
use Rattle.sem_profile.specs.declared.profile.Format.{Format}
use Rattle.sem_profile.specs.Fields.{lists}
use Rattle.sem_filling.specs.Fits.{side_of, assigned}
use Rattle.sem_filling.proofs.FitsSized.{first_value}
use Rattle.cert_rules.specs.Facts.{side_facts, inputs, inputs_of_all, before, before_more}
use Rattle.cert_rules.specs.Rules.{up_needs, down_needs, length_needs}
use Rattle.cert_rules.specs.Views.{View, side_at, AgreeAll}
use Rattle.cert_rules.specs.Steps.{UpIs, DownIs, LengthIs}
use Rattle.cert_rules.proofs.ViewsAgree.{agree_left, agree_right}
use Rattle.cert_rules.proofs.ViewsInputs.{declared_of, declared_in, val_same, vals_same, value_same}
use Rattle.cert_rules.proofs.ViewsMethods.{Solved}

-- ---- a library method, where its arguments have the same values

module _ (format : Format) (args : List ℤ) (w g : View) (shape_w : declared_of w.sides ≡ declared_in format.fields) (shape_g : declared_of g.sides ≡ declared_in format.fields) where
  abbrev S : View → Subject → Side → List Bool
  S z = side_of format.listing z.sides

  abbrev A : View → Assignment
  A z = assigned format.listing z.sides args

  here : (e : Expr) (p : Option ℤ) → AgreeAll w g (inputs format e) → val (A g) e ≡ p → val (A w) e ≡ p
  here e p h is = val_same w g format shape_w shape_g args e h ∙ is

  module _ (i : ℕ) (ref : Option (List Bool)) (u c : List Bool) where
    pub up_is : (l : Library) → side_at g i Compressed ≡ c → Solved (S g) (A g) l ref u c → AgreeAll w g (up_needs format i l) → UpIs (A w) ref (side_at w i Compressed) l u
    up_is (library.UncompressedValue len v) e h n =
        (h.0, h.1, here len (Some h.0) (agree_left w g (inputs format len) (inputs format v) n) h.2, here v (Some h.1) (agree_right w g (inputs format len) (inputs format v) n) h.3, h.4)
    up_is (library.CompressedValue len v) e h n = h.5
    up_is (library.Irregular len) e h n = h.2 ∙ (sym e ∙ sym n.0)
    up_is library.Static e h n = h.0
    up_is (library.Lsb k offset) e h n = (
      h.0,
      h.1,
      h.2,
      here k (Some h.0) (agree_left w g (inputs format k) (inputs format offset) n.1) h.3,
      here offset (Some h.1) (agree_right w g (inputs format k) (inputs format offset) n.1) h.4,
      h.5,
      subst (λ z. LsbHolds h.0 h.1 h.2 u z) (sym e ∙ sym n.0) h.6,
    )
    up_is (library.Crc crc) e h n = h.5

    pub down_is : (l : Library) → side_at g i Uncompressed ≡ u → Solved (S g) (A g) l ref u c → length c ≤ 64 → AgreeAll w g (down_needs format i l) → DownIs (S w) (A w) (side_at w i Uncompressed) l c
    down_is (library.UncompressedValue len v) e h fits n = h.5
    down_is (library.CompressedValue len v) e h fits n =
        (h.0, h.1, here len (Some h.0) (agree_left w g (inputs format len) (inputs format v) n) h.2, here v (Some h.1) (agree_right w g (inputs format len) (inputs format v) n) h.3, h.4)
    down_is (library.Irregular len) e h fits n = sym h.2 ∙ (sym e ∙ sym n.0)
    down_is library.Static e h fits n = h.1
    down_is (library.Lsb k offset) e h fits n = (
      h.0,
      here k (Some h.0) n.1 h.3,
      record {
        length_is = h.6.bits_are;
        number_is = h.6.low_part ∙ ap (λ z. num z % 2 ^ length c) (sym e ∙ sym n.0);
        short = fits;
      },
    )
    down_is (library.Crc crc) e h fits n =
        let es = crc.bits ∷ crc.polynomial ∷ crc.initial ∷ crc.length ∷ [] in
        let data_facts = side_facts format crc.subject crc.side measure.Value in
        let same = value_same w g format shape_w shape_g crc.subject crc.side (agree_left w g data_facts (inputs_of_all format es) n) in (
          h.0,
          h.1,
          h.2,
          h.3,
          vals_same w g format shape_w shape_g args es (agree_right w g data_facts (inputs_of_all format es) n) ∙ h.4,
          subst (λ z. CrcHolds h.0 h.1 h.2 z h.3 c) (sym same) h.6,
        )

    pub u_length_is : (l : Library) → Solved (S g) (A g) l ref u c → AgreeAll w g (length_needs format Uncompressed l) → LengthIs (A w) ref Uncompressed l (length u)
    u_length_is (library.UncompressedValue len v) h n = here len (Some h.0) n h.2 ∙ ap Some (sym h.4.length_is)
    u_length_is (library.CompressedValue len v) h n = ap length h.5
    u_length_is (library.Irregular len) h n = here len (Some h.0) n h.1 ∙ ap Some (sym h.3)
    u_length_is library.Static h n = (u, h.0, refl)
    u_length_is (library.Lsb k offset) h n = (h.2, h.5, h.6.as_long)
    u_length_is (library.Crc crc) h n = ap length h.5

    pub c_length_is : (l : Library) → Solved (S g) (A g) l ref u c → AgreeAll w g (length_needs format Compressed l) → LengthIs (A w) ref Compressed l (length c)
    c_length_is (library.UncompressedValue len v) h n = ap length h.5
    c_length_is (library.CompressedValue len v) h n = here len (Some h.0) n h.2 ∙ ap Some (sym h.4.length_is)
    c_length_is (library.Irregular len) h n = here len (Some h.0) n h.1 ∙ (ap Some (sym h.3) ∙ ap (λ z. Some (pos (length z))) h.2)
    c_length_is library.Static h n = ap length h.1
    c_length_is (library.Lsb k offset) h n = here k (Some h.0) n h.3 ∙ ap Some (sym h.6.bits_are)
    c_length_is (library.Crc crc) h n =
        here crc.bits (Some h.0) n (first_value (A g) crc.bits (crc.polynomial ∷ crc.initial ∷ crc.length ∷ []) h.0 (h.1 ∷ h.2 ∷ h.3 ∷ []) h.4) ∙ ap Some (sym h.6.bits_are)

-- ---- places in lists

pub take_front : (c r bits more : List Bool) → c ++ r ≡ bits ++ more → length c ≤ length bits → c ≡ take (length c) bits
take_front [] r bits more e l = refl
take_front (x ∷ c) r [] more e l = absurd (omega (arith, l))
take_front (x ∷ c) r (y ∷ bits) more e l =
    let first : x ≡ y = cc in
    let later : c ++ r ≡ bits ++ more = cc in
    λ i. first i ∷ take_front c r bits more later (omega (arith, l)) i

pub drop_front : (p r bits more : List Bool) → p ++ r ≡ bits ++ more → length p ≤ length bits → r ≡ drop (length p) bits ++ more
drop_front [] r bits more e l = e
drop_front (x ∷ p) r [] more e l = absurd (omega (arith, l))
drop_front (x ∷ p) r (y ∷ bits) more e l = let later : p ++ r ≡ bits ++ more = cc in drop_front p r bits more later (omega (arith, l))

pub drop_past : (n : ℕ) (bits : List Bool) → length bits ≤ n → drop n bits ≡ []
drop_past zero [] l = refl
drop_past zero (x ∷ bits) l = absurd (omega (arith, l))
drop_past (suc n) [] l = refl
drop_past (suc n) (x ∷ bits) l = drop_past n bits (omega (arith, l))

pub drop_length : (n : ℕ) (bits : List Bool) → n ≤ length bits → n + length (drop n bits) ≡ length bits
drop_length zero bits l = omega arith
drop_length (suc n) [] l = absurd (omega (arith, l))
drop_length (suc n) (x ∷ bits) l = omega (arith, drop_length n bits (omega (arith, l)))

-- a listing up to the first place of an index
pub split_at : (i : ℕ) (listing : List ℕ) → lists listing i ≡ true → (after : List ℕ) × (listing ≡ before i listing ++ i ∷ after)
split_at i [] e = absurd (cc)
split_at i (k ∷ ks) e = by (nat_eq k i) refl e (split_at i ks)
  where
    by : (b : Bool) → nat_eq k i ≡ b → (b || lists ks i) ≡ true → (lists ks i ≡ true → (after : List ℕ) × (ks ≡ before i ks ++ i ∷ after)) → (after : List ℕ) × (k ∷ ks ≡ before_more b k (before i ks) ++ i ∷ after)
    by true is h later = (ks, ap (λ z. z ∷ ks) (eqb-true k i is))
    by false is h later = let t = later h in (t.0, ap (λ z. k ∷ z) t.1)
