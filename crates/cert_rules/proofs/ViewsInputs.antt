-- An expression has one value where its inputs agree.
use Rattle.std.proofs.Common.{◌≡◌, refl, sym, ◌∙◌, ap, subst, ℕ, zero, suc, ◌+◌, Bool, true, false, cond, List, [], ◌∷◌, ◌++◌, length, map, arith, length-append}
use Rattle.std.specs.Prelude.{Some, slice_get, option_map, option_and_then, unwrap_or, flat_map, filter, ℤ, pos}
use Rattle.sem_expr.specs.Values.{val, both, apply}
use Rattle.sem_bits.specs.Number.{num}
use Rattle.sem_filling.specs.Fillings.{Sides, is_header, header_bits, packed_bits}
use Rattle.sem_filling.specs.Fits.{field_side, side_of, measured, assigned, vals}
use Rattle.sem_expr.specs.declared.expr.Subject.{Subject}
use Rattle.sem_expr.specs.declared.expr.Subject.TheVariants as subject
use Rattle.sem_expr.specs.declared.expr.Side.{Side}
use Rattle.sem_expr.specs.declared.expr.Side.TheVariants.{Uncompressed, Compressed}
use Rattle.sem_expr.specs.declared.expr.Measure.{Measure}
use Rattle.sem_expr.specs.declared.expr.Measure.TheVariants as measure
use Rattle.sem_expr.specs.declared.expr.Expr.{Expr}
use Rattle.sem_expr.specs.declared.expr.Expr.TheVariants as expr
use Rattle.sem_expr.specs.declared.expr.Expr.TheVariants.{Number, Parameter, Binary'}
use Rattle.sem_profile.specs.declared.profile.Field.{Field}
use Rattle.sem_profile.specs.declared.profile.Format.{Format}
use Rattle.sem_profile.specs.declared.profile.Declared.{Declared}
use Rattle.sem_filling.proofs.FitsSides.{piece_is}
use Rattle.cert_types.specs.declared.rule.Fact.{Fact}
use Rattle.cert_types.specs.declared.rule.Fact.TheVariants.{LengthOf, BitsOf}
use Rattle.cert_rules.specs.Facts.{of_header, of_headers, side_facts, inputs, inputs_of_all}
use Rattle.cert_rules.specs.Views.{View, Agree, AgreeAll}
use Rattle.cert_rules.proofs.ViewsAgree.{agree_left, agree_right}

abbrev pub joined : Bool → List Bool → List Bool → List Bool
joined true u rest = u ++ rest
joined false u rest = rest

joined_is : (b : Bool) (x : Sides) (xs : List Sides) → flat_map (λ s. s.uncompressed) (cond b (x ∷ xs) xs) ≡ joined b x.uncompressed (flat_map (λ s. s.uncompressed) xs)
joined_is true x xs = refl
joined_is false x xs = refl

pub header_cons : (x : Sides) (xs : List Sides) → header_bits (x ∷ xs) ≡ joined (is_header x.declared.part) x.uncompressed (header_bits xs)
header_cons x xs = joined_is (is_header x.declared.part) x (filter (λ s. is_header s.declared.part) xs)

abbrev pub declared_of : List Sides → List Declared
declared_of = map (λ s. s.declared)

abbrev pub declared_in : List Field → List Declared
declared_in = map (λ d. d.declared)

module _ (f g : View) where
  headers_next : (b : Bool) (u v rest rest' : List Bool) (fact : Fact) (facts : List Fact) → AgreeAll f g (of_header b fact facts) →
      (Agree f g fact → u ≡ v) → (AgreeAll f g facts → rest ≡ rest') → joined b u rest ≡ joined b v rest'
  headers_next true u v rest rest' fact facts h e es = λ i. e h.0 i ++ es h.1 i
  headers_next false u v rest rest' fact facts h e es = es h

  lengths_next : (b : Bool) (u v rest rest' : List Bool) (fact : Fact) (facts : List Fact) → AgreeAll f g (of_header b fact facts) →
      (Agree f g fact → length u ≡ length v) → (AgreeAll f g facts → length rest ≡ length rest') → length (joined b u rest) ≡ length (joined b v rest')
  lengths_next true u v rest rest' fact facts h e es = omega (arith, length-append u rest, length-append v rest', e h.0, es h.1)
  lengths_next false u v rest rest' fact facts h e es = es h

  headers_same : (n : ℕ) (ds : List Field) (xs ys : List Sides) → declared_of xs ≡ declared_in ds → declared_of ys ≡ declared_in ds →
      ((i : ℕ) → Agree f g (BitsOf Uncompressed (n + i)) → field_side (slice_get xs i) Uncompressed ≡ field_side (slice_get ys i) Uncompressed) →
      AgreeAll f g (of_headers (BitsOf Uncompressed) n ds) → header_bits xs ≡ header_bits ys
  headers_same n [] [] [] dx dy same h = refl
  headers_same n [] (x ∷ xs) ys dx dy same h = absurd (cc)
  headers_same n [] [] (y ∷ ys) dx dy same h = absurd (cc)
  headers_same n (d ∷ ds) [] ys dx dy same h = absurd (cc)
  headers_same n (d ∷ ds) (x ∷ xs) [] dx dy same h = absurd (cc)
  headers_same n (d ∷ ds) (x ∷ xs) (y ∷ ys) dx dy same h =
      let ex : x.declared ≡ d.declared = cc in
      let ey : y.declared ≡ d.declared = cc in
      let dx' : declared_of xs ≡ declared_in ds = cc in
      let dy' : declared_of ys ≡ declared_in ds = cc in
      header_cons x xs ∙ (ap (λ z. joined (is_header z.part) x.uncompressed (header_bits xs)) ex ∙
      (headers_next (is_header d.declared.part) x.uncompressed y.uncompressed (header_bits xs) (header_bits ys) (BitsOf Uncompressed n) (of_headers (BitsOf Uncompressed) (suc n) ds) h
      (λ a. same zero (subst (λ z. Agree f g (BitsOf Uncompressed z)) (omega arith) a))
      (λ h. headers_same (suc n) ds xs ys dx' dy' (λ i a. same (suc i) (subst (λ z. Agree f g (BitsOf Uncompressed z)) (omega arith) a)) h) ∙
      sym (header_cons y ys ∙ ap (λ z. joined (is_header z.part) y.uncompressed (header_bits ys)) ey)))

  lengths_same : (n : ℕ) (ds : List Field) (xs ys : List Sides) → declared_of xs ≡ declared_in ds → declared_of ys ≡ declared_in ds →
      ((i : ℕ) → Agree f g (LengthOf Uncompressed (n + i)) → length (field_side (slice_get xs i) Uncompressed) ≡ length (field_side (slice_get ys i) Uncompressed)) →
      AgreeAll f g (of_headers (LengthOf Uncompressed) n ds) → length (header_bits xs) ≡ length (header_bits ys)
  lengths_same n [] [] [] dx dy same h = refl
  lengths_same n [] (x ∷ xs) ys dx dy same h = absurd (cc)
  lengths_same n [] [] (y ∷ ys) dx dy same h = absurd (cc)
  lengths_same n (d ∷ ds) [] ys dx dy same h = absurd (cc)
  lengths_same n (d ∷ ds) (x ∷ xs) [] dx dy same h = absurd (cc)
  lengths_same n (d ∷ ds) (x ∷ xs) (y ∷ ys) dx dy same h =
      let ex : x.declared ≡ d.declared = cc in
      let ey : y.declared ≡ d.declared = cc in
      let dx' : declared_of xs ≡ declared_in ds = cc in
      let dy' : declared_of ys ≡ declared_in ds = cc in
      ap length (header_cons x xs ∙ ap (λ z. joined (is_header z.part) x.uncompressed (header_bits xs)) ex) ∙
      (lengths_next (is_header d.declared.part) x.uncompressed y.uncompressed (header_bits xs) (header_bits ys) (LengthOf Uncompressed n) (of_headers (LengthOf Uncompressed) (suc n) ds) h
      (λ a. same zero (subst (λ z. Agree f g (LengthOf Uncompressed z)) (omega arith) a))
      (λ h. lengths_same (suc n) ds xs ys dx' dy' (λ i a. same (suc i) (subst (λ z. Agree f g (LengthOf Uncompressed z)) (omega arith) a)) h) ∙
      ap length (sym (header_cons y ys ∙ ap (λ z. joined (is_header z.part) y.uncompressed (header_bits ys)) ey)))

-- the packed bits by the compressed sides at the listed indices
pub packed_is : (listing : List ℕ) (fs : List Sides) → packed_bits listing fs ≡ flat_map (λ i. field_side (slice_get fs i) Compressed) listing
packed_is [] fs = refl
packed_is (i ∷ is) fs = λ j. piece_is (slice_get fs i) j ++ packed_is is fs j

module _ (f g : View) where
  pub packed_same : (listing : List ℕ) → AgreeAll f g (map (BitsOf Compressed) listing) → packed_bits listing f.sides ≡ packed_bits listing g.sides
  packed_same [] h = refl
  packed_same (i ∷ is) h = λ j. (piece_is (slice_get f.sides i) ∙ (h.0 ∙ sym (piece_is (slice_get g.sides i)))) j ++ packed_same is h.1 j

  packed_lengths : (listing : List ℕ) → AgreeAll f g (map (LengthOf Compressed) listing) → length (packed_bits listing f.sides) ≡ length (packed_bits listing g.sides)
  packed_lengths [] h = refl
  packed_lengths (i ∷ is) h =
      let a = piece_is (slice_get f.sides i) in
      let b = piece_is (slice_get g.sides i) in
      let p = λ (z : View). unwrap_or (option_map (λ s. s.compressed) (slice_get z.sides i)) [] in
      let here : length (p f) ≡ length (p g) = ap length a ∙ (h.0 ∙ ap length (sym b)) in
      omega (arith, length-append (p f) (packed_bits is f.sides), length-append (p g) (packed_bits is g.sides), here, packed_lengths is h.1)

  module _ (format : Format) (shape_f : declared_of f.sides ≡ declared_in format.fields) (shape_g : declared_of g.sides ≡ declared_in format.fields) where
    pub value_same : (s : Subject) (side : Side) → AgreeAll f g (side_facts format s side measure.Value) → side_of format.listing f.sides s side ≡ side_of format.listing g.sides s side
    value_same (subject.Field i) side h = h.0
    value_same subject.This Uncompressed h =
        headers_same f g 0 format.fields f.sides g.sides shape_f shape_g (λ i a. subst (λ z. Agree f g (BitsOf Uncompressed z)) (omega arith) a) h
    value_same subject.This Compressed h = packed_same format.listing h

    pub length_same : (s : Subject) (side : Side) → AgreeAll f g (side_facts format s side measure.Length) → length (side_of format.listing f.sides s side) ≡ length (side_of format.listing g.sides s side)
    length_same (subject.Field i) side h = h.0
    length_same subject.This Uncompressed h =
        lengths_same f g 0 format.fields f.sides g.sides shape_f shape_g (λ i a. subst (λ z. Agree f g (LengthOf Uncompressed z)) (omega arith) a) h
    length_same subject.This Compressed h = packed_lengths format.listing h

    measured_same : (m : Measure) (s : Subject) (side : Side) → AgreeAll f g (side_facts format s side m) → measured m (side_of format.listing f.sides s side) ≡ measured m (side_of format.listing g.sides s side)
    measured_same measure.Value s side h = ap (λ z. pos (num z)) (value_same s side h)
    measured_same measure.Length s side h = ap pos (length_same s side h)

    pub val_same : (args : List ℤ) (e : Expr) → AgreeAll f g (inputs format e) → val (assigned format.listing f.sides args) e ≡ val (assigned format.listing g.sides args) e
    val_same args (Number s n) h = refl
    val_same args (Parameter s i) h = refl
    val_same args (expr.Attribute s t) h = ap Some (measured_same t.measure t.subject t.side h)
    val_same args (Binary' s op p x q y) h =
        λ i. both (apply op) (val_same args x (agree_left f g (inputs format x) (inputs format y) h) i) (val_same args y (agree_right f g (inputs format x) (inputs format y) h) i)

    pub vals_same : (args : List ℤ) (es : List Expr) → AgreeAll f g (inputs_of_all format es) → vals (assigned format.listing f.sides args) es ≡ vals (assigned format.listing g.sides args) es
    vals_same args [] h = refl
    vals_same args (e ∷ es) h =
        λ i. option_and_then (λ v. option_map (λ vs. v ∷ vs) (vals_same args es (agree_right f g (inputs format e) (inputs_of_all format es) h) i)) (val_same args e (agree_left f g (inputs format e) (inputs_of_all format es) h) i)
