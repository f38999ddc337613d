-- Where the header fields of a filling begin, and what one of them holds where the header is in front of some bits.
use Rattle.std.proofs.Common.{◌≡◌, refl, sym, ◌∙◌, ap, ℕ, zero, suc, ◌+◌, ◌≤◌, Bool, true, false, List, [], ◌∷◌, ◌++◌, length, take, drop, arith, append_assoc}
use Rattle.std.specs.Prelude.{ℤ, Some, slice_get, option_map}
use Rattle.std.proofs.lemmas.List.{length-append}
use Rattle.std.proofs.lemmas.Option.{slice_get-map}
use Rattle.sem_profile.specs.declared.profile.Declared.{Declared}
use Rattle.sem_profile.specs.declared.profile.Field.{Field}
use Rattle.sem_profile.specs.declared.profile.Format.{Format}
use Rattle.sem_profile.specs.declared.profile.FormatSizes.{FormatSizes}
use Rattle.sem_profile.specs.declared.profile.Method.{Method}
use Rattle.sem_profile.specs.declared.profile.MethodSizes.{MethodSizes}
use Rattle.sem_profile.specs.declared.profile.Sizes.{Sizes}
use Rattle.sem_profile.specs.Outcome.{AreSizes}
use Rattle.sem_filling.specs.declared.filling.Filling.{Filling, out-Filling}
use Rattle.sem_filling.specs.declared.filling.FilledField.{FilledField}
use Rattle.sem_filling.specs.Entries.{Path}
use Rattle.sem_filling.specs.Fillings.{Sides, sides_of, fields_of, level, header, header_bits, is_header}
use Rattle.sem_filling.proofs.FillingsUnique.{also_at}
use Rattle.sem_filling.specs.Bounded.{sizes_at}
use Rattle.sem_filling.specs.Fits.{Context, Fits, FieldFits, assigned, side_of}
use Rattle.sem_filling.proofs.Bounding.{lie-in-bounds}
use Rattle.sem_filling.proofs.FitsInverted.{FitsParts, length-fields}
use Rattle.sem_filling.proofs.FitsSides.{header_splits}
use Rattle.sem_filling.proofs.FitsSized.{one_value, and_then_some}
use Rattle.cert_rules.proofs.ViewsInputs.{joined, header_cons, declared_of, declared_in}
use Rattle.cert_compiled.specs.Offsets.{HaveBefore, none_before, one_header, one_other}

-- the header up to a field and with it
joined_more : (b : Bool) (u xs ys : List Bool) → joined b u (xs ++ ys) ≡ joined b u xs ++ ys
joined_more true u xs ys = sym (append_assoc u xs ys)
joined_more false u xs ys = refl

header_take : (xs : List Sides) (i : ℕ) (s : Sides) → slice_get xs i ≡ Some s → header_bits (take (suc i) xs) ≡ header_bits (take i xs) ++ joined (is_header s.declared.part) s.uncompressed []
header_take [] i s e = absurd (cc)
header_take (x ∷ xs) zero s e = let one : x ≡ s = cc in header_cons x [] ∙ ap (λ (z : Sides). joined (is_header z.declared.part) z.uncompressed []) one
header_take (x ∷ xs) (suc i) s e =
    let b = is_header x.declared.part in
    let more = joined (is_header s.declared.part) s.uncompressed [] in
    header_cons x (take (suc i) xs) ∙ (ap (joined b x.uncompressed) (header_take xs i s e) ∙ (joined_more b x.uncompressed (header_bits (take i xs)) more ∙ ap (λ z. z ++ more) (sym (header_cons x (take i xs)))))

as_long : (b : Bool) (u : List Bool) → b ≡ true → length (joined b u []) ≡ length u
as_long true u e = let l = length-append u [] in omega (arith, l)
as_long false u e = absurd (cc)

no_longer : (b : Bool) (u : List Bool) → b ≡ false → length (joined b u []) ≡ 0
no_longer true u e = absurd (cc)
no_longer false u e = refl

-- the sides of a field, which is declared as it is
record Stood (xs : List Sides) (i : ℕ) (d : Field) : Type 0 where
  s : Sides
  at : slice_get xs i ≡ Some s
  declared : s.declared ≡ d.declared

stood : (xs : List Sides) (ds : List Field) (i : ℕ) (d : Field) → declared_of xs ≡ declared_in ds → slice_get ds i ≡ Some d → Stood xs i d
stood xs [] i d same e = absurd (cc)
stood [] (x ∷ ds) i d same e = absurd (cc)
stood (s ∷ xs) (x ∷ ds) zero d same e =
    let here : s.declared ≡ x.declared = cc in
    let one : x ≡ d = cc in
    record { s = s; at = refl; declared = here ∙ ap (λ (z : Field). z.declared) one }
stood (s ∷ xs) (x ∷ ds) (suc i) d same e =
    let later : declared_of xs ≡ declared_in ds = cc in
    let t = stood xs ds i d later e in
    record { s = t.s; at = t.at; declared = t.declared }

apart : (xs : List Sides) (i : ℕ) (s : Sides) → slice_get xs i ≡ Some s → xs ≡ take i xs ++ s ∷ drop (suc i) xs
apart [] i s e = absurd (cc)
apart (x ∷ xs) zero s e = let one : x ≡ s = cc in λ j. one j ∷ xs
apart (x ∷ xs) (suc i) s e = ap (λ z. x ∷ z) (apart xs i s e)

passed : (front later : List Bool) → drop (length front) (front ++ later) ≡ later
passed [] later = refl
passed (x ∷ front) later = passed front later

module _ (fields : List Field) (sizes : List Sizes) (xs : List Sides) (same : declared_of xs ≡ declared_in fields)
    (lie : (i : ℕ) (s : Sides) (b : Sizes) → slice_get xs i ≡ Some s → slice_get sizes i ≡ Some b → (b.uncompressed.least ≤ length s.uncompressed) × (length s.uncompressed ≤ b.uncompressed.most)) where
  pub counted : {i n : ℕ} → HaveBefore fields sizes i n → length (header_bits (take i xs)) ≡ n
  counted none_before = refl
  counted (one_header {i} {n} d b h at is b_at only) =
      let t = stood xs fields i d same at in
      let before = counted h in
      let long = as_long (is_header t.s.declared.part) t.s.uncompressed (ap (λ (z : Declared). is_header z.part) t.declared ∙ is) in
      let next : i + 1 ≡ suc i = omega arith in
      let whole = ap (λ k. length (header_bits (take k xs))) next ∙ ap length (header_take xs i t.s t.at) in
      let sum = length-append (header_bits (take i xs)) (joined (is_header t.s.declared.part) t.s.uncompressed []) in
      let bounds = lie i t.s b t.at b_at in
      omega (arith, before, long, whole, sum, bounds.0, bounds.1, only)
  counted (one_other {i} {n} d h at is) =
      let t = stood xs fields i d same at in
      let before = counted h in
      let long = no_longer (is_header t.s.declared.part) t.s.uncompressed (ap (λ (z : Declared). is_header z.part) t.declared ∙ is) in
      let next : i + 1 ≡ suc i = omega arith in
      let whole = ap (λ k. length (header_bits (take k xs))) next ∙ ap length (header_take xs i t.s t.at) in
      let sum = length-append (header_bits (take i xs)) (joined (is_header t.s.declared.part) t.s.uncompressed []) in
      omega (arith, before, long, whole, sum)

-- What a header field of a fitting filling holds, whose header is in front of these bits: it is in front where the field begins.
module _ (methods : List Method) (table : List MethodSizes) (sized : AreSizes methods table) (ctx : Context) (k : ℕ) (args : List ℤ) (path : Path) (f : Filling) (p : FitsParts methods ctx k args path f) (fitting : Fits methods ctx k args path f)
    (format : Format) (one : p.format ≡ format) (sizes : FormatSizes) (sizes_are : sizes_at table k (out-Filling f).format ≡ Some sizes) (bits rest : List Bool) (in_front : bits ≡ header f ++ rest) where
  pub record Held (i offset : ℕ) (d : Field) : Type 0 where
    pub field : FilledField
    pub field_is : slice_get (fields_of f) i ≡ Some field
    pub fits : FieldFits methods ctx (side_of p.format.listing (level f)) (assigned p.format.listing (level f) args) path d d.encoding field
    pub later : List Bool
    pub there : drop offset bits ≡ (sides_of field).uncompressed ++ later

  pub held : (i offset : ℕ) (d : Field) → HaveBefore format.fields sizes.fields i offset → slice_get format.fields i ≡ Some d → is_header d.declared.part ≡ true → Held i offset d
  held i offset d before d_is in_header =
      let s = and_then_some (λ z. slice_get z.formats (out-Filling f).format) (slice_get table k) sizes sizes_are in
      let lengths = (lie-in-bounds methods table sized ctx k args path f fitting s.0 sizes s.1 s.2).0 in
      let same : declared_of (level f) ≡ declared_in format.fields = p.level_fits.shaped.declared_is ∙ ap (λ (z : Format). declared_in z.fields) one in
      let front = header_bits (take i (level f)) in
      let long : length front ≡ offset = counted format.fields sizes.fields (level f) same (λ i x z at_x at_z. let l = lengths.fields i x z at_x at_z in (l.uncompressed_lies.least, l.uncompressed_lies.most)) before in
      let at_p : slice_get p.format.fields i ≡ Some d = ap (λ (z : Format). slice_get z.fields i) one ∙ d_is in
      let g = also_at p.format.fields (fields_of f) i d (sym (length-fields p.format f p.level_fits.shaped)) at_p in
      let at_level : slice_get (level f) i ≡ Some (sides_of g.0) = slice_get-map sides_of (fields_of f) i ∙ ap (option_map sides_of) g.1 in
      let t = stood (level f) format.fields i d same d_is in
      let side : t.s ≡ sides_of g.0 = one_value (slice_get (level f) i) t.s (sides_of g.0) t.at at_level in
      let at_header : is_header t.s.declared.part ≡ true = ap (λ (z : Declared). is_header z.part) t.declared ∙ in_header in
      let after = header_bits (drop (suc i) (level f)) ++ rest in
      let whole : bits ≡ front ++ (t.s.uncompressed ++ after) = header_splits f (take i (level f)) (drop (suc i) (level f)) t.s bits rest (apart (level f) i t.s t.at) at_header in_front in
      let begins : drop offset bits ≡ t.s.uncompressed ++ after = (λ j. drop (sym long j) (whole j)) ∙ passed front (t.s.uncompressed ++ after) in
      record { field = g.0; field_is = g.1; fits = p.each i d g.0 at_p g.1; later = after; there = begins ∙ ap (λ (z : Sides). z.uncompressed ++ after) side }
