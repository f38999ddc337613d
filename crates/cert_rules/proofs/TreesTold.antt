-- What a fitting filling tells of its bits and its arguments, and where the way leads that it takes.
use Rattle.std.proofs.Common.{◌≡◌, refl, sym, ◌∙◌, ap, subst, ℕ, ◌≤◌, Bool, List, [], ◌∷◌, ◌++◌, length, arith}
use Rattle.std.specs.Prelude.{Option, Some, None, ℤ, pos, negsuc, true, false, ◌&&◌, option_and_then, slice_get, nat_eq, nat_le, nat_lt}
use Rattle.std.specs.List.{flat_map}
use Rattle.std.proofs.lemmas.Bool.{eqb-true, leb-false}
use Rattle.std.proofs.lemmas.Option.{slice_get-map}
use Rattle.std.specs.Option.{option_map}
use Rattle.sem_bits.specs.Number.{num}
use Rattle.sem_library.specs.Methods.{Spells}
use Rattle.sem_expr.specs.Values.{val}
use Rattle.sem_expr.specs.declared.expr.Measure.TheVariants as measure
use Rattle.sem_expr.specs.declared.expr.Side.TheVariants.{Uncompressed, Compressed}
use Rattle.sem_expr.specs.declared.expr.Expr.{Expr}
use Rattle.sem_profile.specs.declared.profile.Part.{Part}
use Rattle.sem_profile.specs.declared.profile.Part.TheVariants.{Header, Control, Local}
use Rattle.sem_profile.specs.declared.profile.Field.{Field}
use Rattle.sem_profile.specs.declared.profile.Sizes.{Sizes}
use Rattle.sem_profile.specs.declared.profile.MethodSizes.{MethodSizes}
use Rattle.sem_profile.specs.declared.profile.Library.TheVariants as library
use Rattle.sem_profile.specs.declared.profile.Encoding.{Encoding}
use Rattle.sem_profile.specs.declared.profile.Encoding.TheVariants as encoding
use Rattle.sem_profile.specs.declared.profile.Format.{Format}
use Rattle.sem_profile.specs.declared.profile.Method.{Method}
use Rattle.sem_profile.specs.Constants.{constant}
use Rattle.sem_profile.specs.Outcome.{AreSizes}
use Rattle.sem_filling.specs.declared.filling.Filling.{Filling, out-Filling}
use Rattle.sem_filling.specs.Fillings.{sides_of, fields_of, level, packed, packed_bits}
use Rattle.sem_filling.specs.Entries.{Path, below}
use Rattle.sem_filling.proofs.FillingsUnique.{also_at}
use Rattle.sem_filling.specs.Fits.{Context, Fits, LevelFits, side_of, assigned, reference_of}
use Rattle.sem_filling.specs.Bounded.{LengthsLie}
use Rattle.sem_filling.proofs.FitsInverted.{FitsParts, parts, coded_parts, length-fields}
use Rattle.sem_filling.proofs.Bounding.{constant_value, Placed, placed, count_sizes, lie-in-bounds}
use Rattle.sem_filling.proofs.FitsSized.{and_then_some, sized}
use Rattle.cert_types.specs.declared.certificate.Node.{Node}
use Rattle.cert_rules.specs.Rules.{attribute_of, when}
use Rattle.sem_profile.specs.Alike.{IsAlike, AreAlike}
use Rattle.cert_rules.specs.Trees.{spelled, literal, fixed, is_parameter, is_static, is_static_field, is_value, is_denied, is_said, referred, field_referred, first_fields, references, PartsFormats, way}
use Rattle.cert_rules.specs.Views.{view, side_at}
use Rattle.cert_rules.specs.Reading.{Follows}
use Rattle.cert_rules.proofs.ViewsAgree.{when_some, side_is}
use Rattle.cert_rules.proofs.ViewsInputs.{packed_is}
use Rattle.cert_rules.proofs.ViewsMethods.{solved}
use Rattle.cert_rules.proofs.RulesConstraints.{attribute_value}
use Rattle.cert_rules.proofs.Trees.{Told, known_sound, spelled_is, parameter_value, kept_at, kept_off, leads_on}

literal_parts : (e : Encoding) (bits : List Bool) → literal e ≡ Some bits → (len : Expr) × (v : Expr) × (e ≡ encoding.Library (library.CompressedValue len v)) × (spelled (constant len) (constant v) ≡ Some bits)
literal_parts (encoding.Library (library.CompressedValue len v)) bits e = (len, v, refl, e)
literal_parts _ bits e = absurd (cc)

spelled_parts : (o o' : Option ℤ) (bits : List Bool) → spelled o o' ≡ Some bits → (p : ℤ) × (q : ℤ) × (o ≡ Some p) × (o' ≡ Some q) × (spelled (Some p) (Some q) ≡ Some bits)
spelled_parts (Some p) (Some q) bits e = (p, q, refl, refl, e)
spelled_parts None _ bits e = absurd (cc)
spelled_parts (Some (pos p)) None bits e = absurd (cc)
spelled_parts (Some (negsuc p)) None bits e = absurd (cc)

spells_at : (p p' q q' : ℤ) (c : List Bool) → p ≡ p' → q ≡ q' → Spells p q c → Spells p' q' c
spells_at p p' q q' c e h s = subst (λ z. Spells z q' c) e (subst (λ z. Spells p z c) h s)

-- the packed bits by the listing
pub shown : (format : Format) (f : Filling) (args : List ℤ) → LevelFits format f args → packed f ≡ flat_map (λ i. side_at (view f) i Compressed) format.listing
shown format f args lf = ap (λ l. packed_bits l (level f)) lf.shaped.listing_is ∙ packed_is format.listing (level f)

-- a field that is static
pub static_is : (e : Encoding) → is_static e ≡ true → e ≡ encoding.Library library.Static
static_is (encoding.Library library.Static) h = refl
static_is (encoding.Library (library.UncompressedValue len v)) h = absurd (cc)
static_is (encoding.Library (library.CompressedValue len v)) h = absurd (cc)
static_is (encoding.Library (library.Irregular len)) h = absurd (cc)
static_is (encoding.Library (library.Lsb b offset)) h = absurd (cc)
static_is (encoding.Library (library.Crc crc)) h = absurd (cc)
static_is encoding.Bare h = absurd (cc)
static_is (encoding.Call j es) h = absurd (cc)

module _ (methods : List Method) (ctx : Context) (k : ℕ) (args : List ℤ) (path : Path) where
  -- a literal's bits
  literal_is : (f : Filling) (h : FitsParts methods ctx k args path f) →
      (i : ℕ) (bits : List Bool) → option_and_then (λ d. literal d.encoding) (slice_get h.format.fields i) ≡ Some bits → side_at (view f) i Compressed ≡ bits
  literal_is f h i bits e =
      let t = and_then_some (λ d. literal d.encoding) (slice_get h.format.fields i) bits e in
      let l = literal_parts t.0.encoding bits t.2 in
      let x = also_at h.format.fields (fields_of f) i t.0 (sym (length-fields h.format f h.level_fits.shaped)) t.1 in
      let c = coded_parts methods ctx (h.each i t.0 x.0 t.1 x.1) (library.CompressedValue l.0 l.1) l.2 in
      let a = assigned h.format.listing (level f) args in
      let s = solved (side_of h.format.listing (level f)) a (library.CompressedValue l.0 l.1) c.method (reference_of t.0.declared.part ctx (below path t.0.declared.name) t.0.initial)
      (sides_of x.0).uncompressed (sides_of x.0).compressed c.is_method c.holds in
      let v = spelled_parts (constant l.0) (constant l.1) bits l.3 in
      let p : s.0 ≡ v.0 = let y = constant_value a l.0 v.0 v.2 in let w = s.2 in cc in
      let q : s.1 ≡ v.1 = let y = constant_value a l.1 v.1 v.3 in let w = s.3 in cc in
      side_is f i x.0 Compressed x.1 ∙ spelled_is v.0 v.1 bits (sides_of x.0).compressed v.4 (spells_at s.0 v.0 s.1 v.1 (sides_of x.0).compressed p q s.4)

  static_at : (o : Option Field) → is_static_field o ≡ true → (d : Field) × (o ≡ Some d) × (d.encoding ≡ encoding.Library library.Static)
  static_at (Some d) h = (d, refl, static_is d.encoding h)
  static_at None h = absurd (cc)

  -- a field of the format alone has no reference
  not_local : (part : Part) (p : Path) (initial : Option (List Bool)) (u : List Bool) → reference_of part ctx p initial ≡ Some u → part ≡ Local → ⊥
  not_local Header p initial u e same = absurd (cc)
  not_local Control p initial u e same = absurd (cc)
  not_local Local p initial u e same = absurd (cc)

  short_referred : (o : Option (List Bool)) (u : List Bool) → o ≡ Some u → length u ≤ 64 → referred o ≡ Some (pos (num u))
  short_referred o u e short = ap referred e ∙ by (nat_le (length u) 64) refl
    where
      by : (b : Bool) → nat_le (length u) 64 ≡ b → when b (pos (num u)) ≡ Some (pos (num u))
      by true is = refl
      by false is = absurd (omega (arith, leb-false (length u) 64 is, short))

  first_of : (formats : List Format) (n : ℕ) (format : Format) → slice_get formats n ≡ Some format → (first : Format) × (slice_get formats 0 ≡ Some first) × (first_fields formats ≡ first.fields)
  first_of [] n format e = absurd (cc)
  first_of (first ∷ formats) n format e = (first, refl, refl)

  -- the reference of the first format's field is that of a field like it
  refers_alike : (formats : List Format) (first : Format) → first_fields formats ≡ first.fields → (i : ℕ) (d e : Field) → slice_get first.fields i ≡ Some e → IsAlike d e →
      (u : List Bool) → reference_of d.declared.part ctx (below path d.declared.name) d.initial ≡ Some u → length u ≤ 64 → (own : List Bool) → own ≡ u → references ctx path formats i ≡ Some (pos (num own))
  refers_alike formats first is i d e at alike u ref short own same =
      let there : references ctx path formats i ≡ field_referred ctx path e = ap (λ fs. option_and_then (field_referred ctx path) (slice_get fs i)) is ∙ ap (option_and_then (field_referred ctx path)) at in
      let here : field_referred ctx path e ≡ field_referred ctx path d = λ j. referred (reference_of (alike.declared_is j).part ctx (below path (alike.declared_is j).name) (alike.initial_is j)) in
      let told : field_referred ctx path d ≡ Some (pos (num u)) = short_referred (reference_of d.declared.part ctx (below path d.declared.name) d.initial) u ref short in
      there ∙ (here ∙ (told ∙ ap (λ z. Some (pos (num z))) (sym same)))

  -- the reference of a field that is static has the field's value
  module _ (alike : AreAlike methods) (m : Method) (at_m : slice_get methods k ≡ Some m) (f : Filling) (h : FitsParts methods ctx k args path f) (in_m : slice_get m.formats (out-Filling f).format ≡ Some h.format) where
    static_refers : (i : ℕ) → is_static_field (slice_get h.format.fields i) ≡ true → references ctx path m.formats i ≡ Some (pos (num (side_at (view f) i Uncompressed)))
    static_refers i is =
        let d = static_at (slice_get h.format.fields i) is in
        let x = also_at h.format.fields (fields_of f) i d.0 (sym (length-fields h.format f h.level_fits.shaped)) d.1 in
        let c = coded_parts methods ctx (h.each i d.0 x.0 d.1 x.1) library.Static d.2 in
        let side = side_of h.format.listing (level f) in
        let a = assigned h.format.listing (level f) args in
        let ref = reference_of d.0.declared.part ctx (below path d.0.declared.name) d.0.initial in
        let s = solved side a library.Static c.method ref (sides_of x.0).uncompressed (sides_of x.0).compressed c.is_method c.holds in
        let short = (sized side a library.Static c.method ref (sides_of x.0).uncompressed (sides_of x.0).compressed c.is_method c.holds).short Uncompressed in
        let first = first_of m.formats (out-Filling f).format h.format in_m in
        let e = alike.fields k (out-Filling f).format 0 i m h.format first.0 d.0 at_m in_m first.1 d.1 (not_local d.0.declared.part (below path d.0.declared.name) d.0.initial (sides_of x.0).uncompressed s.0) in
        refers_alike m.formats first.0 first.2 i d.0 e.0 e.1 e.2 (sides_of x.0).uncompressed s.0 short (side_at (view f) i Uncompressed) (side_is f i x.0 Uncompressed x.1)

    value_refers : (i : ℕ) → is_static_field (slice_get h.format.fields i) ≡ true → (e : Expr) → is_value i e ≡ true → val (assigned h.format.listing (level f) args) e ≡ references ctx path m.formats i
    value_refers i is e here = attribute_value (assigned h.format.listing (level f) args) (attribute_of i Uncompressed measure.Value) e here ∙ sym (static_refers i is)

  none_or : (a b : Bool) → (a ≡ true → b ≡ false) → (a && b) ≡ false
  none_or true b h = h refl
  none_or false b h = refl

  module _ (table : List MethodSizes) (are : AreSizes methods table) (alike : AreAlike methods) where
    -- the bounds of a fitting filling's format
    pub record Bounded (f : Filling) (h : FitsParts methods ctx k args path f) : Type 0 where
      pub place : Placed methods table are k (out-Filling f).format h.format
      pub lengths : LengthsLie place.sizes f

    pub bounded : (f : Filling) → Fits methods ctx k args path f → (h : FitsParts methods ctx k args path f) → Bounded f h
    bounded f fit h =
        let p = placed methods table are k (out-Filling f).format h.format h.is_format in
        record { place = p; lengths = (lie-in-bounds methods table are ctx k args path f fit p.whole p.sizes p.whole_at p.sizes_at).0 }

    -- a field that is stepped over
    gap_is : (f : Filling) (h : FitsParts methods ctx k args path f) (b : Bounded f h) → (i n : ℕ) → option_and_then (λ (z : Sizes). fixed z.compressed) (slice_get b.place.sizes.fields i) ≡ Some n → length (side_at (view f) i Compressed) ≡ n
    gap_is f h b i n e =
        let a = and_then_some (λ (z : Sizes). fixed z.compressed) (slice_get b.place.sizes.fields i) n e in
        let w = when_some (nat_eq a.0.compressed.least a.0.compressed.most) a.0.compressed.least n a.2 in
        let same = eqb-true a.0.compressed.least a.0.compressed.most w.0 in
        let as_many : length b.place.sizes.fields ≡ length (fields_of f) =
        count_sizes methods table are b.place.method h.format b.place.whole b.place.sizes b.place.at ∙ sym (length-fields h.format f h.level_fits.shaped) in
        let x = also_at b.place.sizes.fields (fields_of f) i a.0 as_many a.1 in
        let in_level : slice_get (level f) i ≡ Some (sides_of x.0) = slice_get-map sides_of (fields_of f) i ∙ ap (option_map sides_of) x.1 in
        let lies = (b.lengths.fields i (sides_of x.0) a.0 in_level a.1).compressed_lies in
        let len : length (side_at (view f) i Compressed) ≡ length (sides_of x.0).compressed = ap length (side_is f i x.0 Compressed x.1) in
        let low = lies.least in let high = lies.most in let z = w.1 in omega arith

    pub told : (f : Filling) → (fit : Fits methods ctx k args path f) (h : FitsParts methods ctx k args path f) (b : Bounded f h) (m : Method) → slice_get methods k ≡ Some m → slice_get m.formats (out-Filling f).format ≡ Some h.format →
        Told h.format b.place.sizes (references ctx path m.formats) (packed f) args
    told f fit h b m em in_m =
        let side = side_of h.format.listing (level f) in
        let a = assigned h.format.listing (level f) args in
        let ks = h.format.constraints in
        let same = shown h.format f args h.level_fits in
        record {
          known = λ o x e. subst (λ z. slice_get z o ≡ Some x) (sym same)
              (known_sound h.format.fields b.place.sizes.fields (λ i. side_at (view f) i Compressed) (literal_is f h) (gap_is f h b) h.format.listing o x e);
          long = b.lengths.whole.compressed_lies.least;
          kept = λ p c e. kept_at side a (is_parameter p) (slice_get args p) (parameter_value a p) ks c h.level_fits.constraints e;
          off = λ p c e. kept_off side a (is_parameter p) (slice_get args p) (parameter_value a p) ks c h.level_fits.constraints e;
          referring = λ i c e. none_or (is_static_field (slice_get h.format.fields i)) (is_denied (is_value i) c ks)
              (λ is. kept_at side a (is_value i) (references ctx path m.formats i) (value_refers alike m em f h in_m i is) ks c h.level_fits.constraints e);
          other = λ i c e. none_or (is_static_field (slice_get h.format.fields i)) (is_said (is_value i) c ks)
              (λ is. kept_off side a (is_value i) (references ctx path m.formats i) (value_refers alike m em f h in_m i is) ks c h.level_fits.constraints e);
        }

    -- where the way leads through the tree of the method, by bits at the front of which, or of which a longer list, its own stand
    pub follows : (f : Filling) → Fits methods ctx k args path f → (bits r q : List Bool) → packed f ++ r ≡ bits ++ q → (m : Method) (s : MethodSizes) (nodes : List Node) →
        slice_get methods k ≡ Some m → slice_get table k ≡ Some s → PartsFormats m.formats s nodes → Follows (out-Filling f).format bits (packed f) (way (references ctx path m.formats) bits args 0 nodes)
    follows f fit bits r q e m s nodes em es tree =
        let h = parts fit in
        let b = bounded f fit h in
        let t = and_then_some (λ m. slice_get m.formats (out-Filling f).format) (slice_get methods k) h.format h.is_format in
        let same_m : t.0 ≡ m = let x = t.1 in cc in
        let same_s : b.place.whole ≡ s = let x = b.place.whole_at in cc in
        let in_m : slice_get m.formats (out-Filling f).format ≡ Some h.format = subst (λ (z : Method). slice_get z.formats (out-Filling f).format ≡ Some h.format) same_m t.2 in
        let in_s : slice_get s.formats (out-Filling f).format ≡ Some b.place.sizes = subst (λ (z : MethodSizes). slice_get z.formats (out-Filling f).format ≡ Some b.place.sizes) same_s b.place.sizes_at in
        leads_on m.formats s (out-Filling f).format h.format b.place.sizes in_m in_s (references ctx path m.formats) bits (packed f) r q args e (told f fit h b m em in_m) nodes tree
