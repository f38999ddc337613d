-- In every filling of a format the bits of its columns stand where they say.
use Rattle.std.proofs.Common.{◌≡◌, ◌∙◌, refl, sym, ap, subst, ℕ, ◌+◌, ◌-◌, ◌≤◌, ◌^◌, suc, zero, Bool, List, [], ◌∷◌, ◌++◌, length, take, drop, append_assoc, arith}
use Rattle.std.specs.Prelude.{Option, Some, None, IfSome, slice_get, ℤ, pos, negsuc, true, false, nat_le, nat_lt, ◌&&◌, if◌then◌else◌}
use Rattle.std.proofs.Math.Nat.{min-le_left, le-min}
use Rattle.std.proofs.Math.Seq.{drop-append_seam, take-append_seam}
use Rattle.std.proofs.lemmas.List.{length-append}
use Rattle.std.proofs.lemmas.Option.{slice_get_within, slice_get-map}
use Rattle.std.specs.Option.{option_map, option_and_then}
use Rattle.sem_bits.specs.Number.{num}
use Rattle.sem_expr.specs.declared.expr.Expr.{Expr}
use Rattle.sem_expr.specs.declared.expr.Side.TheVariants.{Compressed}
use Rattle.sem_expr.specs.Values.{val}
use Rattle.sem_library.specs.Methods as lib
use Rattle.sem_library.specs.Methods.{Lib}
use Rattle.sem_profile.specs.declared.profile.Bounds.{Bounds}
use Rattle.sem_profile.specs.declared.profile.Sizes.{Sizes}
use Rattle.sem_profile.specs.declared.profile.FormatSizes.{FormatSizes}
use Rattle.sem_profile.specs.declared.profile.MethodSizes.{MethodSizes}
use Rattle.sem_profile.specs.declared.profile.Library.TheVariants as library
use Rattle.sem_profile.specs.declared.profile.Encoding.{Encoding}
use Rattle.sem_profile.specs.declared.profile.Encoding.TheVariants as encoding
use Rattle.sem_profile.specs.declared.profile.Field.{Field}
use Rattle.sem_profile.specs.declared.profile.Format.{Format}
use Rattle.sem_profile.specs.Resolved.{Resolved, IsSound}
use Rattle.sem_profile.proofs.FieldsRuling.{there}
use Rattle.sem_filling.specs.declared.filling.Filling.{Filling, out-Filling}
use Rattle.sem_filling.specs.Fillings.{Sides, sides_of, fields_of, level, packed_bits, packed}
use Rattle.sem_filling.specs.Entries.{Path, below}
use Rattle.sem_filling.specs.Fits.{Context, Fits, IsShaped, field_side, format_at, assigned, reference_of}
use Rattle.sem_filling.specs.Bounded.{LiesBetween, SidesLie, LengthsLie, sizes_at}
use Rattle.sem_filling.proofs.FitsSized.{one_value, two_parts}
use Rattle.sem_filling.proofs.FitsInverted.{FitsParts, parts, coded_parts, length-level, length-fields}
use Rattle.sem_profile.specs.Constants.{constant}
use Rattle.sem_filling.proofs.Bounding.{Placed, constant_value, placed, count_sizes, lie-in-bounds}
use Rattle.sem_filling.proofs.Fronts.{short_sides}
use Rattle.sem_filling.proofs.FitsSides.{piece_is}
use Rattle.sem_lint.specs.declared.columns.Column.{Column}
use Rattle.sem_lint.specs.Columns.{width, capped, further, fitting, packed_constant, constant_at, column_of, columns_from, columns_of, columns_by, columns_at}
use Rattle.sem_lint.specs.ColumnLaws.{StandsAt, ColumnsAreOffsets, IsFixed, FieldsStandThere, column_bits}

-- ---- widths

widths_lie : (fs : List Sides) (bs : List Sizes) (i : ℕ) → length bs ≡ length fs
    → ((j : ℕ) (s : Sides) (b : Sizes) → slice_get fs j ≡ Some s → slice_get bs j ≡ Some b → SidesLie b (length s.uncompressed) (length s.compressed))
    → LiesBetween (width bs i) (length (field_side (slice_get fs i) Compressed))
widths_lie [] [] i same lie = record { least = omega arith; most = omega arith }
widths_lie [] (b ∷ bs) i same lie = absurd (omega (arith, same))
widths_lie (f ∷ fs) [] i same lie = absurd (omega (arith, same))
widths_lie (f ∷ fs) (b ∷ bs) zero same lie = (lie 0 f b refl refl).compressed_lies
widths_lie (f ∷ fs) (b ∷ bs) (suc i) same lie = widths_lie fs bs i (omega (arith, same)) (λ j s c here at. lie (suc j) s c here at)

-- ---- constants

fitting_value : (l w : Option ℤ) (v : ℤ) → fitting l w ≡ Some v → w ≡ Some v
fitting_value (Some (pos n)) (Some (pos u)) v e = by (nat_le n 64 && nat_lt u (2 ^ n)) e
  where
    by : (b : Bool) → (if b then Some (pos u) else None) ≡ Some v → Some (pos u) ≡ Some v
    by true e = e
    by false e = absurd (cc)
fitting_value (Some (negsuc n)) w v e = absurd (cc)
fitting_value (Some (pos n)) (Some (negsuc u)) v e = absurd (cc)
fitting_value (Some (pos n)) None v e = absurd (cc)
fitting_value None w v e = absurd (cc)

record IsConstant (e : Encoding) (v : ℤ) : Type 0 where
  len : Expr
  value : Expr
  encoding_is : e ≡ encoding.Library (library.CompressedValue len value)
  value_is : constant value ≡ Some v

constant_parts : (e : Encoding) (v : ℤ) → packed_constant e ≡ Some v → IsConstant e v
constant_parts (encoding.Library (library.CompressedValue len value)) v e =
    record { len = len; value = value; encoding_is = refl; value_is = fitting_value (constant len) (constant value) v e }
constant_parts _ v e = absurd (cc)

-- ---- one after the other

sum_least : (a b c d : ℕ) → a ≤ c → b ≤ d → capped a b ≤ c + d
sum_least a b c d below above = let le = min-le_left (a + b) (2 ^ 128 - 1) in omega (arith, le, below, above)

sum_most : (a b c d : ℕ) → c ≤ a → d ≤ b → c + d ≤ 2 ^ 18 → c + d ≤ capped a b
sum_most a b c d below above short = le-min (omega (arith, below, above)) (omega (arith, short))

module _ (fields : List Field) (sizes : List Sizes) (f : Filling) (short : length (packed f) ≤ 2 ^ 18)
    (widths : (i : ℕ) → LiesBetween (width sizes i) (length (field_side (slice_get (level f) i) Compressed)))
    (constants : (i : ℕ) → IfSome (constant_at fields i) (λ v. pos (num (field_side (slice_get (level f) i) Compressed)) ≡ v))
  where
    abbrev bits : ℕ → List Bool
    bits i = field_side (slice_get (level f) i) Compressed

    next_lies : (offset : Bounds) (before : List Bool) (i : ℕ) (rest : List Bool) → packed f ≡ (before ++ bits i) ++ rest → LiesBetween offset (length before)
        → LiesBetween (further offset (width sizes i)) (length (before ++ bits i))
    next_lies offset before i rest e lies =
        let all = ap length e ∙ length-append (before ++ bits i) rest in
        let both = length-append before (bits i) in
        let w = widths i in
        let least : capped offset.least (width sizes i).least ≤ length before + length (bits i) = sum_least _ _ _ _ lies.least w.least in
        let within : length before + length (bits i) ≤ 2 ^ 18 = omega (arith, both, all, short) in
        let most : length before + length (bits i) ≤ capped offset.most (width sizes i).most = sum_most _ _ _ _ lies.most w.most within in
        record { least = omega (arith, least, both); most = omega (arith, most, both) }

    pub stand : (offset : Bounds) (before : List Bool) (is : List ℕ) → packed f ≡ before ++ packed_bits is (level f) → LiesBetween offset (length before)
        → (j : ℕ) (c : Column) → slice_get (columns_from fields sizes offset is) j ≡ Some c → StandsAt c f
    stand offset before [] e lies j c at = absurd (let none : None ≡ Some c = at in cc)
    stand offset before (i ∷ is) e lies zero c at =
        let same : column_of fields sizes offset i ≡ c = cc in
        let here = ap (λ z. before ++ (z ++ packed_bits is (level f))) (piece_is (slice_get (level f) i)) in
        subst (λ x. StandsAt x f) same (record {
          before = before;
          after = packed_bits is (level f);
          packed_is = e ∙ here;
          offset_lies = lies;
          width_lies = widths i;
          constant_is = constants i;
        })
    stand offset before (i ∷ is) e lies (suc j) c at =
        let here = ap (λ z. before ++ (z ++ packed_bits is (level f))) (piece_is (slice_get (level f) i)) in
        let on : packed f ≡ (before ++ bits i) ++ packed_bits is (level f) = e ∙ here ∙ sym (append_assoc before (bits i) (packed_bits is (level f))) in
        stand (further offset (width sizes i)) (before ++ bits i) is on (next_lies offset before i (packed_bits is (level f)) on lies) j c at

-- ---- a filling of the format

module _ (p : Resolved) (sound : IsSound p) (k n : ℕ) (ctx : Context) (args : List ℤ) (path : Path) (f : Filling) (h : Fits p.methods ctx k args path f) (at_n : (out-Filling f).format ≡ n) where
  abbrev inverted : FitsParts p.methods ctx k args path f
  inverted = parts h

  abbrev format : Format
  format = inverted.format

  format_is : format_at p.methods k n ≡ Some format
  format_is = ap (format_at p.methods k) (sym at_n) ∙ inverted.is_format

  shaped : IsShaped format f
  shaped = inverted.level_fits.shaped

  abbrev place : Placed p.methods p.sizes sound.sized k n format
  place = placed p.methods p.sizes sound.sized k n format format_is

  abbrev sizes : FormatSizes
  sizes = place.sizes

  sizes_are : sizes_at p.sizes k n ≡ Some sizes
  sizes_are = ap (option_and_then (λ (s : MethodSizes). slice_get s.formats n)) place.whole_at ∙ place.sizes_at

  as_many : length sizes.fields ≡ length (level f)
  as_many = count_sizes p.methods p.sizes sound.sized place.method format place.whole place.sizes place.at ∙ sym (length-level format f shaped)

  lie : LengthsLie sizes f
  lie = (lie-in-bounds p.methods p.sizes sound.sized ctx k args path f h place.whole sizes place.whole_at (ap (slice_get place.whole.formats) at_n ∙ place.sizes_at)).0

  columns_are : columns_at p k n ≡ columns_of format sizes.fields
  columns_are = ap (λ o. columns_by o (sizes_at p.sizes k n)) format_is ∙ ap (columns_by (Some format)) sizes_are

  widths : (i : ℕ) → LiesBetween (width sizes.fields i) (length (field_side (slice_get (level f) i) Compressed))
  widths i = widths_lie (level f) sizes.fields i as_many lie.fields

  spelled : (i : ℕ) (d : Field) (v : ℤ) → slice_get format.fields i ≡ Some d → packed_constant d.encoding ≡ Some v → pos (num (field_side (slice_get (level f) i) Compressed)) ≡ v
  spelled i d v at is =
      let c = constant_parts d.encoding v is in
      let within = slice_get_within format.fields i d at in
      let g = there (fields_of f) i (let count = length-fields format f shaped in omega arith) in
      let coded = coded_parts p.methods ctx (inverted.each i d g.0 at g.1) (library.CompressedValue c.len c.value) c.encoding_is in
      let a = assigned format.listing (level f) args in
      let t = two_parts lib.compressed_value (val a c.len) (val a c.value) coded.method coded.is_method in
      let value : t.1 ≡ v = one_value _ t.1 v t.3 (constant_value a c.value v c.value_is) in
      let holds = subst (λ m. Lib m (reference_of d.declared.part ctx (below path d.declared.name) d.initial) (sides_of g.0).uncompressed (sides_of g.0).compressed) (sym t.4) coded.holds in
      let side : slice_get (level f) i ≡ Some (sides_of g.0) = slice_get-map sides_of (fields_of f) i ∙ ap (option_map sides_of) g.1 in
      ap (λ o. pos (num (field_side o Compressed))) side ∙ holds.1.number_is ∙ value

  constants : (i : ℕ) → IfSome (constant_at format.fields i) (λ v. pos (num (field_side (slice_get (level f) i) Compressed)) ≡ v)
  constants i = by (slice_get format.fields i) refl
    where
      named : (d : Field) (o : Option ℤ) → slice_get format.fields i ≡ Some d → packed_constant d.encoding ≡ o → IfSome o (λ v. pos (num (field_side (slice_get (level f) i) Compressed)) ≡ v)
      named d None at is = tt
      named d (Some v) at is = spelled i d v at is

      by : (o : Option Field) → slice_get format.fields i ≡ o → IfSome (option_and_then (λ (d : Field). packed_constant d.encoding) o) (λ v. pos (num (field_side (slice_get (level f) i) Compressed)) ≡ v)
      by None at = tt
      by (Some d) at = named d (packed_constant d.encoding) at refl

  stands_at : (j : ℕ) (c : Column) → slice_get (columns_at p k n) j ≡ Some c → StandsAt c f
  stands_at j c at =
      let short = (short_sides p.methods p.sizes sound.sized ctx k args path f h).1 in
      let listing : packed f ≡ packed_bits format.listing (level f) = ap (λ l. packed_bits l (level f)) shaped.listing_is in
      stand format.fields sizes.fields f short widths constants (record { least = 0; most = 0 }) [] format.listing listing (record { least = omega arith; most = omega arith }) j c
      (ap (λ xs. slice_get xs j) (sym columns_are) ∙ at)

pub columns-are-offsets : ColumnsAreOffsets
columns-are-offsets p sound k n ctx args path f h at_n j c at = stands_at p sound k n ctx args path f h at_n j c at

-- ---- a place without a choice

there_only : (c : Column) (f : Filling) → StandsAt c f → IsFixed c → take c.width.least (drop c.offset.least (packed f)) ≡ column_bits c f
there_only c f s fixed =
    let bits = column_bits c f in
    let offset : c.offset.least ≡ length s.before = omega (arith, s.offset_lies.least, s.offset_lies.most, fixed.one_offset) in
    let width_is : c.width.least ≡ length bits = omega (arith, s.width_lies.least, s.width_lies.most, fixed.one_width) in
    ap (λ w. take w (drop c.offset.least (packed f))) width_is ∙ (ap (λ o. take (length bits) (drop o (packed f))) offset ∙ (ap (λ z. take (length bits) (drop (length s.before) z)) s.packed_is
    ∙ (ap (take (length bits)) (drop-append_seam s.before (bits ++ s.after)) ∙ take-append_seam bits s.after)))

pub fields-stand-there : FieldsStandThere
fields-stand-there p sound k n ctx args path f h at_n j c at fixed = there_only c f (columns-are-offsets p sound k n ctx args path f h at_n j c at) fixed
