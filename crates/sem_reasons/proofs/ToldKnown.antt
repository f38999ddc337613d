-- What is told of the fields of a format is so in each filling that is asked for.
use Rattle.std.proofs.Common.{◌≡◌, ◌∙◌, refl, sym, ap, subst, ℕ, zero, ◌+◌, ◌<◌, ◌≤◌, Bool, true, false, cond, List, [], ◌∷◌, ◌++◌, length, map, flat_map, drop, arith}
use Rattle.std.specs.Prelude.{ℤ, pos, Option, Some, None, IfSome, slice_get, nat_eq}
use Rattle.std.specs.Option.{option_map, option_and_then, option_or}
use Rattle.std.proofs.lemmas.List.{length-append}
use Rattle.std.proofs.lemmas.Option.{same_Some, slice_get_within, slice_get-map}
use Rattle.std.proofs.lemmas.Bool.{true≢false}
use Rattle.std.proofs.lemmas.Bool.Decides.{nat_tests}
use Rattle.sem_context.specs.Entries.{bits_at}
use Rattle.sem_expr.specs.declared.expr.Expr.{Expr}
use Rattle.sem_expr.specs.declared.expr.Measure.{Measure}
use Rattle.sem_expr.specs.declared.expr.Side.{Side}
use Rattle.sem_expr.specs.declared.expr.Side.TheVariants.{Uncompressed, Compressed}
use Rattle.sem_expr.specs.declared.expr.Subject.{Subject}
use Rattle.sem_expr.specs.declared.expr.Subject.TheVariants as subject
use Rattle.sem_expr.specs.Bounds.{bounding_of}
use Rattle.sem_expr.specs.Known.{assignment_of}
use Rattle.sem_expr.specs.Ranged.{Bounding}
use Rattle.sem_expr.specs.Rules.{IsIn}
use Rattle.sem_expr.specs.Spread.{LieIn}
use Rattle.text_source.specs.declared.span.Span.{Span}
use Rattle.sem_expr.specs.declared.expr.Cond.{Cond}
use Rattle.sem_expr.specs.declared.known.Known.{Known}
use Rattle.sem_profile.specs.declared.profile.Constraint.TheVariants.{Bracket, Enforce}
use Rattle.sem_expr.specs.Values.{Assignment, truth, val}
use Rattle.sem_expr.proofs.RangedLie as ranges
use Rattle.sem_library.specs.Methods as lib
use Rattle.sem_library.specs.Methods.{Lib}
use Rattle.sem_profile.specs.declared.profile.Bounds.{Bounds}
use Rattle.sem_profile.specs.declared.profile.CrcArguments.{CrcArguments}
use Rattle.sem_profile.specs.declared.profile.Encoding.{Encoding}
use Rattle.sem_profile.specs.declared.profile.Encoding.TheVariants as encoding
use Rattle.sem_profile.specs.declared.profile.Field.{Field}
use Rattle.sem_profile.specs.declared.profile.Format.{Format}
use Rattle.sem_profile.specs.declared.profile.FormatSizes.{FormatSizes}
use Rattle.sem_profile.specs.declared.profile.Library.{Library}
use Rattle.sem_profile.specs.declared.profile.Library.TheVariants as library
use Rattle.sem_profile.specs.declared.profile.MethodSizes.{MethodSizes}
use Rattle.sem_profile.specs.declared.profile.Sizes.{Sizes}
use Rattle.sem_profile.specs.BoundsFaults.{side_bounds}
use Rattle.sem_profile.specs.BoundsLaws.{StandsIn, in_encoding, in_bracket, encoding_exprs, library_exprs}
use Rattle.sem_profile.specs.Ranging.{side_ranges}
use Rattle.sem_profile.proofs.FieldsRuling.{there}
use Rattle.sem_profile.proofs.ParametersWidening.{lie-in-parameters}
use Rattle.sem_profile.specs.Resolved.{Resolved, IsSound}
use Rattle.sem_filling.specs.declared.filling.Filling.{Filling}
use Rattle.sem_filling.specs.declared.filling.FilledField.{FilledField}
use Rattle.sem_filling.specs.declared.filling.AskedValue.{AskedValue}
use Rattle.sem_filling.specs.Fillings.{Sides, asked_values, sides_of, fields_of, level, header, packed, packed_bits}
use Rattle.sem_filling.specs.Bounded.{ArgumentsLie, LengthsLie, LiesBetween, SidesLie, sizes_at}
use Rattle.sem_filling.specs.Fits.{IsShaped, field_side, side_of, assigned, method_of, format_at, vals}
use Rattle.sem_filling.specs.Numbers.{known_level}
use Rattle.sem_filling.proofs.Bounding.{placed as bounded_at}
use Rattle.sem_filling.proofs.FitsInverted.{CalledParts}
use Rattle.sem_filling.proofs.NumbersLying.{known_lies}
use Rattle.sem_filling.proofs.FitsValues.{vals_same}
use Rattle.sem_filling.specs.Ready.{ArgumentsLieAt}
use Rattle.sem_filling.proofs.Readying.{call_lies}
use Rattle.sem_filling.proofs.FitsSized.{and_then_some, crc_parts, two_parts}
use Rattle.std.proofs.lemmas.List.{length-map}
use Rattle.sem_lint.proofs.ObstaclesFitting.{Sits}
use Rattle.sem_lint.proofs.ObstaclesFitting as fitting
use Rattle.sem_lint.proofs.LengthsKnown.{length_lies}
use Rattle.sem_lint.specs.Attributes.{length_range}
use Rattle.sem_reasons.specs.Settings.{Setting, IsSought, whole_side}
use Rattle.sem_reasons.specs.Places.{BeginsAt, only_length, only_within, order_of}
use Rattle.sem_reasons.specs.Told.{Told, placed, empty, asked_for, across, asked_before, Related, IsSeen, AreAllSeen, base_ranges, is_crc, leaves_empty, length_of, told_length, opposite, joined, ranges_seen, reference_in, seen_at, seen_side, seen_subject}
use Rattle.sem_reasons.specs.declared.sight.Observed.{Observed}
use Rattle.sem_reasons.specs.declared.sight.ObservedSides.{ObservedSides}
use Rattle.sem_reasons.proofs.AskedFields.{asked_at}
use Rattle.sem_reasons.proofs.Numbered.{fields_lie, one_side, joined_is}
use Rattle.sem_reasons.proofs.PlacesOrdered.{piece, whole_pieces, begun, held}
use Rattle.sem_reasons.proofs.ToldMeasured.{library_has, noted, pick}
use Rattle.sem_reasons.proofs.ToldPinned.{LiesIn, same_method}

-- the only length of a side
only_is : (b : Bounds) (m n : ℕ) → only_within b ≡ Some m → LiesBetween b n → n ≡ m
only_is b m n e lies = by (nat_eq b.least b.most) refl e
  where
    by : (t : Bool) → nat_eq b.least b.most ≡ t → cond t (Some b.least) None ≡ Some m → n ≡ m
    by true same e =
        let ends : b.least ≡ b.most = grind (arith, nat_tests) in
        let is : b.least ≡ m = cc in
        let least = lies.least in
        let most = lies.most in
        omega (arith, ends, is, least, most)
    by false same e = absurd (cc)

side_lies : (b : Sizes) (s : Sides) (side : Side) → SidesLie b (length s.uncompressed) (length s.compressed) → LiesBetween (side_bounds side b) (length (field_side (Some s) side))
side_lies b s Uncompressed lie = lie.uncompressed_lies
side_lies b s Compressed lie = lie.compressed_lies

-- a method that leaves a side empty
left_empty : (e : Encoding) (side : Side) → leaves_empty e side ≡ true → (l : Library) × (e ≡ encoding.Library l)
left_empty (encoding.Library l) side e = (l, refl)
left_empty encoding.Bare Uncompressed e = absurd (cc)
left_empty encoding.Bare Compressed e = absurd (cc)
left_empty (encoding.Call k es) Uncompressed e = absurd (cc)
left_empty (encoding.Call k es) Compressed e = absurd (cc)

unsent : (l : Library) (side : Side) → leaves_empty (encoding.Library l) side ≡ true → (sides : Subject → Side → List Bool) (a : Assignment) (m : lib.Method) (ref : Option (List Bool)) (u c : List Bool)
    → method_of sides a l ≡ Some m → Lib m ref u c → pick side u c ≡ []
unsent (library.UncompressedValue len v) Compressed t sides a m ref u c is h = let x = two_parts lib.uncompressed_value (val a len) (val a v) m is in (subst (λ z. Lib z ref u c) (sym x.4) h).1
unsent (library.UncompressedValue len v) Uncompressed t sides a m ref u c is h = absurd (cc)
unsent (library.CompressedValue len v) Uncompressed t sides a m ref u c is h = let x = two_parts lib.compressed_value (val a len) (val a v) m is in (subst (λ z. Lib z ref u c) (sym x.4) h).0
unsent (library.CompressedValue len v) Compressed t sides a m ref u c is h = absurd (cc)
unsent (library.Irregular len) Uncompressed t sides a m ref u c is h = absurd (cc)
unsent (library.Irregular len) Compressed t sides a m ref u c is h = absurd (cc)
unsent library.Static Compressed t sides a m ref u c is h = let same : lib.static ≡ m = cc in (subst (λ z. Lib z ref u c) (sym same) h).2
unsent library.Static Uncompressed t sides a m ref u c is h = absurd (cc)
unsent (library.Lsb k offset) Uncompressed t sides a m ref u c is h = absurd (cc)
unsent (library.Lsb k offset) Compressed t sides a m ref u c is h = absurd (cc)
unsent (library.Crc crc) Uncompressed t sides a m ref u c is h =
    let x = crc_parts (sides crc.subject crc.side) (vals a (crc.bits ∷ crc.polynomial ∷ crc.initial ∷ crc.length ∷ [])) m is in (subst (λ z. Lib z ref u c) (sym x.5) h).0
unsent (library.Crc crc) Compressed t sides a m ref u c is h = absurd (cc)

-- both sides of a field, from either
pub related : (m : lib.Method) (ref : Option (List Bool)) (s : Sides) (side : Side) → Lib m ref s.uncompressed s.compressed → Related m ref side (field_side (Some s) side) (field_side (Some s) (opposite side))
related m ref s Uncompressed h = h
related m ref s Compressed h = h

picked : (s : Sides) (side : Side) → field_side (Some s) side ≡ pick side s.uncompressed s.compressed
picked s Uncompressed = refl
picked s Compressed = refl

not_crc : (l : Library) → is_crc l ≡ false → (crc : CrcArguments) → l ≡ library.Crc crc → ⊥
not_crc l plain crc is = let yes : is_crc l ≡ true = ap is_crc is in true≢false (sym yes ∙ plain)

-- the bounds of a format of a profile
pub sized : (s : Setting) → IsSound s.profile → (n : ℕ) (format : Format) → format_at s.profile.methods s.method n ≡ Some format → (sizes : FormatSizes) × (sizes_at s.profile.sizes s.method n ≡ Some sizes)
sized s sound n format at = let t = bounded_at s.profile.methods s.profile.sizes sound.sized s.method n format at in (t.sizes, ap (option_and_then (λ m. slice_get m.formats n)) t.whole_at ∙ t.sizes_at)

module _ (s : Setting) (sound : IsSound s.profile) (n : ℕ) (format : Format) (format_is : format_at s.profile.methods s.method n ≡ Some format) (sizes : FormatSizes) (sizes_are : sizes_at s.profile.sizes s.method n ≡ Some sizes)
    (f : Filling) (h : IsSought s n f) where
  abbrev p : Resolved
  p = s.profile

  abbrev table : (whole : MethodSizes) × (slice_get p.sizes s.method ≡ Some whole) × (slice_get whole.formats n ≡ Some sizes)
  table = and_then_some (λ m. slice_get m.formats n) (slice_get p.sizes s.method) sizes sizes_are

  abbrev sit : Sits p s.method n
  sit = record { format = format; format_is = format_is; whole = table.0; whole_at = table.1; sizes = sizes; sizes_at = table.2 }

  arguments : ArgumentsLie table.0.parameters h.args
  arguments = h.in_table table.0 table.1

  abbrev xs : List Sides
  xs = level f

  abbrev numbers : Assignment
  numbers = assigned format.listing (level f) h.args

  pub shaped : IsShaped format f
  shaped = fitting.shaped p sound s.method n sit (bits_at s.context) h.args s.path f arguments h.fits h.format_is

  pub lie : LengthsLie sizes f
  lie = fitting.lie p sound s.method n sit (bits_at s.context) h.args s.path f arguments h.fits h.format_is

  as_many : length sizes.fields ≡ length (level f)
  as_many = fitting.as_many p sound s.method n sit (bits_at s.context) h.args s.path f arguments h.fits h.format_is

  -- ---- the bits at a field's place

  in_front : s.bits ≡ flat_map (piece (level f) s.side) (order_of format s.side) ++ h.rest
  in_front = h.in_front ∙ ap (λ z. z ++ h.rest) (whole_pieces format f shaped s.side)

  -- ---- the sides of a field

  pub record Stood (i : ℕ) (d : Field) : Type 0 where
    pub field : FilledField
    pub field_at : slice_get (fields_of f) i ≡ Some field
    pub side_is : (side : Side) → piece (level f) side i ≡ field_side (Some (sides_of field)) side

  pub stood : (i : ℕ) (d : Field) → slice_get format.fields i ≡ Some d → Stood i d
  stood i d at =
      let g = fitting.filled p sound s.method n sit (bits_at s.context) h.args s.path f arguments h.fits h.format_is i d at in
      let at_level : slice_get (level f) i ≡ Some (sides_of g.0) = slice_get-map sides_of (fields_of f) i ∙ ap (option_map sides_of) g.1 in
      record { field = g.0; field_at = g.1; side_is = λ side. (λ j. field_side (at_level j) side) }

  pub coded : (i : ℕ) (d : Field) (at : slice_get format.fields i ≡ Some d) (l : Library) → d.encoding ≡ encoding.Library l
      → (m : lib.Method) × (method_of (side_of format.listing (level f)) numbers l ≡ Some m) × Lib m (reference_in s d) (sides_of (stood i d at).field).uncompressed (sides_of (stood i d at).field).compressed
  coded i d at l is = fitting.coded p sound s.method n sit (bits_at s.context) h.args s.path f arguments h.fits h.format_is i d (stood i d at).field l at (stood i d at).field_at is

  pub called : (i : ℕ) (d : Field) (at : slice_get format.fields i ≡ Some d) (k : ℕ) (es : List Expr) → d.encoding ≡ encoding.Call k es → CalledParts p.methods (bits_at s.context) numbers s.path d k es (stood i d at).field
  called i d at k es is = fitting.called p sound s.method n sit (bits_at s.context) h.args s.path f arguments h.fits h.format_is i d (stood i d at).field k es at (stood i d at).field_at is

  -- ---- numbers

  pub known_is : (e : Expr) → StandsIn format e → val (assignment_of (known_level f h.args)) e ≡ val numbers e
  known_is e st = (fitting.evaluated p sound s.method n sit (bits_at s.context) h.args s.path f arguments h.fits h.format_is).value_is e st

  -- the ranges by the bounds, and by those of the arguments
  pub base_lie : LieIn (assignment_of (known_level f h.args)) (bounding_of (base_ranges s sizes))
  base_lie =
      known_lies f h.args (record { formats = table.0.formats; whole = table.0.whole; parameters = s.parameters }) sizes as_many
      (fitting.fields_small p sound s.method n sit (bits_at s.context) h.args s.path f arguments h.fits h.format_is)
      (fitting.all_small p sound s.method n sit (bits_at s.context) h.args s.path f arguments h.fits h.format_is) lie h.in_ranges

  -- an expression of the format, under ranges in which the numbers lie
  pub lies_in : (r : Bounding) → LieIn (assignment_of (known_level f h.args)) r → (e : Expr) → StandsIn format e → LiesIn r numbers e
  lies_in r lies e st i v range value = ranges.lies (assignment_of (known_level f h.args)) r lies e i v range (known_is e st ∙ value)

  -- the arguments of a call lie in the ranges of the called method's parameters
  pub inner_lie : (i : ℕ) (d : Field) → slice_get format.fields i ≡ Some d → (k : ℕ) (es : List Expr) → d.encoding ≡ encoding.Call k es → (inner : List ℤ) → vals numbers es ≡ Some inner → ArgumentsLieAt p k inner
  inner_lie i d at k es is inner are t whole =
      let m = fitting.method_found p sound s.method n sit (bits_at s.context) h.args s.path f arguments h.fits h.format_is in
      let formed = sound.well_formed.formats s.method n m.0 format m.1 m.2 in
      let callee = formed.calls i k d es at is in
      let same = vals_same (assignment_of (known_level f h.args)) numbers es (λ q e here. known_is e (in_encoding i q at (ap (λ z. slice_get (encoding_exprs z) q) is ∙ here))) in
      call_lies p.methods p.sizes (lie-in-parameters p.methods p.sizes sound.sized) m.0 format table.0 sizes (fitting.placed_at p sound s.method n sit (bits_at s.context) h.args s.path f arguments h.fits h.format_is) i k d es inner t at is whole
      (callee.2 ∙ sym ((lie-in-parameters p.methods p.sizes sound.sized).each k callee.0 t callee.1 whole)) (assignment_of (known_level f h.args))
      (fitting.numbers_lie p sound s.method n sit (bits_at s.context) h.args s.path f arguments h.fits h.format_is) (same ∙ are)

  library_in : (i : ℕ) (d : Field) (l : Library) → slice_get format.fields i ≡ Some d → d.encoding ≡ encoding.Library l → (q : ℕ) (e : Expr) → slice_get (library_exprs l) q ≡ Some e → StandsIn format e
  library_in i d l at is q e here = in_encoding i q at (ap (λ z. slice_get (encoding_exprs z) q) is ∙ here)

  -- ---- brackets

  pub bracket_is : (j i : ℕ) (side : Side) (lengths : List Expr) (place : Span) → slice_get format.constraints j ≡ Some (Bracket i side lengths place)
      → (q : ℕ) × (e : Expr) × (slice_get lengths q ≡ Some e) × (val (assignment_of (known_level f h.args)) e ≡ Some (pos (length (side_of format.listing (level f) (subject.Field i) side))))
  bracket_is j i side lengths place at =
      let t = (fitting.fits_level p sound s.method n sit (bits_at s.context) h.args s.path f arguments h.fits h.format_is).constraints j (Bracket i side lengths place) at in
      (t.0, t.1, t.2, known_is t.1 (in_bracket j t.0 at t.2) ∙ t.3)

  pub bracket_lies : (r : Bounding) → LieIn (assignment_of (known_level f h.args)) r → (j i : ℕ) (side : Side) (lengths : List Expr) (place : Span) → slice_get format.constraints j ≡ Some (Bracket i side lengths place)
      → IsIn (length_range r (subject.Field i) side) (pos (length (side_of format.listing (level f) (subject.Field i) side)))
  bracket_lies r lies j i side lengths place at =
      let m = fitting.method_found p sound s.method n sit (bits_at s.context) h.args s.path f arguments h.fits h.format_is in
      let within : i < length format.fields = (sound.well_formed.formats s.method n m.0 format m.1 m.2).bracketed j i side lengths place at in
      let count = fitting.count p sound s.method n sit (bits_at s.context) h.args s.path f arguments h.fits h.format_is in
      let own : i < length (level f) = omega (arith, within, count) in
      length_lies f h.args format.listing shaped.listing_is r lies (subject.Field i) side (λ x is. let same : i ≡ x = cc in subst (λ z. z < length (level f)) same own)

  -- ---- lengths

  by_bounds : (i m : ℕ) → only_length sizes.fields s.side i ≡ Some m → length (piece (level f) s.side i) ≡ m
  by_bounds i m e =
      let b = and_then_some (λ z. only_within (side_bounds s.side z)) (slice_get sizes.fields i) m e in
      let within : i < length sizes.fields = slice_get_within sizes.fields i b.0 b.1 in
      let x = there (level f) i (let same = as_many in omega arith) in
      (λ j. length (field_side (x.1 j) s.side)) ∙ only_is (side_bounds s.side b.0) m (length (field_side (Some x.0) s.side)) b.2 (side_lies b.0 x.0 s.side (lie.fields i x.0 b.0 x.1 b.1))

  by_method : (i m : ℕ) (d : Field) → slice_get format.fields i ≡ Some d → (e : Encoding) → d.encoding ≡ e → told_length (bounding_of (base_ranges s sizes)) (reference_in s d) e s.side ≡ Some m → length (piece (level f) s.side i) ≡ m
  by_method i m d at (encoding.Library l) is told =
      let g = stood i d at in
      let c = coded i d at l is in
      ap length (g.side_is s.side ∙ picked (sides_of g.field) s.side)
      ∙ library_has (bounding_of (base_ranges s sizes)) numbers (side_of format.listing (level f)) (reference_in s d) l c.0 (sides_of g.field).uncompressed (sides_of g.field).compressed s.side m
      (λ q e here. lies_in (bounding_of (base_ranges s sizes)) base_lie e (library_in i d l at is q e here)) c.1 c.2 told
  by_method i m d at encoding.Bare is told = absurd (cc)
  by_method i m d at (encoding.Call k es) is told = absurd (cc)

  each : (i m : ℕ) → length_of s format sizes i ≡ Some m → length (piece (level f) s.side i) ≡ m
  each i m e = let t = noted s (base_ranges s sizes) sizes 0 format.fields i m e in by t.0 t.1 (only_length sizes.fields s.side (0 + i)) refl t.2
    where
      here : 0 + i ≡ i
      here = omega arith

      by : (d : Field) → slice_get format.fields i ≡ Some d → (o : Option ℕ) → only_length sizes.fields s.side (0 + i) ≡ o
          → option_or o (told_length (bounding_of (base_ranges s sizes)) (reference_in s d) d.encoding s.side) ≡ Some m → length (piece (level f) s.side i) ≡ m
      by d at (Some k) is told = let same : k ≡ m = cc in by_bounds i m (ap (only_length sizes.fields s.side) (sym here) ∙ (is ∙ ap Some same))
      by d at None is told = by_method i m d at d.encoding refl told

  pub begins : (i offset : ℕ) → BeginsAt (order_of format s.side) (length_of s format sizes) i offset → (later : List Bool) × (drop offset s.bits ≡ piece (level f) s.side i ++ later)
  begins = begun (level f) s.side (order_of format s.side) (length_of s format sizes) each s.bits h.rest in_front

  -- a field has as many bits as are due
  pub enough : (i offset due : ℕ) → BeginsAt (order_of format s.side) (length_of s format sizes) i offset → length_of s format sizes i ≡ Some due → due ≤ length (drop offset s.bits)
  enough i offset due b is =
      let t = begins i offset b in
      let own = each i due is in
      let all = ap length t.1 ∙ length-append (piece (level f) s.side i) t.0 in
      omega (arith, own, all)

  abbrev pub numbers_of : Known
  numbers_of = known_level f h.args

  -- a condition of the format is true
  pub condition_is : (j : ℕ) (condition : Cond) (place : Span) → slice_get format.constraints j ≡ Some (Enforce condition place) → truth (assignment_of (known_level f h.args)) condition ≡ Some true
  condition_is j condition place at =
      (fitting.evaluated p sound s.method n sit (bits_at s.context) h.args s.path f arguments h.fits h.format_is).truth_is j condition place at
      ∙ (fitting.fits_level p sound s.method n sit (bits_at s.context) h.args s.path f arguments h.fits h.format_is).constraints j (Enforce condition place) at

  -- ---- what is told

  pub told_is : (i : ℕ) (side : Side) (own : List Bool) → Told s format sizes i side own → piece (level f) side i ≡ own
  told_is i side own (placed t) = held (level f) s.side (order_of format s.side) (length_of s format sizes) each s.bits h.rest in_front i own t
  told_is i side own (empty d at leaves) =
      let g = stood i d at in
      let l = left_empty d.encoding side leaves in
      let c = coded i d at l.0 l.1 in
      g.side_is side ∙ (picked (sides_of g.field) side ∙ unsent l.0 side (ap (λ z. leaves_empty z side) (sym l.1) ∙ leaves) (side_of format.listing (level f)) numbers c.0 (reference_in s d) (sides_of g.field).uncompressed (sides_of g.field).compressed c.1 c.2)
  told_is i side own (asked_for d value at is given) =
      let has : slice_get (asked_values (level f)) (asked_before format.fields i) ≡ Some value = h.asked_are (asked_before format.fields i) value given in
      let found = asked_at format.fields (level f) shaped.declared_is i d at is in
      ap (λ (z : AskedValue). z.bits) (same_Some _ _ (sym found ∙ has))
  told_is i other_side own (across {side = side} d l m first t at is plain method only) =
      let g = stood i d at in
      let c = coded i d at l is in
      let same : c.0 ≡ m =
      same_method (bounding_of (base_ranges s sizes)) numbers (side_of format.listing (level f)) [] l (λ q e here. lies_in (bounding_of (base_ranges s sizes)) base_lie e (library_in i d l at is q e here))
      (λ crc it. absurd (not_crc l plain crc it)) m c.0 method c.1 in
      let holds : Lib m (reference_in s d) (sides_of g.field).uncompressed (sides_of g.field).compressed = subst (λ z. Lib z (reference_in s d) (sides_of g.field).uncompressed (sides_of g.field).compressed) same c.2 in
      let here : field_side (Some (sides_of g.field)) side ≡ first = sym (g.side_is side) ∙ told_is i side first t in
      let all : Related m (reference_in s d) side first (field_side (Some (sides_of g.field)) (opposite side)) =
      subst (λ z. Related m (reference_in s d) side z (field_side (Some (sides_of g.field)) (opposite side))) here (related m (reference_in s d) (sides_of g.field) side holds) in
      g.side_is (opposite side) ∙ only.1 (field_side (Some (sides_of g.field)) (opposite side)) all

  -- ---- what is seen

  module _ (seen : Observed) (is_seen : AreAllSeen s format sizes seen) where
    pub seen_is : (i : ℕ) (side : Side) (own : List Bool) → seen_at seen.fields i side ≡ Some own → piece (level f) side i ≡ own
    seen_is i side own e =
        let x = and_then_some (λ (z : ObservedSides). seen_side z side) (slice_get seen.fields i) own e in
        let each = is_seen.fields.each i x.0 x.1 in
        by side x.0 each x.2
      where
        some_told : (o : Option (List Bool)) (z : Side) → IfSome o (Told s format sizes i z) → o ≡ Some own → Told s format sizes i z own
        some_told (Some b) z t is = let same : b ≡ own = cc in subst (λ q. Told s format sizes i z q) same t
        some_told None z t is = absurd (cc)

        by : (z : Side) (sight : ObservedSides) → IsSeen s format sizes i sight → seen_side sight z ≡ Some own → piece (level f) z i ≡ own
        by Uncompressed sight t is = told_is i Uncompressed own (some_told sight.uncompressed Uncompressed t.up is)
        by Compressed sight t is = told_is i Compressed own (some_told sight.compressed Compressed t.down is)

    whole_of : (o : Option (List Bool)) (side : Side) → IfSome o (λ b. joined seen.fields side (order_of format side) ≡ Some b) → (own : List Bool) → o ≡ Some own → whole_side side f ≡ own
    whole_of (Some b) side t own is =
        let same : b ≡ own = cc in
        whole_pieces format f shaped side ∙ (joined_is seen.fields (level f) side (order_of format side) (λ i b e. seen_is i side b e) b t ∙ same)
    whole_of None side t own is = absurd (cc)

    pub whole_is : (side : Side) (own : List Bool) → seen_side seen.whole side ≡ Some own → whole_side side f ≡ own
    whole_is Uncompressed own e = whole_of seen.whole.uncompressed Uncompressed is_seen.up own e
    whole_is Compressed own e = whole_of seen.whole.compressed Compressed is_seen.down own e

    -- the side of a subject
    pub subject_is : (x : Subject) (side : Side) (own : List Bool) → seen_subject seen x side ≡ Some own → side_of format.listing (level f) x side ≡ own
    subject_is (subject.Field i) side own e = seen_is i side own e
    subject_is subject.This Uncompressed own e = whole_is Uncompressed own e
    subject_is subject.This Compressed own e = ap (λ l. packed_bits l (level f)) (sym shaped.listing_is) ∙ whole_is Compressed own e

    -- the numbers lie in the ranges by what is seen
    pub all_lie : LieIn (assignment_of (known_level f h.args)) (bounding_of (ranges_seen seen (base_ranges s sizes)))
    all_lie = record { attributes = λ t. by t.subject t.side t.measure; parameters = base_lie.parameters }
      where
        by : (x : Subject) (z : Side) (m : Measure) → IfSome ((assignment_of (known_level f h.args)).attribute (record { subject = x; side = z; measure = m }))
            (IsIn ((bounding_of (ranges_seen seen (base_ranges s sizes))).attribute (record { subject = x; side = z; measure = m })))
        by (subject.Field i) z m =
            fields_lie seen.fields (level f) (map side_ranges sizes.fields) zero i z m (length-map sizes.fields side_ranges ∙ as_many)
            (λ y b is. let here : 0 + i ≡ i = omega arith in seen_is i y b (ap (λ q. seen_at seen.fields q y) (sym here) ∙ is)) (base_lie.attributes (record { subject = subject.Field i; side = z; measure = m }))
        by subject.This Uncompressed m =
            one_side (side_ranges sizes.whole).uncompressed seen.whole.uncompressed (header f) m (λ b is. whole_is Uncompressed b is) (base_lie.attributes (record { subject = subject.This; side = Uncompressed; measure = m }))
        by subject.This Compressed m =
            one_side (side_ranges sizes.whole).compressed seen.whole.compressed (packed f) m (λ b is. whole_is Compressed b is) (base_lie.attributes (record { subject = subject.This; side = Compressed; measure = m }))
