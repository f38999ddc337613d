-- In a fitting filling each length lies in its bounds.
use Rattle.std.proofs.Common.{◌≡◌, ◌∙◌, refl, sym, ap, subst, ℕ, ◌<◌, ◌≤◌, ◌≤ℤ◌, Bool, false, List, [], length, arith}
use Rattle.std.specs.Prelude.{Option, Some, None, slice_get, ℤ, pos, Result, Ok, Err}
use Rattle.std.specs.Option.{option_map, unwrap_or}
use Rattle.std.proofs.lemmas.Int.{ints}
use Rattle.std.proofs.lemmas.Option.{slice_get_within, slice_get-map}
use Rattle.sem_expr.specs.declared.expr.Subject.{Subject}
use Rattle.sem_expr.specs.declared.expr.Subject.TheVariants as subject
use Rattle.sem_expr.specs.declared.expr.Side.{Side}
use Rattle.sem_expr.specs.declared.expr.Side.TheVariants.{Uncompressed, Compressed}
use Rattle.sem_expr.specs.declared.expr.Measure.{Measure}
use Rattle.sem_expr.specs.declared.expr.Measure.TheVariants as measure
use Rattle.sem_expr.specs.declared.expr.Expr.{Expr}
use Rattle.sem_expr.specs.declared.expr.Expr.TheVariants as expr
use Rattle.sem_expr.specs.declared.expr.Expr.TheVariants.{Number, Parameter, Binary'}
use Rattle.sem_expr.specs.declared.interval.Interval.{Interval}
use Rattle.sem_expr.specs.declared.fault.RangeFault.{RangeFault}
use Rattle.sem_expr.specs.Values.{Assignment, val, both, apply}
use Rattle.sem_expr.specs.Known.{assignment_of, measured, nothing_known, side_numbers, subject_numbers}
use Rattle.sem_expr.specs.Ranged.{ranged}
use Rattle.sem_expr.specs.Bounds.{anything, bounding_of}
use Rattle.sem_profile.specs.declared.profile.Sizes.{Sizes}
use Rattle.sem_profile.specs.declared.profile.FormatSizes.{FormatSizes}
use Rattle.sem_profile.specs.declared.profile.MethodSizes.{MethodSizes}
use Rattle.sem_profile.specs.declared.profile.Library.{Library}
use Rattle.sem_profile.specs.declared.profile.Encoding.{Encoding}
use Rattle.sem_profile.specs.declared.profile.Encoding.TheVariants as encoding
use Rattle.sem_profile.specs.declared.profile.Constraint.TheVariants.{Bracket}
use Rattle.sem_profile.specs.declared.profile.Field.{Field}
use Rattle.sem_profile.specs.declared.profile.Format.{Format}
use Rattle.sem_profile.specs.declared.profile.Method.{Method}
use Rattle.sem_profile.specs.Constants.{where_ranged, constant}
use Rattle.sem_profile.specs.BoundsFaults.{side_bounds}
use Rattle.sem_profile.specs.Fields.{lists, field_sizes}
use Rattle.sem_profile.specs.Formats.{format_sizes}
use Rattle.sem_profile.specs.HasBounds.{Lower, Upper, least_of_all, least_sized, least_called, least_bracket, most_unlisted, most_bare, most_unsent, most_missing, most_empty, most_of_all, most_sized, most_called, most_bracket, HasBounds}
use Rattle.sem_profile.specs.Outcome.{AreSizes, FormatAt}
use Rattle.sem_profile.proofs.FieldsRuling.{there, format-is, by-rules}
use Rattle.sem_profile.proofs.PassesPlaces.{indexed-length}
use Rattle.sem_filling.specs.declared.filling.Filling.{Filling, out-Filling}
use Rattle.sem_filling.specs.declared.filling.FilledField.{FilledField}
use Rattle.sem_filling.specs.Fillings.{Sides, sides_of, fields_of, level, header, packed, packed_bits}
use Rattle.sem_filling.specs.Entries.{Path, below}
use Rattle.sem_filling.proofs.FillingsUnique.{also_at}
use Rattle.sem_filling.specs.Fits.{Context, Fits, FieldFits, LevelFits, format_at, side_of, field_side, assigned, reference_of}
use Rattle.sem_filling.specs.Fits as fit
use Rattle.sem_filling.specs.Bounded.{LiesBetween, SidesLie, LengthsLie, LengthsLieInBounds}
use Rattle.sem_filling.proofs.FitsSized.{end_of, one_value, Sized, sized, and_then_some}
use Rattle.sem_filling.proofs.FitsInverted.{bare_parts, coded_parts, length-level, length-fields}
use Rattle.sem_filling.proofs.BoundedSums.{header_low, header_high, piece, bound_at, packed_low, packed_high}

-- ---- constants

never_known : (x : Subject) (z : Side) (m : Measure) → measured (side_numbers (subject_numbers nothing_known x) z) m ≡ None
never_known (subject.Field i) Uncompressed measure.Value = refl
never_known (subject.Field i) Uncompressed measure.Length = refl
never_known (subject.Field i) Compressed measure.Value = refl
never_known (subject.Field i) Compressed measure.Length = refl
never_known subject.This Uncompressed measure.Value = refl
never_known subject.This Uncompressed measure.Length = refl
never_known subject.This Compressed measure.Value = refl
never_known subject.This Compressed measure.Length = refl

both_values : (c c' o o' : Option ℤ) (f : ℤ → ℤ → Option ℤ) (v : ℤ) → ((w : ℤ) → c ≡ Some w → o ≡ Some w) → ((w : ℤ) → c' ≡ Some w → o' ≡ Some w) → both f c c' ≡ Some v → both f o o' ≡ Some v
both_values None c' o o' f v h h' e = absurd (cc)
both_values (Some x) None o o' f v h h' e = absurd (cc)
both_values (Some x) (Some y) o o' f v h h' e = (λ i. both f (h x refl i) (h' y refl i)) ∙ e

-- a value while nothing is known is the value under all numbers
value_kept : (a : Assignment) (e : Expr) (v : ℤ) → val (assignment_of nothing_known) e ≡ Some v → val a e ≡ Some v
value_kept a (Number s n) v h = h
value_kept a (Parameter s i) v h = let wrong : None ≡ Some v = h in absurd (cc)
value_kept a (expr.Attribute s t) v h = let wrong : None ≡ Some v = sym (never_known t.subject t.side t.measure) ∙ h in absurd (cc)
value_kept a (Binary' s op p x q y) v h =
    both_values (val (assignment_of nothing_known) x) (val (assignment_of nothing_known) y) (val a x) (val a y) (apply op) v (value_kept a x) (value_kept a y) h

pub constant_value : (a : Assignment) (e : Expr) (v : ℤ) → constant e ≡ Some v → val a e ≡ Some v
constant_value a e v h = by (ranged (bounding_of anything) e) h
  where
    by : (r : Result Interval RangeFault) → where_ranged r (val (assignment_of nothing_known) e) ≡ Some v → val a e ≡ Some v
    by (Ok i) is = value_kept a e v is
    by (Err f) is = let wrong : None ≡ Some v = is in absurd (cc)

constant_is : (a : Assignment) (e : Expr) (v : ℤ) (n : ℕ) → constant e ≡ Some v → val a e ≡ Some (pos n) → v ≡ pos n
constant_is a e v n h k = let w = constant_value a e v h in cc

count_is : (a : Assignment) (e : Expr) (n m : ℕ) → constant e ≡ Some (pos n) → val a e ≡ Some (pos m) → n ≡ m
count_is a e n m h k = let same : pos n ≡ pos m = constant_is a e (pos n) m h k in cc

-- ---- sides

lie_of : (z : Side) (b : Sizes) (u c : List Bool) → SidesLie b (length u) (length c) → LiesBetween (side_bounds z b) (length (end_of z u c))
lie_of Uncompressed b u c h = h.uncompressed_lies
lie_of Compressed b u c h = h.compressed_lies

side_is : (o : Option Sides) (x : Sides) (z : Side) → o ≡ Some x → field_side o z ≡ end_of z x.uncompressed x.compressed
side_is o x Uncompressed e = ap (λ y. field_side y Uncompressed) e
side_is o x Compressed e = ap (λ y. field_side y Compressed) e

module _ (methods : List Method) (table : List MethodSizes) (are : AreSizes methods table) where
  bounds : HasBounds methods table
  bounds = by-rules methods table are

  -- the bounds of a format, by the indices of its method and its own
  pub record Placed (k n : ℕ) (format : Format) : Type 0 where
    pub method : Method
    pub whole : MethodSizes
    pub sizes : FormatSizes
    pub at : FormatAt methods table method format whole sizes
    pub method_at : slice_get methods k ≡ Some method
    pub whole_at : slice_get table k ≡ Some whole
    pub sizes_at : slice_get whole.formats n ≡ Some sizes

  pub placed : (k n : ℕ) (format : Format) → format_at methods k n ≡ Some format → Placed k n format
  placed k n format is =
      let found = and_then_some (λ m. slice_get m.formats n) (slice_get methods k) format is in
      let within : k < length methods = slice_get_within methods k found.0 found.1 in
      let s = there table k (let count = are.each in omega arith) in
      let has = are.sized k found.0 s.0 found.1 s.1 in
      let sizes_at : slice_get s.0.formats n ≡ Some (format_sizes table format) =
      ap (λ fs. slice_get fs n) has.formats_are ∙ slice_get-map (format_sizes table) found.0.formats n ∙ ap (option_map (format_sizes table)) found.2 in
      record {
        method = found.0;
        whole = s.0;
        sizes = format_sizes table format;
        at = record { method_place = k; method_at = found.1; whole_at = s.1; format_place = n; format_at = found.2; sizes_at = sizes_at };
        method_at = found.1;
        whole_at = s.1;
        sizes_at = sizes_at;
      }

  -- the sides of a call lie in the bounds of the called method
  pub record InTable (k : ℕ) (u c : List Bool) : Type 0 where
    pub sizes : MethodSizes
    pub in_table : slice_get table k ≡ Some sizes
    pub lie : SidesLie sizes.whole (length u) (length c)

  pub count_sizes : (m : Method) (format : Format) (s : MethodSizes) (sizes : FormatSizes) → FormatAt methods table m format s sizes → length sizes.fields ≡ length format.fields
  count_sizes m format s sizes at =
      ap (λ (x : FormatSizes). length x.fields) (sym (format-is methods table are m format s sizes at)) ∙ indexed-length (field_sizes table format) 0 format.fields

  module _ (ctx : Context) where
    module _ (k : ℕ) (args : List ℤ) (path : Path) (format : Format) (f : Filling) (lf : LevelFits format f args)
        (each : (i : ℕ) (d : Field) (x : FilledField) → slice_get format.fields i ≡ Some d → slice_get (fields_of f) i ≡ Some x →
        FieldFits methods ctx (side_of format.listing (level f)) (assigned format.listing (level f) args) path d d.encoding x)
        (inner : (i : ℕ) (d : Field) (x : FilledField) → slice_get format.fields i ≡ Some d → slice_get (fields_of f) i ≡ Some x → (j : ℕ) (es : List Expr) → d.encoding ≡ encoding.Call j es →
        InTable j (sides_of x).uncompressed (sides_of x).compressed)
        (m : Method) (s : MethodSizes) (sizes : FormatSizes) (at : FormatAt methods table m format s sizes) where
      abbrev A : Assignment
      A = assigned format.listing (level f) args

      abbrev bits_at : ℕ → Side → List Bool
      bits_at i z = field_side (slice_get (level f) i) z

      record Here (i : ℕ) (d : Field) : Type 0 where
        x : FilledField
        at_f : slice_get (fields_of f) i ≡ Some x
        same : (z : Side) → length (bits_at i z) ≡ length (end_of z (sides_of x).uncompressed (sides_of x).compressed)

      here : (i : ℕ) (d : Field) → slice_get format.fields i ≡ Some d → Here i d
      here i d e =
          let x = also_at format.fields (fields_of f) i d (sym (length-fields format f lf.shaped)) e in
          let in_level : slice_get (level f) i ≡ Some (sides_of x.0) = slice_get-map sides_of (fields_of f) i ∙ ap (option_map sides_of) x.1 in
          record { x = x.0; at_f = x.1; same = λ z. ap length (side_is (slice_get (level f) i) (sides_of x.0) z in_level) }

      coded : (i : ℕ) (d : Field) (h : Here i d) → slice_get format.fields i ≡ Some d → (l : Library) → d.encoding ≡ encoding.Library l → Sized A l (sides_of h.x).uncompressed (sides_of h.x).compressed
      coded i d h e l el =
          let c = coded_parts methods ctx (each i d h.x e h.at_f) l el in
          sized (side_of format.listing (level f)) A l c.method (reference_of d.declared.part ctx (below path d.declared.name) d.initial) (sides_of h.x).uncompressed (sides_of h.x).compressed
          c.is_method c.holds

      called : (z : Side) (i : ℕ) (d : Field) (h : Here i d) → slice_get format.fields i ≡ Some d → (j : ℕ) (es : List Expr) → d.encoding ≡ encoding.Call j es → (t : MethodSizes) → slice_get table j ≡ Some t
          → LiesBetween (side_bounds z t.whole) (length (bits_at i z))
      called z i d h e j es el t et =
          let q = inner i d h.x e h.at_f j es el in
          let same : q.sizes ≡ t = one_value _ q.sizes t q.in_table et in
          subst (λ n. LiesBetween (side_bounds z t.whole) n) (sym (h.same z))
          (lie_of z t.whole (sides_of h.x).uncompressed (sides_of h.x).compressed
          (subst (λ (y : MethodSizes). SidesLie y.whole (length (sides_of h.x).uncompressed) (length (sides_of h.x).compressed)) same q.lie))

      lower : (z : Side) (i : ℕ) (d : Field) (n : ℕ) → slice_get format.fields i ≡ Some d → Lower table format i d z n → n ≤ length (bits_at i z)
      lower z i d n e least_of_all = omega arith
      lower z i d n e (least_sized l x el size const) =
          let h = here i d e in
          let same : n ≡ length (bits_at i z) = count_is A x n _ const ((coded i d h e l el).given z x size) ∙ sym (h.same z) in
          omega arith
      lower z i d n e (least_called j es t el et en) = let q = called z i d (here i d e) e j es el t et in let low = q.least in omega arith
      lower z i d n e (least_bracket j lengths place ej below) =
          let t = lf.constraints j (Bracket i z lengths place) ej in
          let b = below t.0 t.1 t.2 in
          let v : b.0 ≡ pos (length (bits_at i z)) = constant_is A t.1 b.0 (length (bits_at i z)) b.1 t.3 in
          let low : pos n ≤ℤ pos (length (bits_at i z)) = subst (λ y. pos n ≤ℤ y) v b.2 in
          omega (arith, ints)

      unlisted : (i : ℕ) → lists format.listing i ≡ false → (o : Option Sides) → slice_get (level f) i ≡ o → field_side o Compressed ≡ []
      unlisted i e None is = refl
      unlisted i e (Some x) is = lf.unlisted i x is e

      upper : (z : Side) (i : ℕ) (d : Field) (n : ℕ) → slice_get format.fields i ≡ Some d → Upper table format i d z n → length (bits_at i z) ≤ n
      upper z i d n e (most_unlisted is_c no_list) =
          let none : length (bits_at i z) ≡ 0 = ap (λ y. length (bits_at i y)) is_c ∙ ap length (unlisted i no_list (slice_get (level f) i) refl) in
          omega arith
      upper z i d n e (most_bare is is_u) =
          let h = here i d e in
          let b = bare_parts methods ctx (each i d h.x e h.at_f) is in
          let same : length (bits_at i z) ≡ length (sides_of h.x).uncompressed = ap (λ y. length (bits_at i y)) is_u ∙ h.same Uncompressed in
          let short = b.short in
          omega arith
      upper z i d n e (most_unsent is is_c) =
          let h = here i d e in
          let b = bare_parts methods ctx (each i d h.x e h.at_f) is in
          let same : length (bits_at i z) ≡ 0 = ap (λ y. length (bits_at i y)) is_c ∙ h.same Compressed ∙ ap length b.unsent in
          omega arith
      upper z i d n e (most_missing j es is et) =
          let h = here i d e in
          let q = inner i d h.x e h.at_f j es is in
          let wrong : None ≡ Some q.sizes = sym et ∙ q.in_table in
          absurd (cc)
      upper z i d n e (most_empty l el empty) =
          let h = here i d e in
          let none : length (bits_at i z) ≡ 0 = h.same z ∙ (coded i d h e l el).empty z empty in
          omega arith
      upper z i d n e (most_of_all l el) =
          let h = here i d e in
          let same = h.same z in
          let short = (coded i d h e l el).short z in
          omega arith
      upper z i d n e (most_sized l x el size const) =
          let h = here i d e in
          let same : n ≡ length (bits_at i z) = count_is A x n _ const ((coded i d h e l el).given z x size) ∙ sym (h.same z) in
          omega arith
      upper z i d n e (most_called j es t el et en) = let q = called z i d (here i d e) e j es el t et in let high = q.most in omega arith
      upper z i d n e (most_bracket j lengths place ej above) =
          let t = lf.constraints j (Bracket i z lengths place) ej in
          let b = above t.0 t.1 t.2 in
          let v : b.0 ≡ pos (length (bits_at i z)) = constant_is A t.1 b.0 (length (bits_at i z)) b.1 t.3 in
          let high : pos (length (bits_at i z)) ≤ℤ pos n = subst (λ y. y ≤ℤ pos n) v b.2 in
          omega (arith, ints)

      field_between : (z : Side) (i : ℕ) (d : Field) (b : Sizes) → slice_get format.fields i ≡ Some d → slice_get sizes.fields i ≡ Some b → LiesBetween (side_bounds z b) (length (bits_at i z))
      field_between z i d b e eb = record {
        least = lower z i d (side_bounds z b).least e (bounds.least_by m format s sizes at z i d b e eb);
        most = upper z i d (side_bounds z b).most e (bounds.most_by m format s sizes at z i d b e eb);
      }

      field_lies : (i : ℕ) (x : Sides) (b : Sizes) → slice_get (level f) i ≡ Some x → slice_get sizes.fields i ≡ Some b → SidesLie b (length x.uncompressed) (length x.compressed)
      field_lies i x b ex eb =
          let d = also_at (level f) format.fields i x (length-level format f lf.shaped) ex in
          record {
            uncompressed_lies = subst (LiesBetween b.uncompressed) (ap length (side_is (slice_get (level f) i) x Uncompressed ex)) (field_between Uncompressed i d.0 b d.1 eb);
            compressed_lies = subst (LiesBetween b.compressed) (ap length (side_is (slice_get (level f) i) x Compressed ex)) (field_between Compressed i d.0 b d.1 eb);
          }

      as_many : length sizes.fields ≡ length (level f)
      as_many = count_sizes m format s sizes at ∙ sym (length-level format f lf.shaped)

      header_lies : LiesBetween sizes.whole.uncompressed (length (header f))
      header_lies = record {
        least = subst (λ n. n ≤ length (header f)) (sym (bounds.least_header m format s sizes at))
            (header_low (λ b. b.uncompressed.least) format.fields sizes.fields (level f) lf.shaped.declared_is (λ j b x eb ex. (field_lies j x b ex eb).uncompressed_lies.least));
        most = subst (λ n. length (header f) ≤ n) (sym (bounds.most_header m format s sizes at))
            (header_high (λ b. b.uncompressed.most) format.fields sizes.fields (level f) lf.shaped.declared_is (count_sizes m format s sizes at)
            (λ j b x eb ex. (field_lies j x b ex eb).uncompressed_lies.most));
      }

      piece_is : (o : Option Sides) (x : Sides) → o ≡ Some x → unwrap_or (option_map (λ y. y.compressed) o) [] ≡ x.compressed
      piece_is o x e = ap (λ y. unwrap_or (option_map (λ w. w.compressed) y) []) e

      low_at : (i : ℕ) (o : Option Sizes) → slice_get sizes.fields i ≡ o → unwrap_or (option_map (λ b. b.compressed.least) o) 0 ≤ length (piece (level f) i)
      low_at i None e = omega arith
      low_at i (Some b) e =
          let x = also_at sizes.fields (level f) i b as_many e in
          subst (λ bits. b.compressed.least ≤ length bits) (sym (piece_is (slice_get (level f) i) x.0 x.1)) (field_lies i x.0 b x.1 e).compressed_lies.least

      high_at : (i : ℕ) (o : Option Sides) → slice_get (level f) i ≡ o → length (unwrap_or (option_map (λ y. y.compressed) o) []) ≤ bound_at (λ b. b.compressed.most) sizes.fields i
      high_at i None e = omega arith
      high_at i (Some x) e =
          let b = also_at (level f) sizes.fields i x (sym as_many) e in
          let at_b : bound_at (λ b. b.compressed.most) sizes.fields i ≡ b.0.compressed.most = ap (λ y. unwrap_or (option_map (λ w. w.compressed.most) y) 0) b.1 in
          subst (λ n. length x.compressed ≤ n) (sym at_b) (field_lies i x b.0 e b.1).compressed_lies.most

      packed_lies : LiesBetween sizes.whole.compressed (length (packed f))
      packed_lies =
          subst (λ l. LiesBetween sizes.whole.compressed (length (packed_bits l (level f)))) (sym lf.shaped.listing_is)
          (record {
            least = subst (λ n. n ≤ length (packed_bits format.listing (level f))) (sym (bounds.least_sum m format s sizes at))
                (packed_low (λ b. b.compressed.least) sizes.fields (level f) (λ i. low_at i (slice_get sizes.fields i) refl) format.listing);
            most = subst (λ n. length (packed_bits format.listing (level f)) ≤ n) (sym (bounds.most_sum m format s sizes at))
                (packed_high (λ b. b.compressed.most) sizes.fields (level f) (λ i. high_at i (slice_get (level f) i) refl) format.listing);
          })

      enclosed : (z : Side) (n : ℕ) → LiesBetween (side_bounds z sizes.whole) n → LiesBetween (side_bounds z s.whole) n
      enclosed z n h =
          let out = bounds.of_method m format s sizes at z in
          let outer_least = out.least in
          let outer_most = out.most in
          let least = h.least in
          let most = h.most in
          record { least = omega arith; most = omega arith }

      all_lie : LengthsLie sizes f × SidesLie s.whole (length (header f)) (length (packed f))
      all_lie = (
        record { fields = field_lies; whole = record { uncompressed_lies = header_lies; compressed_lies = packed_lies } },
        record { uncompressed_lies = enclosed Uncompressed (length (header f)) header_lies; compressed_lies = enclosed Compressed (length (packed f)) packed_lies },
      )

    format_of : {k : ℕ} {args : List ℤ} {path : Path} {f : Filling} → Fits methods ctx k args path f → (format : Format) × (format_at methods k (out-Filling f).format ≡ Some format)
    format_of (fit.fits format is lf each) = (format, is)

    mutual
      fitted : {k : ℕ} {args : List ℤ} {path : Path} {f : Filling} → Fits methods ctx k args path f → (s : MethodSizes) (sizes : FormatSizes) → slice_get table k ≡ Some s
          → slice_get s.formats (out-Filling f).format ≡ Some sizes → LengthsLie sizes f × SidesLie s.whole (length (header f)) (length (packed f))
      fitted {k} {args} {path} {f} (fit.fits format is lf each) s sizes in_table in_formats =
          let inner = λ (i : ℕ) (d : Field) (x : FilledField) (e : slice_get format.fields i ≡ Some d) (e' : slice_get (fields_of f) i ≡ Some x). field_in (each i d x e e') in
          let found = and_then_some (λ m. slice_get m.formats (out-Filling f).format) (slice_get methods k) format is in
          all_lie k args path format f lf each inner found.0 s sizes
          (record { method_place = k; method_at = found.1; whole_at = in_table; format_place = (out-Filling f).format; format_at = found.2; sizes_at = in_formats })

      field_in : {side : Subject → Side → List Bool} {a : Assignment} {path : Path} {d : Field} {c : Encoding} {x : FilledField} → FieldFits methods ctx side a path d c x
          → (j : ℕ) (es : List Expr) → c ≡ encoding.Call j es → InTable j (sides_of x).uncompressed (sides_of x).compressed
      field_in (fit.bare short none plain) j es e = absurd (cc)
      field_in (fit.coded m is holds plain) j es e = absurd (cc)
      field_in {x} (fit.called {k = k'} {es = es'} args inner is_args is_inner h u c) j es e =
          let same : k' ≡ j = cc in
          let format = format_of h in
          let p = placed k' (out-Filling inner).format format.0 format.1 in
          let q = fitted h p.whole p.sizes p.whole_at p.sizes_at in
          record {
            sizes = p.whole;
            in_table = ap (slice_get table) (sym same) ∙ p.whole_at;
            lie = subst (λ n. SidesLie p.whole.whole n (length (sides_of x).compressed)) (sym (ap length u)) (subst (λ n. SidesLie p.whole.whole (length (header inner)) n) (sym (ap length c)) q.1);
          }

pub lie-in-bounds : LengthsLieInBounds
lie-in-bounds methods table are ctx k args path f h s sizes in_table in_formats = fitted methods table are ctx h s sizes in_table in_formats
