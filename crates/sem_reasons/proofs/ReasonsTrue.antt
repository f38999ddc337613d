-- What stands against a format is true: no filling of it is asked for.
use Rattle.std.proofs.Common.{◌≡◌, ◌≢◌, ◌∙◌, refl, sym, ap, subst, ℕ, zero, suc, ◌+◌, ◌≤◌, ◌<◌, Bool, true, false, List, [], ◌∷◌, ◌++◌, length, drop, arith}
use Rattle.std.specs.Prelude.{ℤ, pos, Option, Some, None, Result, Ok, Err, slice_get, nat_eq}
use Rattle.std.proofs.lemmas.Bool.{true≢false}
use Rattle.std.proofs.lemmas.Bool.Decides.{nat_tests}
use Rattle.std.specs.Option.{option_map, unwrap_or}
use Rattle.std.proofs.lemmas.List.{length-append}
use Rattle.std.proofs.lemmas.Option.{slice_get_within}
use Rattle.sem_context.specs.Entries.{bits_at}
use Rattle.sem_expr.specs.declared.expr.Expr.{Expr}
use Rattle.sem_expr.specs.declared.expr.Side.{Side}
use Rattle.sem_expr.specs.declared.expr.Side.TheVariants.{Uncompressed, Compressed}
use Rattle.sem_expr.specs.declared.fault.RangeFault.{RangeFault}
use Rattle.sem_expr.specs.declared.expr.Subject.TheVariants as subject
use Rattle.sem_expr.specs.declared.interval.Interval.{Interval}
use Rattle.sem_expr.specs.Known.{assignment_of}
use Rattle.sem_expr.specs.Ranged.{Bounding, ranged}
use Rattle.sem_expr.specs.Rules.{IsIn}
use Rattle.sem_expr.specs.Laws.{ValuesLieInRanges}
use Rattle.sem_expr.specs.Values.{Assignment, val}
use Rattle.sem_expr.proofs.RangedLie as ranges
use Rattle.sem_library.specs.Methods as lib
use Rattle.sem_library.specs.Methods.{Lib, LsbHolds}
use Rattle.sem_profile.specs.declared.profile.Constraint.{Constraint}
use Rattle.sem_profile.specs.declared.profile.Constraint.TheVariants.{Bracket, Enforce}
use Rattle.sem_profile.specs.declared.profile.CrcArguments.{CrcArguments}
use Rattle.sem_profile.specs.declared.profile.Encoding.{Encoding}
use Rattle.sem_profile.specs.declared.profile.Encoding.TheVariants as encoding
use Rattle.sem_profile.specs.declared.profile.Field.{Field}
use Rattle.sem_profile.specs.declared.profile.Format.{Format}
use Rattle.sem_profile.specs.declared.profile.FormatSizes.{FormatSizes}
use Rattle.sem_profile.specs.declared.profile.Library.{Library}
use Rattle.sem_profile.specs.declared.profile.Library.TheVariants as library
use Rattle.sem_profile.specs.declared.profile.Method.{Method}
use Rattle.sem_profile.specs.BoundsFaults.{side_bounds}
use Rattle.sem_profile.specs.BoundsLaws.{StandsIn, in_encoding, encoding_exprs}
use Rattle.text_source.specs.declared.span.Span.{Span}
use Rattle.sem_profile.specs.Resolved.{IsSound}
use Rattle.sem_filling.specs.declared.filling.Filling.{Filling, out-Filling}
use Rattle.sem_filling.specs.Fillings.{sides_of, level, header, packed}
use Rattle.sem_filling.specs.Bounded.{ArgumentsLie, LiesBetween, SidesLie, sizes_at}
use Rattle.sem_reasons.specs.Places.{BeginsAt, order_of}
use Rattle.sem_filling.specs.Fits.{assigned, field_side, format_at, method_of, side_of, vals}
use Rattle.sem_filling.proofs.Bounding.{placed as bounded_at}
use Rattle.sem_filling.proofs.FitsInverted.{FitsParts, parts}
use Rattle.sem_filling.proofs.FitsSized.{and_then_some, map_some, some_and, two_parts}
use Rattle.sem_lint.specs.Attributes.{length_range}
use Rattle.sem_lint.specs.Never.{is_untrue, IsUntrue}
use Rattle.sem_lint.proofs.BracketsEmpty.{none_in_bracket}
use Rattle.sem_lint.proofs.NeverApart.{not_true}
use Rattle.sem_lint.proofs.ObstaclesDead.{obstacles-kill}
use Rattle.sem_reasons.specs.Full.{IsFullView}
use Rattle.sem_reasons.specs.Laws.{ReasonsAreTrue}
use Rattle.sem_reasons.specs.Settings.{Setting, IsSought, IsOut, whole_side}
use Rattle.sem_reasons.specs.Told.{Covers, Related, length_of, opposite, reference_in, seen_at, seen_subject}
use Rattle.sem_reasons.specs.Reasons.{HasMethod, Stands, dead, short, long, cut, no_reference, differs, no_side, untrue, no_argument, no_truth, Tells, by_reason, by_call, TellAll, ends, next, all_ranged, formats_of, inside, ranges_in, range_of, undefined_at, wants_reference}
use Rattle.sem_filling.specs.declared.reason.Line.{Line}
use Rattle.sem_filling.specs.declared.reason.Reason.{Reason}
use Rattle.sem_reasons.specs.declared.sight.Observed.{Observed}
use Rattle.sem_reasons.proofs.FullSeen.{full_told}
use Rattle.sem_reasons.proofs.ToldKnown as known
use Rattle.sem_lint.specs.Undefined.{first_undefined, undefined_constraint}
use Rattle.sem_lint.proofs.UndefinedValueless as undefined
use Rattle.sem_reasons.proofs.PlacesOrdered.{piece}
use Rattle.sem_reasons.proofs.ToldPinned.{LiesIn, same_method}

lies-in-ranges : ValuesLieInRanges
lies-in-ranges = λ a r e i v lie. ranges.lies a r lie e i v

-- ---- lengths

whole_lies : (sizes : FormatSizes) (f : Filling) (side : Side) → SidesLie sizes.whole (length (header f)) (length (packed f)) → LiesBetween (side_bounds side sizes.whole) (length (whole_side side f))
whole_lies sizes f Uncompressed lie = lie.uncompressed_lies
whole_lies sizes f Compressed lie = lie.compressed_lies

some_format : (methods : List Method) (k n : ℕ) (format : Format) → format_at methods k n ≡ Some format → (m : Method) × (slice_get methods k ≡ Some m) × (slice_get m.formats n ≡ Some format)
some_format methods k n format e = and_then_some (λ m. slice_get m.formats n) (slice_get methods k) format e

all_in : (r : Bounding) (a : Assignment) (es : List Expr) → ((q : ℕ) (e : Expr) → slice_get es q ≡ Some e → LiesIn r a e) → (is : List Interval) (vs : List ℤ) → all_ranged r es ≡ Some is → vals a es ≡ Some vs → ArgumentsLie is vs
all_in r a [] lies is vs ranges values =
    let none : [] ≡ is = cc in
    let no : [] ≡ vs = cc in
    subst (λ z. ArgumentsLie z vs) none (subst (λ z. ArgumentsLie [] z) no record { count = refl; each = λ i b w at here. absurd (cc) })
all_in r a (e ∷ es) lies is vs ranges values =
    let x = and_then_some (λ i. option_map (λ more. i ∷ more) (all_ranged r es)) (range_of (ranged r e)) is ranges in
    let more = map_some (λ more. x.0 ∷ more) (all_ranged r es) is x.2 in
    let y = and_then_some (λ w. option_map (λ more. w ∷ more) (vals a es)) (val a e) vs values in
    let rest = map_some (λ more. y.0 ∷ more) (vals a es) vs y.2 in
    let later = all_in r a es (λ q g at. lies (suc q) g at) more.0 rest.0 more.1 rest.1 in
    let first : IsIn x.0 y.0 = lies zero e refl x.0 y.0 (ok_is (ranged r e) x.0 x.1) y.1 in
    subst (λ z. ArgumentsLie z vs) more.2 (subst (λ z. ArgumentsLie (x.0 ∷ more.0) z) rest.2 record { count = ap suc later.count; each = each x.0 y.0 more.0 rest.0 first later })
  where
    ok_is : (o : Result Interval RangeFault) (i : Interval) → range_of o ≡ Some i → o ≡ Ok i
    ok_is (Ok j) i e = cc
    ok_is (Err f) i e = absurd (cc)

    each : (i : Interval) (w : ℤ) (is : List Interval) (ws : List ℤ) → IsIn i w → ArgumentsLie is ws → (q : ℕ) (b : Interval) (u : ℤ) → slice_get (i ∷ is) q ≡ Some b → slice_get (w ∷ ws) q ≡ Some u → IsIn b u
    each i w is ws first later zero b u at here = let one : i ≡ b = cc in let other : w ≡ u = cc in subst (λ z. IsIn z u) one (subst (λ z. IsIn i z) other first)
    each i w is ws first later (suc q) b u at here = later.each q b u at here

-- ---- references

static_or_lsb : (l : Library) → wants_reference (encoding.Library l) ≡ true → (sides : _) (a : Assignment) (m : lib.Method) (u c : List Bool) → method_of sides a l ≡ Some m → Lib m None u c → ⊥
static_or_lsb library.Static e sides a m u c is h = let same : lib.static ≡ m = cc in let none : None ≡ Some u = (subst (λ z. Lib z None u c) (sym same) h).0 in absurd (cc)
static_or_lsb (library.Lsb k offset) e sides a m u c is h =
    let x = two_parts lib.lsb (val a k) (val a offset) m is in
    let t = some_and None (λ r. LsbHolds x.0 x.1 r u c) (subst (λ z. Lib z None u c) (sym x.4) h) in
    let none : None ≡ Some t.0 = t.1 in
    absurd (cc)
static_or_lsb (library.UncompressedValue len v) e sides a m u c is h = absurd (cc)
static_or_lsb (library.CompressedValue len v) e sides a m u c is h = absurd (cc)
static_or_lsb (library.Irregular len) e sides a m u c is h = absurd (cc)
static_or_lsb (library.Crc crc) e sides a m u c is h = absurd (cc)

wanting : (e : Encoding) → wants_reference e ≡ true → (l : Library) × (e ≡ encoding.Library l)
wanting (encoding.Library l) e = (l, refl)
wanting encoding.Bare e = absurd (cc)
wanting (encoding.Call k es) e = absurd (cc)

-- ---- a format

module _ (s : Setting) (sound : IsSound s.profile) (n : ℕ) (f : Filling) (h : IsSought s n f) where
  fitting_parts : FitsParts s.profile.methods (bits_at s.context) s.method h.args s.path f
  fitting_parts = parts h.fits

  format_found : (format : Format) × (format_at s.profile.methods s.method n ≡ Some format)
  format_found = (fitting_parts.format, ap (format_at s.profile.methods s.method) (sym h.format_is) ∙ fitting_parts.is_format)

  lengths : (sizes : FormatSizes) → sizes_at s.profile.sizes s.method n ≡ Some sizes → LiesBetween (side_bounds s.side sizes.whole) (length (whole_side s.side f))
  lengths sizes at = whole_lies sizes f s.side (known.lie s sound n format_found.0 format_found.1 sizes at f h).whole

  in_all : length s.bits ≡ length (whole_side s.side f) + length h.rest
  in_all = ap length h.in_front ∙ length-append (whole_side s.side f) h.rest

  no_short : (sizes : FormatSizes) → sizes_at s.profile.sizes s.method n ≡ Some sizes → length s.bits < (side_bounds s.side sizes.whole).least → ⊥
  no_short sizes at few = let l = (lengths sizes at).least in let all = in_all in omega (arith, few, l, all)

  no_long : (sizes : FormatSizes) → sizes_at s.profile.sizes s.method n ≡ Some sizes → s.is_whole ≡ true → (side_bounds s.side sizes.whole).most < length s.bits → ⊥
  no_long sizes at whole many =
      let l = (lengths sizes at).most in
      let all = in_all in
      let rest : length h.rest ≡ 0 = ap length (h.whole_is whole) in
      omega (arith, many, l, all, rest)

  no_cut : (i offset due : ℕ) (format : Format) (sizes : FormatSizes) → format_at s.profile.methods s.method n ≡ Some format → sizes_at s.profile.sizes s.method n ≡ Some sizes
      → BeginsAt (order_of format s.side) (length_of s format sizes) i offset → length_of s format sizes i ≡ Some due → length (drop offset s.bits) < due → ⊥
  no_cut i offset due format sizes at sizes_are begins is few = let enough = known.enough s sound n format at sizes sizes_are f h i offset due begins is in omega (arith, few, enough)

  table_sizes : (format : Format) → format_at s.profile.methods s.method n ≡ Some format → (sizes : FormatSizes) × (sizes_at s.profile.sizes s.method n ≡ Some sizes)
  table_sizes format at = known.sized s sound n format at

  none_unreferenced : (i : ℕ) (format : Format) (d : Field) → format_at s.profile.methods s.method n ≡ Some format → slice_get format.fields i ≡ Some d → wants_reference d.encoding ≡ true → reference_in s d ≡ None → ⊥
  none_unreferenced i format d at d_at wants none =
      let sizes = table_sizes format at in
      let l = wanting d.encoding wants in
      let g = known.stood s sound n format at sizes.0 sizes.1 f h i d d_at in
      let c = known.coded s sound n format at sizes.0 sizes.1 f h i d d_at l.0 l.1 in
      static_or_lsb l.0 (ap wants_reference (sym l.1) ∙ wants) (side_of format.listing (level f)) (assigned format.listing (level f) h.args) c.0 (sides_of g.field).uncompressed (sides_of g.field).compressed c.1
      (subst (λ z. Lib c.0 z (sides_of g.field).uncompressed (sides_of g.field).compressed) none c.2)

  -- ---- by what is seen

  module _ (format : Format) (sizes : FormatSizes) (seen : Observed) (v : IsFullView s n format sizes seen) where
    side_is : (i : ℕ) (side : Side) (own : List Bool) → seen_at seen.fields i side ≡ Some own → piece (level f) side i ≡ own
    side_is = known.seen_is s sound n format v.format_is sizes v.sizes_are f h seen (full_told s n format sizes seen v)

    lies : (e : Expr) → StandsIn format e → LiesIn (ranges_in s sizes seen) (assigned format.listing (level f) h.args) e
    lies = known.lies_in s sound n format v.format_is sizes v.sizes_are f h (ranges_in s sizes seen) (known.all_lie s sound n format v.format_is sizes v.sizes_are f h seen (full_told s n format sizes seen v))

    -- the sides of a field of which each argument has one value
    sides_go : (i : ℕ) (d : Field) (m : lib.Method) → HasMethod s format sizes seen i d m → (side : Side) → Related m (reference_in s d) side (piece (level f) side i) (piece (level f) (opposite side) i)
    sides_go i d m has side =
        let g = known.stood s sound n format v.format_is sizes v.sizes_are f h i d has.field_is in
        let c = known.coded s sound n format v.format_is sizes v.sizes_are f h i d has.field_is has.library has.library_is in
        let same : c.0 ≡ m =
        same_method (ranges_in s sizes seen) (assigned format.listing (level f) h.args) (side_of format.listing (level f)) has.covered has.library
        (λ q e here. lies e (in_encoding i q has.field_is (ap (λ z. slice_get (encoding_exprs z) q) has.library_is ∙ here)))
        (λ crc is. known.subject_is s sound n format v.format_is sizes v.sizes_are f h seen (full_told s n format sizes seen v) crc.subject crc.side has.covered (covered_at has.library crc is has.covers)) m c.0 has.method_is c.1 in
        let holds : Lib m (reference_in s d) (sides_of g.field).uncompressed (sides_of g.field).compressed = subst (λ z. Lib z (reference_in s d) (sides_of g.field).uncompressed (sides_of g.field).compressed) same c.2 in
        let one = subst (λ z. Related m (reference_in s d) side z (field_side (Some (sides_of g.field)) (opposite side))) (sym (g.side_is side)) (known.related m (reference_in s d) (sides_of g.field) side holds) in
        subst (λ z. Related m (reference_in s d) side (piece (level f) side i) z) (sym (g.side_is (opposite side))) one
      where
        covered_at : (l : Library) (crc : CrcArguments) → l ≡ library.Crc crc → Covers seen l has.covered → seen_subject seen crc.subject crc.side ≡ Some has.covered
        covered_at l crc is t = subst (λ z. Covers seen z has.covered) is t

    no_difference : (i : ℕ) (side : Side) (found due own : List Bool) (d : Field) (m : lib.Method) → HasMethod s format sizes seen i d m → seen_at seen.fields i side ≡ Some own → lib.IsOnly (Related m (reference_in s d) side own) (Some due)
        → seen_at seen.fields i (opposite side) ≡ Some found → found ≢ due → ⊥
    no_difference i side found due own d m has own_is only found_is differ =
        let here = side_is i side own own_is in
        let there = side_is i (opposite side) found found_is in
        let one = subst (λ z. Related m (reference_in s d) side z (piece (level f) (opposite side) i)) here (sides_go i d m has side) in
        let all : Related m (reference_in s d) side own found = subst (λ z. Related m (reference_in s d) side own z) there one in
        differ (only.1 found all)

    no_lack : (i : ℕ) (side : Side) (found : List Bool) (d : Field) (m : lib.Method) → HasMethod s format sizes seen i d m → seen_at seen.fields i side ≡ Some found → lib.IsOnly (Related m (reference_in s d) side found) None → ⊥
    no_lack i side found d m has found_is none =
        let here = side_is i side found found_is in
        none (piece (level f) (opposite side) i) (subst (λ z. Related m (reference_in s d) side z (piece (level f) (opposite side) i)) here (sides_go i d m has side))

    no_untrue : (j : ℕ) → IsUntrue format.constraints (ranges_in s sizes seen) j → ⊥
    no_untrue j u = by u.constraint u.constraint_at u.untrue
      where
        by : (c : Constraint) → slice_get format.constraints j ≡ Some c → is_untrue (ranges_in s sizes seen) c ≡ true → ⊥
        by (Bracket i side lengths place) at never =
            let t = known.bracket_is s sound n format v.format_is sizes v.sizes_are f h j i side lengths place at in
            let lie = known.all_lie s sound n format v.format_is sizes v.sizes_are f h seen (full_told s n format sizes seen v) in
            none_in_bracket (assignment_of (known.numbers_of s sound n format v.format_is sizes v.sizes_are f h)) (ranges_in s sizes seen) lie (length_range (ranges_in s sizes seen) (subject.Field i) side) lengths never t.0 t.1 t.2
            (pos (length (side_of format.listing (level f) (subject.Field i) side))) t.3 (known.bracket_lies s sound n format v.format_is sizes v.sizes_are f h (ranges_in s sizes seen) lie j i side lengths place at)
        by (Enforce condition place) at never =
            not_true lies-in-ranges (assignment_of (known.numbers_of s sound n format v.format_is sizes v.sizes_are f h)) (ranges_in s sizes seen) (known.all_lie s sound n format v.format_is sizes v.sizes_are f h seen (full_told s n format sizes seen v)) condition never
            (known.condition_is s sound n format v.format_is sizes v.sizes_are f h j condition place at)

    -- ---- values

    -- an argument of a field's encoding has a value
    argument_has : (i : ℕ) (d : Field) → slice_get format.fields i ≡ Some d → (e : Encoding) → d.encoding ≡ e → (q : ℕ) (x : Expr) → slice_get (encoding_exprs e) q ≡ Some x → (v : ℤ) × (val (assigned format.listing (level f) h.args) x ≡ Some v)
    argument_has i d at encoding.Bare is q x here = absurd (cc)
    argument_has i d at (encoding.Library l) is q x here =
        let c = known.coded s sound n format v.format_is sizes v.sizes_are f h i d at l is in
        undefined.has_values (side_of format.listing (level f)) (assigned format.listing (level f) h.args) l c.0 c.1 q x here
    argument_has i d at (encoding.Call k es) is q x here =
        let c = known.called s sound n format v.format_is sizes v.sizes_are f h i d at k es is in
        undefined.all_there (assigned format.listing (level f) h.args) es c.args c.is_args q x here

    no_undefined : (i : ℕ) (d : Field) (at : Span) → slice_get format.fields i ≡ Some d → first_undefined (ranges_in s sizes seen) (encoding_exprs d.encoding) ≡ Some at → ⊥
    no_undefined i d at field_at is =
        let t = undefined.one_undefined (ranges_in s sizes seen) (encoding_exprs d.encoding) at is in
        let has = argument_has i d field_at d.encoding refl t.0 t.1 t.2 in
        undefined.no_value (assignment_of (known.numbers_of s sound n format v.format_is sizes v.sizes_are f h)) (ranges_in s sizes seen) (known.all_lie s sound n format v.format_is sizes v.sizes_are f h seen (full_told s n format sizes seen v)) t.1 at t.3 has.0
        (known.known_is s sound n format v.format_is sizes v.sizes_are f h t.1 (in_encoding i t.0 field_at t.2) ∙ has.1)

    no_untold : (j : ℕ) (at : Span) → undefined_at (ranges_in s sizes seen) format.constraints j ≡ Some at → ⊥
    no_untold j at is = let t = and_then_some (undefined_constraint (ranges_in s sizes seen)) (slice_get format.constraints j) at is in by t.0 t.1 t.2
      where
        by : (c : Constraint) → slice_get format.constraints j ≡ Some c → undefined_constraint (ranges_in s sizes seen) c ≡ Some at → ⊥
        by (Bracket i side lengths place) there none = absurd (cc)
        by (Enforce condition place) there none =
            undefined.no_truth (assignment_of (known.numbers_of s sound n format v.format_is sizes v.sizes_are f h)) (ranges_in s sizes seen)
            (known.all_lie s sound n format v.format_is sizes v.sizes_are f h seen (full_told s n format sizes seen v)) condition at none true
            (known.condition_is s sound n format v.format_is sizes v.sizes_are f h j condition place there)

    -- ---- a method inside

    no_call : (i : ℕ) (d : Field) (k : ℕ) (es : List Expr) (parameters : List Interval) (offset : ℕ) → slice_get format.fields i ≡ Some d → d.encoding ≡ encoding.Call k es → all_ranged (ranges_in s sizes seen) es ≡ Some parameters
        → BeginsAt (order_of format s.side) (length_of s format sizes) i offset → ((j : ℕ) → j < formats_of (inside s d k parameters offset) → IsOut (inside s d k parameters offset) j) → ⊥
    no_call i d k es parameters offset at is ranges_are begins out =
        let g = known.stood s sound n format v.format_is sizes v.sizes_are f h i d at in
        let c = known.called s sound n format v.format_is sizes v.sizes_are f h i d at k es is in
        let b = known.begins s sound n format v.format_is sizes v.sizes_are f h i offset begins in
        let q = parts c.inner_fits in
        let m = some_format s.profile.methods k (out-Filling c.inner).format q.format q.is_format in
        let within : (out-Filling c.inner).format < length m.0.formats = slice_get_within m.0.formats (out-Filling c.inner).format q.format m.2 in
        let count : formats_of (inside s d k parameters offset) ≡ length m.0.formats = ap (λ (o : Option Method). unwrap_or (option_map (λ (z : Method). length z.formats) o) 0) m.1 in
        out (out-Filling c.inner).format (let a = count in let w = within in omega (arith, a, w)) c.inner record {
          args = c.args;
          in_table = known.inner_lie s sound n format v.format_is sizes v.sizes_are f h i d at k es is c.args c.is_args;
          in_ranges = all_in (ranges_in s sizes seen) (assigned format.listing (level f) h.args) es (λ q e here. lies e (in_encoding i q at (ap (λ z. slice_get (encoding_exprs z) q) is ∙ here))) parameters c.args ranges_are c.is_args;
          fits = c.inner_fits;
          format_is = refl;
          rest = b.0;
          in_front = b.1 ∙ ap (λ z. z ++ b.0) (g.side_is s.side ∙ inner_side s.side);
          whole_is = λ e. absurd (true≢false (sym e));
          asked_are = λ k value given. absurd (cc);
        }
      where
        inner_side : (side : Side) → field_side (Some (sides_of (known.stood s sound n format v.format_is sizes v.sizes_are f h i d at).field)) side ≡ whole_side side (known.called s sound n format v.format_is sizes v.sizes_are f h i d at k es is).inner
        inner_side Uncompressed = (known.called s sound n format v.format_is sizes v.sizes_are f h i d at k es is).header_is
        inner_side Compressed = (known.called s sound n format v.format_is sizes v.sizes_are f h i d at k es is).packed_is

  no_stand : (r : Reason) → Stands s n r → ⊥
  no_stand r (dead o has) =
      let t = bounded_at s.profile.methods s.profile.sizes sound.sized s.method n format_found.0 format_found.1 in
      obstacles-kill s.profile sound s.method n o has (bits_at s.context) h.args s.path f t.whole t.whole_at (h.in_table t.whole t.whole_at) h.fits h.format_is
  no_stand r (short sizes at few) = no_short sizes at few
  no_stand r (long sizes at whole many) = no_long sizes at whole many
  no_stand r (cut {i} {due} offset format sizes at sizes_are within begins is few) = no_cut i offset due format sizes at sizes_are begins is few
  no_stand r (no_reference {i} format d at d_at wants none path_is) = none_unreferenced i format d at d_at wants none
  no_stand r (differs {i} {found} {due} side format sizes seen d m own v has own_is only found_is differ) = no_difference format sizes seen v i side found due own d m has own_is only found_is differ
  no_stand r (no_side {i} {side} {found} format sizes seen d m v has found_is none) = no_lack format sizes seen v i side found d m has found_is none
  no_stand r (untrue {j} format sizes seen v u) = no_untrue format sizes seen v j u
  no_stand r (no_argument {at} i format sizes seen d v field_at is) = no_undefined format sizes seen v i d at field_at is
  no_stand r (no_truth {j} {at} format sizes seen v is) = no_untold format sizes seen v j at is

-- ---- together

either : (s : Setting) (from j : ℕ) → from ≤ j → IsOut s from → (from + 1 ≤ j → IsOut s j) → IsOut s j
either s from j low here later = by (nat_eq from j) refl
  where
    by : (b : Bool) → nat_eq from j ≡ b → IsOut s j
    by true same = let e : from ≡ j = grind (arith, nat_tests) in subst (λ z. IsOut s z) e here
    by false other = later (grind (arith, nat_tests))

mutual
  pub tells_true : (s : Setting) → IsSound s.profile → (depth n : ℕ) (lines : List Line) → Tells s depth n lines → IsOut s n
  tells_true s sound depth n lines (by_reason r stands) f h = no_stand s sound n f h r stands
  tells_true s sound depth n lines (by_call {lines = more} i inner c all) f h =
      no_call s sound n f h c.format c.sizes c.seen c.view i c.field c.method c.arguments c.parameters c.offset c.field_is c.encoding_is c.ranges_are c.begins
      (λ j lt. subst (λ z. IsOut z j) c.inner_is (all_true inner (subst (λ (z : Setting). IsSound z.profile) (sym c.inner_is) sound) (depth + 1) 0 more all j (omega arith) (subst (λ z. j < formats_of z) (sym c.inner_is) lt)))

  all_true : (s : Setting) → IsSound s.profile → (depth from : ℕ) (lines : List Line) → TellAll s depth from lines → (j : ℕ) → from ≤ j → j < formats_of s → IsOut s j
  all_true s sound depth from lines (ends past) j low high = absurd (omega (arith, past, low, high))
  all_true s sound depth from lines (next {first = first} {rest = rest} lt tells more) j low high =
      either s from j low (tells_true s sound depth from first tells) (λ above. all_true s sound depth (from + 1) rest more j above high)

pub reasons-are-true : ReasonsAreTrue
reasons-are-true = tells_true
