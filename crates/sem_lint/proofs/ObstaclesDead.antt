-- No filling of a format with an obstacle fits.
use Rattle.std.proofs.Common.{◌≡◌, ◌∙◌, refl, sym, ap, subst, ℕ, ◌<◌, suc, zero, Bool, true, List, [], ◌∷◌, length, arith}
use Rattle.std.specs.Prelude.{Option, Some, None, slice_get, ℤ, pos, IfSome}
use Rattle.std.specs.Option.{option_map}
use Rattle.std.proofs.lemmas.Option.{slice_get_within, slice_get-map}
use Rattle.text_source.specs.declared.span.Span.{Span}
use Rattle.sem_expr.specs.declared.expr.Expr.{Expr}
use Rattle.sem_expr.specs.declared.expr.Side.{Side}
use Rattle.sem_expr.specs.declared.expr.Side.TheVariants.{Uncompressed, Compressed}
use Rattle.sem_expr.specs.declared.expr.Subject.{Subject}
use Rattle.sem_expr.specs.declared.expr.Subject.TheVariants as subject
use Rattle.sem_expr.specs.Ranged.{Bounding}
use Rattle.sem_expr.specs.Rules.{IsIn}
use Rattle.sem_expr.specs.Spread.{LieIn}
use Rattle.sem_expr.specs.Values.{Assignment, val}
use Rattle.sem_expr.specs.Known.{assignment_of}
use Rattle.sem_expr.specs.Laws.{ValuesLieInRanges}
use Rattle.sem_expr.proofs.RangedLie as ranges
use Rattle.sem_library.specs.Methods as lib
use Rattle.sem_library.specs.Methods.{Lib, LsbHolds, CrcHolds}
use Rattle.sem_profile.specs.declared.profile.Bounds.{Bounds}
use Rattle.sem_profile.specs.declared.profile.Sizes.{Sizes}
use Rattle.sem_profile.specs.declared.profile.FormatSizes.{FormatSizes}
use Rattle.sem_profile.specs.declared.profile.MethodSizes.{MethodSizes}
use Rattle.sem_profile.specs.declared.profile.Library.{Library}
use Rattle.sem_profile.specs.declared.profile.Library.TheVariants as library
use Rattle.sem_profile.specs.declared.profile.Encoding.{Encoding}
use Rattle.sem_profile.specs.declared.profile.Encoding.TheVariants as encoding
use Rattle.sem_profile.specs.declared.profile.CrcArguments.{CrcArguments}
use Rattle.sem_profile.specs.declared.profile.Constraint.{Constraint}
use Rattle.sem_profile.specs.declared.profile.Constraint.TheVariants.{Bracket, Enforce}
use Rattle.sem_profile.specs.declared.profile.Field.{Field}
use Rattle.sem_profile.specs.declared.profile.Format.{Format}
use Rattle.sem_profile.specs.declared.profile.Method.{Method}
use Rattle.sem_profile.specs.Resolved.{Resolved, IsSound}
use Rattle.sem_profile.specs.WellFormed.{FormatIsSound}
use Rattle.sem_profile.specs.BoundsFaults.{side_bounds, subject_sizes}
use Rattle.sem_profile.specs.Formats.{sizes_at}
use Rattle.sem_profile.specs.BoundsLaws.{StandsIn as StandsInFormat, in_encoding, in_bracket, encoding_exprs}
use Rattle.sem_profile.specs.Calling.{ranges_in}
use Rattle.sem_profile.proofs.FieldsRuling.{there}
use Rattle.sem_profile.proofs.ParametersWidening.{lie-in-parameters}
use Rattle.sem_filling.specs.declared.filling.Filling.{Filling, out-Filling}
use Rattle.sem_filling.specs.Fillings.{Sides, sides_of, fields_of, listing_of, level, packed_bits}
use Rattle.sem_filling.specs.Entries.{Path, below}
use Rattle.sem_filling.specs.Numbers.{known_level}
use Rattle.sem_filling.specs.Fits.{Context, Fits, IsShaped, format_at, side_of, field_side, method_of, assigned, reference_of}
use Rattle.sem_filling.specs.Bounded.{ArgumentsLie, LengthsLie, LiesBetween, SidesLie}
use Rattle.sem_filling.proofs.Bounding.{placed as bounded_at}
use Rattle.sem_filling.proofs.FitsInverted.{parts}
use Rattle.sem_filling.proofs.FitsSized.{one_value, and_then_some, two_parts, crc_parts, some_and}
use Rattle.sem_filling.proofs.FitsValues.{vals_same}
use Rattle.sem_filling.proofs.Readying.{call_lies}
use Rattle.sem_filling.specs.declared.obstacle.Obstacle.{Obstacle}
use Rattle.sem_filling.specs.declared.obstacle.Obstacle.TheVariants as obstacle
use Rattle.sem_lint.specs.Attributes.{length_range}
use Rattle.sem_lint.specs.Demands.{IsUnmetAt, unmet_by, unmet_in}
use Rattle.sem_filling.specs.declared.obstacle.Unmet.{Unmet}
use Rattle.sem_lint.specs.Obstacles.{HasNoLength, SendsMore, SplitsOctets, LacksAt, HasNoValue, of_argument, of_condition, StandsIn, Stands, CallsAt, Hinders, by_itself, by_call, IsLifeless, lifeless, IsHindered, hindered, IsDead, is_lsb, crc_in}
use Rattle.sem_lint.specs.Never.{is_untrue}
use Rattle.sem_lint.specs.Laws.{ObstaclesKill}
use Rattle.sem_lint.proofs.BracketsEmpty.{none_in_bracket}
use Rattle.sem_lint.proofs.DemandsUnmet as demands
use Rattle.sem_lint.proofs.LengthsKnown.{length_lies, number_lies}
use Rattle.sem_lint.proofs.NeverApart.{not_true}
use Rattle.sem_lint.proofs.UndefinedValueless as undefined
use Rattle.sem_lint.proofs.ObstaclesFitting.{Sits}
use Rattle.sem_lint.proofs.ObstaclesFitting as fitting

-- a length between bounds that contradict each other
no_length_between : (b : Bounds) (n : ℕ) → b.most < b.least → LiesBetween b n → ⊥
no_length_between b n above lies = let l = lies.least in let m = lies.most in omega arith

side_lies : (b : Sizes) (u c : ℕ) (side : Side) → SidesLie b u c → (side_bounds side b).most < (side_bounds side b).least → ⊥
side_lies b u c Uncompressed lie above = no_length_between b.uncompressed u above lie.uncompressed_lies
side_lies b u c Compressed lie above = no_length_between b.compressed c above lie.compressed_lies

lsb_is : (e : Encoding) → is_lsb e ≡ true → (l : Library) × (e ≡ encoding.Library l) × ((side : Subject → Side → List Bool) (a : Assignment) (m : lib.Method) → method_of side a l ≡ Some m → (k : ℤ) × (o : ℤ) × (lib.lsb k o ≡ m))
lsb_is (encoding.Library (library.Lsb bits offset)) e = (library.Lsb bits offset, refl, λ side a m is. let t = two_parts lib.lsb (val a bits) (val a offset) m is in (t.0, t.1, t.4))
lsb_is _ e = absurd (cc)

crc_is : (e : Encoding) (crc : CrcArguments) → crc_in e ≡ Some crc → e ≡ encoding.Library (library.Crc crc)
crc_is (encoding.Library (library.Crc crc)) c e = let same : crc ≡ c = cc in ap (λ x. encoding.Library (library.Crc x)) same
crc_is _ c e = absurd (cc)

-- ---- the bits that a checksum covers

picked : (b : Sizes) (s : Sides) (side : Side) → SidesLie b (length s.uncompressed) (length s.compressed) → LiesBetween (side_bounds side b) (length (field_side (Some s) side))
picked b s Uncompressed lie = lie.uncompressed_lies
picked b s Compressed lie = lie.compressed_lies

past : (side : Side) → LiesBetween (side_bounds side (record { uncompressed = record { least = 0; most = 0 }; compressed = record { least = 0; most = 0 } })) (length (field_side None side))
past Uncompressed = record { least = omega arith; most = omega arith }
past Compressed = record { least = omega arith; most = omega arith }

field_lies : (fs : List Sides) (bs : List Sizes) (i : ℕ) (side : Side) → length bs ≡ length fs
    → ((j : ℕ) (s : Sides) (b : Sizes) → slice_get fs j ≡ Some s → slice_get bs j ≡ Some b → SidesLie b (length s.uncompressed) (length s.compressed))
    → LiesBetween (side_bounds side (sizes_at bs i)) (length (field_side (slice_get fs i) side))
field_lies [] [] i side same lie = past side
field_lies [] (b ∷ bs) i side same lie = absurd (omega (arith, same))
field_lies (f ∷ fs) [] i side same lie = absurd (omega (arith, same))
field_lies (f ∷ fs) (b ∷ bs) zero side same lie = picked b f side (lie 0 f b refl refl)
field_lies (f ∷ fs) (b ∷ bs) (suc i) side same lie = field_lies fs bs i side (omega (arith, same)) (λ j s c here at. lie (suc j) s c here at)

subject_lies : (sizes : FormatSizes) (listing : List ℕ) (f : Filling) → listing_of f ≡ listing → length sizes.fields ≡ length (level f) → LengthsLie sizes f → (x : Subject) (side : Side)
    → LiesBetween (side_bounds side (subject_sizes sizes x)) (length (side_of listing (level f) x side))
subject_lies sizes listing f is same lie (subject.Field i) side = field_lies (level f) sizes.fields i side same lie.fields
subject_lies sizes listing f is same lie subject.This Uncompressed = lie.whole.uncompressed_lies
subject_lies sizes listing f is same lie subject.This Compressed = subst (λ l. LiesBetween sizes.whole.compressed (length (packed_bits l (level f)))) is lie.whole.compressed_lies

-- ---- a filling of the format

lies-in-ranges : ValuesLieInRanges
lies-in-ranges = λ a r e i v lie. ranges.lies a r lie e i v

module _ (p : Resolved) (sound : IsSound p) (k n : ℕ) (o : Obstacle) (has : Stands p k n o)
    (ctx : Context) (args : List ℤ) (path : Path) (f : Filling) (arguments : ArgumentsLie has.whole.parameters args) (h : Fits p.methods ctx k args path f) (at_n : (out-Filling f).format ≡ n) where
  abbrev sits : Sits p k n
  sits = record { format = has.format; format_is = has.format_is; whole = has.whole; whole_at = has.whole_at; sizes = has.sizes; sizes_at = has.sizes_at }

  lie : LengthsLie has.sizes f
  lie = fitting.lie p sound k n sits ctx args path f arguments h at_n

  shaped : IsShaped has.format f
  shaped = fitting.shaped p sound k n sits ctx args path f arguments h at_n

  as_many : length has.sizes.fields ≡ length (level f)
  as_many = fitting.as_many p sound k n sits ctx args path f arguments h at_n

  none_without_length : (i : ℕ) (side : Side) → HasNoLength has.sizes.fields i side → ⊥
  none_without_length i side lacking =
      let within : i < length has.sizes.fields = slice_get_within has.sizes.fields i lacking.0 lacking.1 in
      let s = there (level f) i (let count = as_many in omega arith) in
      side_lies lacking.0 (length s.0.uncompressed) (length s.0.compressed) side (lie.fields i s.0 lacking.0 s.1 lacking.1) lacking.2

  none_sends_more : (i : ℕ) → SendsMore has.format.fields has.sizes.fields i → ⊥
  none_sends_more i more =
      let g = fitting.filled p sound k n sits ctx args path f arguments h at_n i more.field more.field_at in
      let l = lsb_is more.field.encoding more.by_lsb in
      let c = fitting.coded p sound k n sits ctx args path f arguments h at_n i more.field g.0 l.0 more.field_at g.1 l.1 in
      let m = l.2 (side_of has.format.listing (level f)) (assigned has.format.listing (level f) args) c.0 c.1 in
      let holds = some_and (reference_of more.field.declared.part ctx (below path more.field.declared.name) more.field.initial) (λ r. LsbHolds m.0 m.1 r (sides_of g.0).uncompressed (sides_of g.0).compressed) (subst (λ z. Lib z (reference_of more.field.declared.part ctx (below path more.field.declared.name) more.field.initial) (sides_of g.0).uncompressed (sides_of g.0).compressed) (sym m.2) c.2) in
      let between = fitting.filled_lies p sound k n sits ctx args path f arguments h at_n i g.0 more.bounds g.1 more.bounds_at in
      let within = holds.2.within in
      let up = between.uncompressed_lies.most in
      let down = between.compressed_lies.least in
      let above = more.more in
      omega arith

  none_splits : (i : ℕ) → SplitsOctets has.format.fields has.sizes i → ⊥
  none_splits i splits =
      let g = fitting.filled p sound k n sits ctx args path f arguments h at_n i splits.field splits.field_at in
      let c = fitting.coded p sound k n sits ctx args path f arguments h at_n i splits.field g.0 (library.Crc splits.crc) splits.field_at g.1 (crc_is splits.field.encoding splits.crc splits.by_crc) in
      let t = crc_parts (side_of has.format.listing (level f) splits.crc.subject splits.crc.side) _ c.0 c.1 in
      let holds = (subst (λ z. Lib z (reference_of splits.field.declared.part ctx (below path splits.field.declared.name) splits.field.initial) (sides_of g.0).uncompressed (sides_of g.0).compressed) (sym t.5) c.2).1 in
      let between = subject_lies has.sizes has.format.listing f shaped.listing_is as_many lie splits.crc.subject splits.crc.side in
      splits.split.split (length (side_of has.format.listing (level f) splits.crc.subject splits.crc.side)) between.least between.most holds.whole_octets

  -- ---- what expressions see

  abbrev known : Assignment
  known = assignment_of (known_level f args)

  abbrev whole_numbers : Assignment
  whole_numbers = assigned has.format.listing (level f) args

  abbrev R : Bounding
  R = ranges_in has.sizes has.whole

  in_ranges : LieIn known R
  in_ranges = fitting.numbers_lie p sound k n sits ctx args path f arguments h at_n

  known_is : (e : Expr) → StandsInFormat has.format e → val known e ≡ val whole_numbers e
  known_is e st = (fitting.evaluated p sound k n sits ctx args path f arguments h at_n).value_is e st

  formed : FormatIsSound p.methods (length (fitting.method_found p sound k n sits ctx args path f arguments h at_n).0.parameters) has.format
  formed =
      let m = fitting.method_found p sound k n sits ctx args path f arguments h at_n in
      sound.well_formed.formats k n m.0 has.format m.1 m.2

  has_place : (i : ℕ) → i < length has.format.fields → i < length (level f)
  has_place i lt = let count = fitting.count p sound k n sits ctx args path f arguments h at_n in omega (arith, lt, count)

  lies_in_range : (x : Subject) (side : Side) → ((j : ℕ) → x ≡ subject.Field j → j < length has.format.fields) → IsIn (length_range R x side) (pos (length (side_of has.format.listing (level f) x side)))
  lies_in_range x side within = length_lies f args has.format.listing shaped.listing_is R in_ranges x side (λ j is. has_place j (within j is))

  -- ---- values

  argument_has : (i : ℕ) (d : Field) → slice_get has.format.fields i ≡ Some d → (e : Encoding) → d.encoding ≡ e → (q : ℕ) (x : Expr) → slice_get (encoding_exprs e) q ≡ Some x → (v : ℤ) × (val whole_numbers x ≡ Some v)
  argument_has i d at encoding.Bare is q x here = absurd (cc)
  argument_has i d at (encoding.Library l) is q x here =
      let g = fitting.filled p sound k n sits ctx args path f arguments h at_n i d at in
      let c = fitting.coded p sound k n sits ctx args path f arguments h at_n i d g.0 l at g.1 is in
      undefined.has_values (side_of has.format.listing (level f)) whole_numbers l c.0 c.1 q x here
  argument_has i d at (encoding.Call j es) is q x here =
      let g = fitting.filled p sound k n sits ctx args path f arguments h at_n i d at in
      let c = fitting.called p sound k n sits ctx args path f arguments h at_n i d g.0 j es at g.1 is in
      undefined.all_there whole_numbers es c.args c.is_args q x here

  none_lacks : (at : Span) (i : ℕ) → LacksAt has.format.fields R i at → ⊥
  none_lacks at i lacks =
      let t = undefined.one_undefined R (encoding_exprs lacks.field.encoding) at lacks.undefined in
      let v = argument_has i lacks.field lacks.field_at lacks.field.encoding refl t.0 t.1 t.2 in
      undefined.no_value known R in_ranges t.1 at t.3 v.0 (known_is t.1 (in_encoding i t.0 lacks.field_at t.2) ∙ v.1)

  none_valueless : (at : Span) → HasNoValue has.format.fields has.format.constraints R at → ⊥
  none_valueless at (of_argument lacks) = none_lacks at lacks.0 lacks.1
  none_valueless at (of_condition is) =
      let t = undefined.one_condition R has.format.constraints at is in
      undefined.no_truth known R in_ranges t.1 at t.4 true
      ((fitting.evaluated p sound k n sits ctx args path f arguments h at_n).truth_is t.0 t.1 t.2 t.3 ∙ (fitting.fits_level p sound k n sits ctx args path f arguments h at_n).constraints t.0 (Enforce t.1 t.2) t.3)

  -- ---- arguments that aren't taken

  by_library : (e : Encoding) (i : ℕ) (u : Unmet) → unmet_in R i e ≡ Some u → (l : Library) × (e ≡ encoding.Library l) × (unmet_by R i l ≡ Some u)
  by_library encoding.Bare i u is = absurd (cc)
  by_library (encoding.Library l) i u is = (l, refl, is)
  by_library (encoding.Call j es) i u is = absurd (cc)

  none_unmet : (i : ℕ) (u : Unmet) → IsUnmetAt has.format.fields R i u → ⊥
  none_unmet i u lacks =
      let l = by_library lacks.field.encoding i u lacks.unmet in
      let g = fitting.filled p sound k n sits ctx args path f arguments h at_n i lacks.field lacks.field_at in
      let c = fitting.coded p sound k n sits ctx args path f arguments h at_n i lacks.field g.0 l.0 lacks.field_at g.1 l.1 in
      let lt : i < length has.format.fields = slice_get_within has.format.fields i lacks.field lacks.field_at in
      let b = there has.sizes.fields i (let all = as_many in let one = has_place i lt in omega (arith, all, one)) in
      let between = fitting.filled_lies p sound k n sits ctx args path f arguments h at_n i g.0 b.0 g.1 b.1 in
      let at_level : slice_get (level f) i ≡ Some (sides_of g.0) = slice_get-map sides_of (fields_of f) i ∙ ap (option_map sides_of) g.1 in
      demands.none_unmet known whole_numbers R in_ranges (side_of has.format.listing (level f)) (reference_of lacks.field.declared.part ctx (below path lacks.field.declared.name) lacks.field.initial) i
      (sides_of g.0).uncompressed (sides_of g.0).compressed
      (subst (λ o. IsIn (length_range R (subject.Field i) Uncompressed) (pos (length (field_side o Uncompressed)))) at_level (lies_in_range (subject.Field i) Uncompressed (own i lt)))
      (subst (λ o. IsIn (length_range R (subject.Field i) Compressed) (pos (length (field_side o Compressed)))) at_level (lies_in_range (subject.Field i) Compressed (own i lt)))
      (λ x short small. number_lies has.sizes has.whole.parameters i b.0 Uncompressed b.1 x (length (sides_of g.0).uncompressed) between.uncompressed_lies short small)
      (λ x short small. number_lies has.sizes has.whole.parameters i b.0 Compressed b.1 x (length (sides_of g.0).compressed) between.compressed_lies short small)
      l.0 c.0 c.1 c.2
      (λ q e here. known_is e (in_encoding i q lacks.field_at (ap (λ z. slice_get (encoding_exprs z) q) l.1 ∙ here)))
      (λ crc is. lies_in_range crc.subject crc.side (λ j at. formed.crcs i j lacks.field crc lacks.field_at (l.1 ∙ ap encoding.Library is) at))
      u l.2
    where
      own : (i : ℕ) → i < length has.format.fields → (j : ℕ) → subject.Field i ≡ subject.Field j → j < length has.format.fields
      own i lt j same = let is : i ≡ j = cc in subst (λ z. z < length has.format.fields) is lt

  -- ---- constraints

  untrue : (j : ℕ) (c : Constraint) → slice_get has.format.constraints j ≡ Some c → is_untrue R c ≡ true → ⊥
  untrue j (Bracket i side lengths place) at never =
      let t = (fitting.fits_level p sound k n sits ctx args path f arguments h at_n).constraints j (Bracket i side lengths place) at in
      none_in_bracket known R in_ranges (length_range R (subject.Field i) side) lengths never t.0 t.1 t.2 (pos (length (side_of has.format.listing (level f) (subject.Field i) side)))
      (known_is t.1 (in_bracket j t.0 at t.2) ∙ t.3)
      (lies_in_range (subject.Field i) side (λ x is. let same : i ≡ x = cc in subst (λ z. z < length has.format.fields) same (formed.bracketed j i side lengths place at)))
  untrue j (Enforce condition place) at never =
      not_true lies-in-ranges known R in_ranges condition never
      ((fitting.evaluated p sound k n sits ctx args path f arguments h at_n).truth_is j condition place at ∙ (fitting.fits_level p sound k n sits ctx args path f arguments h at_n).constraints j (Enforce condition place) at)

  none_has : (x : Obstacle) → StandsIn has.format has.sizes has.whole.parameters x → ⊥
  none_has (obstacle.NoLength i side) stands = none_without_length i side stands
  none_has (obstacle.SendsMore i) stands = none_sends_more i stands
  none_has (obstacle.SplitsOctets i) stands = none_splits i stands
  none_has (obstacle.NoValue at) stands = none_valueless at stands
  none_has (obstacle.OutOfRange u) stands = none_unmet stands.0 u stands.1
  none_has (obstacle.NeverTrue j) stands = untrue j stands.constraint stands.constraint_at stands.untrue
  none_has (obstacle.CallsDead i) stands = stands

-- ---- a called method of which each format has an obstacle

some_format : (methods : List Method) (k n : ℕ) (format : Format) → format_at methods k n ≡ Some format → (m : Method) × (slice_get methods k ≡ Some m) × (slice_get m.formats n ≡ Some format)
some_format methods k n format e = and_then_some (λ m. slice_get m.formats n) (slice_get methods k) format e

module _ (p : Resolved) (sound : IsSound p) where
  stands_kill : (k n : ℕ) (o : Obstacle) → Stands p k n o → IsDead p k n
  stands_kill k n o has ctx args path f s in_table arguments h at_n =
      let same : s ≡ has.whole = one_value _ s has.whole in_table has.whole_at in
      none_has p sound k n o has ctx args path f (subst (λ (x : MethodSizes). ArgumentsLie x.parameters args) same arguments) h at_n o has.stands

  -- the filling in a field that calls the method j, with its arguments and their ranges
  record Inside (ctx : Context) (j : ℕ) : Type 0 where
    args : List ℤ
    path : Path
    filling : Filling
    sizes : MethodSizes
    sizes_at : slice_get p.sizes j ≡ Some sizes
    lie : ArgumentsLie sizes.parameters args
    fitting : Fits p.methods ctx j args path filling

  inside : (k n i j : ℕ) → CallsAt p k n i j → (ctx : Context) (args : List ℤ) (path : Path) (f : Filling) (s : MethodSizes) → slice_get p.sizes k ≡ Some s → ArgumentsLie s.parameters args
      → Fits p.methods ctx k args path f → (out-Filling f).format ≡ n → Inside ctx j
  inside k n i j calls ctx args path f s in_table arguments h at_n =
      let t = bounded_at p.methods p.sizes sound.sized k n calls.format calls.format_is in
      let same : s ≡ t.whole = one_value _ s t.whole in_table t.whole_at in
      let sit : Sits p k n = record { format = calls.format; format_is = calls.format_is; whole = t.whole; whole_at = t.whole_at; sizes = t.sizes; sizes_at = t.sizes_at } in
      let lie : ArgumentsLie t.whole.parameters args = subst (λ (x : MethodSizes). ArgumentsLie x.parameters args) same arguments in
      let g = fitting.filled p sound k n sit ctx args path f lie h at_n i calls.field calls.field_at in
      let c = fitting.called p sound k n sit ctx args path f lie h at_n i calls.field g.0 j calls.arguments calls.field_at g.1 calls.is_call in
      let m = fitting.method_found p sound k n sit ctx args path f lie h at_n in
      let callee = (sound.well_formed.formats k n m.0 calls.format m.1 m.2).calls i j calls.field calls.arguments calls.field_at calls.is_call in
      let in_methods : j < length p.methods = slice_get_within p.methods j callee.0 callee.1 in
      let inner = there p.sizes j (let count = sound.sized.each in omega (arith, in_methods, count)) in
      let values = vals_same (assignment_of (known_level f args)) (assigned calls.format.listing (level f) args) calls.arguments
      (λ q e here. (fitting.evaluated p sound k n sit ctx args path f lie h at_n).value_is e (in_encoding i q calls.field_at (ap (λ z. slice_get (encoding_exprs z) q) calls.is_call ∙ here))) in
      record {
        args = c.args;
        path = below path calls.field.declared.name;
        filling = c.inner;
        sizes = inner.0;
        sizes_at = inner.1;
        lie = call_lies p.methods p.sizes (lie-in-parameters p.methods p.sizes sound.sized) m.0 calls.format t.whole t.sizes (fitting.placed_at p sound k n sit ctx args path f lie h at_n) i j calls.field calls.arguments c.args inner.0
            calls.field_at calls.is_call inner.1 (callee.2 ∙ sym ((lie-in-parameters p.methods p.sizes sound.sized).each j callee.0 inner.0 callee.1 inner.1)) (assignment_of (known_level f args))
            (fitting.numbers_lie p sound k n sit ctx args path f lie h at_n) (values ∙ c.is_args);
        fitting = c.inner_fits;
      }

  mutual
    kill : {k n : ℕ} {o : Obstacle} → Hinders p k n o → IsDead p k n
    kill {k} {n} {o} (by_itself stands) ctx args path f s in_table arguments h at_n = stands_kill k n o stands ctx args path f s in_table arguments h at_n
    kill {k} {n} (by_call {i = i} j calls dead) ctx args path f s in_table arguments h at_n =
        let g = inside k n i j calls ctx args path f s in_table arguments h at_n in
        none_lifeless dead ctx g.args g.path g.filling g.sizes g.sizes_at g.lie g.fitting

    none_lifeless : {k : ℕ} → IsLifeless p k → (ctx : Context) (args : List ℤ) (path : Path) (f : Filling) (s : MethodSizes) → slice_get p.sizes k ≡ Some s → ArgumentsLie s.parameters args → Fits p.methods ctx k args path f → ⊥
    none_lifeless {k} (lifeless m at each) ctx args path f s in_table arguments h =
        let q = parts h in
        let found = some_format p.methods k (out-Filling f).format q.format q.is_format in
        let same : found.0 ≡ m = one_value _ found.0 m found.1 at in
        let within : (out-Filling f).format < length m.formats = slice_get_within m.formats (out-Filling f).format q.format (subst (λ (z : Method). slice_get z.formats (out-Filling f).format ≡ Some q.format) same found.2) in
        none_hindered (each (out-Filling f).format within) ctx args path f s in_table arguments h refl

    none_hindered : {k n : ℕ} → IsHindered p k n → IsDead p k n
    none_hindered (hindered o has) ctx args path f s in_table arguments h at_n = kill has ctx args path f s in_table arguments h at_n

pub obstacles-kill : ObstaclesKill
obstacles-kill p sound k n o has = kill p sound has

pub none_dead : (p : Resolved) → IsSound p → (k n : ℕ) (o : Option Obstacle) → IfSome o (Hinders p k n) → IfSome o (λ x. IsDead p k n)
none_dead p sound k n None h = tt
none_dead p sound k n (Some o) h = obstacles-kill p sound k n o h
