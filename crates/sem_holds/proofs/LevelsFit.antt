-- A level of a sound profile is ready to be judged, and its constraints are judged rightly.
use Rattle.std.proofs.Common.{◌≡◌, ◌∙◌, refl, sym, ap, subst, ℕ, ◌<◌, ◌≤◌, ◌^◌, suc, Bool, true, false, cond, nat_eq, map, fold, List, [], ◌∷◌, length, min, arith}
use Rattle.std.specs.Prelude.{slice_get, Option, Some, None, ℤ, IsTrue, ◌↔◌}
use Rattle.std.proofs.lemmas.Option.{slice_get_within}
use Rattle.sem_expr.specs.declared.expr.Side.{Side}
use Rattle.sem_expr.specs.declared.expr.Side.TheVariants.{Uncompressed, Compressed}
use Rattle.sem_expr.specs.declared.expr.Subject.{Subject}
use Rattle.sem_expr.specs.declared.known.Known.{Known}
use Rattle.sem_expr.specs.Values.{Assignment}
use Rattle.sem_expr.specs.Known.{assignment_of}
use Rattle.sem_profile.specs.declared.profile.Bounds.{Bounds}
use Rattle.sem_profile.specs.declared.profile.Sizes.{Sizes}
use Rattle.sem_profile.specs.declared.profile.FormatSizes.{FormatSizes}
use Rattle.sem_profile.specs.declared.profile.MethodSizes.{MethodSizes}
use Rattle.sem_profile.specs.declared.profile.Constraint.{Constraint}
use Rattle.sem_profile.specs.declared.profile.Constraint.TheVariants.{Bracket, Enforce}
use Rattle.sem_profile.specs.declared.profile.Field.{Field}
use Rattle.sem_profile.specs.declared.profile.Format.{Format}
use Rattle.sem_profile.specs.Fields.{lists, where_listed, encoding_sizes, encoded_sizes, field_sizes, narrowed, narrowed_by, bracket_bounds}
use Rattle.sem_profile.specs.Ranging.{format_ranges}
use Rattle.sem_profile.specs.BoundsLaws.{in_bracket}
use Rattle.sem_profile.specs.Outcome.{FormatAt}
use Rattle.sem_profile.proofs.PassesPlaces.{indexed-length}
use Rattle.sem_profile.proofs.FieldsRuling.{by-rules, there, field-is, format-is}
use Rattle.sem_profile.proofs.FaultsFaultless.{faultless}
use Rattle.sem_profile.proofs.ParametersWidening.{lie-in-parameters}
use Rattle.sem_profile.specs.Resolved.{Resolved, IsSound}
use Rattle.sem_filling.specs.declared.filling.Filling.{Filling, out-Filling}
use Rattle.sem_filling.specs.Fillings.{Sides, level, listing_of}
use Rattle.sem_filling.specs.Fits.{LevelFits, Holds, side_of, assigned}
use Rattle.sem_filling.specs.Bounded.{LengthsLie}
use Rattle.sem_filling.specs.Numbers.{known_level}
use Rattle.sem_filling.specs.Level.{Evaluates, ConstraintRanged}
use Rattle.sem_filling.specs.Ready.{IsReady, IsPlace, HasLevel, ArgumentsLieAt}
use Rattle.sem_filling.proofs.NumbersLying.{AreSmall, known_lies}
use Rattle.sem_filling.proofs.Readying.{evaluates, call_lies}
use Rattle.sem_filling.proofs.FitsJudged.{Placed, placed, Sized, sized}
use Rattle.sem_filling.proofs.FitsLimits.{at_level, whole_small}

length_of_map : {A B : Type 0} (g : A → B) (xs : List A) → length (map g xs) ≡ length xs
length_of_map g [] = refl
length_of_map g (x ∷ xs) = ap suc (length_of_map g xs)

-- ---- what is not listed has no bits

record Unsent (s : Sizes) : Type 0 where
  none : s.compressed.most ≤ 0

narrowed_unsent : (i : ℕ) (s : Sizes) (c : Constraint) → Unsent s → Unsent (narrowed i s c)
narrowed_unsent i s (Enforce condition place) u = u
narrowed_unsent i s (Bracket field side lengths place) u = by (nat_eq field i) (bracket_bounds lengths) side
  where
    by : (t : Bool) (o : Option Bounds) (z : Side) → Unsent (cond t (narrowed_by o z s) s)
    by false o z = u
    by true None z = u
    by true (Some b) Uncompressed = record { none = u.none }
    by true (Some b) Compressed = record { none = let le : s.compressed.most ≤ 0 = u.none in let less : min s.compressed.most b.most ≤ 0 = omega arith in less }

fold_unsent : (i : ℕ) (s : Sizes) (cs : List Constraint) → Unsent s → Unsent (fold (narrowed i) s cs)
fold_unsent i s [] u = u
fold_unsent i s (c ∷ cs) u = fold_unsent i (narrowed i s c) cs (narrowed_unsent i s c u)

unsent : (table : List MethodSizes) (format : Format) (i : ℕ) (d : Field) → lists format.listing i ≡ false → Unsent (field_sizes table format i d)
unsent table format i d e =
    fold_unsent i (encoded_sizes table format i d) format.constraints
    (subst (λ b. Unsent (where_listed b (encoding_sizes table d.encoding))) (sym e) record { none = omega arith })

no_bits : (bits : List Bool) → length bits ≤ 0 → bits ≡ []
no_bits [] le = refl
no_bits (b ∷ bs) le = absurd (omega (arith, le))

-- ---- a level

-- the parts of a level, side by side
record Parts (p : Resolved) (k : ℕ) (f : Filling) (format : Format) (sizes : FormatSizes) : Type 0 where
  method : Placed p.methods k (out-Filling f).format format
  whole : Sized p.sizes k (out-Filling f).format sizes
  at : FormatAt p.methods p.sizes method.method format whole.whole sizes
  fields_count : length format.fields ≡ length (level f)
  sizes_count : length sizes.fields ≡ length format.fields

parts : (p : Resolved) → IsSound p → (k : ℕ) (f : Filling) (format : Format) (sizes : FormatSizes) → IsPlace p k f format sizes → Parts p k f format sizes
parts p sound k f format sizes place =
    let m = placed p.methods k (out-Filling f).format format place.format_is in
    let s = sized p.sizes k (out-Filling f).format sizes place.sizes_are in
    let here = at_level p.methods p.sizes k (out-Filling f).format format sizes m s in
    let declared : length (level f) ≡ length format.fields =
    sym (length_of_map (λ (x : Sides). x.declared) (level f)) ∙ ap length place.shaped.declared_is ∙ length_of_map (λ (d : Field). d.declared) format.fields in
    let is = format-is p.methods p.sizes sound.sized m.method format s.whole sizes here in
    record {
      method = m;
      whole = s;
      at = here;
      fields_count = sym declared;
      sizes_count = sym (ap (λ (x : FormatSizes). length x.fields) is) ∙ indexed-length (field_sizes p.sizes format) 0 format.fields;
    }

fields_small : (p : Resolved) → IsSound p → (k : ℕ) (f : Filling) (format : Format) (sizes : FormatSizes) → Parts p k f format sizes → (j : ℕ) (b : Sizes) → slice_get sizes.fields j ≡ Some b → AreSmall b
fields_small p sound k f format sizes here j b at =
    let rules = by-rules p.methods p.sizes sound.sized in
    let lt : j < length format.fields = omega (arith, slice_get_within sizes.fields j b at, here.sizes_count) in
    let d = there format.fields j lt in
    record {
      uncompressed = rules.small here.method.method format here.whole.whole sizes here.at Uncompressed j d.0 b d.1 at;
      compressed = rules.small here.method.method format here.whole.whole sizes here.at Compressed j d.0 b d.1 at;
    }

ready_known : (p : Resolved) → IsSound p → (k : ℕ) (args : List ℤ) (f : Filling) (format : Format) (sizes : FormatSizes) → IsPlace p k f format sizes → LengthsLie sizes f → ArgumentsLieAt p k args
    → IsReady p format (known_level f args) × Evaluates (known_level f args) (assigned format.listing (level f) args) format
ready_known p sound k args f format sizes place lie lies =
    let here = parts p sound k f format sizes place in
    let small = whole_small p.methods p.sizes sound.sized k (out-Filling f).format format sizes place.format_is place.sizes_are in
    let up : sizes.whole.uncompressed.most ≤ 2 ^ 64 = let le : sizes.whole.uncompressed.most ≤ 4096 = small.0 in omega arith in
    let down : sizes.whole.compressed.most ≤ 2 ^ 64 = let le : sizes.whole.compressed.most ≤ 2 ^ 18 = small.1 in omega arith in
    let ranges = known_lies f args here.whole.whole sizes (here.sizes_count ∙ here.fields_count) (fields_small p sound k f format sizes here) record { uncompressed = up; compressed = down } lie
    (lies here.whole.whole here.whole.whole_at) in
    let formed = sound.well_formed.formats k (out-Filling f).format here.method.method format here.method.method_at here.method.format_is in
    let faults = faultless format sizes (format_ranges sizes here.whole.whole.parameters) (sound.sized.fine.accepted here.method.method format here.whole.whole sizes here.at) in
    let evaluated = evaluates p.methods (length here.method.method.parameters) format f args here.whole.whole sizes place.shaped.listing_is here.fields_count (here.sizes_count ∙ here.fields_count) lie ranges faults formed in
    let take = lie-in-parameters p.methods p.sizes sound.sized in (
      record {
        expressions = evaluated.ranged;
        conditions = evaluated.conditions_ranged;
        callees = λ i j d es at call. let callee = formed.calls i j d es at call in slice_get_within p.methods j callee.0 callee.1;
        arguments = λ i j d es inner at call are t whole.
            let callee = formed.calls i j d es at call in
            call_lies p.methods p.sizes take here.method.method format here.whole.whole sizes here.at i j d es inner t at call whole
            (callee.2 ∙ sym (take.each j callee.0 t callee.1 whole)) (assignment_of (known_level f args)) ranges are;
      },
      evaluated,
    )

pub ready_level : (p : Resolved) → IsSound p → (k : ℕ) (args : List ℤ) (f : Filling) (format : Format) (known : Known) → HasLevel p k args f format known → ArgumentsLieAt p k args
    → IsReady p format known × Evaluates known (assigned format.listing (level f) args) format
ready_level p sound k args f format known has lies =
    let l = has.level in
    subst (λ n. IsReady p format n × Evaluates n (assigned format.listing (level f) args) format) (sym l.known_is)
    (ready_known p sound k args f format has.sizes l.place l.lie lies)

-- ---- the constraints

pub constraints_ranged : (format : Format) (known : Known) (a : Assignment) → Evaluates known a format → (j : ℕ) (c : Constraint) → slice_get format.constraints j ≡ Some c → ConstraintRanged known c
constraints_ranged format known a can j (Bracket i side lengths place) at = λ n e here. can.ranged e (in_bracket j n at here)
constraints_ranged format known a can j (Enforce c place) at = can.conditions_ranged j c place at

holds_alike : (format : Format) (known : Known) (a : Assignment) → Evaluates known a format → (side : Subject → Side → List Bool) (j : ℕ) (c : Constraint) → slice_get format.constraints j ≡ Some c
    → Holds side (assignment_of known) c ↔ Holds side a c
holds_alike format known a can side j (Bracket i z lengths place) at = (
  λ h. (h.0, h.1, h.2, sym (can.value_is h.1 (in_bracket j h.0 at h.2)) ∙ h.3),
  λ h. (h.0, h.1, h.2, can.value_is h.1 (in_bracket j h.0 at h.2) ∙ h.3),
)
holds_alike format known a can side j (Enforce c place) at = (λ h. sym (can.truth_is j c place at) ∙ h, λ h. can.truth_is j c place at ∙ h)

pub level_is : (p : Resolved) → IsSound p → (k : ℕ) (args : List ℤ) (f : Filling) (format : Format) (known : Known) → HasLevel p k args f format known → ArgumentsLieAt p k args → (b : Bool)
    → (IsTrue b ↔ ((j : ℕ) (c : Constraint) → slice_get format.constraints j ≡ Some c → Holds (side_of (listing_of f) (level f)) (assignment_of known) c)) → IsTrue b ↔ LevelFits format f args
level_is p sound k args f format known has lies b same =
    let ready = ready_level p sound k args f format known has lies in
    let l = has.level in
    let listing = l.place.shaped.listing_is in
    let here = parts p sound k f format has.sizes l.place in (
      λ t. record {
        shaped = l.place.shaped;
        unlisted = λ i s at out.
            let lt : i < length format.fields = omega (arith, slice_get_within (level f) i s at, here.fields_count) in
            let d = there format.fields i lt in
            let within : i < length has.sizes.fields = omega (arith, lt, here.sizes_count) in
            let bounds = there has.sizes.fields i within in
            let is = field-is p.methods p.sizes sound.sized here.method.method format here.whole.whole has.sizes here.at i d.0 bounds.0 d.1 bounds.1 in
            let none : bounds.0.compressed.most ≤ 0 = (subst Unsent is (unsent p.sizes format i d.0 out)).none in
            let most : length s.compressed ≤ bounds.0.compressed.most = (l.lie.fields i s bounds.0 at bounds.1).compressed_lies.most in
            no_bits s.compressed (omega (arith, none, most));
        constraints = λ j c at.
            subst (λ xs. Holds (side_of xs (level f)) (assigned format.listing (level f) args) c) listing
            ((holds_alike format known (assigned format.listing (level f) args) ready.1 (side_of (listing_of f) (level f)) j c at).0 (same.0 t j c at));
      },
      λ fit. same.1 (λ j c at.
          (holds_alike format known (assigned format.listing (level f) args) ready.1 (side_of (listing_of f) (level f)) j c at).1
          (subst (λ xs. Holds (side_of xs (level f)) (assigned format.listing (level f) args) c) (sym listing) (fit.constraints j c at))),
    )
