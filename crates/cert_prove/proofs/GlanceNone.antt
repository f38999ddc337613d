-- What is told at a glance to have no rule has none.
use Rattle.std.proofs.Common.{◌≡◌, refl, sym, ◌∙◌, ap, ℕ, Bool, true, false, List, [], ◌∷◌, ◌++◌, append_assoc, drop, ◌+◌}
use Rattle.std.specs.Prelude.{Option, Some, None, slice_get, option_map, option_and_then, nat_eq, ◌&&◌}
use Rattle.std.specs.Option.{option_to_list}
use Rattle.std.specs.List.{cons_option}
use Rattle.std.proofs.lemmas.List.{append-nil}
use Rattle.sem_expr.specs.declared.expr.Side.{Side}
use Rattle.sem_expr.specs.declared.expr.Side.TheVariants.{Uncompressed}
use Rattle.sem_expr.specs.declared.expr.Measure.TheVariants as measure
use Rattle.cert_types.specs.Steps.{field_of}
use Rattle.cert_types.specs.declared.certificate.Version.{Version}
use Rattle.cert_types.specs.declared.certificate.Direction.{Direction}
use Rattle.cert_types.specs.declared.certificate.Direction.TheVariants.{Read, Write}
use Rattle.cert_types.specs.declared.certificate.Step.{Step}
use Rattle.cert_types.specs.declared.certificate.Step.TheVariants.{Take, Call, LibraryUp, LibraryDown, MethodLength, ConstraintLength, Solve, Choose, Ask}
use Rattle.cert_types.specs.declared.rule.Fact.{Fact}
use Rattle.cert_types.specs.declared.rule.Fact.TheVariants.{LengthOf, BitsOf}
use Rattle.cert_types.specs.declared.rule.Rule.{Rule}
use Rattle.sem_profile.specs.declared.profile.Constraint.{Constraint}
use Rattle.sem_profile.specs.declared.profile.Constraint.TheVariants.{Bracket, Enforce}
use Rattle.sem_profile.specs.declared.profile.Encoding.{Encoding}
use Rattle.sem_profile.specs.declared.profile.Encoding.TheVariants as encoding
use Rattle.sem_profile.specs.declared.profile.Library.{Library}
use Rattle.sem_profile.specs.declared.profile.Field.{Field}
use Rattle.sem_profile.specs.declared.profile.Format.{Format}
use Rattle.sem_profile.specs.declared.profile.FormatSizes.{FormatSizes}
use Rattle.sem_profile.specs.declared.profile.MethodSizes.{MethodSizes}
use Rattle.sem_filling.specs.Fillings.{is_header}
use Rattle.cert_rules.specs.Facts.{same_side, inputs}
use Rattle.cert_rules.specs.Rules.{rule, when, first_or, from_two, is_call, by_library, up_needs, down_needs, length_needs, read_call, write_call, value_given, length_given, remainder_given, Congruence, equated, attribute_of, by_equation, by_remainder, by_value, by_length}
use Rattle.cert_prove.specs.Glance.{HasNone, is_library, may_solve, may_tell, may_be_on}
use Rattle.cert_prove.specs.Searching.{Ruled, with_rule, possible_of}
use Rattle.cert_prove.proofs.Linked.{of_neither, nothing_then, solve_rule, length_rule}

-- ---- tests that fail

not_both : {A : Type 0} (b c : Bool) (x : A) → c ≡ false → when (b && c) x ≡ None
not_both true true x h = absurd (cc)
not_both true false x h = refl
not_both false c x h = refl

never_both : {A : Type 0} (b c : Bool) (o : Option A) → c ≡ false → option_and_then (λ e. when (b && c) e) o ≡ None
never_both b c None h = refl
never_both b c (Some e) h = not_both b c e h

-- ---- by the field's encoding

no_library : (needs : Library → List Fact) (gives : List Fact) (e : Encoding) → is_library e ≡ false → by_library needs gives e ≡ None
no_library needs gives (encoding.Library l) h = absurd (cc)
no_library needs gives encoding.Bare h = refl
no_library needs gives (encoding.Call k es) h = refl

no_read_call : (format : Format) (i : ℕ) (e : Encoding) → is_call e ≡ false → read_call format i e ≡ None
no_read_call format i (encoding.Call k es) h = absurd (cc)
no_read_call format i encoding.Bare h = refl
no_read_call format i (encoding.Library l) h = refl

no_write_call : (table : List MethodSizes) (format : Format) (i : ℕ) (header : Bool) (e : Encoding) → is_call e ≡ false → write_call table format i header e ≡ None
no_write_call table format i header (encoding.Call k es) h = absurd (cc)
no_write_call table format i header encoding.Bare h = refl
no_write_call table format i header (encoding.Library l) h = refl

-- ---- by the constraint

no_value : (i : ℕ) (o : Option Constraint) → may_solve o ≡ false → option_and_then (value_given i) o ≡ None
no_value i None h = refl
no_value i (Some (Bracket j which lengths place)) h = refl
no_value i (Some (Enforce condition place)) h = absurd (cc)

no_remainder : (sizes : FormatSizes) (i : ℕ) (o : Option Constraint) → may_solve o ≡ false → option_and_then (remainder_given sizes i) o ≡ None
no_remainder sizes i None h = refl
no_remainder sizes i (Some (Bracket j which lengths place)) h = refl
no_remainder sizes i (Some (Enforce condition place)) h = absurd (cc)

no_length : (i : ℕ) (side : Side) (o : Option Constraint) → may_tell side o ≡ false → option_and_then (length_given i side) o ≡ None
no_length i side None h = refl
no_length i side (Some (Bracket j which lengths place)) h = ap (λ o. first_or o (equated (attribute_of i side measure.Length) (Bracket j which lengths place))) (never_both (nat_eq j i) (same_side which side) _ h)
no_length i side (Some (Enforce condition place)) h = absurd (cc)

module _ (version : Version) (table : List MethodSizes) (sizes : FormatSizes) (format : Format) where
  no_solve : (direction : Direction) (i n : ℕ) → may_solve (slice_get format.constraints n) ≡ false → HasNone version direction table sizes format (Solve i n)
  no_solve direction i n h =
      let direct : by_equation format i n ≡ None = ap (option_map (λ e. rule (LengthOf Uncompressed i ∷ inputs format e) (BitsOf Uncompressed i ∷ []))) (no_value i (slice_get format.constraints n) h) in
      let remainder : by_remainder sizes format i n ≡ None =
      ap (option_map (λ (c : Congruence). rule (LengthOf Uncompressed i ∷ inputs format c.more ++ inputs format c.left) (BitsOf Uncompressed i ∷ []))) (no_remainder sizes i (slice_get format.constraints n) h) in
      let value : by_value version sizes format i n ≡ None = (λ j. first_or (direct j) (from_two version (remainder j))) ∙ of_neither version in
      solve_rule version direction table sizes format i n ∙ nothing_then (slice_get format.fields i) (by_value version sizes format i n) value

  no_tell : (direction : Direction) (i : ℕ) (side : Side) (n : ℕ) → may_tell side (slice_get format.constraints n) ≡ false → HasNone version direction table sizes format (ConstraintLength i side n)
  no_tell direction i side n h =
      let value : by_length format i side n ≡ None = ap (option_map (λ e. rule (inputs format e) (LengthOf side i ∷ []))) (no_length i side (slice_get format.constraints n) h) in
      length_rule version direction table sizes format i side n ∙ nothing_then (slice_get format.fields i) (by_length format i side n) value

  at_field : (i : ℕ) (d : Field) (f : Field → Option Rule) → slice_get format.fields i ≡ Some d → f d ≡ None → option_and_then f (slice_get format.fields i) ≡ None
  at_field i d f is h = ap (option_and_then f) is ∙ h

  none_there : (direction : Direction) (d : Field) (step : Step) → slice_get format.fields (field_of step) ≡ Some d → may_be_on format d step ≡ false → HasNone version direction table sizes format step
  none_there Read d (Take i) is h = at_field i d _ is (not_both _ _ _ h)
  none_there Write d (Take i) is h = at_field i d _ is (not_both _ _ _ h)
  none_there Read d (Call i) is h = at_field i d _ is (no_read_call format i d.encoding h)
  none_there Write d (Call i) is h = at_field i d _ is (no_write_call table format i (is_header d.declared.part) d.encoding h)
  none_there Read d (LibraryUp i) is h = at_field i d _ is (no_library (up_needs format i) _ d.encoding h)
  none_there Write d (LibraryUp i) is h = at_field i d _ is (no_library (up_needs format i) _ d.encoding h)
  none_there Read d (LibraryDown i) is h = at_field i d _ is (no_library (down_needs format i) _ d.encoding h)
  none_there Write d (LibraryDown i) is h = at_field i d _ is (no_library (down_needs format i) _ d.encoding h)
  none_there Read d (MethodLength i side) is h = at_field i d _ is (no_library (length_needs format side) _ d.encoding h)
  none_there Write d (MethodLength i side) is h = at_field i d _ is (no_library (length_needs format side) _ d.encoding h)
  none_there Read d (Ask i) is h = refl
  none_there Write d (Ask i) is h = at_field i d _ is (ap (λ b. when b (rule [] (LengthOf Uncompressed i ∷ BitsOf Uncompressed i ∷ []))) h)
  none_there direction d (Solve i n) is h = no_solve direction i n h
  none_there direction d (ConstraintLength i side n) is h = no_tell direction i side n h
  none_there direction d (Choose i) is h = absurd (cc)

-- the same, for every version, direction, table and sizes
pub none_where : (format : Format) (d : Field) (step : Step) → slice_get format.fields (field_of step) ≡ Some d → (b : Bool) → b ≡ may_be_on format d step →
    (version : Version) (direction : Direction) (table : List MethodSizes) (sizes : FormatSizes) → b ≡ false → HasNone version direction table sizes format step
none_where format d step is b e version direction table sizes h = none_there version table sizes format direction d step is (sym e ∙ h)

-- what is left out was nothing
pub left_out : (step : Step) (o : Option Rule) (ps : List Ruled) → o ≡ None → ps ≡ ps ++ option_to_list (with_rule step o)
left_out step o ps e = sym (append-nil ps) ∙ ap (λ (z : Option Rule). ps ++ option_to_list (with_rule step z)) (sym e)

-- one step more, with its rule or left out
at_front : (o : Option Ruled) (ps : List Ruled) → option_to_list o ++ ps ≡ cons_option o ps
at_front None ps = refl
at_front (Some p) ps = refl

pub one_ruled : (ruling : Step → Option Rule) (old new : List Ruled) (steps : List Step) (at : ℕ) (step : Step) → drop at steps ≡ step ∷ drop (at + 1) steps → new ≡ old ++ option_to_list (with_rule step (ruling step)) →
    new ++ possible_of ruling (drop (at + 1) steps) ≡ old ++ possible_of ruling (drop at steps)
one_ruled ruling old new steps at step more e =
    let after = possible_of ruling (drop (at + 1) steps) in
    let here = option_to_list (with_rule step (ruling step)) in
    ap (λ z. z ++ after) e ∙ append_assoc old here after ∙ ap (λ z. old ++ z) (at_front (with_rule step (ruling step)) after) ∙ ap (λ z. old ++ possible_of ruling z) (sym more)
