-- Fillings of a format that has one candidate for an item have one number, so the first of them is the least.
use Rattle.std.proofs.Common.{◌≡◌, ◌∙◌, refl, sym, ap, subst, ℕ, suc, ◌+◌, ◌*◌, ◌≤◌, true, List, [], ◌∷◌, inl, inr, arith}
use Rattle.std.specs.Prelude.{slice_get, ℤ, Option, Some, option_and_then}
use Rattle.std.proofs.lemmas.Bool.{cases_lt}
use Rattle.std.proofs.lemmas.Option.{same_Some}
use Rattle.sem_expr.specs.declared.expr.Attribute.{Attribute}
use Rattle.sem_expr.specs.declared.expr.Expr.{Expr}
use Rattle.sem_expr.specs.declared.expr.Expr.TheVariants as expr
use Rattle.sem_expr.specs.declared.expr.Expr.TheVariants.{Number, Parameter, Binary'}
use Rattle.sem_expr.specs.declared.expr.Side.TheVariants.{Uncompressed}
use Rattle.sem_expr.specs.declared.expr.Subject.TheVariants as subject
use Rattle.sem_expr.specs.Values.{val}
use Rattle.sem_profile.specs.declared.profile.Field.{Field}
use Rattle.sem_profile.specs.declared.profile.Format.{Format}
use Rattle.sem_profile.specs.declared.profile.Method.{Method}
use Rattle.sem_filling.specs.declared.filling.AskedValue.{AskedValue}
use Rattle.sem_filling.specs.declared.filling.Filling.{Filling, out-Filling}
use Rattle.sem_filling.specs.Entries.{Path}
use Rattle.sem_filling.specs.Fillings.{asked_values, fields_of, inner_at, inner_of, level}
use Rattle.sem_filling.specs.Fits.{Context, Fits, IsShaped, assigned, field_side, format_at, measured, side_of}
use Rattle.sem_filling.proofs.FillingsUnique.{also_at}
use Rattle.sem_filling.proofs.FitsInverted.{FitsParts, parts, called_parts, length-fields}
use Rattle.sem_filling.proofs.FitsSized.{and_then_some}
use Rattle.sem_filling.proofs.FitsValues.{vals_at}
use Rattle.cert_types.specs.declared.certificate.MethodPlans.{MethodPlans}
use Rattle.cert_types.specs.declared.certificate.Plans.{Plans}
use Rattle.cert_types.specs.declared.certificate.Step.{Step}
use Rattle.cert_types.specs.declared.certificate.Step.TheVariants.{Take, Call, LibraryUp, LibraryDown, MethodLength, ConstraintLength, Solve, Choose, Ask}
use Rattle.cert_types.specs.Kept.{Entries}
use Rattle.cert_rules.specs.Counts.{AreCounts, callee, entry_at, plan_ways}
use Rattle.cert_rules.specs.Valid.{plans_at}
use Rattle.cert_compiled.specs.Single.{ArePlain, AreTellers, IsAsked, IsCallTold, IsPlain, IsSingle, IsStepTold, IsTeller, IsTold}
use Rattle.cert_candidates.specs.Codes.{IsCandidate, Shown, called_at, number, numbers_in, place, step_digit, ways_before, write_plan}
use Rattle.cert_candidates.specs.Writing.{asked_before}
use Rattle.cert_candidates.proofs.CodesBounds as bounds
use Rattle.cert_candidates.proofs.CodesBounds.{digit_is, digits, number_by}
use Rattle.cert_candidates.proofs.CodesSums.{before_next, place_below}
use Rattle.cert_candidates.proofs.WritingSteps.{asked_at}

-- ---- numbers of plans without choices and calls

plain_digit : (format : Format) (gs : List (Shown ℕ)) (s : Step) → IsPlain s → step_digit format gs s ≡ 0
plain_digit format gs (Choose i) plain = absurd plain
plain_digit format gs (Call i) plain = absurd plain
plain_digit format gs (Take i) plain = refl
plain_digit format gs (LibraryUp i) plain = refl
plain_digit format gs (LibraryDown i) plain = refl
plain_digit format gs (MethodLength i side) plain = refl
plain_digit format gs (ConstraintLength i side n) plain = refl
plain_digit format gs (Solve i n) plain = refl
plain_digit format gs (Ask i) plain = refl

none_times : (ways rest : ℕ) → rest ≡ 0 → 0 * ways + rest ≡ 0
none_times ways rest none = omega (arith, none)

module _ (counts : List ℕ) (format : Format) where
  plain_place : (gs : List (Shown ℕ)) (steps : List Step) → ((j : ℕ) (s : Step) → slice_get steps j ≡ Some s → IsPlain s) → place counts format gs steps ≡ 0
  plain_place gs [] plain = refl
  plain_place gs (s ∷ steps) plain =
      ap (λ d. d * plan_ways counts format steps + place counts format gs steps) (plain_digit format gs s (plain 0 s refl)) ∙ none_times (plan_ways counts format steps) (place counts format gs steps) (plain_place gs steps (λ j. plain (suc j)))

  place_same : (fs gs : List (Shown ℕ)) (steps : List Step) → ((j : ℕ) (s : Step) → slice_get steps j ≡ Some s → step_digit format fs s ≡ step_digit format gs s) → place counts format fs steps ≡ place counts format gs steps
  place_same fs gs [] same = refl
  place_same fs gs (s ∷ steps) same =
      ap (λ d. d * plan_ways counts format steps + place counts format fs steps) (same 0 s refl) ∙ ap (λ r. step_digit format gs s * plan_ways counts format steps + r) (place_same fs gs steps (λ j. same (suc j)))

-- ---- an argument that is told

module _ (format : Format) (f g : Filling) (shaped_f : IsShaped format f) (shaped_g : IsShaped format g) (asked : asked_values (level f) ≡ asked_values (level g)) where
  bits_same : (i : ℕ) (d : Field) → slice_get format.fields i ≡ Some d → d.declared.asked ≡ true → field_side (slice_get (level f) i) Uncompressed ≡ field_side (slice_get (level g) i) Uncompressed
  bits_same i d at is =
      let x = asked_at format.fields (level f) shaped_f.declared_is i d at is in
      let y = asked_at format.fields (level g) shaped_g.declared_is i d at is in
      ap (λ (z : AskedValue). z.bits) (same_Some _ _ (sym x ∙ (ap (λ z. slice_get z (asked_before format i)) asked ∙ y)))

  side_is : (h : Filling) (t : Attribute) (a : IsAsked format t) → side_of format.listing (level h) t.subject t.side ≡ field_side (slice_get (level h) a.index) Uncompressed
  side_is h t a = ap (λ s. side_of format.listing (level h) s t.side) a.subject_is ∙ ap (side_of format.listing (level h) (subject.Field a.index)) a.side_is

  attribute_same : (t : Attribute) → IsAsked format t → side_of format.listing (level f) t.subject t.side ≡ side_of format.listing (level g) t.subject t.side
  attribute_same t a =
      side_is f t a ∙ bits_same a.index a.field a.field_is a.asked ∙ sym (side_is g t a)

  told_same : (args : List ℤ) (e : Expr) → IsTold format e → val (assigned format.listing (level f) args) e ≡ val (assigned format.listing (level g) args) e
  told_same args (Number s n) told = refl
  told_same args (Parameter s i) told = absurd told
  told_same args (expr.Attribute s t) told = ap (λ bits. Some (measured t.measure bits)) (attribute_same t told)
  told_same args (Binary' s op p x q y) told = absurd told

module _ (methods : List Method) (cert : Entries) (counts : List ℕ) (are : AreCounts methods cert counts) (ctx : Context) where
  -- the number of a filling whose plan has no digits
  plain_number : (k : ℕ) (f : Filling) → IsCandidate methods cert counts k f → ((e : MethodPlans) → entry_at cert k ≡ Some e → ArePlain e) → number methods cert counts f k ≡ ways_before methods cert counts k (out-Filling f).format
  plain_number k f c plain =
      let p = bounds.parts c in
      let entry = and_then_some (λ (e : MethodPlans). plans_at e (out-Filling f).format) (entry_at cert k) p.plans p.plans_is in
      let none = plain_place counts p.format (numbers_in methods cert counts f) p.plans.write (plain entry.0 entry.1 (out-Filling f).format p.plans entry.2) in
      let by = number_by methods cert counts k f p.format p.plans p.format_is p.plans_is in
      omega (arith, none, by)

  -- ---- a call that is told

  -- what is inside the field of a filling, by the number that tells its format
  record Inside (format : Format) (f : Filling) (args : List ℤ) (i k : ℕ) (argument : Expr) (keys : List ℤ) : Type 0 where
    inner : Filling
    digit : step_digit format (numbers_in methods cert counts f) (Call i) ≡ number methods cert counts inner k
    is_candidate : IsCandidate methods cert counts k inner
    key : ℤ
    key_is : val (assigned format.listing (level f) args) argument ≡ Some key
    key_at : slice_get keys (out-Filling inner).format ≡ Some key

  module _ (candidates : (h : Filling) (k : ℕ) (args : List ℤ) (path : Path) → Fits methods ctx k args path h → IsCandidate methods cert counts k h) where
    inside : (format : Format) (f : Filling) (n k : ℕ) (args : List ℤ) (path : Path) → (p : FitsParts methods ctx n args path f) → p.format ≡ format → (tellers : List (Option ℕ)) (i : ℕ) (t : IsCallTold tellers format i)
        → (m : Method) → slice_get methods t.method ≡ Some m → (told : IsTeller m.formats (entry_at cert t.method) t.teller) → Inside format f args i t.method t.argument told.have.keys
    inside format f n k args path p same tellers i t m there told =
        let at_field : slice_get p.format.fields i ≡ Some t.field = ap (λ (z : Format). slice_get z.fields i) same ∙ t.field_is in
        let filled = also_at p.format.fields (fields_of f) i t.field (sym (length-fields p.format f p.level_fits.shaped)) at_field in
        let c = called_parts methods ctx (p.each i t.field filled.0 at_field filled.1) t.method t.arguments t.calls in
        let q = parts c.inner_fits in
        let own = and_then_some (λ (m : Method). slice_get m.formats (out-Filling c.inner).format) (slice_get methods t.method) q.format q.is_format in
        let is_m : own.0 ≡ m = same_Some _ _ (sym own.1 ∙ there) in
        let formats_at : slice_get m.formats (out-Filling c.inner).format ≡ Some q.format = ap (λ (z : Method). slice_get z.formats (out-Filling c.inner).format) (sym is_m) ∙ own.2 in
        let has = told.have.each (out-Filling c.inner).format q.format formats_at in
        let parameter : slice_get c.args t.teller ≡ Some has.0 = has.2.3 (side_of q.format.listing (level c.inner)) (assigned q.format.listing (level c.inner) c.args) (q.level_fits.constraints has.2.0 has.2.1 has.2.2) in
        let argument = vals_at (assigned p.format.listing (level f) args) t.arguments c.args t.teller has.0 c.is_args parameter in
        let is_argument : argument.0 ≡ t.argument = same_Some _ _ (sym argument.1 ∙ t.argument_is) in
        let value : val (assigned p.format.listing (level f) args) t.argument ≡ Some has.0 = ap (val (assigned p.format.listing (level f) args)) (sym is_argument) ∙ argument.2 in
        let calls : called_at format i ≡ Some t.method = ap (option_and_then (λ (d : Field). callee d.encoding)) t.field_is ∙ ap callee t.calls in
        let holds : inner_at f i ≡ Some c.inner = ap (option_and_then inner_of) filled.1 ∙ c.is_inner in
        record {
          inner = c.inner;
          digit = digit_is methods cert counts are format f i t.method c.inner calls holds;
          is_candidate = candidates c.inner t.method c.args _ c.inner_fits;
          key = has.0;
          key_is = subst (λ (z : Format). val (assigned z.listing (level f) args) t.argument ≡ Some has.0) same value;
          key_at = has.1;
        }

    -- what two fillings with the same asked values have
    module _ (k : ℕ) (args : List ℤ) (path : Path) (format : Format) (f g : Filling) (p : FitsParts methods ctx k args path f) (q : FitsParts methods ctx k args path g) (p_is : p.format ≡ format) (q_is : q.format ≡ format)
        (asked : asked_values (level f) ≡ asked_values (level g)) where
      shaped_f : IsShaped format f
      shaped_f = subst (λ z. IsShaped z f) p_is p.level_fits.shaped

      shaped_g : IsShaped format g
      shaped_g = subst (λ z. IsShaped z g) q_is q.level_fits.shaped

      call_same : (tellers : List (Option ℕ)) → AreTellers methods cert tellers → (i : ℕ) → IsCallTold tellers format i → step_digit format (numbers_in methods cert counts f) (Call i) ≡ step_digit format (numbers_in methods cert counts g) (Call i)
      call_same tellers all i t =
          let at_field : slice_get p.format.fields i ≡ Some t.field = ap (λ (z : Format). slice_get z.fields i) p_is ∙ t.field_is in
          let filled = also_at p.format.fields (fields_of f) i t.field (sym (length-fields p.format f p.level_fits.shaped)) at_field in
          let c = called_parts methods ctx (p.each i t.field filled.0 at_field filled.1) t.method t.arguments t.calls in
          let inner = parts c.inner_fits in
          let m = and_then_some (λ (m : Method). slice_get m.formats (out-Filling c.inner).format) (slice_get methods t.method) inner.format inner.is_format in
          let told = all t.method t.teller m.0 t.teller_is m.1 in
          let x = inside format f k k args path p p_is tellers i t m.0 m.1 told in
          let y = inside format g k k args path q q_is tellers i t m.0 m.1 told in
          let key : x.key ≡ y.key = same_Some _ _ (sym x.key_is ∙ (told_same format f g shaped_f shaped_g asked args t.argument t.told ∙ y.key_is)) in
          let one : (out-Filling x.inner).format ≡ (out-Filling y.inner).format = told.have.apart _ _ y.key (x.key_at ∙ ap Some key) y.key_at in
          x.digit ∙ plain_number t.method x.inner x.is_candidate told.plain ∙ ap (ways_before methods cert counts t.method) one ∙ sym (y.digit ∙ plain_number t.method y.inner y.is_candidate told.plain)

      step_same : (tellers : List (Option ℕ)) → AreTellers methods cert tellers → (s : Step) → IsStepTold tellers format s → step_digit format (numbers_in methods cert counts f) s ≡ step_digit format (numbers_in methods cert counts g) s
      step_same tellers all (Choose i) told = absurd told
      step_same tellers all (Call i) told = call_same tellers all i told
      step_same tellers all (Take i) told = refl
      step_same tellers all (LibraryUp i) told = refl
      step_same tellers all (LibraryDown i) told = refl
      step_same tellers all (MethodLength i side) told = refl
      step_same tellers all (ConstraintLength i side n) told = refl
      step_same tellers all (Solve i n) told = refl
      step_same tellers all (Ask i) told = refl

      digits_same : (steps : List Step) → IsSingle methods cert format steps → place counts format (numbers_in methods cert counts f) steps ≡ place counts format (numbers_in methods cert counts g) steps
      digits_same steps single = place_same counts format (numbers_in methods cert counts f) (numbers_in methods cert counts g) steps (λ j s at. step_same single.tellers single.are s (single.told j s at))

    -- no filling with the same asked values has a lesser number from there on
    pub least : (k : ℕ) (args : List ℤ) (path : Path) (n c : ℕ) (f g : Filling) → Fits methods ctx k args path f → Fits methods ctx k args path g → asked_values (level f) ≡ asked_values (level g) → (out-Filling f).format ≡ n
        → ((format : Format) (plans : Plans) → format_at methods k n ≡ Some format → write_plan cert k n ≡ Some plans → IsSingle methods cert format plans.write) → ways_before methods cert counts k n ≤ c → c ≤ number methods cert counts g k
        → number methods cert counts f k ≤ number methods cert counts g k
    least k args path n c f g fits_f fits_g asked is single before from =
        let x = bounds.parts (candidates f k args path fits_f) in
        let y = bounds.parts (candidates g k args path fits_g) in
        let f_is = number_by methods cert counts k f x.format x.plans x.format_is x.plans_is in
        let g_is = number_by methods cert counts k g y.format y.plans y.format_is y.plans_is in
        let f_below = place_below counts x.format (numbers_in methods cert counts f) x.plans.write (digits methods cert counts are k f x) in
        let g_below = place_below counts y.format (numbers_in methods cert counts g) y.plans.write (digits methods cert counts are k g y) in
        let first : ways_before methods cert counts k (out-Filling f).format ≤ c = subst (λ z. ways_before methods cert counts k z ≤ c) (sym is) before in
        elim (cases_lt (out-Filling g).format (out-Filling f).format) [
          | inl under ↦ let next = before_next methods cert counts k (out-Filling g).format y.format y.plans y.format_is y.plans_is (out-Filling f).format under in absurd (omega (arith, next, g_is, g_below, first, from))
          | inr past ↦ elim (cases_lt (out-Filling f).format (out-Filling g).format) [
            | inl over ↦ let next = before_next methods cert counts k (out-Filling f).format x.format x.plans x.format_is x.plans_is (out-Filling g).format over in omega (arith, next, f_is, f_below, g_is)
            | inr back ↦
                let one : (out-Filling g).format ≡ (out-Filling f).format = omega (arith, past, back) in
                let p = parts fits_f in
                let q = parts fits_g in
                let q_is : q.format ≡ p.format = same_Some _ _ (sym q.is_format ∙ (ap (format_at methods k) one ∙ p.is_format)) in
                let x_is : x.format ≡ p.format = same_Some _ _ (sym x.format_is ∙ p.is_format) in
                let y_is : y.format ≡ p.format = same_Some _ _ (sym y.format_is ∙ (ap (format_at methods k) one ∙ p.is_format)) in
                let plans_one : y.plans ≡ x.plans = same_Some _ _ (sym y.plans_is ∙ (ap (write_plan cert k) one ∙ x.plans_is)) in
                let has = single p.format x.plans (ap (format_at methods k) (sym is) ∙ p.is_format) (ap (write_plan cert k) (sym is) ∙ x.plans_is) in
                let place_is = digits_same k args path p.format f g p q refl q_is asked x.plans.write has in
                let f_place = ap (λ (z : Format). place counts z (numbers_in methods cert counts f) x.plans.write) x_is in
                let g_place = ap (λ (z : Format). place counts z (numbers_in methods cert counts g) y.plans.write) y_is ∙ ap (λ (z : Plans). place counts p.format (numbers_in methods cert counts g) z.write) plans_one in
                let base = ap (ways_before methods cert counts k) one in
                omega (arith, f_is, g_is, place_is, f_place, g_place, base)
          ]
        ]
