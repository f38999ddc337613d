-- The sides that are learnt, and those that are missing.
use Rattle.std.proofs.Common.{◌≡◌, refl, sym, ◌∙◌, ap, ℕ, suc, ◌+◌, ◌<◌, ◌≤◌, Bool, true, false, List, [], ◌∷◌, ◌++◌, length, drop, get_or, append_assoc, arith}
use Rattle.std.specs.Prelude.{◌&&◌, ◌||◌, not}
use Rattle.std.proofs.lemmas.Bool.{and_from, and_parts}
use Rattle.std.proofs.lemmas.List.{drop_more, drop_all, append-nil}
use Rattle.sem_expr.specs.declared.expr.Side.{Side}
use Rattle.sem_expr.specs.declared.expr.Side.TheVariants.{Uncompressed, Compressed}
use Rattle.sem_profile.specs.declared.profile.Field.{Field}
use Rattle.sem_profile.specs.declared.profile.Format.{Format}
use Rattle.cert_types.specs.declared.certificate.Direction.{Direction}
use Rattle.cert_types.specs.declared.rule.Fact.{Fact}
use Rattle.cert_types.specs.declared.rule.Fact.TheVariants.{BitsOf, Done}
use Rattle.cert_rules.specs.Facts.{has, has_all}
use Rattle.cert_rules.specs.Rules.{where_true}
use Rattle.cert_rules.specs.Plans as plans
use Rattle.cert_rules.specs.Plans.{goal, goals_from, goals_of, is_complete, is_told, wanted}
use Rattle.cert_plans.specs.declared.knowledge.Knowledge.{Knowledge}
use Rattle.cert_plans.specs.Knowing.{shows, Knows}
use Rattle.cert_plans.specs.Judging.{is_learnt}
use Rattle.cert_plans.proofs.FaultsLearning.{wanted_is}
use Rattle.cert_prove.specs.declared.fault.FieldSide.{FieldSide}
use Rattle.cert_prove.specs.Searching.{KnowsAll, is_field_learnt, AreLearntTo, unlearnt, unlearnt_sides, missing_in}

never : (b : Bool) → (b && false) ≡ false
never true = refl
never false = refl

module _ (direction : Direction) (format : Format) where
  -- no goals stand before the first
  pub learnt_none : (known : Fact → Bool) → AreLearntTo direction format known 0
  learnt_none known = λ facts all. refl

  -- more may be known
  pub learnt_on : (known more : Fact → Bool) (n : ℕ) → KnowsAll known more → AreLearntTo direction format known n → AreLearntTo direction format more n
  learnt_on known more n keeps so = λ facts all. so facts (λ x e. all x (keeps x e))

  -- none stand after the last
  pub learnt_end : (known : Fact → Bool) (n : ℕ) → length format.fields ≤ n → AreLearntTo direction format known n → AreLearntTo direction format known (length format.fields)
  learnt_end known n end so = λ facts all. so facts all ∙ ap (λ ds. is_complete (goals_from direction format n ds) facts) (drop_all n format.fields end)
      ∙ ap (λ ds. is_complete (goals_from direction format (length format.fields) ds) facts) (sym (drop_all (length format.fields) format.fields (omega arith)))

  pub all_learnt : (known : Knowledge) (n : ℕ) → length format.fields ≤ n → AreLearntTo direction format (shows known) n → (facts : List Fact) → Knows known facts → is_complete (goals_of direction format) facts ≡ true
  all_learnt known n end so facts knows = so facts (λ x e. sym (knows x) ∙ e) ∙ ap (λ ds. is_complete (goals_from direction format n ds) facts) (drop_all n format.fields end)

  -- the goals from this field on, those of the field apart
  module _ (i : ℕ) (d : Field) (here : i < length format.fields) (is : d ≡ get_or format.fields i d) where
    goals_apart : (facts : List Fact) → is_complete (goals_from direction format i (drop i format.fields)) facts
        ≡ (has_all facts (wanted direction format i d Uncompressed) && (has_all facts (wanted direction format i d Compressed) && is_complete (goals_from direction format (i + 1) (drop (i + 1) format.fields)) facts))
    goals_apart facts =
        let more : drop i format.fields ≡ d ∷ drop (i + 1) format.fields = drop_more format.fields i d here ∙ ap (λ (z : Field). z ∷ drop (i + 1) format.fields) (sym is) in
        let next : suc i ≡ i + 1 = omega arith in
        ap (λ z. is_complete (goals_from direction format i z) facts) more
        ∙ ap (λ j. is_complete (goal direction format i d Uncompressed ∷ goal direction format i d Compressed ∷ goals_from direction format j (drop (i + 1) format.fields)) facts) next

    module _ (due : Bool) (due_is : due ≡ plans.is_due direction format i d) where
      wanted_known : (known : Fact → Bool) (side : Side) → is_learnt direction known i due side ≡ true → (facts : List Fact) → ((x : Fact) → known x ≡ true → has facts x ≡ true) → has_all facts (wanted direction format i d side) ≡ true
      wanted_known known side e facts all =
          let both = and_parts (known (BitsOf side i)) (not (is_told direction side && due) || known (Done i)) e in
          and_from (has facts (BitsOf side i)) _ (all (BitsOf side i) both.0) (ap (λ b. has_all facts (where_true (is_told direction side && b) (Done i ∷ []))) (sym due_is) ∙ done (is_told direction side && due) both.1) where
            done : (b : Bool) → (not b || known (Done i)) ≡ true → has_all facts (where_true b (Done i ∷ [])) ≡ true
            done true e = ap (λ b. b && true) (all (Done i) e)
            done false e = refl

      -- both its sides are learnt
      pub learnt_more : (known : Fact → Bool) → is_field_learnt direction known i due ≡ true → AreLearntTo direction format known i → AreLearntTo direction format known (i + 1)
      learnt_more known e so = λ facts all.
          let both = and_parts (is_learnt direction known i due Uncompressed) (is_learnt direction known i due Compressed) e in
          so facts all ∙ goals_apart facts
          ∙ ap (λ b. b && (has_all facts (wanted direction format i d Compressed) && is_complete (goals_from direction format (i + 1) (drop (i + 1) format.fields)) facts)) (wanted_known known Uncompressed both.0 facts all)
          ∙ ap (λ b. b && is_complete (goals_from direction format (i + 1) (drop (i + 1) format.fields)) facts) (wanted_known known Compressed both.1 facts all)

      -- one of them isn't
      pub unlearnt_here : (known : Knowledge) → is_field_learnt direction (shows known) i due ≡ false → AreLearntTo direction format (shows known) i → (facts : List Fact) → Knows known facts → is_complete (goals_of direction format) facts ≡ false
      unlearnt_here known e so facts knows =
          so facts (λ x h. sym (knows x) ∙ h) ∙ goals_apart facts
          ∙ ap (λ b. b && (has_all facts (wanted direction format i d Compressed) && rest)) (wanted_is direction format known i d due due_is facts knows Uncompressed)
          ∙ ap (λ b. is_learnt direction (shows known) i due Uncompressed && (b && rest)) (wanted_is direction format known i d due due_is facts knows Compressed)
          ∙ one (is_learnt direction (shows known) i due Uncompressed) (is_learnt direction (shows known) i due Compressed) e where
            rest : Bool
            rest = is_complete (goals_from direction format (i + 1) (drop (i + 1) format.fields)) facts

            one : (a b : Bool) → (a && b) ≡ false → (a && (b && rest)) ≡ false
            one true true e = absurd (cc)
            one true false e = refl
            one false b e = refl

module _ (direction : Direction) (format : Format) (known : Knowledge) (facts : List Fact) (knows : Knows known facts) where
  -- those of one field more
  pub missing_more : (i : ℕ) (d : Field) (due : Bool) → i < length format.fields → d ≡ get_or format.fields i d → due ≡ plans.is_due direction format i d → (old new total : List FieldSide) →
      new ≡ old ++ unlearnt_sides (is_learnt direction (shows known) i due) i → old ++ missing_in facts (goals_from direction format i (drop i format.fields)) ≡ total →
      new ++ missing_in facts (goals_from direction format (i + 1) (drop (i + 1) format.fields)) ≡ total
  missing_more i d due here is due_is old new total pushed so =
      let u = unlearnt (is_learnt direction (shows known) i due Uncompressed) record { field = i; side = Uncompressed } in
      let c = unlearnt (is_learnt direction (shows known) i due Compressed) record { field = i; side = Compressed } in
      let rest = missing_in facts (goals_from direction format (i + 1) (drop (i + 1) format.fields)) in
      let more : drop i format.fields ≡ d ∷ drop (i + 1) format.fields = drop_more format.fields i d here ∙ ap (λ (z : Field). z ∷ drop (i + 1) format.fields) (sym is) in
      let next : suc i ≡ i + 1 = omega arith in
      let u_is = wanted_is direction format known i d due due_is facts knows Uncompressed in
      let c_is = wanted_is direction format known i d due due_is facts knows Compressed in
      let split : missing_in facts (goals_from direction format i (drop i format.fields)) ≡ u ++ (c ++ rest) =
      ap (λ z. missing_in facts (goals_from direction format i z)) more
      ∙ ap (λ j. missing_in facts (goal direction format i d Uncompressed ∷ goal direction format i d Compressed ∷ goals_from direction format j (drop (i + 1) format.fields))) next
      ∙ (λ j. unlearnt (u_is j) record { field = i; side = Uncompressed } ++ (unlearnt (c_is j) record { field = i; side = Compressed } ++ rest)) in
      ap (λ z. z ++ rest) pushed ∙ append_assoc old (u ++ c) rest ∙ ap (λ z. old ++ z) (append_assoc u c rest ∙ sym split) ∙ so

  -- after the last field
  pub missing_all : (i : ℕ) → length format.fields ≤ i → (sides total : List FieldSide) → sides ++ missing_in facts (goals_from direction format i (drop i format.fields)) ≡ total → sides ≡ total
  missing_all i end sides total so = sym (append-nil sides) ∙ ap (λ z. sides ++ missing_in facts (goals_from direction format i z)) (sym (drop_all i format.fields end)) ∙ so
