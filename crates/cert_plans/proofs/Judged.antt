-- A plan, step by step to its end.
use Rattle.std.proofs.Common.{◌≡◌, refl, sym, ◌∙◌, ap, subst, ℕ, ◌+◌, ◌<◌, ◌≤◌, Bool, true, false, List, [], ◌∷◌, ◌++◌, length, take, drop, get_or, arith}
use Rattle.std.specs.Prelude.{Option, Some, None, ◌&&◌, IfNone, IfSome}
use Rattle.std.proofs.lemmas.Bool.{and_from}
use Rattle.std.proofs.lemmas.List.{take_more, take_all, drop_more, take-append-drop, length-take-le}
use Rattle.cert_types.specs.declared.certificate.Step.{Step}
use Rattle.cert_types.specs.declared.rule.Fact.{Fact}
use Rattle.cert_types.specs.declared.rule.Rule.{Rule}
use Rattle.cert_rules.specs.Plans.{Way, enabled, learnt, known_after, all_enabled, IsPlan}
use Rattle.cert_plans.specs.declared.fault.PlanFault.{PlanFault}
use Rattle.cert_plans.specs.declared.fault.PlanFault.TheVariants.{NotEnabled, NeverLearnt}
use Rattle.cert_plans.specs.declared.knowledge.Knowledge.{Knowledge}
use Rattle.cert_plans.specs.Knowing.{width, Knows}
use Rattle.cert_plans.specs.Faults.{StopsAt, IsPlanFault}
use Rattle.cert_plans.specs.Judging.{GivesWithin, Learns, AreLearnt}

pub after_both : (rules : Step → Option Rule) (known : List Fact) (xs ys : List Step) → known_after rules known (xs ++ ys) ≡ known_after rules (known_after rules known xs) ys
after_both rules known [] ys = refl
after_both rules known (x ∷ xs) ys = after_both rules (learnt (rules x) ++ known) xs ys

and_assoc : (a b c : Bool) → (a && (b && c)) ≡ ((a && b) && c)
and_assoc true b c = refl
and_assoc false b c = refl

enabled_both : (rules : Step → Option Rule) (known : List Fact) (xs ys : List Step) → all_enabled rules known (xs ++ ys) ≡ (all_enabled rules known xs && all_enabled rules (known_after rules known xs) ys)
enabled_both rules known [] ys = refl
enabled_both rules known (x ∷ xs) ys =
    ap (λ b. enabled known (rules x) && b) (enabled_both rules (learnt (rules x) ++ known) xs ys)
    ∙ and_assoc (enabled known (rules x)) (all_enabled rules (learnt (rules x) ++ known) xs) (all_enabled rules (known_after rules (learnt (rules x) ++ known) xs) ys)

-- the first i steps are enabled, and what is known after them is just what the knowledge shows
pub record Followed (way : Way) (n : ℕ) (steps : List Step) (i : ℕ) (known : Knowledge) : Type 0 where
  pub enabled : all_enabled way.rule way.start (take i steps) ≡ true
  pub knows : Knows known (known_after way.rule way.start (take i steps))
  pub width_is : width known ≡ n

module _ (way : Way) (n : ℕ) (steps : List Step) where
  pub followed_none : (known : Knowledge) → Knows known way.start → width known ≡ n → Followed way n steps 0 known
  followed_none known k w = record { enabled = refl; knows = k; width_is = w }

  -- one more step
  pub followed_more : (i : ℕ) (d : Step) (rule : Option Rule) (old new : Knowledge) → i < length steps → Followed way n steps i old → rule ≡ way.rule (get_or steps i d) → GivesWithin n (way.rule (get_or steps i d)) →
      ((facts : List Fact) → Knows old facts → true ≡ enabled facts rule) →
      ((facts : List Fact) → Knows old facts → GivesWithin (width old) rule → true ≡ true → Knows new (learnt rule ++ facts)) → width new ≡ width old → Followed way n steps (i + 1) new
  followed_more i d rule old new here f is within able more same =
      let step = get_or steps i d in
      let known = known_after way.rule way.start (take i steps) in
      let next : take (i + 1) steps ≡ take i steps ++ step ∷ [] = take_more steps i d here in
      let able_here : enabled known (way.rule step) ≡ true = ap (enabled known) (sym is) ∙ sym (able known f.knows) in
      let inside : GivesWithin (width old) rule = subst (λ (z : Option Rule). GivesWithin (width old) z) (sym is) (subst (λ m. GivesWithin m (way.rule step)) (sym f.width_is) within) in
      record {
        enabled = ap (all_enabled way.rule way.start) next ∙ enabled_both way.rule way.start (take i steps) (step ∷ [])
            ∙ and_from (all_enabled way.rule way.start (take i steps)) (all_enabled way.rule known (step ∷ [])) f.enabled (and_from (enabled known (way.rule step)) true able_here refl);
        knows = subst (Knows new) (ap (λ (z : Option Rule). learnt z ++ known) is ∙ sym (ap (known_after way.rule way.start) next ∙ after_both way.rule way.start (take i steps) (step ∷ []))) (more known f.knows inside refl);
        width_is = same ∙ f.width_is;
      }

  -- the first step that isn't enabled
  pub stopped : (i : ℕ) (d : Step) (rule : Option Rule) (old : Knowledge) → i < length steps → Followed way n steps i old → rule ≡ way.rule (get_or steps i d) →
      ((facts : List Fact) → Knows old facts → false ≡ enabled facts rule) → StopsAt way steps i
  stopped i d rule old here f is unable =
      let known = known_after way.rule way.start (take i steps) in
      record {
        before = take i steps;
        step = get_or steps i d;
        after = drop (i + 1) steps;
        steps_are = sym (take-append-drop i steps) ∙ ap (λ z. take i steps ++ z) (drop_more steps i d here);
        index_is = length-take-le i steps (omega (arith, here));
        enabled_before = f.enabled;
        refused = ap (enabled known) (sym is) ∙ sym (unable known f.knows);
      }

  -- after the last step: a plan where all is learnt, else the first side that isn't
  pub ended : (i : ℕ) (known : Knowledge) (o : Option PlanFault) → length steps ≤ i → Followed way n steps i known → AreLearnt way.goals known o → IfNone o (IsPlan way steps) × IfSome o (IsPlanFault way steps)
  ended i known o end f are =
      let all : take i steps ≡ steps = take_all i steps end in
      let able : all_enabled way.rule way.start steps ≡ true = ap (all_enabled way.rule way.start) (sym all) ∙ f.enabled in
      by o able (are (known_after way.rule way.start steps) (subst (λ z. Knows known (known_after way.rule way.start z)) all f.knows)) where
        by : (o : Option PlanFault) → all_enabled way.rule way.start steps ≡ true → Learns way.goals (known_after way.rule way.start steps) o → IfNone o (IsPlan way steps) × IfSome o (IsPlanFault way steps)
        by None able l = (record { enabled = able; complete = l }, tt)
        by (Some (NotEnabled index)) able l = absurd l
        by (Some (NeverLearnt field side)) able l =
            (tt, record { before = l.before; goal = l.goal; after = l.after; enabled = able; goals_are = l.goals_are; field_is = l.field_is; side_is = l.side_is; learnt_before = l.learnt_before; lacks = l.lacks })
