-- The search among the steps that have a rule finds the next step of the order.
use Rattle.std.proofs.Common.{◌≡◌, refl, sym, ◌∙◌, ap, subst, Bool, true, false, List, [], ◌∷◌, cond, find}
use Rattle.std.specs.Prelude.{Option, Some, None, option_map, ◌&&◌, not}
use Rattle.std.specs.List.{cons_option}
use Rattle.cert_types.specs.declared.certificate.Step.{Step}
use Rattle.cert_types.specs.declared.rule.Fact.{Fact}
use Rattle.cert_types.specs.declared.rule.Rule.{Rule}
use Rattle.cert_plans.specs.declared.knowledge.Knowledge.{Knowledge}
use Rattle.cert_plans.specs.Knowing.{shows, Knows}
use Rattle.cert_plans.proofs.KnowingFollowing.{all_known, enables_is}
use Rattle.cert_prove.specs.Ordered.{is_next, next_step}
use Rattle.cert_prove.specs.Searching.{Ruled, with_rule, possible_of, gives_more}

module _ (known : Knowledge) (facts : List Fact) (knows : Knows known facts) (rules : Step → Option Rule) where
  -- the rule gives more just where it is the next
  more_is : (r : Rule) → gives_more (shows known) r ≡ is_next facts (Some r)
  more_is r = λ i. enables_is known facts knows r i && not (all_known known facts knows r.gives i)

  abbrev test : Ruled → Bool
  test p = gives_more (shows known) p.rule

  abbrev step_of : Option Ruled → Option Step
  step_of o = option_map (λ (p : Ruled). p.step) o

  at_head : (s : Step) (r : Rule) (ps : List Ruled) (b : Bool) → gives_more (shows known) r ≡ b → step_of (find test (record { step = s; rule = r } ∷ ps)) ≡ cond b (Some s) (step_of (find test ps))
  at_head s r ps true e = ap (λ b. step_of (cond b (Some record { step = s; rule = r }) (find test ps))) e
  at_head s r ps false e = ap (λ b. step_of (cond b (Some record { step = s; rule = r }) (find test ps))) e

  one_more : (s : Step) (o : Option Rule) (ps : List Ruled) (rest : Option Step) → step_of (find test ps) ≡ rest → step_of (find test (cons_option (with_rule s o) ps)) ≡ cond (is_next facts o) (Some s) rest
  one_more s None ps rest e = e
  one_more s (Some r) ps rest e = at_head s r ps (gives_more (shows known) r) refl ∙ (λ i. cond (more_is r i) (Some s) (e i))

  steps_same : (order : List Step) → step_of (find test (possible_of rules order)) ≡ next_step rules order facts
  steps_same [] = refl
  steps_same (s ∷ order) = one_more s (rules s) (possible_of rules order) (next_step rules order facts) (steps_same order)

  found_in : (s : Step) (o : Option Rule) (ps : List Ruled) (p : Ruled) → rules s ≡ o → find test (cons_option (with_rule s o) ps) ≡ Some p → (find test ps ≡ Some p → rules p.step ≡ Some p.rule) → rules p.step ≡ Some p.rule
  found_in s None ps p is e rest = rest e
  found_in s (Some r) ps p is e rest = by (test record { step = s; rule = r }) e where
    by : (b : Bool) → cond b (Some record { step = s; rule = r }) (find test ps) ≡ Some p → rules p.step ≡ Some p.rule
    by true e = let same : record { step = s; rule = r } ≡ p = cc in subst (λ (z : Ruled). rules z.step ≡ Some z.rule) same is
    by false e = rest e

  -- what is found stands with its rule
  pub rule_found : (order : List Step) (p : Ruled) → find test (possible_of rules order) ≡ Some p → rules p.step ≡ Some p.rule
  rule_found [] p e = absurd (cc)
  rule_found (s ∷ order) p e = found_in s (rules s) (possible_of rules order) p refl e (λ h. rule_found order p h)

  -- and is the next step
  pub next_found : (order : List Step) (p : Ruled) → find test (possible_of rules order) ≡ Some p → next_step rules order facts ≡ Some p.step
  next_found order p e = sym (steps_same order) ∙ ap step_of e

  -- where nothing is found there is none
  pub none_found : (order : List Step) → find test (possible_of rules order) ≡ None → next_step rules order facts ≡ None
  none_found order e = sym (steps_same order) ∙ ap step_of e
