-- What a complete plan has learnt, side by side and step by step.
use Rattle.std.proofs.Common.{◌≡◌, sym, ◌∙◌, ap, subst, ℕ, zero, suc, ◌+◌, true, List, [], ◌∷◌, arith}
use Rattle.std.specs.Prelude.{Some, slice_get, ◌&&◌}
use Rattle.sem_expr.specs.declared.expr.Side.{Side}
use Rattle.sem_expr.specs.declared.expr.Side.TheVariants.{Uncompressed, Compressed}
use Rattle.sem_profile.specs.declared.profile.Field.{Field}
use Rattle.sem_profile.specs.declared.profile.Format.{Format}
use Rattle.cert_types.specs.declared.certificate.Direction.{Direction}
use Rattle.cert_types.specs.declared.rule.Fact.{Fact}
use Rattle.cert_rules.specs.Facts.{has_all}
use Rattle.cert_rules.specs.Plans.{Goal, wanted, goals_from, goals_of, is_complete}
use Rattle.cert_rules.proofs.ViewsAgree.{and_true}

-- each goal is reached
pub goal_reached : (goals : List Goal) (known : List Fact) → is_complete goals known ≡ true → (place : ℕ) (goal : Goal) → slice_get goals place ≡ Some goal → has_all known goal.facts ≡ true
goal_reached [] known e place goal at = absurd (cc)
goal_reached (x ∷ goals) known e zero goal at =
    let same : x ≡ goal = cc in
    ap (λ (z : Goal). has_all known z.facts) (sym same) ∙ (and_true (has_all known x.facts) (is_complete goals known) e).0
goal_reached (x ∷ goals) known e (suc place) goal at = goal_reached goals known (and_true (has_all known x.facts) (is_complete goals known) e).1 place goal at

module _ (direction : Direction) (format : Format) (known : List Fact) where
  reached_from : (n : ℕ) (ds : List Field) → is_complete (goals_from direction format n ds) known ≡ true → (j : ℕ) (d : Field) (side : Side) → slice_get ds j ≡ Some d →
      (k : ℕ) → n + j ≡ k → has_all known (wanted direction format k d side) ≡ true
  reached_from n [] e j d side at k is = absurd (cc)
  reached_from n (x ∷ ds) e zero d side at k is =
      let b = and_true (has_all known (wanted direction format n x Uncompressed)) (has_all known (wanted direction format n x Compressed) && is_complete (goals_from direction format (suc n) ds) known) e in
      let c = and_true (has_all known (wanted direction format n x Compressed)) (is_complete (goals_from direction format (suc n) ds) known) b.1 in
      let here : n ≡ k = omega (arith, is) in
      let same : x ≡ d = cc in
      by side (λ i. wanted direction format (here i) (same i)) b.0 c.0
    where
      by : (side : Side) → {f g : Side → List Fact} → f ≡ g → has_all known (f Uncompressed) ≡ true → has_all known (f Compressed) ≡ true → has_all known (g side) ≡ true
      by Uncompressed {f} {g} same u c = subst (λ z. has_all known (z Uncompressed) ≡ true) same u
      by Compressed {f} {g} same u c = subst (λ z. has_all known (z Compressed) ≡ true) same c
  reached_from n (x ∷ ds) e (suc j) d side at k is =
      let b = and_true (has_all known (wanted direction format n x Uncompressed)) (has_all known (wanted direction format n x Compressed) && is_complete (goals_from direction format (suc n) ds) known) e in
      let c = and_true (has_all known (wanted direction format n x Compressed)) (is_complete (goals_from direction format (suc n) ds) known) b.1 in
      reached_from (suc n) ds c.1 j d side at k (omega (arith, is))

  -- all that is wanted of each field is known
  pub all_learnt : is_complete (goals_of direction format) known ≡ true → (i : ℕ) (d : Field) (side : Side) → slice_get format.fields i ≡ Some d → has_all known (wanted direction format i d side) ≡ true
  all_learnt e i d side at = reached_from 0 format.fields e i d side at i (omega arith)
