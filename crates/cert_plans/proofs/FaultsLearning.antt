-- The sides that are learnt, field by field.
use Rattle.std.proofs.Common.{◌≡◌, refl, sym, ◌∙◌, ap, ℕ, suc, ◌+◌, ◌<◌, ◌≤◌, Bool, true, false, List, [], ◌∷◌, ◌++◌, length, drop, get_or, append_assoc, arith}
use Rattle.std.specs.Prelude.{Some, None, ◌&&◌, ◌||◌, not, if◌then◌else◌}
use Rattle.std.proofs.lemmas.Bool.{and_from, and_parts}
use Rattle.std.proofs.lemmas.List.{drop_more, drop_all, append-nil}
use Rattle.sem_expr.specs.declared.expr.Side.{Side}
use Rattle.sem_expr.specs.declared.expr.Side.TheVariants.{Uncompressed, Compressed}
use Rattle.sem_profile.specs.declared.profile.Field.{Field}
use Rattle.sem_profile.specs.declared.profile.Format.{Format}
use Rattle.sem_profile.specs.Fields.{lists}
use Rattle.cert_types.specs.declared.certificate.Direction.{Direction}
use Rattle.cert_types.specs.declared.certificate.Direction.TheVariants.{Read, Write}
use Rattle.cert_types.specs.declared.rule.Fact.{Fact}
use Rattle.cert_types.specs.declared.rule.Fact.TheVariants.{BitsOf, Done}
use Rattle.cert_rules.specs.Facts.{has, has_all}
use Rattle.cert_rules.specs.Rules.{where_true}
use Rattle.cert_rules.specs.Plans as plans
use Rattle.cert_rules.specs.Plans.{Goal, is_told, wanted, goal, goals_from, goals_of, is_complete}
use Rattle.cert_plans.specs.declared.knowledge.Knowledge.{Knowledge}
use Rattle.cert_plans.specs.Knowing.{shows, Knows}
use Rattle.cert_plans.specs.Judging.{is_due, is_learnt, missing_side, Misses}

pub due_same : (direction : Direction) (format : Format) (i : ℕ) (d : Field) (listed : Bool) → listed ≡ lists format.listing i → is_due direction listed d ≡ plans.is_due direction format i d
due_same Read format i d listed e = ap (λ b. is_due Read b d) e
due_same Write format i d listed e = refl

-- that a field is done, where it is to be known
done_known : (b s : Bool) (facts : List Fact) (i : ℕ) → s ≡ has facts (Done i) → has_all facts (where_true b (Done i ∷ [])) ≡ (not b || s)
done_known true s facts i e = and_true_right (has facts (Done i)) ∙ sym e where
  and_true_right : (b : Bool) → (b && true) ≡ b
  and_true_right true = refl
  and_true_right false = refl
done_known false s facts i e = refl

complete_both : (goals more : List Goal) (facts : List Fact) → is_complete goals facts ≡ true → is_complete more facts ≡ true → is_complete (goals ++ more) facts ≡ true
complete_both [] more facts h g = g
complete_both (x ∷ goals) more facts h g =
    let b = and_parts (has_all facts x.facts) (is_complete goals facts) h in
    and_from (has_all facts x.facts) (is_complete (goals ++ more) facts) b.0 (complete_both goals more facts b.1 g)

-- the goals so far are learnt
pub record Reached (direction : Direction) (format : Format) (known : Knowledge) (i : ℕ) : Type 0 where
  pub before : List Goal
  pub goals_are : goals_of direction format ≡ before ++ goals_from direction format i (drop i format.fields)
  pub learnt : (facts : List Fact) → Knows known facts → is_complete before facts ≡ true

module _ (direction : Direction) (format : Format) (known : Knowledge) where
  pub reached_none : Reached direction format known 0
  reached_none = record { before = []; goals_are = refl; learnt = λ facts k. refl }

  -- what is wanted of a side is known just where the side is learnt
  pub wanted_is : (i : ℕ) (d : Field) (due : Bool) → due ≡ plans.is_due direction format i d → (facts : List Fact) → Knows known facts → (side : Side) →
      has_all facts (wanted direction format i d side) ≡ is_learnt direction (shows known) i due side
  wanted_is i d due due_is facts k side =
      ap (λ b. b && has_all facts (where_true (is_told direction side && plans.is_due direction format i d) (Done i ∷ []))) (sym (k (BitsOf side i)))
      ∙ ap (λ b. shows known (BitsOf side i) && b) (done_known (is_told direction side && plans.is_due direction format i d) (shows known (Done i)) facts i (k (Done i)))
      ∙ ap (λ b. shows known (BitsOf side i) && (not (is_told direction side && b) || shows known (Done i))) (sym due_is)

  module _ (i : ℕ) (d : Field) (due : Bool) (here : i < length format.fields) (is : d ≡ get_or format.fields i d) (due_is : due ≡ plans.is_due direction format i d) (r : Reached direction format known i) where
    rest : List Goal
    rest = goals_from direction format (i + 1) (drop (i + 1) format.fields)

    -- the goals, those of this field apart
    split : goals_of direction format ≡ r.before ++ goal direction format i d Uncompressed ∷ goal direction format i d Compressed ∷ rest
    unfolding rest
    split =
        let more : drop i format.fields ≡ d ∷ drop (i + 1) format.fields = drop_more format.fields i d here ∙ ap (λ (z : Field). z ∷ drop (i + 1) format.fields) (sym is) in
        let next : suc i ≡ i + 1 = omega arith in
        r.goals_are ∙ ap (λ z. r.before ++ goals_from direction format i z) more
        ∙ ap (λ j. r.before ++ goal direction format i d Uncompressed ∷ goal direction format i d Compressed ∷ goals_from direction format j (drop (i + 1) format.fields)) next

    sides_known : missing_side direction (shows known) i due ≡ None → (is_learnt direction (shows known) i due Uncompressed ≡ true) × (is_learnt direction (shows known) i due Compressed ≡ true)
    sides_known e = by (is_learnt direction (shows known) i due Uncompressed) (is_learnt direction (shows known) i due Compressed) e where
      by : (a b : Bool) → (if a then (if b then None else Some Compressed) else Some Uncompressed) ≡ None → (a ≡ true) × (b ≡ true)
      by true true e = (refl, refl)
      by true false e = absurd (cc)
      by false b e = absurd (cc)

    -- where no side is missing, the goals of this field are learnt too
    pub reached_more : missing_side direction (shows known) i due ≡ None → Reached direction format known (i + 1)
    unfolding rest
    reached_more e =
        let s = sides_known e in
        let u = goal direction format i d Uncompressed in
        let c = goal direction format i d Compressed in
        record {
          before = r.before ++ u ∷ c ∷ [];
          goals_are = split ∙ sym (append_assoc r.before (u ∷ c ∷ []) rest);
          learnt = λ facts k. complete_both r.before (u ∷ c ∷ []) facts (r.learnt facts k)
              (and_from _ _ (wanted_is i d due due_is facts k Uncompressed ∙ s.0) (and_from _ _ (wanted_is i d due due_is facts k Compressed ∙ s.1) refl));
        }

    -- the first side that is missing is the first goal that isn't learnt
    pub missed : (side : Side) → missing_side direction (shows known) i due ≡ Some side → (facts : List Fact) → Knows known facts → Misses (goals_of direction format) facts i side
    unfolding rest
    missed side e facts k = by (is_learnt direction (shows known) i due Uncompressed) (is_learnt direction (shows known) i due Compressed) refl refl side e where
      by : (a b : Bool) → is_learnt direction (shows known) i due Uncompressed ≡ a → is_learnt direction (shows known) i due Compressed ≡ b → (side : Side) →
          (if a then (if b then None else Some Compressed) else Some Uncompressed) ≡ Some side → Misses (goals_of direction format) facts i side
      by true true p q side e = absurd (cc)
      by true false p q Compressed e =
          record {
            before = r.before ++ goal direction format i d Uncompressed ∷ [];
            goal = goal direction format i d Compressed;
            after = rest;
            goals_are = split ∙ sym (append_assoc r.before (goal direction format i d Uncompressed ∷ []) (goal direction format i d Compressed ∷ rest));
            field_is = refl;
            side_is = refl;
            learnt_before = complete_both r.before (goal direction format i d Uncompressed ∷ []) facts (r.learnt facts k) (and_from _ _ (wanted_is i d due due_is facts k Uncompressed ∙ p) refl);
            lacks = wanted_is i d due due_is facts k Compressed ∙ q;
          }
      by true false p q Uncompressed e = absurd (cc)
      by false b p q Uncompressed e =
          record {
            before = r.before;
            goal = goal direction format i d Uncompressed;
            after = goal direction format i d Compressed ∷ rest;
            goals_are = split;
            field_is = refl;
            side_is = refl;
            learnt_before = r.learnt facts k;
            lacks = wanted_is i d due due_is facts k Uncompressed ∙ p;
          }
      by false b p q Compressed e = absurd (cc)

  -- after the last field all goals are learnt
  pub reached_all : (i : ℕ) → length format.fields ≤ i → Reached direction format known i → (facts : List Fact) → Knows known facts → is_complete (goals_of direction format) facts ≡ true
  reached_all i end r facts k =
      let all : goals_of direction format ≡ r.before = r.goals_are ∙ ap (λ z. r.before ++ goals_from direction format i z) (drop_all i format.fields end) ∙ append-nil r.before in
      ap (λ z. is_complete z facts) all ∙ r.learnt facts k
