-- Steps that are followed: what a knowledge says of a rule, and shows after it.
use Rattle.std.proofs.Common.{◌≡◌, refl, sym, ◌∙◌, ap, Bool, true, false, List, [], ◌∷◌, ◌++◌}
use Rattle.std.specs.Prelude.{Some, nat_lt, ◌&&◌, ◌||◌, not}
use Rattle.std.specs.List.{list_all}
use Rattle.std.proofs.lemmas.Bool.{lt-ltb}
use Rattle.cert_types.specs.declared.rule.Fact.{Fact}
use Rattle.cert_types.specs.declared.rule.Rule.{Rule}
use Rattle.cert_rules.specs.Facts.{same_fact, has, has_all, has_none}
use Rattle.cert_rules.specs.Plans as plans
use Rattle.cert_plans.specs.declared.knowledge.Knowledge.{Knowledge}
use Rattle.cert_plans.specs.Knowing.{field_of, shows, width, Knows, enables}
use Rattle.cert_plans.specs.Judging.{GivesWithin}

module _ (k : Knowledge) (facts : List Fact) (knows : Knows k facts) where
  pub all_known : (xs : List Fact) → list_all (shows k) xs ≡ has_all facts xs
  all_known [] = refl
  all_known (x ∷ xs) = ap (λ b. b && list_all (shows k) xs) (knows x) ∙ ap (λ b. has facts x && b) (all_known xs)

  none_known : (xs : List Fact) → list_all (λ x. not (shows k x)) xs ≡ has_none facts xs
  none_known [] = refl
  none_known (x ∷ xs) = ap (λ b. not b && list_all (λ x. not (shows k x)) xs) (knows x) ∙ ap (λ b. not (has facts x) && b) (none_known xs)

  -- the rule is enabled just where the knowledge says so
  pub enables_is : (r : Rule) → enables (shows k) r ≡ plans.enabled facts (Some r)
  enables_is r = ap (λ b. b && list_all (λ x. not (shows k x)) r.absent) (all_known r.needs) ∙ ap (λ b. has_all facts r.needs && b) (none_known r.absent)

or_assoc : (a b c : Bool) → ((a || b) || c) ≡ (a || (b || c))
or_assoc true b c = refl
or_assoc false b c = refl

pub has_both : (xs ys : List Fact) (x : Fact) → has (xs ++ ys) x ≡ (has xs x || has ys x)
has_both [] ys x = refl
has_both (y ∷ xs) ys x = ap (λ b. same_fact y x || b) (has_both xs ys x) ∙ sym (or_assoc (same_fact y x) (has xs x) (has ys x))

-- what is given of fields that are there is known
kept : (h w : Bool) → (h ≡ true → w ≡ true) → (h && w) ≡ h
kept true w f = f refl
kept false w f = refl

-- the knowledge after the rule's facts shows them too
pub knows_more : (old new : Knowledge) (r : Rule) (facts : List Fact) → ((x : Fact) → shows new x ≡ ((has r.gives x && nat_lt (field_of x) (width old)) || shows old x)) →
    GivesWithin (width old) (Some r) → Knows old facts → Knows new (r.gives ++ facts)
knows_more old new r facts learnt within knows x =
    learnt x ∙ ap (λ b. b || shows old x) (kept (has r.gives x) (nat_lt (field_of x) (width old)) (λ h. lt-ltb (field_of x) (width old) (within x h))) ∙ ap (λ b. has r.gives x || b) (knows x) ∙ sym (has_both r.gives facts x)
