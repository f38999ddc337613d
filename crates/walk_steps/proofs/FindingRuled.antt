-- Steps whose rule is followed.
use Rattle.std.proofs.Common.{◌≡◌, refl, sym, ◌∙◌, ap, subst, ℕ, ◌<◌, true, List, [], ◌∷◌, length, arith}
use Rattle.std.specs.Prelude.{Option, Some, None, IsSomeAnd, slice_get, option_and_then, option_map, ℤ, pos, ◌&&◌}
use Rattle.std.proofs.lemmas.Option.{same_Some, slice_get_within}
use Rattle.cert_types.specs.declared.rule.Fact.{Fact}
use Rattle.cert_types.specs.declared.rule.Fact.TheVariants.{LengthOf, BitsOf}
use Rattle.cert_types.specs.declared.rule.Rule.{Rule}
use Rattle.sem_expr.specs.declared.expr.Expr.{Expr}
use Rattle.sem_expr.specs.declared.expr.Side.{Side}
use Rattle.sem_profile.specs.declared.profile.Constraint.{Constraint}
use Rattle.sem_profile.specs.declared.profile.Encoding.{Encoding}
use Rattle.sem_profile.specs.declared.profile.Encoding.TheVariants as encoding
use Rattle.sem_profile.specs.declared.profile.Field.{Field}
use Rattle.sem_profile.specs.declared.profile.Format.{Format}
use Rattle.sem_profile.specs.declared.profile.Library.{Library}
use Rattle.sem_filling.proofs.FitsSized.{and_then_some, map_some}
use Rattle.cert_rules.specs.declared.slots.Learnt.{Learnt}
use Rattle.cert_rules.specs.Rules.{rule, by_library}
use Rattle.cert_rules.specs.Slots.{has_length, has_bits, learnt_at, knows, knows_all}
use Rattle.walk_steps.specs.Partial.{Reached, IsKept}
use Rattle.walk_steps.specs.declared.level_frame.LevelFrame.{LevelFrame}
use Rattle.walk_steps.specs.Finding.{IsReady, Gains, Learns, counted}

-- ---- what the rule gives is known

length_now : (o : Option Learnt) (P : Type 0) → IsSomeAnd o (λ l. has_length l ≡ true → P) → ((l : Learnt) → o ≡ Some l → has_length l ≡ true) → P
length_now None P h is = absurd h
length_now (Some l) P h is = h (is l refl)

bits_now : (o : Option Learnt) (P : Type 0) → IsSomeAnd o (λ l. has_bits l ≡ true → P) → ((l : Learnt) → o ≡ Some l → has_bits l ≡ true) → P
bits_now None P h is = absurd h
bits_now (Some l) P h is = h (is l refl)

one_known : (format : Format) (new : Reached) (x : Fact) → knows format new.slots x ≡ true → knows_all format new.slots (x ∷ []) ≡ true
one_known format new x e = λ i. (e ∙ refl) i && true

module _ (level_frame : LevelFrame) (o : Option Rule) (old new : Reached) (i : ℕ) (side : Side) (found : Option Learnt) (r : Rule) (is : o ≡ Some r) (g : Gains level_frame old i side found new) where
  learns_by : knows_all old.format new.slots r.gives ≡ true → Learns level_frame o old new
  learns_by known = record {
    format_is = g.format_is;
    sizes_are = g.sizes_are;
    args_are = g.args_are;
    grown = g.grown;
    inners = g.inners;
    gives = subst (λ z. IsSomeAnd z (λ r. knows_all old.format new.slots r.gives ≡ true)) (sym is) known;
    agrees = g.agrees;
  }

  pub learns_length : LengthOf side i ∷ [] ≡ r.gives → ((l : Learnt) → found ≡ Some l → has_length l ≡ true) → Learns level_frame o old new
  learns_length gives known =
      let here : has_length (learnt_at new.slots i side) ≡ true = length_now found _ g.length_known known in
      learns_by (subst (λ xs. knows_all old.format new.slots xs ≡ true) gives (one_known old.format new (LengthOf side i) here))

  pub learns_value : BitsOf side i ∷ [] ≡ r.gives → ((l : Learnt) → found ≡ Some l → has_bits l ≡ true) → Learns level_frame o old new
  learns_value gives whole =
      let all : has_bits (learnt_at new.slots i side) ≡ true = bits_now found _ g.bits_known whole in
      learns_by (subst (λ xs. knows_all old.format new.slots xs ≡ true) gives (one_known old.format new (BitsOf side i) all))

  pub learns_bits : LengthOf side i ∷ BitsOf side i ∷ [] ≡ r.gives → ((l : Learnt) → found ≡ Some l → has_length l ≡ true) → ((l : Learnt) → found ≡ Some l → has_bits l ≡ true) → Learns level_frame o old new
  learns_bits gives sized whole =
      let here : has_length (learnt_at new.slots i side) ≡ true = length_now found _ g.length_known sized in
      let all : has_bits (learnt_at new.slots i side) ≡ true = bits_now found _ g.bits_known whole in
      learns_by (subst (λ xs. knows_all old.format new.slots xs ≡ true) gives (λ j. here j && one_known old.format new (BitsOf side i) all j))

pub counted_length : (count : Option ℤ) (l : Learnt) → counted count ≡ Some l → has_length l ≡ true
counted_length (Some (pos n)) l e = ap has_length (sym (same_Some _ l e))
counted_length _ l e = absurd (cc)

-- ---- what a step that is ready has

pub ready_parts : (l : Reached) (o : Option Rule) → IsReady l o → (r : Rule) × (o ≡ Some r) × (knows_all l.format l.slots r.needs ≡ true)
ready_parts l None h = absurd h
ready_parts l (Some r) h = (r, refl, h)

-- a step by a library method
pub record Coded (l : Reached) (i : ℕ) (needs : Library → List Fact) (gives : List Fact) (o : Option Rule) : Type 0 where
  pub field : Field
  pub at : slice_get l.format.fields i ≡ Some field
  pub library : Library
  pub is_library : field.encoding ≡ encoding.Library library
  pub rule_is : o ≡ Some (rule (needs library) gives)
  pub known : knows_all l.format l.slots (needs library) ≡ true

library_parts : (needs : Library → List Fact) (gives : List Fact) (e : Encoding) (r : Rule) → by_library needs gives e ≡ Some r → (m : Library) × (e ≡ encoding.Library m) × (rule (needs m) gives ≡ r)
library_parts needs gives (encoding.Library m) r e = (m, refl, same_Some (rule (needs m) gives) r e)
library_parts needs gives encoding.Bare r e = absurd (cc)
library_parts needs gives (encoding.Call k es) r e = absurd (cc)

pub coded : (l : Reached) (i : ℕ) (needs : Library → List Fact) (gives : List Fact) →
    IsReady l (option_and_then (λ d. by_library needs gives d.encoding) (slice_get l.format.fields i)) → Coded l i needs gives (option_and_then (λ d. by_library needs gives d.encoding) (slice_get l.format.fields i))
coded l i needs gives ready =
    let p = ready_parts l (option_and_then (λ d. by_library needs gives d.encoding) (slice_get l.format.fields i)) ready in
    let a = and_then_some (λ d. by_library needs gives d.encoding) (slice_get l.format.fields i) p.0 p.1 in
    let b = library_parts needs gives a.0.encoding p.0 a.2 in
    record {
      field = a.0;
      at = a.1;
      library = b.0;
      is_library = b.1;
      rule_is = p.1 ∙ ap Some (sym b.2);
      known = subst (λ r. knows_all l.format l.slots r.needs ≡ true) (sym b.2) p.2;
    }

-- a length by a constraint
pub record Constrained (l : Reached) (i : ℕ) (given : Constraint → Option Expr) (j : ℕ) (needs : Expr → List Fact) (gives : List Fact) (o : Option Rule) : Type 0 where
  pub field : Field
  pub at : slice_get l.format.fields i ≡ Some field
  pub constraint : Constraint
  pub constraint_at : slice_get l.format.constraints j ≡ Some constraint
  pub expr : Expr
  pub given_is : given constraint ≡ Some expr
  pub rule_is : o ≡ Some (rule (needs expr) gives)
  pub known : knows_all l.format l.slots (needs expr) ≡ true

pub constrained : (l : Reached) (i : ℕ) (given : Constraint → Option Expr) (j : ℕ) (needs : Expr → List Fact) (gives : List Fact) →
    IsReady l (option_and_then (λ d. option_map (λ e. rule (needs e) gives) (option_and_then given (slice_get l.format.constraints j))) (slice_get l.format.fields i)) →
    Constrained l i given j needs gives (option_and_then (λ d. option_map (λ e. rule (needs e) gives) (option_and_then given (slice_get l.format.constraints j))) (slice_get l.format.fields i))
constrained l i given j needs gives ready =
    let of_field = λ (d : Field). option_map (λ e. rule (needs e) gives) (option_and_then given (slice_get l.format.constraints j)) in
    let p = ready_parts l (option_and_then of_field (slice_get l.format.fields i)) ready in
    let a = and_then_some of_field (slice_get l.format.fields i) p.0 p.1 in
    let m = map_some (λ e. rule (needs e) gives) (option_and_then given (slice_get l.format.constraints j)) p.0 a.2 in
    let g = and_then_some given (slice_get l.format.constraints j) m.0 m.1 in
    record {
      field = a.0;
      at = a.1;
      constraint = g.0;
      constraint_at = g.1;
      expr = m.0;
      given_is = g.2;
      rule_is = p.1 ∙ ap Some (sym m.2);
      known = subst (λ r. knows_all l.format l.slots r.needs ≡ true) (sym m.2) p.2;
    }

pub within_slots : (l : Reached) → IsKept l → (i : ℕ) (d : Field) → slice_get l.format.fields i ≡ Some d → i < length l.slots
within_slots l kept i d at = omega (arith, slice_get_within l.format.fields i d at, kept.count)
