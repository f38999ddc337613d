-- How expressions are read, one step at a time.
use Rattle.std.proofs.Common.{◌≡◌, ℕ, zero, suc, ◌+◌, ◌-◌, ◌<◌, ◌≤◌, max, Bool, if◌then◌else◌, nat_le, ◌&&◌, List, [], ◌∷◌, length, Option, Some, None, Ok, Err, true, false, refl, ap, ◌∙◌, arith, inl}
use Rattle.std.proofs.lemmas.Bool.Decides.{nat_tests}
use Rattle.text_source.specs.declared.span.Span.{Span}
use Rattle.text_source.specs.declared.fault.FaultKind.TheVariants as f
use Rattle.text_source.specs.declared.token.TokenKind.{TokenKind}
use Rattle.text_source.specs.declared.token.TokenKind.TheVariants as k
use Rattle.text_source.specs.declared.token.Mark.{Mark}
use Rattle.text_source.specs.declared.token.Mark.TheVariants as m
use Rattle.text_source.specs.declared.token.Token.{Token}
use Rattle.text_tree.specs.declared.refusal.PlacedFault.{PlacedFault}
use Rattle.text_tree.specs.declared.refusal.ParseError.{ParseError}
use Rattle.text_tree.specs.declared.refusal.ParseError.TheVariants as errors
use Rattle.text_tree.specs.declared.tree.Operator.{Operator}
use Rattle.text_tree.specs.declared.tree.Attribute.{Attribute}
use Rattle.text_tree.specs.declared.tree.Owner.{Owner}
use Rattle.text_tree.specs.declared.tree.Owner.TheVariants as owners
use Rattle.text_tree.specs.declared.tree.Expr.TheVariants as e
use Rattle.text_tree.specs.declared.progress.Sum.{Sum}
use Rattle.text_tree.specs.declared.progress.Sum.TheVariants as sums
use Rattle.text_tree.specs.declared.progress.Progress.{Progress}
use Rattle.text_tree.specs.declared.expr.Counted.{Counted}
use Rattle.text_tree.specs.Spans.{cover}
use Rattle.text_tree.specs.declared.tree.Operator.TheVariants as op
use Rattle.text_tree.specs.Operators.{binds, operator, operator_of, operator_within, in_tier, in_tiers, is_late, follows, step, start, inside}
use Rattle.text_tree.specs.Rules.{Rules, is_full, nesting, most_operators}
use Rattle.text_tree.specs.Grammar.{attribute_of}
use Rattle.text_tree.specs.Reading.{Reader, Outcome, and_then, ◌>>=◌, pure, stops, is_next, kind_at, Fails}
use Rattle.text_tree.specs.Expr.{counted, joined, grouped, denied, mixed, attribute_as, attribute_by, attribute, named, this, negative_by, negative, leaf_by, leaf, admit, operation, turn_by, turn, power_by, power, tiers, climb, operations, group, denial, prim_by, flat, nested, prim, whole}
use Rattle.text_tree.proofs.ReadingLocal.{IsLocal, Looks, local_peek_at, stops_looks, Advances, IsTurn, local_pure, local_refuse, local_peek, local_take, local_bind, local_map, local_either, local_expect, local_repeat, unroll, turn_stop, turn_map, turn_peek}
use Rattle.text_tree.proofs.ReadingMany.{Consumes, consumes_either, consumes_bind, consumes_stops, consumes_refuse, consumes_one, consumes_mixed_at}

-- ---- no reader looks further than one token

local_attribute_as : (at : Span) (owner : Owner) (o : Option Attribute) → IsLocal (attribute_as at owner o)
local_attribute_as at owner (Some which) = local_map (λ last. e.Attribute (cover at last) owner which) local_take
local_attribute_as at owner None = local_refuse

local_attribute_by : (at : Span) (owner : Owner) (o : Option TokenKind) → IsLocal (attribute_by at owner o)
local_attribute_by at owner (Some (k.Mark word)) = local_attribute_as at owner (attribute_of word)
local_attribute_by at owner (Some k.Name) = local_refuse
local_attribute_by at owner (Some (k.Number n)) = local_refuse
local_attribute_by at owner (Some (k.BitText count value)) = local_refuse
local_attribute_by at owner None = local_refuse

local_attribute : (at : Span) (owner : Owner) → IsLocal (attribute at owner)
unfolding attribute
local_attribute at owner = local_bind local_peek (local_attribute_by at owner)

local_named : IsLocal named
unfolding named
local_named = local_bind local_take (λ at. local_bind local_peek (λ next. local_either (is_next m.Dot next)
    (local_bind local_take (λ _. local_attribute at (owners.Field at))) (local_pure (e.Name at))))

local_this : IsLocal this
unfolding this
local_this = local_bind local_take (λ at. local_bind (local_expect m.Dot) (λ _. local_attribute at owners.This))

local_negative_by : (sign : Span) (o : Option TokenKind) → IsLocal (negative_by sign o)
local_negative_by sign (Some (k.Number n)) = local_map (λ at. e.Negative (cover sign at) n) local_take
local_negative_by sign (Some k.Name) = local_refuse
local_negative_by sign (Some (k.BitText count value)) = local_refuse
local_negative_by sign (Some (k.Mark mark)) = local_refuse
local_negative_by sign None = local_refuse

local_negative : IsLocal negative
unfolding negative
local_negative = local_bind local_take (λ sign. local_bind local_peek (λ next. local_negative_by sign next))

local_leaf_mark : (mark : Mark) → IsLocal (leaf_by (Some (k.Mark mark)))
local_leaf_mark m.Minus = local_negative
local_leaf_mark m.True = local_map (λ at. e.Truth at true) local_take
local_leaf_mark m.False = local_map (λ at. e.Truth at false) local_take
local_leaf_mark m.This = local_this
local_leaf_mark _ = local_refuse

local_leaf_by : (o : Option TokenKind) → IsLocal (leaf_by o)
local_leaf_by (Some k.Name) = local_named
local_leaf_by (Some (k.Number n)) = local_map (λ at. e.Number at n) local_take
local_leaf_by (Some (k.BitText count value)) = local_refuse
local_leaf_by (Some (k.Mark mark)) = local_leaf_mark mark
local_leaf_by None = local_refuse

pub local_leaf : IsLocal leaf
unfolding leaf
local_leaf = local_bind local_peek local_leaf_by

consumes_mixed : (sum : Sum) → Consumes (mixed sum)
consumes_mixed (sums.Percent first) = consumes_mixed_at first
consumes_mixed sums.Empty = consumes_refuse
consumes_mixed sums.Plain = consumes_refuse

-- ---- which tiers the next operator is of

pub binds_some : (o : Operator) → 0 < binds o
binds_some op.Power = omega arith
binds_some op.Times = omega arith
binds_some op.Divide = omega arith
binds_some op.Remainder = omega arith
binds_some op.Plus = omega arith
binds_some op.Minus = omega arith
binds_some op.And = omega arith
binds_some op.Or = omega arith
binds_some op.Equal = omega arith
binds_some op.NotEqual = omega arith
binds_some op.Less = omega arith
binds_some op.Greater = omega arith
binds_some op.LessEqual = omega arith
binds_some op.GreaterEqual = omega arith

within_none : (least most : ℕ) (next : Option TokenKind) → operator_within least most next ≡ None → (n : ℕ) → least ≤ n → n ≤ most → operator n next ≡ None
within_none least most None h n low high = refl
within_none least most (Some k.Name) h n low high = refl
within_none least most (Some (k.Number v)) h n low high = refl
within_none least most (Some (k.BitText count value)) h n low high = refl
within_none least most (Some (k.Mark mark)) h n low high = by (operator_of mark) h
  where
    by : (o : Option Operator) → in_tiers least most o ≡ None → in_tier n o ≡ None
    by None h = refl
    by (Some o) h = grind (arith, nat_tests)

chosen : (b : Bool) (found o : Operator) → (if b then Some found else None) ≡ Some o → (b ≡ true) × (found ≡ o)
chosen true found o h = (refl, cc)
chosen false found o h = absurd (cc)

pub within_some : (least most : ℕ) (next : Option TokenKind) (o : Operator) → operator_within least most next ≡ Some o → (least ≤ binds o) × (binds o ≤ most) × (operator (binds o) next ≡ Some o)
within_some least most None o h = absurd (cc)
within_some least most (Some k.Name) o h = absurd (cc)
within_some least most (Some (k.Number v)) o h = absurd (cc)
within_some least most (Some (k.BitText count value)) o h = absurd (cc)
within_some least most (Some (k.Mark mark)) o h = by (operator_of mark) h
  where
    by : (found : Option Operator) → in_tiers least most found ≡ Some o → (least ≤ binds o) × (binds o ≤ most) × (in_tier (binds o) found ≡ Some o)
    by None h = absurd (cc)
    by (Some found) h =
        let w = chosen (nat_le least (binds found) && nat_le (binds found) most) found o h in
        let low : least ≤ binds found = grind (arith, nat_tests, w.0) in
        let high : binds found ≤ most = grind (arith, nat_tests, w.0) in
        let same : binds found ≡ binds o = ap binds w.1 in
        (omega (arith, low, same), omega (arith, high, same), rw w.1 (grind (arith, nat_tests)))

other_tier : (next : Option TokenKind) (n tier : ℕ) (o : Operator) → operator tier next ≡ Some o → n < tier → operator n next ≡ None
other_tier None n tier o h less = refl
other_tier (Some k.Name) n tier o h less = refl
other_tier (Some (k.Number v)) n tier o h less = refl
other_tier (Some (k.BitText count value)) n tier o h less = refl
other_tier (Some (k.Mark mark)) n tier o h less = by (operator_of mark) h
  where
    by : (found : Option Operator) → in_tier tier found ≡ Some o → in_tier n found ≡ None
    by None h = absurd (cc)
    by (Some found) h = grind (arith, nat_tests)

module _ (r : Rules) where
  consumes_admit : (o : Operator) (progress : Progress) → Consumes (admit r o progress)
  unfolding admit
  consumes_admit o progress =
      consumes_either (is_full r most_operators progress.operators) (consumes_stops f.TooManyParts (λ ts. inl refl))
      (consumes_either (r.sums && is_late o progress.sum) (consumes_stops f.MixedRemainder (λ ts. tt))
      (consumes_either (r.sums && follows o progress.sum) (consumes_mixed progress.sum) consumes_one))

  pub local_admit : (o : Operator) (progress : Progress) → IsLocal (admit r o progress)
  local_admit o progress = (consumes_admit o progress).local

  pub consumes_operation : {operand : Progress → Reader Counted} (l : (progress : Progress) → IsLocal (operand progress)) (left : Counted) (o : Operator) → Consumes (operation r operand left o)
  unfolding operation
  consumes_operation l left o = consumes_bind (consumes_admit o left.after) (λ at. local_map (λ right. joined o at left right) (l (step o at left.after)))

  local_turn_by : {operand : Progress → Reader Counted} (l : (progress : Progress) → IsLocal (operand progress)) (left : Counted) (o : Option Operator) → IsLocal (turn_by r operand left o)
  local_turn_by l left None = local_pure None
  local_turn_by l left (Some o) = local_map (λ x. Some x) (consumes_operation l left o).local

  turn_turn_by : {operand : Progress → Reader Counted} (l : (progress : Progress) → IsLocal (operand progress)) (left : Counted) (o : Option Operator) → IsTurn (turn_by r operand left o)
  turn_turn_by l left None = turn_stop
  turn_turn_by l left (Some o) = turn_map (consumes_operation l left o).shorter

  pub turn_advances : {operand : Progress → Reader Counted} (l : (progress : Progress) → IsLocal (operand progress)) (tier : ℕ) → Advances (turn r operand tier)
  unfolding turn
  turn_advances l tier = record {
    local = λ left. local_bind local_peek (λ next. local_turn_by l left (operator tier next));
    shorter = λ left. (turn_peek (λ next. turn_turn_by l left (operator tier next))).shorter;
    stays = λ left. (turn_peek (λ next. turn_turn_by l left (operator tier next))).stays;
  }

  local_power_by : {operand : Progress → Reader Counted} (l : (progress : Progress) → IsLocal (operand progress)) (left : Counted) (o : Option Operator) → IsLocal (power_by r operand left o)
  local_power_by l left None = local_pure left
  local_power_by l left (Some o) = (consumes_operation l left o).local

  local_power : {operand : Progress → Reader Counted} (l : (progress : Progress) → IsLocal (operand progress)) (left : Counted) → IsLocal (power r operand left)
  unfolding power
  local_power l left = local_bind local_peek (λ next. local_power_by l left (operator 1 next))

  pub local_tiers : {operand : Progress → Reader Counted} (l : (progress : Progress) → IsLocal (operand progress)) (tier : ℕ) (progress : Progress) → IsLocal (tiers r tier operand progress)
  unfolding tiers
  local_tiers l zero progress = l progress
  local_tiers l (suc zero) progress = local_bind (l progress) (local_power l)
  local_tiers l (suc (suc below)) progress = local_bind (local_tiers l (suc below) progress) (λ first. local_repeat (turn_advances (local_tiers l (suc below)) (suc (suc below))) first)

  local_group : {operand : Progress → Reader Counted} (l : (progress : Progress) → IsLocal (operand progress)) (progress : Progress) → IsLocal (group r operand progress)
  unfolding group
  local_group l progress = local_bind local_take (λ sign. local_bind (local_tiers l 6 (inside progress)) (λ inner. local_bind (local_expect m.Close) (λ close. local_pure (grouped sign progress inner close))))

  local_denial : {operand : Progress → Reader Counted} (l : (progress : Progress) → IsLocal (operand progress)) (progress : Progress) → IsLocal (denial r operand progress)
  unfolding denial
  local_denial l progress = local_bind local_take (λ sign. local_map (λ inner. denied sign inner) (l progress))

  local_prim_mark : {grouped denied : Progress → Reader Counted} (lg : (progress : Progress) → IsLocal (grouped progress)) (ld : (progress : Progress) → IsLocal (denied progress)) (progress : Progress) (mark : Mark) → IsLocal (prim_by r grouped denied progress (Some (k.Mark mark)))
  local_prim_mark lg ld progress m.Open = lg progress
  local_prim_mark lg ld progress m.Not = ld progress
  local_prim_mark lg ld progress _ = local_map (λ x. counted progress x) local_leaf

  local_prim_by : {grouped denied : Progress → Reader Counted} (lg : (progress : Progress) → IsLocal (grouped progress)) (ld : (progress : Progress) → IsLocal (denied progress)) (progress : Progress) (next : Option TokenKind) → IsLocal (prim_by r grouped denied progress next)
  local_prim_by lg ld progress (Some (k.Mark mark)) = local_prim_mark lg ld progress mark
  local_prim_by lg ld progress (Some k.Name) = local_map (λ x. counted progress x) local_leaf
  local_prim_by lg ld progress (Some (k.Number n)) = local_map (λ x. counted progress x) local_leaf
  local_prim_by lg ld progress (Some (k.BitText count value)) = local_map (λ x. counted progress x) local_leaf
  local_prim_by lg ld progress None = local_map (λ x. counted progress x) local_leaf

  flat_mark : (progress : Progress) (which : Mark) (at : Span) (ts : List Token) → Looks (prim_by r (λ _. stops f.Nesting) (λ _. stops f.Nesting) progress (Some (k.Mark which))) (record { kind = k.Mark which; span = at } ∷ ts)
      (prim_by r (λ _. stops f.Nesting) (λ _. stops f.Nesting) progress (Some (k.Mark which)) (record { kind = k.Mark which; span = at } ∷ ts))
  flat_mark progress m.Open at ts = stops_looks f.Nesting (record { kind = k.Mark m.Open; span = at } ∷ ts) (refl, refl)
  flat_mark progress m.Not at ts = stops_looks f.Nesting (record { kind = k.Mark m.Not; span = at } ∷ ts) (refl, refl)
  flat_mark progress which at ts = (local_map (λ x. counted progress x) local_leaf).looks (record { kind = k.Mark which; span = at } ∷ ts)

  flat_kind : (progress : Progress) (kind : TokenKind) (at : Span) (ts : List Token) → Looks (prim_by r (λ _. stops f.Nesting) (λ _. stops f.Nesting) progress (Some kind)) (record { kind = kind; span = at } ∷ ts)
      (prim_by r (λ _. stops f.Nesting) (λ _. stops f.Nesting) progress (Some kind) (record { kind = kind; span = at } ∷ ts))
  flat_kind progress (k.Mark which) at ts = flat_mark progress which at ts
  flat_kind progress k.Name at ts = (local_map (λ x. counted progress x) local_leaf).looks (record { kind = k.Name; span = at } ∷ ts)
  flat_kind progress (k.Number n) at ts = (local_map (λ x. counted progress x) local_leaf).looks (record { kind = k.Number n; span = at } ∷ ts)
  flat_kind progress (k.BitText count value) at ts = (local_map (λ x. counted progress x) local_leaf).looks (record { kind = k.BitText count value; span = at } ∷ ts)

  flat_looks : (progress : Progress) (ts : List Token) → Looks (prim_by r (λ _. stops f.Nesting) (λ _. stops f.Nesting) progress (kind_at ts)) ts
      (prim_by r (λ _. stops f.Nesting) (λ _. stops f.Nesting) progress (kind_at ts) ts)
  flat_looks progress [] = (local_map (λ x. counted progress x) local_leaf).looks []
  flat_looks progress (t ∷ ts) = flat_kind progress t.kind t.span ts

  local_flat : (progress : Progress) → IsLocal (flat r progress)
  unfolding flat
  local_flat progress = local_peek_at (prim_by r (λ _. stops f.Nesting) (λ _. stops f.Nesting) progress) (flat_looks progress)

  pub local_prim : (depth : ℕ) (progress : Progress) → IsLocal (prim r depth progress)
  unfolding prim nested
  local_prim zero progress = local_flat progress
  local_prim (suc depth) progress = local_bind local_peek (local_prim_by (local_group (local_prim depth)) (local_denial (local_prim depth)) progress)

  pub local_expr : (depth tier : ℕ) (progress : Progress) → IsLocal (tiers r tier (prim r depth) progress)
  local_expr depth tier progress = local_tiers (local_prim depth) tier progress

  pub local_whole : IsLocal (whole r)
  unfolding whole
  local_whole = local_map (λ c. c.expr) (local_expr (nesting r) 6 start)

  -- ---- the steps of the code

  pub prim_zero : (progress : Progress) → prim r 0 progress ≡ flat r progress
  unfolding prim
  prim_zero progress = refl

  pub prim_more : (depth : ℕ) (progress : Progress) → prim r (suc depth) progress ≡ nested r (prim r depth) progress
  unfolding prim
  prim_more depth progress = refl

  advances : (depth below : ℕ) → Advances (turn r (tiers r below (prim r depth)) (suc below))
  advances depth below = turn_advances (local_expr depth below) (suc below)

  pub operations_stop : (depth below : ℕ) (left : Counted) (ts : List Token) → operator (suc below) (kind_at ts) ≡ None → operations r below (prim r depth) left ts ≡ Ok (left, ts)
  unfolding operations turn
  operations_stop depth below left ts h = unroll (advances depth below) left ts ∙ (rw h refl)

  pub operations_on : (depth below : ℕ) (left : Counted) (ts : List Token) (o : Operator) (rest : List Token) (next : Counted) → operator (suc below) (kind_at ts) ≡ Some o → operation r (tiers r below (prim r depth)) left o ts ≡ Ok (next, rest)
      → operations r below (prim r depth) left ts ≡ operations r below (prim r depth) next rest
  unfolding operations turn
  operations_on depth below left ts o rest next h read = unroll (advances depth below) left ts ∙ (rw (h, read) refl)

  pub operations_err : (depth below : ℕ) (left : Counted) (ts : List Token) (o : Operator) (refusal : PlacedFault) → operator (suc below) (kind_at ts) ≡ Some o → operation r (tiers r below (prim r depth)) left o ts ≡ Err refusal
      → operations r below (prim r depth) left ts ≡ Err refusal
  unfolding operations turn
  operations_err depth below left ts o refusal h read = unroll (advances depth below) left ts ∙ (rw (h, read) refl)

  pub operation_shorter : (depth below : ℕ) (left : Counted) (ts : List Token) (o : Operator) (rest : List Token) (next : Counted) → operation r (tiers r below (prim r depth)) left o ts ≡ Ok (next, rest) → length rest < length ts
  operation_shorter depth below left ts o rest next read = (consumes_operation (local_expr depth below) left o).shorter next ts rest read

  pub tiers_on : (depth below : ℕ) (progress : Progress) (ts mid : List Token) (first : Counted) → tiers r (suc below) (prim r depth) progress ts ≡ Ok (first, mid) → tiers r (suc (suc below)) (prim r depth) progress ts ≡ operations r (suc below) (prim r depth) first mid
  unfolding tiers operations
  tiers_on depth below progress ts mid first read = rw read refl

  -- an operand, and then the operators of the tiers
  pub tiers_climb : (depth tier : ℕ) (progress : Progress) (ts mid : List Token) (first : Counted) → prim r depth progress ts ≡ Ok (first, mid) → tiers r tier (prim r depth) progress ts ≡ climb r tier (prim r depth) first mid
  unfolding tiers climb
  tiers_climb depth zero progress ts mid first read = read
  tiers_climb depth (suc zero) progress ts mid first read = rw read refl
  tiers_climb depth (suc (suc below)) progress ts mid first read = rw (tiers_climb depth (suc below) progress ts mid first read) refl

  pub tiers_fails : (depth tier : ℕ) (progress : Progress) (ts : List Token) (refusal : PlacedFault) → prim r depth progress ts ≡ Err refusal → tiers r tier (prim r depth) progress ts ≡ Err refusal
  unfolding tiers
  tiers_fails depth zero progress ts refusal read = read
  tiers_fails depth (suc zero) progress ts refusal read = rw read refl
  tiers_fails depth (suc (suc below)) progress ts refusal read = rw (tiers_fails depth (suc below) progress ts refusal read) refl

  -- after an operand: operators of one tier
  abbrev pub at_tier : ℕ → ℕ → Counted → Reader Counted
  at_tier depth zero first = pure first
  at_tier depth (suc zero) first = power r (tiers r 0 (prim r depth)) first
  at_tier depth (suc (suc below)) first = operations r (suc below) (prim r depth) first

  -- after an operand: operators of so many tiers from one on
  abbrev pub climb_from : ℕ → ℕ → ℕ → Counted → Reader Counted
  climb_from depth zero least first = pure first
  climb_from depth (suc more) least first = at_tier depth least first >>= climb_from depth more (suc least)

  same_from : (depth : ℕ) (first : Counted) (ts : List Token) {a b c d : ℕ} → a ≡ b → c ≡ d → climb_from depth a c first ts ≡ climb_from depth b d first ts
  same_from depth first ts p q = λ i. climb_from depth (p i) (q i) first ts

  -- one tier more at the end
  from_more : (depth more least : ℕ) (first : Counted) (ts : List Token) → climb_from depth (suc more) least first ts ≡ and_then (climb_from depth more least first ts) (at_tier depth (more + least))
  from_more depth zero least first ts = let same : least ≡ 0 + least = omega arith in by (at_tier depth least first ts) ∙ (λ i. at_tier depth (same i) first ts)
    where
      by : (o : Outcome Counted) → and_then o (climb_from depth zero (suc least)) ≡ o
      by (Ok p) = refl
      by (Err e) = refl
  from_more depth (suc more) least first ts = by (at_tier depth least first ts) (λ c us. from_more depth more (suc least) c us)
    where
      by : (o : Outcome Counted) → ((c : Counted) (us : List Token) → climb_from depth (suc more) (suc least) c us ≡ and_then (climb_from depth more (suc least) c us) (at_tier depth (more + suc least)))
          → and_then o (climb_from depth (suc more) (suc least)) ≡ and_then (and_then o (climb_from depth more (suc least))) (at_tier depth (suc more + least))
      by (Ok p) on = let same : more + suc least ≡ suc more + least = omega arith in on p.0 p.1 ∙ (λ i. and_then (climb_from depth more (suc least) p.0 p.1) (at_tier depth (same i)))
      by (Err e) on = refl

  -- all tiers are those from the first on
  pub climb_all : (depth tier : ℕ) (first : Counted) (ts : List Token) → climb_from depth tier 1 first ts ≡ climb r tier (prim r depth) first ts
  unfolding climb operations tiers
  climb_all depth zero first ts = refl
  climb_all depth (suc zero) first ts = from_more depth zero 1 first ts
  climb_all depth (suc (suc below)) first ts =
      let same : suc below + 1 ≡ suc (suc below) = omega arith in
      from_more depth (suc below) 1 first ts ∙ (λ i. and_then (climb_all depth (suc below) first ts i) (at_tier depth (same i)))

  tier_stops : (depth tier : ℕ) (first : Counted) (ts : List Token) → operator tier (kind_at ts) ≡ None → at_tier depth tier first ts ≡ Ok (first, ts)
  unfolding power
  tier_stops depth zero first ts none = refl
  tier_stops depth (suc zero) first ts none = rw none refl
  tier_stops depth (suc (suc below)) first ts none = operations_stop depth (suc below) first ts none

  -- tiers without the next operator do nothing
  from_skips : (depth skipped more least all to : ℕ) (first : Counted) (ts : List Token) → skipped + least ≡ to → all + least ≡ more + to
      → ((n : ℕ) → least ≤ n → n < to → operator n (kind_at ts) ≡ None) → climb_from depth all least first ts ≡ climb_from depth more to first ts
  from_skips depth zero more least all to first ts here ends none = same_from depth first ts (omega (arith, here, ends)) (omega (arith, here))
  from_skips depth (suc skipped) more least zero to first ts here ends none = absurd (omega (arith, here, ends))
  from_skips depth (suc skipped) more least (suc all) to first ts here ends none =
      (λ i. and_then (tier_stops depth least first ts (none least (omega arith) (omega (arith, here))) i) (climb_from depth all (suc least)))
      ∙ from_skips depth skipped more (suc least) all to first ts (omega (arith, here)) (omega (arith, ends)) (λ n low high. none n (omega (arith, low)) high)

  from_on : (depth below more all least : ℕ) (first next : Counted) (ts rest : List Token) (o : Operator) → least ≡ max (suc below) 2 → all + least ≡ suc (suc below) + more
      → operator (suc below) (kind_at ts) ≡ Some o → operation r (tiers r below (prim r depth)) first o ts ≡ Ok (next, rest)
      → climb_from depth (suc more) (suc below) first ts ≡ climb_from depth all least next rest
  unfolding power
  from_on depth zero more all least first next ts rest o two ends h read =
      let once : at_tier depth 1 first ts ≡ Ok (next, rest) = rw h read in
      let up : 2 ≡ least = omega (arith, two) in
      let same : more ≡ all = omega (arith, two, ends) in
      (λ i. and_then (once i) (climb_from depth more 2)) ∙ same_from depth next rest same up
  from_on depth (suc below) more all least first next ts rest o here ends h read =
      let up : suc (suc below) ≡ least = omega (arith, here) in
      let same : suc more ≡ all = omega (arith, here, ends) in
      (λ i. and_then (operations_on depth (suc below) first ts o rest next h read i) (climb_from depth more (suc (suc (suc below))))) ∙ same_from depth next rest same up

  from_err : (depth below more : ℕ) (first : Counted) (ts : List Token) (o : Operator) (refusal : PlacedFault) → operator (suc below) (kind_at ts) ≡ Some o
      → operation r (tiers r below (prim r depth)) first o ts ≡ Err refusal → climb_from depth (suc more) (suc below) first ts ≡ Err refusal
  unfolding power
  from_err depth zero more first ts o refusal h read = let once : at_tier depth 1 first ts ≡ Err refusal = rw h read in λ i. and_then (once i) (climb_from depth more 2)
  from_err depth (suc below) more first ts o refusal h read = λ i. and_then (operations_err depth (suc below) first ts o refusal h read i) (climb_from depth more (suc (suc (suc below))))

  -- ---- a turn of the code's loop, which knows the least tier that may come

  pub loop_stops : (depth tier least : ℕ) (first : Counted) (ts : List Token) → operator_within least tier (kind_at ts) ≡ None → climb_from depth (suc tier - least) least first ts ≡ Ok (first, ts)
  loop_stops depth tier least first ts h =
      from_skips depth (suc tier - least) 0 least (suc tier - least) (suc tier - least + least) first ts refl (omega arith)
      (λ n low high. within_none least tier (kind_at ts) h n low (omega (arith, low, high)))

  -- from the least tier to that of the next operator
  loop_skips : (depth tier least at : ℕ) (first : Counted) (ts : List Token) (o : Operator) → at ≡ binds o → operator_within least tier (kind_at ts) ≡ Some o
      → climb_from depth (suc tier - least) least first ts ≡ climb_from depth (suc (tier - at)) (suc (at - 1)) first ts
  loop_skips depth tier least at first ts o here h =
      let w = within_some least tier (kind_at ts) o h in
      let some = binds_some o in
      from_skips depth (at - least) (suc (tier - at)) least (suc tier - least) (suc (at - 1)) first ts (omega (arith, here, w.0, w.1, some)) (omega (arith, here, w.0, w.1, some))
      (λ n low high. other_tier (kind_at ts) n (binds o) o w.2 (omega (arith, here, high, some)))

  found_here : (tier least at : ℕ) (next : Option TokenKind) (o : Operator) → at ≡ binds o → operator_within least tier next ≡ Some o → operator (suc (at - 1)) next ≡ Some o
  found_here tier least at next o here h =
      let same : suc (at - 1) ≡ binds o = omega (arith, here, binds_some o) in
      ap (λ (n : ℕ). operator n next) same ∙ (within_some least tier next o h).2

  pub loop_on : (depth tier least at after : ℕ) (first left : Counted) (ts rest : List Token) (next : Option TokenKind) (o : Operator) → at ≡ binds o → after ≡ max at 2 → next ≡ kind_at ts
      → operator_within least tier next ≡ Some o → operation r (tiers r (at - 1) (prim r depth)) first o ts ≡ Ok (left, rest)
      → climb_from depth (suc tier - least) least first ts ≡ climb_from depth (suc tier - after) after left rest
  loop_on depth tier least at after first left ts rest next o here goes is h read =
      let seen : operator_within least tier (kind_at ts) ≡ Some o = rw (← is) h in
      let w = within_some least tier (kind_at ts) o seen in
      loop_skips depth tier least at first ts o here seen
      ∙ from_on depth (at - 1) (tier - at) (suc tier - after) after first left ts rest o (omega (arith, goes, here, binds_some o)) (omega (arith, goes, here, binds_some o, w.0, w.1)) (found_here tier least at (kind_at ts) o here seen) read

  pub loop_fails : (depth tier least at : ℕ) (first : Counted) (ts : List Token) (next : Option TokenKind) (o : Operator) (error : ParseError) → at ≡ binds o → next ≡ kind_at ts
      → operator_within least tier next ≡ Some o → Fails error (operation r (tiers r (at - 1) (prim r depth)) first o ts) → Fails error (climb_from depth (suc tier - least) least first ts)
  loop_fails depth tier least at first ts next o errors.Memory here is h read = tt
  loop_fails depth tier least at first ts next o (errors.Refused refusal) here is h read =
      let seen : operator_within least tier (kind_at ts) ≡ Some o = rw (← is) h in
      loop_skips depth tier least at first ts o here seen ∙ from_err depth (at - 1) (tier - at) first ts o refusal (found_here tier least at (kind_at ts) o here seen) read

  pub tiers_one : (depth : ℕ) (progress : Progress) (ts mid : List Token) (first : Counted) → prim r depth progress ts ≡ Ok (first, mid) → tiers r 1 (prim r depth) progress ts ≡ power r (prim r depth) first mid
  unfolding tiers
  tiers_one depth progress ts mid first read = rw read refl

pub tiers_err : (r : Rules) (depth tier : ℕ) (progress : Progress) (ts : List Token) (error : ParseError) → Fails error (prim r depth progress ts) → Fails error (tiers r tier (prim r depth) progress ts)
tiers_err r depth tier progress ts errors.Memory read = tt
tiers_err r depth tier progress ts (errors.Refused refusal) read = tiers_fails r depth tier progress ts refusal read

pub deeper : {X : Type 0} (g : ℕ → X) (n : ℕ) → 0 < n → g n ≡ g (suc (n - 1))
deeper g n some = let same : n ≡ suc (n - 1) = omega arith in ap g same
