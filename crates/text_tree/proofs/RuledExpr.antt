-- What the parser counts along an expression is what its tree has.
use Rattle.std.proofs.Common.{◌≡◌, ◌==◌, ◌&&◌, nat_le, ℕ, zero, suc, ◌+◌, ◌<◌, ◌≤◌, max, List, Option, Some, None, Bool, true, false, refl, sym, ap, subst, ◌∙◌, arith}
use Rattle.std.proofs.lemmas.Bool.{leb-false, lt-leb, ltb-true, ltb-false, eqb-true}
use Rattle.std.proofs.Math.Nat.{max-le, le-max_left, le-max_right}
use Rattle.text_source.specs.declared.span.Span.{Span}
use Rattle.text_source.specs.declared.token.TokenKind.{TokenKind}
use Rattle.text_source.specs.declared.token.TokenKind.TheVariants as k
use Rattle.text_source.specs.declared.token.Token.{Token}
use Rattle.text_tree.specs.declared.tree.Operator.{Operator}
use Rattle.text_tree.specs.declared.tree.Operator.TheVariants as op
use Rattle.text_tree.specs.declared.tree.Expr.{Expr}
use Rattle.text_tree.specs.declared.tree.Expr.TheVariants as e
use Rattle.text_tree.specs.declared.progress.Sum.{Sum}
use Rattle.text_tree.specs.declared.progress.Sum.TheVariants as sums
use Rattle.text_tree.specs.declared.progress.Progress.{Progress}
use Rattle.text_tree.specs.Operators.{operator, operator_of, in_tier, binds, is_integer, is_late, follows, after, step, inside, outside}
use Rattle.text_tree.specs.Rules.{Rules, Admits, all, is_full, most_operators}
use Rattle.text_tree.specs.Limits.{operators, levels, Sums, empty, remainder, plain, mixed, beside, sum_of_operator, closed, joined_sums, sums_in, is_mixed}
use Rattle.text_tree.specs.Grammar as g
use Rattle.text_tree.specs.Grammar.{join}
use Rattle.text_tree.specs.declared.tree.Owner.TheVariants as owners
use Rattle.text_tree.specs.Spans.{cover, span_of}
use Rattle.text_tree.specs.Limits.{operators_step, levels_step, sums_step}
use Rattle.text_tree.proofs.TreeShapes.{of_number, of_negative, of_truth, of_name, of_attribute, of_group, of_not, of_binary}
use Rattle.text_tree.proofs.GrammarStrict as s
use Rattle.text_tree.proofs.GrammarStrict.{IsExpr}

-- ---- sums

abbrev pub sort : Sum → Sums
sort sums.Empty = empty
sort sums.Plain = plain
sort (sums.Percent first) = remainder

sort_fine : (sum : Sum) → is_mixed (sort sum) ≡ false
sort_fine sums.Empty = refl
sort_fine sums.Plain = refl
sort_fine (sums.Percent first) = refl

beside_empty : (a : Sums) → beside a empty ≡ a
beside_empty empty = refl
beside_empty remainder = refl
beside_empty plain = refl
beside_empty mixed = refl

beside_assoc : (a b c : Sums) → beside (beside a b) c ≡ beside a (beside b c)
beside_assoc empty b c = refl
beside_assoc remainder empty c = refl
beside_assoc remainder remainder empty = refl
beside_assoc remainder remainder remainder = refl
beside_assoc remainder remainder plain = refl
beside_assoc remainder remainder mixed = refl
beside_assoc remainder plain empty = refl
beside_assoc remainder plain remainder = refl
beside_assoc remainder plain plain = refl
beside_assoc remainder plain mixed = refl
beside_assoc remainder mixed empty = refl
beside_assoc remainder mixed remainder = refl
beside_assoc remainder mixed plain = refl
beside_assoc remainder mixed mixed = refl
beside_assoc plain empty c = refl
beside_assoc plain remainder empty = refl
beside_assoc plain remainder remainder = refl
beside_assoc plain remainder plain = refl
beside_assoc plain remainder mixed = refl
beside_assoc plain plain empty = refl
beside_assoc plain plain remainder = refl
beside_assoc plain plain plain = refl
beside_assoc plain plain mixed = refl
beside_assoc plain mixed empty = refl
beside_assoc plain mixed remainder = refl
beside_assoc plain mixed plain = refl
beside_assoc plain mixed mixed = refl
beside_assoc mixed empty c = refl
beside_assoc mixed remainder empty = refl
beside_assoc mixed remainder remainder = refl
beside_assoc mixed remainder plain = refl
beside_assoc mixed remainder mixed = refl
beside_assoc mixed plain empty = refl
beside_assoc mixed plain remainder = refl
beside_assoc mixed plain plain = refl
beside_assoc mixed plain mixed = refl
beside_assoc mixed mixed empty = refl
beside_assoc mixed mixed remainder = refl
beside_assoc mixed mixed plain = refl
beside_assoc mixed mixed mixed = refl

-- a part of what isn't mixed isn't
first_fine : (a b : Sums) → is_mixed (beside a b) ≡ false → is_mixed a ≡ false
first_fine empty b h = refl
first_fine remainder b h = refl
first_fine plain b h = refl
first_fine mixed empty h = absurd cc
first_fine mixed remainder h = absurd cc
first_fine mixed plain h = absurd cc
first_fine mixed mixed h = absurd cc

second_fine : (a b : Sums) → is_mixed (beside a b) ≡ false → is_mixed b ≡ false
second_fine a empty h = refl
second_fine a remainder h = refl
second_fine a plain h = refl
second_fine empty mixed h = absurd cc
second_fine remainder mixed h = absurd cc
second_fine plain mixed h = absurd cc
second_fine mixed mixed h = absurd cc

closed_empty : (a : Sums) → is_mixed a ≡ false → closed a ≡ empty
closed_empty empty h = refl
closed_empty remainder h = refl
closed_empty plain h = refl
closed_empty mixed h = absurd cc

closed_fine : (a : Sums) → is_mixed (closed a) ≡ false → is_mixed a ≡ false
closed_fine empty h = refl
closed_fine remainder h = refl
closed_fine plain h = refl
closed_fine mixed h = h

-- what an operator adds, where the rules let it stand
after_integer : (o : Operator) (at : Span) (q : Progress) → is_integer o ≡ true → is_late o q.sum ≡ false → follows o q.sum ≡ false → sort (after o at q.sum) ≡ beside (sort q.sum) (sum_of_operator o)
after_integer o at q integer timely apart = by_sum o q.sum integer timely apart
  where
    by_sum : (o : Operator) (sum : Sum) → is_integer o ≡ true → is_late o sum ≡ false → follows o sum ≡ false → sort (after o at sum) ≡ beside (sort sum) (sum_of_operator o)
    by_sum op.Power sums.Empty integer timely apart = refl
    by_sum op.Power sums.Plain integer timely apart = refl
    by_sum op.Times sums.Empty integer timely apart = refl
    by_sum op.Times sums.Plain integer timely apart = refl
    by_sum op.Divide sums.Empty integer timely apart = refl
    by_sum op.Divide sums.Plain integer timely apart = refl
    by_sum op.Plus sums.Empty integer timely apart = refl
    by_sum op.Plus sums.Plain integer timely apart = refl
    by_sum op.Minus sums.Empty integer timely apart = refl
    by_sum op.Minus sums.Plain integer timely apart = refl
    by_sum op.Remainder sums.Empty integer timely apart = refl
    by_sum op.Remainder sums.Plain integer timely apart = absurd cc
    by_sum o (sums.Percent first) integer timely apart = let bad : true ≡ false = sym integer ∙ apart in absurd cc
    by_sum _ sums.Empty integer timely apart = absurd cc
    by_sum _ sums.Plain integer timely apart = absurd cc

pub after_other : (o : Operator) (at : Span) (sum : Sum) → is_integer o ≡ false → after o at sum ≡ sums.Empty
after_other op.Remainder at sum h = absurd cc
after_other op.Power at sum h = absurd cc
after_other op.Times at sum h = absurd cc
after_other op.Divide at sum h = absurd cc
after_other op.Plus at sum h = absurd cc
after_other op.Minus at sum h = absurd cc
after_other _ at sum h = refl

late_off : (o : Operator) (sum : Sum) → is_integer o ≡ false → is_late o sum ≡ false
late_off op.Remainder sum h = absurd cc
late_off _ sum h = refl

follows_off : (o : Operator) (sum : Sum) → is_integer o ≡ false → follows o sum ≡ false
follows_off o sums.Empty h = refl
follows_off o sums.Plain h = refl
follows_off o (sums.Percent first) h = h

-- an integer operator fits where the sum with it isn't mixed
integer_fits : (o : Operator) (sum : Sum) → is_integer o ≡ true → is_mixed (beside (sort sum) (sum_of_operator o)) ≡ false → (is_late o sum ≡ false) × (follows o sum ≡ false)
integer_fits op.Remainder sums.Empty integer h = (refl, refl)
integer_fits op.Remainder sums.Plain integer h = absurd cc
integer_fits op.Remainder (sums.Percent first) integer h = absurd cc
integer_fits _ sums.Empty integer h = (refl, refl)
integer_fits _ sums.Plain integer h = (refl, refl)
integer_fits _ (sums.Percent first) integer h = absurd cc

-- ---- operators and tiers

tier_of : (tier : ℕ) (o found : Operator) → in_tier tier (Some o) ≡ Some found → binds found ≡ tier
tier_of tier o found h = by_test (binds o == tier) refl
  where
    by_test : (b : Bool) → (binds o == tier) ≡ b → binds found ≡ tier
    by_test true is = let same : o ≡ found = (let shown = rw is at h in cc) in subst (λ (x : Operator). binds x ≡ tier) same (eqb-true (binds o) tier is)
    by_test false is = let none = rw is at h in absurd cc

pub binds_at : (tier : ℕ) (kind : TokenKind) (o : Operator) → operator tier (Some kind) ≡ Some o → binds o ≡ tier
binds_at tier k.Name o h = absurd cc
binds_at tier (k.Number n) o h = absurd cc
binds_at tier (k.BitText count value) o h = absurd cc
binds_at tier (k.Mark which) o h = by_operator (operator_of which) h
  where
    by_operator : (found : Option Operator) → in_tier tier found ≡ Some o → binds o ≡ tier
    by_operator (Some q) is = tier_of tier q o is
    by_operator None is = absurd cc

integer_low : (o : Operator) (tier : ℕ) → binds o ≡ tier → is_integer o ≡ true → tier ≤ 3
integer_low o tier is h = let less = ltb-true (binds o) 4 h in omega arith

other_high : (o : Operator) (tier : ℕ) → binds o ≡ tier → is_integer o ≡ false → 4 ≤ tier
other_high o tier is h = let most = ltb-false (binds o) 4 h in omega arith

-- ---- from what the parser counts to the tree

pub record Sorted (tier : ℕ) (p q : Progress) (x : Expr) : Type 0 where
  pub low : tier ≤ 3 → sort q.sum ≡ beside (sort p.sum) (sums_in x)
  pub fine : sort p.sum ≡ empty → is_mixed (sums_in x) ≡ false
  pub bare : tier ≡ 0 → sums_in x ≡ empty

sorted_bare : (tier : ℕ) (p q : Progress) (x : Expr) → q.sum ≡ p.sum → sums_in x ≡ empty → Sorted tier p q x
sorted_bare tier p q x same none = record {
  low = λ _. ap sort same ∙ sym (ap (λ (a : Sums). beside (sort p.sum) a) none ∙ beside_empty (sort p.sum));
  fine = λ _. ap is_mixed none;
  bare = λ _. none;
}

sorted_up : (tier : ℕ) (p q : Progress) (x : Expr) → Sorted tier p q x → Sorted (suc tier) p q x
sorted_up tier p q x h = record { low = λ le. h.low (omega arith); fine = h.fine; bare = λ is. absurd (omega arith) }

joined_integer : (o : Operator) (a b : Sums) → is_integer o ≡ true → joined_sums (is_integer o) o a b ≡ beside a (beside (sum_of_operator o) b)
joined_integer o a b h = ap (λ (t : Bool). joined_sums t o a b) h

joined_other : (o : Operator) (a b : Sums) → is_integer o ≡ false → joined_sums (is_integer o) o a b ≡ beside (closed a) (closed b)
joined_other o a b h = ap (λ (t : Bool). joined_sums t o a b) h

three : (a b c d : Sums) → beside (beside (beside a b) c) d ≡ beside a (beside b (beside c d))
three a b c d = beside_assoc (beside a b) c d ∙ beside_assoc a b (beside c d)

sums_join : (o : Operator) (at : Span) (x y : Expr) → sums_in (join o at x y) ≡ joined_sums (is_integer o) o (sums_in x) (sums_in y)
sums_join o at x y = of_binary sums_step (cover (span_of x) (span_of y)) o at x y

levels_join : (o : Operator) (at : Span) (x y : Expr) → levels (join o at x y) ≡ max (levels x) (levels y)
levels_join o at x y = of_binary levels_step (cover (span_of x) (span_of y)) o at x y

operators_join : (o : Operator) (at : Span) (x y : Expr) → operators (join o at x y) ≡ operators x + operators y + 1
operators_join o at x y = of_binary operators_step (cover (span_of x) (span_of y)) o at x y

sorted_join : (tier : ℕ) (o : Operator) (at : Span) (p q u : Progress) (x y : Expr) → binds o ≡ tier → 0 < tier → Admits all o q
    → (tier ≤ 3 → sort q.sum ≡ beside (sort p.sum) (sums_in x)) → (sort p.sum ≡ empty → is_mixed (sums_in x) ≡ false)
    → (tier ≤ 3 → sort u.sum ≡ beside (sort (after o at q.sum)) (sums_in y)) → (sort (after o at q.sum) ≡ empty → is_mixed (sums_in y) ≡ false)
    → Sorted tier p u (join o at x y)
sorted_join tier o at p q u x y is some free low_x fine_x low_y fine_y = by_integer (is_integer o) refl
  where
    by_integer : (b : Bool) → is_integer o ≡ b → Sorted tier p u (join o at x y)
    by_integer true integer =
        let low = integer_low o tier is integer in
        let sum : sort u.sum ≡ beside (sort p.sum) (sums_in (join o at x y)) =
        low_y low ∙ ap (λ (a : Sums). beside a (sums_in y)) (after_integer o at q integer free.timely free.apart ∙ ap (λ (a : Sums). beside a (sum_of_operator o)) (low_x low))
        ∙ three (sort p.sum) (sums_in x) (sum_of_operator o) (sums_in y) ∙ ap (λ (a : Sums). beside (sort p.sum) a) (sym (sums_join o at x y ∙ joined_integer o (sums_in x) (sums_in y) integer)) in
        record {
          low = λ _. sum;
          fine = λ none. second_fine (sort p.sum) (sums_in (join o at x y)) (ap is_mixed (sym sum) ∙ sort_fine u.sum);
          bare = λ zero_is. absurd (omega arith);
        }
    by_integer false other =
        let high = other_high o tier is other in
        record {
          low = λ le. absurd (omega arith);
          fine = λ none. ap is_mixed (sums_join o at x y ∙ joined_other o (sums_in x) (sums_in y) other
              ∙ ap (λ (a : Sums). beside a (closed (sums_in y))) (closed_empty (sums_in x) (fine_x none))
              ∙ closed_empty (sums_in y) (fine_y (ap sort (after_other o at q.sum other))));
          bare = λ zero_is. absurd (omega arith);
        }

pub sorts : {depth tier : ℕ} {p q : Progress} {from to : List Token} {x : Expr} → IsExpr all depth tier p from to x q → Sorted tier p q x
sorts {p = p} {q = q} {x = x} (s.number {n = n} {at = at}) = sorted_bare 0 p q x refl (of_number sums_step at n)
sorts {p = p} {q = q} {x = x} (s.negative {n = n} {sign = sign} {at = at}) = sorted_bare 0 p q x refl (of_negative sums_step (cover sign at) n)
sorts {p = p} {q = q} {x = x} (s.truth {at = at}) = sorted_bare 0 p q x refl (of_truth sums_step at true)
sorts {p = p} {q = q} {x = x} (s.falsehood {at = at}) = sorted_bare 0 p q x refl (of_truth sums_step at false)
sorts {p = p} {q = q} {x = x} (s.name {at = at}) = sorted_bare 0 p q x refl (of_name sums_step at)
sorts {p = p} {q = q} {x = x} (s.attribute {at = at} {last = last} {which = which} is) = sorted_bare 0 p q x refl (of_attribute sums_step (cover at last) (owners.Field at) which)
sorts {p = p} {q = q} {x = x} (s.this {at = at} {last = last} {which = which} is) = sorted_bare 0 p q x refl (of_attribute sums_step (cover at last) owners.This which)
sorts (s.group {p = p} {q = q} {sign = sign} {close = close} {x = x} h) =
    sorted_bare 0 p (outside p q) (e.Group (cover sign close) x) refl (of_group sums_step (cover sign close) x ∙ closed_empty (sums_in x) ((sorts h).fine refl))
sorts (s.not {p = p} {q = q} {sign = sign} {x = x} h) =
    let none = (sorts h).bare refl in
    let inner = (sorts h).low (omega arith) in
    let shut : sums_in (e.Not (cover sign (span_of x)) x) ≡ empty = of_not sums_step (cover sign (span_of x)) x ∙ ap closed none in
    record {
      low = λ _. inner ∙ ap (λ (a : Sums). beside (sort p.sum) a) (none ∙ sym shut);
      fine = λ _. ap is_mixed shut;
      bare = λ _. shut;
    }
sorts (s.operand {tier = tier} {p = p} {q = q} {x = x} h) = sorted_up tier p q x (sorts h)
sorts (s.power {p = p} {q = q} {s = u} {t = t} {o = o} {x = x} {y = y} h is free j) =
    let first = sorts h in
    let second = sorts j in
    sorted_join 1 o t.span p q u x y (binds_at 1 t.kind o is) (omega arith) free (λ _. first.low (omega arith)) first.fine (λ _. second.low (omega arith)) second.fine
sorts (s.operation {tier = tier} {p = p} {q = q} {s = u} {t = t} {o = o} {x = x} {y = y} h is free j) =
    let first = sorts h in
    let second = sorts j in
    sorted_join (suc (suc tier)) o t.span p q u x y (binds_at (suc (suc tier)) t.kind o is) (omega arith) free first.low first.fine (λ le. second.low (omega arith)) second.fine

pub nests : {r : Rules} {depth tier : ℕ} {p q : Progress} {from to : List Token} {x : Expr} → IsExpr r depth tier p from to x q → levels x ≤ depth
nests (s.number {n = n} {at = at}) = omega (arith, of_number levels_step at n)
nests (s.negative {n = n} {sign = sign} {at = at}) = omega (arith, of_negative levels_step (cover sign at) n)
nests (s.truth {at = at}) = omega (arith, of_truth levels_step at true)
nests (s.falsehood {at = at}) = omega (arith, of_truth levels_step at false)
nests (s.name {at = at}) = omega (arith, of_name levels_step at)
nests (s.attribute {at = at} {last = last} {which = which} is) = omega (arith, of_attribute levels_step (cover at last) (owners.Field at) which)
nests (s.this {at = at} {last = last} {which = which} is) = omega (arith, of_attribute levels_step (cover at last) owners.This which)
nests (s.group {sign = sign} {close = close} {x = x} h) = let inner = nests h in omega (arith, of_group levels_step (cover sign close) x)
nests (s.not {sign = sign} {x = x} h) = let inner = nests h in omega (arith, of_not levels_step (cover sign (span_of x)) x)
nests (s.operand h) = nests h
nests {depth = depth} (s.power {t = t} {o = o} {x = x} {y = y} h is free j) = subst (λ (n : ℕ). n ≤ depth) (sym (levels_join o t.span x y)) (max-le (nests h) (nests j))
nests {depth = depth} (s.operation {t = t} {o = o} {x = x} {y = y} h is free j) = subst (λ (n : ℕ). n ≤ depth) (sym (levels_join o t.span x y)) (max-le (nests h) (nests j))

room_is : (count : ℕ) → is_full all most_operators count ≡ false → count < 256
room_is count h = leb-false most_operators count h

-- how many operators there are, and that they are few
pub record Totals (p q : Progress) (x : Expr) : Type 0 where
  pub count : q.operators ≡ p.operators + operators x
  pub few : p.operators ≤ 256 → q.operators ≤ 256

totals_join : (p q u : Progress) (x y : Expr) (o : Operator) (at : Span) → Totals p q x → is_full all most_operators q.operators ≡ false → u.operators ≡ (q.operators + 1) + operators y
    → ((q.operators + 1) ≤ 256 → u.operators ≤ 256) → Totals p u (join o at x y)
totals_join p q u x y o at first room count few =
    let less = room_is q.operators room in
    let same = first.count in
    record { count = omega (arith, operators_join o at x y); few = λ le. few (omega arith) }

pub totals : {depth tier : ℕ} {p q : Progress} {from to : List Token} {x : Expr} → IsExpr all depth tier p from to x q → Totals p q x
totals (s.number {n = n} {at = at}) = record { count = omega (arith, of_number operators_step at n); few = λ le. le }
totals (s.negative {n = n} {sign = sign} {at = at}) = record { count = omega (arith, of_negative operators_step (cover sign at) n); few = λ le. le }
totals (s.truth {at = at}) = record { count = omega (arith, of_truth operators_step at true); few = λ le. le }
totals (s.falsehood {at = at}) = record { count = omega (arith, of_truth operators_step at false); few = λ le. le }
totals (s.name {at = at}) = record { count = omega (arith, of_name operators_step at); few = λ le. le }
totals (s.attribute {at = at} {last = last} {which = which} is) = record { count = omega (arith, of_attribute operators_step (cover at last) (owners.Field at) which); few = λ le. le }
totals (s.this {at = at} {last = last} {which = which} is) = record { count = omega (arith, of_attribute operators_step (cover at last) owners.This which); few = λ le. le }
totals (s.group {p = p} {q = q} {sign = sign} {close = close} {x = x} h) = let inner = totals h in let same : q.operators ≡ p.operators + operators x = inner.count in record { count = omega (arith, of_group operators_step (cover sign close) x); few = inner.few }
totals (s.not {sign = sign} {x = x} h) = let inner = totals h in let same = inner.count in record { count = omega (arith, of_not operators_step (cover sign (span_of x)) x); few = inner.few }
totals (s.operand h) = totals h
totals (s.power {p = p} {q = q} {s = u} {t = t} {o = o} {x = x} {y = y} h is free j) = totals_join p q u x y o t.span (totals h) free.room (totals j).count (totals j).few
totals (s.operation {p = p} {q = q} {s = u} {t = t} {o = o} {x = x} {y = y} h is free j) = totals_join p q u x y o t.span (totals h) free.room (totals j).count (totals j).few

pub text_expr : {r : Rules} {depth tier : ℕ} {p q : Progress} {from to : List Token} {x : Expr} → IsExpr r depth tier p from to x q → g.IsExpr tier from to x
text_expr s.number = g.number
text_expr s.negative = g.negative
text_expr s.truth = g.truth
text_expr s.falsehood = g.falsehood
text_expr s.name = g.name
text_expr (s.attribute is) = g.attribute is
text_expr (s.this is) = g.this is
text_expr (s.group h) = g.group (text_expr h)
text_expr (s.not h) = g.not (text_expr h)
text_expr (s.operand h) = g.operand (text_expr h)
text_expr (s.power h is free j) = g.power (text_expr h) is (text_expr j)
text_expr (s.operation h is free j) = g.operation (text_expr h) is (text_expr j)

-- ---- from the tree to what the parser counts

-- The tree keeps what the rules want, from this progress on.
pub record Fits (r : Rules) (depth : ℕ) (p : Progress) (x : Expr) : Type 0 where
  pub deep : levels x ≤ depth
  pub room : r.counts ≡ true → p.operators + operators x ≤ 256
  pub apart : r.sums ≡ true → is_mixed (beside (sort p.sum) (sums_in x)) ≡ false

pub record Counts (r : Rules) (depth tier : ℕ) (p : Progress) (from to : List Token) (x : Expr) : Type 0 where
  pub last : Progress
  pub is : IsExpr r depth tier p from to x last
  pub count : last.operators ≡ p.operators + operators x
  pub low : r.sums ≡ true → tier ≤ 3 → sort last.sum ≡ beside (sort p.sum) (sums_in x)

pub and_off : (flag test : Bool) → (flag ≡ true → test ≡ false) → (flag && test) ≡ false
and_off true test h = h refl
and_off false test h = refl

pub full_off : (r : Rules) (count : ℕ) → (r.counts ≡ true → count < 256) → is_full r most_operators count ≡ false
full_off r count h = and_off r.counts (nat_le most_operators count) (λ on. let less = h on in lt-leb most_operators count (omega arith))

module _ (r : Rules) where
  counts_bare : (depth : ℕ) (p : Progress) (from to : List Token) (x : Expr) → operators x ≡ 0 → sums_in x ≡ empty → IsExpr r depth 0 p from to x p → Counts r depth 0 p from to x
  counts_bare depth p from to x few none h = record {
    last = p;
    is = h;
    count = omega arith;
    low = λ on le. sym (ap (λ (a : Sums). beside (sort p.sum) a) none ∙ beside_empty (sort p.sum));
  }

  -- where an operator of the tier stands between both
  module _ (tier depth : ℕ) (o : Operator) (at : Span) (p : Progress) (x y : Expr) (is : binds o ≡ tier) (f : Fits r depth p (join o at x y)) (high : 4 ≤ tier → p.sum ≡ sums.Empty) where
    whole_sums : r.sums ≡ true → is_mixed (beside (sort p.sum) (joined_sums (is_integer o) o (sums_in x) (sums_in y))) ≡ false
    whole_sums on = ap (λ (a : Sums). is_mixed (beside (sort p.sum) a)) (sym (sums_join o at x y)) ∙ f.apart on

    integer_sums : is_integer o ≡ true → r.sums ≡ true → is_mixed (beside (beside (sort p.sum) (sums_in x)) (beside (sum_of_operator o) (sums_in y))) ≡ false
    integer_sums integer on =
        ap is_mixed (beside_assoc (sort p.sum) (sums_in x) (beside (sum_of_operator o) (sums_in y)) ∙ ap (λ (a : Sums). beside (sort p.sum) a) (sym (joined_integer o (sums_in x) (sums_in y) integer)))
        ∙ whole_sums on

    other_sums : is_integer o ≡ false → r.sums ≡ true → is_mixed (beside (closed (sums_in x)) (closed (sums_in y))) ≡ false
    other_sums other on =
        let none : p.sum ≡ sums.Empty = high (other_high o tier is other) in
        sym (ap (λ (sum : Sum). is_mixed (beside (sort sum) (joined_sums (is_integer o) o (sums_in x) (sums_in y)))) none ∙ ap is_mixed (joined_other o (sums_in x) (sums_in y) other)) ∙ whole_sums on

    first_apart : r.sums ≡ true → is_mixed (beside (sort p.sum) (sums_in x)) ≡ false
    first_apart on = by_integer (is_integer o) refl
      where
        by_integer : (b : Bool) → is_integer o ≡ b → is_mixed (beside (sort p.sum) (sums_in x)) ≡ false
        by_integer true integer = first_fine (beside (sort p.sum) (sums_in x)) (beside (sum_of_operator o) (sums_in y)) (integer_sums integer on)
        by_integer false other =
            ap (λ (sum : Sum). is_mixed (beside (sort sum) (sums_in x))) (high (other_high o tier is other))
            ∙ closed_fine (sums_in x) (first_fine (closed (sums_in x)) (closed (sums_in y)) (other_sums other on))

    first_fits : Fits r depth p x
    first_fits = record {
      deep = let both = levels_join o at x y in let left_le = le-max_left (levels x) (levels y) in let all_le = f.deep in omega arith;
      room = λ on. let few = f.room on in let both = operators_join o at x y in omega arith;
      apart = first_apart;
    }

    module _ (q : Progress) (count : q.operators ≡ p.operators + operators x) (low : r.sums ≡ true → tier ≤ 3 → sort q.sum ≡ beside (sort p.sum) (sums_in x)) where
      next_room : is_full r most_operators q.operators ≡ false
      next_room = full_off r q.operators (λ on. let few = f.room on in let both = operators_join o at x y in omega arith)

      -- the sum with the operator, and with what follows it
      next_sums : is_integer o ≡ true → r.sums ≡ true → is_mixed (beside (beside (sort q.sum) (sum_of_operator o)) (sums_in y)) ≡ false
      next_sums integer on =
          ap (λ (a : Sums). is_mixed (beside (beside a (sum_of_operator o)) (sums_in y))) (low on (integer_low o tier is integer))
          ∙ ap is_mixed (beside_assoc (beside (sort p.sum) (sums_in x)) (sum_of_operator o) (sums_in y)) ∙ integer_sums integer on

      fits_both : r.sums ≡ true → (is_late o q.sum ≡ false) × (follows o q.sum ≡ false)
      fits_both on = by_integer (is_integer o) refl
        where
          by_integer : (b : Bool) → is_integer o ≡ b → (is_late o q.sum ≡ false) × (follows o q.sum ≡ false)
          by_integer true integer = integer_fits o q.sum integer (first_fine (beside (sort q.sum) (sum_of_operator o)) (sums_in y) (next_sums integer on))
          by_integer false other = (late_off o q.sum other, follows_off o q.sum other)

      next_admits : Admits r o q
      next_admits = record {
        room = next_room;
        timely = and_off r.sums (is_late o q.sum) (λ on. (fits_both on).0);
        apart = and_off r.sums (follows o q.sum) (λ on. (fits_both on).1);
      }

      after_is : is_integer o ≡ true → r.sums ≡ true → sort (after o at q.sum) ≡ beside (sort q.sum) (sum_of_operator o)
      after_is integer on = after_integer o at q integer (fits_both on).0 (fits_both on).1

      second_apart : r.sums ≡ true → is_mixed (beside (sort (after o at q.sum)) (sums_in y)) ≡ false
      second_apart on = by_integer (is_integer o) refl
        where
          by_integer : (b : Bool) → is_integer o ≡ b → is_mixed (beside (sort (after o at q.sum)) (sums_in y)) ≡ false
          by_integer true integer = ap (λ (a : Sums). is_mixed (beside a (sums_in y))) (after_is integer on) ∙ next_sums integer on
          by_integer false other =
              ap (λ (sum : Sum). is_mixed (beside (sort sum) (sums_in y))) (after_other o at q.sum other)
              ∙ closed_fine (sums_in y) (second_fine (closed (sums_in x)) (closed (sums_in y)) (other_sums other on))

      second_fits : Fits r depth (step o at q) y
      second_fits = record {
        deep = let both = levels_join o at x y in let right_le = le-max_right (levels x) (levels y) in let all_le = f.deep in omega arith;
        room = λ on. let few = f.room on in let both = operators_join o at x y in omega arith;
        apart = second_apart;
      }

      second_high : 4 ≤ tier → (step o at q).sum ≡ sums.Empty
      second_high le = by_integer (is_integer o) refl
        where
          by_integer : (b : Bool) → is_integer o ≡ b → after o at q.sum ≡ sums.Empty
          by_integer true integer = let low_tier = integer_low o tier is integer in absurd (omega arith)
          by_integer false other = after_other o at q.sum other

      total_low : (u : Progress) → (r.sums ≡ true → tier ≤ 3 → sort u.sum ≡ beside (sort (after o at q.sum)) (sums_in y)) → r.sums ≡ true → tier ≤ 3 → sort u.sum ≡ beside (sort p.sum) (sums_in (join o at x y))
      total_low u second on le = by_integer (is_integer o) refl
        where
          by_integer : (b : Bool) → is_integer o ≡ b → sort u.sum ≡ beside (sort p.sum) (sums_in (join o at x y))
          by_integer true integer =
              second on le ∙ ap (λ (a : Sums). beside a (sums_in y)) (after_is integer on ∙ ap (λ (a : Sums). beside a (sum_of_operator o)) (low on le))
              ∙ three (sort p.sum) (sums_in x) (sum_of_operator o) (sums_in y) ∙ ap (λ (a : Sums). beside (sort p.sum) a) (sym (sums_join o at x y ∙ joined_integer o (sums_in x) (sums_in y) integer))
          by_integer false other = let high_tier = other_high o tier is other in absurd (omega arith)

      total_count : (u : Progress) → u.operators ≡ (step o at q).operators + operators y → u.operators ≡ p.operators + operators (join o at x y)
      total_count u second = let both = operators_join o at x y in omega arith

  group_fits : (depth : ℕ) (p : Progress) (at : Span) (x : Expr) → Fits r (suc depth) p (e.Group at x) → Fits r depth (inside p) x
  group_fits depth p at x f = record {
    deep = let all_le = f.deep in let shape = of_group levels_step at x in omega arith;
    room = λ on. let few = f.room on in let shape = of_group operators_step at x in omega arith;
    apart = λ on. closed_fine (sums_in x) (second_fine (sort p.sum) (closed (sums_in x)) (ap (λ (a : Sums). is_mixed (beside (sort p.sum) a)) (sym (of_group sums_step at x)) ∙ f.apart on));
  }

  group_shut : (depth : ℕ) (p : Progress) (at : Span) (x : Expr) → Fits r depth p (e.Group at x) → r.sums ≡ true → sums_in (e.Group at x) ≡ empty
  group_shut depth p at x f on =
      of_group sums_step at x ∙ closed_empty (sums_in x) (closed_fine (sums_in x) (second_fine (sort p.sum) (closed (sums_in x)) (ap (λ (a : Sums). is_mixed (beside (sort p.sum) a)) (sym (of_group sums_step at x)) ∙ f.apart on)))

  not_fits : (depth : ℕ) (p : Progress) (at : Span) (x : Expr) → (r.sums ≡ true → sums_in x ≡ empty) → Fits r (suc depth) p (e.Not at x) → Fits r depth p x
  not_fits depth p at x none f = record {
    deep = let all_le = f.deep in let shape = of_not levels_step at x in omega arith;
    room = λ on. let few = f.room on in let shape = of_not operators_step at x in omega arith;
    apart = λ on. ap (λ (a : Sums). is_mixed (beside (sort p.sum) a)) (none on) ∙ ap is_mixed (beside_empty (sort p.sum)) ∙ sort_fine p.sum;
  }

  bare : {from to : List Token} {x : Expr} (tier : ℕ) → tier ≡ 0 → g.IsExpr tier from to x → r.sums ≡ true → is_mixed (sums_in x) ≡ false → sums_in x ≡ empty
  bare tier is (g.number {n = n} {at = at}) on h = of_number sums_step at n
  bare tier is (g.negative {n = n} {sign = sign} {at = at}) on h = of_negative sums_step (cover sign at) n
  bare tier is (g.truth {at = at}) on h = of_truth sums_step at true
  bare tier is (g.falsehood {at = at}) on h = of_truth sums_step at false
  bare tier is (g.name {at = at}) on h = of_name sums_step at
  bare tier is (g.attribute {at = at} {last = last} {which = which} w) on h = of_attribute sums_step (cover at last) (owners.Field at) which
  bare tier is (g.this {at = at} {last = last} {which = which} w) on h = of_attribute sums_step (cover at last) owners.This which
  bare tier is (g.group {sign = sign} {close = close} {x = x} j) on h =
      of_group sums_step (cover sign close) x ∙ closed_empty (sums_in x) (closed_fine (sums_in x) (ap is_mixed (sym (of_group sums_step (cover sign close) x)) ∙ h))
  bare tier is (g.not {sign = sign} {x = x} j) on h =
      of_not sums_step (cover sign (span_of x)) x ∙ closed_empty (sums_in x) (closed_fine (sums_in x) (ap is_mixed (sym (of_not sums_step (cover sign (span_of x)) x)) ∙ h))
  bare tier is (g.operand j) on h = absurd (omega arith)
  bare tier is (g.power j w i) on h = absurd (omega arith)
  bare tier is (g.operation j w i) on h = absurd (omega arith)

  not_bare : {from to : List Token} (depth : ℕ) (p : Progress) (at : Span) (x : Expr) → g.IsExpr 0 from to x → Fits r depth p (e.Not at x) → r.sums ≡ true → sums_in x ≡ empty
  not_bare depth p at x j f on =
      bare 0 refl j on (closed_fine (sums_in x) (second_fine (sort p.sum) (closed (sums_in x)) (ap (λ (a : Sums). is_mixed (beside (sort p.sum) a)) (sym (of_not sums_step at x)) ∙ f.apart on)))

  pub counts : {tier : ℕ} {from to : List Token} {x : Expr} → g.IsExpr tier from to x → (depth : ℕ) (p : Progress) → Fits r depth p x → (4 ≤ tier → p.sum ≡ sums.Empty) → Counts r depth tier p from to x
  counts {from = from} {to = to} {x = x} (g.number {n = n} {at = at}) depth p f high = counts_bare depth p from to x (of_number operators_step at n) (of_number sums_step at n) s.number
  counts {from = from} {to = to} {x = x} (g.negative {n = n} {sign = sign} {at = at}) depth p f high = counts_bare depth p from to x (of_negative operators_step (cover sign at) n) (of_negative sums_step (cover sign at) n) s.negative
  counts {from = from} {to = to} {x = x} (g.truth {at = at}) depth p f high = counts_bare depth p from to x (of_truth operators_step at true) (of_truth sums_step at true) s.truth
  counts {from = from} {to = to} {x = x} (g.falsehood {at = at}) depth p f high = counts_bare depth p from to x (of_truth operators_step at false) (of_truth sums_step at false) s.falsehood
  counts {from = from} {to = to} {x = x} (g.name {at = at}) depth p f high = counts_bare depth p from to x (of_name operators_step at) (of_name sums_step at) s.name
  counts {from = from} {to = to} {x = x} (g.attribute {at = at} {last = last} {which = which} w) depth p f high =
      counts_bare depth p from to x (of_attribute operators_step (cover at last) (owners.Field at) which) (of_attribute sums_step (cover at last) (owners.Field at) which) (s.attribute w)
  counts {from = from} {to = to} {x = x} (g.this {at = at} {last = last} {which = which} w) depth p f high =
      counts_bare depth p from to x (of_attribute operators_step (cover at last) owners.This which) (of_attribute sums_step (cover at last) owners.This which) (s.this w)
  counts (g.group {sign = sign} {close = close} {x = x} j) zero p f high =
      let all_le = f.deep in let shape = of_group levels_step (cover sign close) x in absurd (omega arith)
  counts (g.group {sign = sign} {close = close} {x = x} j) (suc depth) p f high =
      let inner = counts j depth (inside p) (group_fits depth p (cover sign close) x f) (λ le. refl) in
      let same : inner.last.operators ≡ p.operators + operators x = inner.count in
      record {
        last = outside p inner.last;
        is = s.group inner.is;
        count = same ∙ ap (λ (n : ℕ). p.operators + n) (sym (of_group operators_step (cover sign close) x));
        low = λ on le. sym (ap (λ (a : Sums). beside (sort p.sum) a) (group_shut (suc depth) p (cover sign close) x f on) ∙ beside_empty (sort p.sum));
      }
  counts (g.not {sign = sign} {x = x} j) zero p f high =
      let all_le = f.deep in let shape = of_not levels_step (cover sign (span_of x)) x in absurd (omega arith)
  counts (g.not {sign = sign} {x = x} j) (suc depth) p f high =
      let none = not_bare (suc depth) p (cover sign (span_of x)) x j f in
      let inner = counts j depth p (not_fits depth p (cover sign (span_of x)) x none f) (λ le. absurd (omega arith)) in
      record {
        last = inner.last;
        is = s.not inner.is;
        count = inner.count ∙ ap (λ (n : ℕ). p.operators + n) (sym (of_not operators_step (cover sign (span_of x)) x));
        low = λ on le. inner.low on (omega arith) ∙ ap (λ (a : Sums). beside (sort p.sum) a) (none on ∙ sym (of_not sums_step (cover sign (span_of x)) x ∙ ap closed (none on)));
      }
  counts (g.operand {tier = tier} j) depth p f high =
      let inner = counts j depth p f (λ le. high (omega arith)) in
      record { last = inner.last; is = s.operand inner.is; count = inner.count; low = λ on le. inner.low on (omega arith) }
  counts (g.power {t = t} {o = o} {x = x} {y = y} j w i) depth p f high =
      let is = binds_at 1 t.kind o w in
      let first = counts j depth p (first_fits 1 depth o t.span p x y is f high) (λ le. absurd (omega arith)) in
      let q = first.last in
      let low : r.sums ≡ true → 1 ≤ 3 → sort q.sum ≡ beside (sort p.sum) (sums_in x) = λ on le. first.low on (omega arith) in
      let second = counts i depth (step o t.span q) (second_fits 1 depth o t.span p x y is f high q first.count low) (λ le. absurd (omega arith)) in
      record {
        last = second.last;
        is = s.power first.is w (next_admits 1 depth o t.span p x y is f high q first.count low) second.is;
        count = total_count 1 depth o t.span p x y is f high q first.count low second.last second.count;
        low = total_low 1 depth o t.span p x y is f high q first.count low second.last (λ on le. second.low on (omega arith));
      }
  counts (g.operation {tier = tier} {t = t} {o = o} {x = x} {y = y} j w i) depth p f high =
      let is = binds_at (suc (suc tier)) t.kind o w in
      let first = counts j depth p (first_fits (suc (suc tier)) depth o t.span p x y is f high) high in
      let q = first.last in
      let second = counts i depth (step o t.span q) (second_fits (suc (suc tier)) depth o t.span p x y is f high q first.count first.low)
      (λ le. second_high (suc (suc tier)) depth o t.span p x y is f high q first.count first.low (omega arith)) in
      record {
        last = second.last;
        is = s.operation first.is w (next_admits (suc (suc tier)) depth o t.span p x y is f high q first.count first.low) second.is;
        count = total_count (suc (suc tier)) depth o t.span p x y is f high q first.count first.low second.last second.count;
        low = total_low (suc (suc tier)) depth o t.span p x y is f high q first.count first.low second.last (λ on le. second.low on (omega arith));
      }
