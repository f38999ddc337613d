-- What is read as an expression is one.
use Rattle.std.proofs.Common.{◌≡◌, ◌&&◌, ℕ, zero, suc, List, [], ◌∷◌, Option, Some, None, Ok, Bool, true, false, refl, sym, subst}
use Rattle.text_source.specs.declared.span.Span.{Span}
use Rattle.text_source.specs.declared.fault.FaultKind.TheVariants as f
use Rattle.text_source.specs.declared.token.TokenKind.{TokenKind}
use Rattle.text_source.specs.declared.token.TokenKind.TheVariants as k
use Rattle.text_source.specs.declared.token.Mark.{Mark}
use Rattle.text_source.specs.declared.token.Mark.TheVariants as m
use Rattle.text_source.specs.declared.token.Token.{Token}
use Rattle.text_source.specs.Kinds.{is_mark}
use Rattle.text_tree.specs.declared.tree.Operator.{Operator}
use Rattle.text_tree.specs.declared.tree.Attribute.{Attribute}
use Rattle.text_tree.specs.declared.tree.Owner.{Owner}
use Rattle.text_tree.specs.declared.tree.Owner.TheVariants as owners
use Rattle.text_tree.specs.declared.tree.Expr.{Expr}
use Rattle.text_tree.specs.declared.tree.Expr.TheVariants as e
use Rattle.text_tree.specs.declared.progress.Sum.{Sum}
use Rattle.text_tree.specs.declared.progress.Sum.TheVariants as sums
use Rattle.text_tree.specs.declared.progress.Progress.{Progress}
use Rattle.text_tree.specs.declared.expr.Counted.{Counted}
use Rattle.text_tree.specs.Spans.{cover}
use Rattle.text_tree.specs.Operators.{operator, is_late, follows, step, start, inside}
use Rattle.text_tree.specs.Rules.{Rules, Admits, is_full, nesting, most_operators}
use Rattle.text_tree.proofs.GrammarStrict as g
use Rattle.text_tree.specs.Grammar.{attribute_of, mark, name_at}
use Rattle.text_tree.proofs.GrammarStrict.{IsExpr, IsWhole}
use Rattle.text_tree.specs.Reading.{Outcome, Reader, ◌>>=◌, pure, stops, peek, take, expect, either, is_next, kind_at, repeat}
use Rattle.text_tree.specs.Expr.{counted, joined, grouped, denied, mixed, attribute_as, attribute_by, attribute, named, this, negative_by, negative, leaf_by, leaf, admit, operation, turn_by, turn, power_by, power, tiers, group, denial, prim_by, flat, nested, prim, whole}
use Rattle.text_tree.proofs.ReadingLocal.{value_is, rest_is, bind_ok, kept}
use Rattle.text_tree.proofs.ReadingAfter.{mark_is}
use Rattle.text_tree.proofs.Exprs.{turn_advances, local_expr}

abbrev pub token : TokenKind → Span → Token
token kind at = record { kind = kind; span = at }

-- the reader answers only what the relation holds of
abbrev pub Answers : {A : Type 0} → Reader A → (List Token → List Token → A → Type 0) → Type 0
Answers {A} p R = (ts rest : List Token) (x : A) → p ts ≡ Ok (x, rest) → R ts rest x

pub expect_is : (which : Mark) (ts rest : List Token) (at : Span) → expect which ts ≡ Ok (at, rest) → ts ≡ mark which at ∷ rest
unfolding expect
expect_is which [] rest at h = absurd cc
expect_is which (t ∷ ts) rest at h = by_test (is_mark which t.kind) refl
  where
    by_test : (b : Bool) → is_mark which t.kind ≡ b → t ∷ ts ≡ mark which at ∷ rest
    by_test true is = let read = rw is at h in let kind = mark_is which t.kind is in let span : t.span ≡ at = value_is read in let same : ts ≡ rest = rest_is read in λ i. token (kind i) (span i) ∷ same i
    by_test false is = let read = rw is at h in absurd cc

-- ---- one token

pub data IsOne (which : Mark) : List Token → List Token → Span → Type 0 where
  one : {at : Span} {to : List Token} → IsOne which (mark which at ∷ to) to at

-- the same value and the same tokens
pub data Same {A : Type 0} : A → List Token → A → List Token → Type 0 where
  same : {x : A} {to : List Token} → Same x to x to

pub same_is : {A : Type 0} {x y : A} {ts us : List Token} → ◌≡◌ {A = Outcome A} (Ok (x, ts)) (Ok (y, us)) → Same x ts y us
same_is {x = x} {ts = ts} {us = us} e = subst (λ (z : _). Same x ts z us) (value_is e) (subst (λ (vs : List Token). Same x ts x vs) (rest_is e) same)

pub one_is : (which : Mark) (ts rest : List Token) (at : Span) → expect which ts ≡ Ok (at, rest) → IsOne which ts rest at
one_is which ts rest at e = subst (λ (us : List Token). IsOne which us rest at) (sym (expect_is which ts rest at e)) one

pub taken_is : (which : Mark) (ts rest : List Token) (at : Span) → is_next which (kind_at ts) ≡ true → take ts ≡ Ok (at, rest) → IsOne which ts rest at
taken_is which [] rest at is e = absurd cc
taken_is which (t ∷ ts) rest at is e =
    let here : IsOne which (token t.kind t.span ∷ ts) ts t.span = subst (λ (w : TokenKind). IsOne which (token w t.span ∷ ts) ts t.span) (sym (mark_is which t.kind is)) one in
    subst (λ (x : Span). IsOne which (t ∷ ts) rest x) (value_is e) (subst (λ (us : List Token). IsOne which (t ∷ ts) us t.span) (rest_is e) here)

-- ---- leaves

-- a word after the dot
data IsWord (at : Span) (owner : Owner) : List Token → List Token → Expr → Type 0 where
  word : {which : Mark} {found : Attribute} {last : Span} {to : List Token} → attribute_of which ≡ Some found → IsWord at owner (mark which last ∷ to) to (e.Attribute (cover at last) owner found)

word_by : (at : Span) (owner : Owner) (which : Mark) (last : Span) (ts rest : List Token) (o : Option Attribute) (x : Expr) → attribute_of which ≡ o → attribute_as at owner o (mark which last ∷ ts) ≡ Ok (x, rest) → IsWord at owner (mark which last ∷ ts) rest x
word_by at owner which last ts rest (Some found) x is h =
    subst (λ (y : Expr). IsWord at owner (mark which last ∷ ts) rest y) (value_is h) (subst (λ (us : List Token). IsWord at owner (mark which last ∷ ts) us (e.Attribute (cover at last) owner found)) (rest_is h) (word is))
word_by at owner which last ts rest None x is h = absurd cc

word_is : (at : Span) (owner : Owner) (ts rest : List Token) (x : Expr) → attribute at owner ts ≡ Ok (x, rest) → IsWord at owner ts rest x
unfolding attribute
word_is at owner [] rest x h = absurd cc
word_is at owner (t ∷ ts) rest x h = by_kind t.kind t.span h
  where
    by_kind : (kind : TokenKind) (span : Span) → attribute_by at owner (Some kind) (token kind span ∷ ts) ≡ Ok (x, rest) → IsWord at owner (token kind span ∷ ts) rest x
    by_kind (k.Mark which) span h = word_by at owner which span ts rest (attribute_of which) x refl h
    by_kind k.Name span h = absurd cc
    by_kind (k.Number n) span h = absurd cc
    by_kind (k.BitText count value) span h = absurd cc

module _ (r : Rules) (depth : ℕ) (p : Progress) where
  abbrev Leaf : List Token → List Token → Expr → Type 0
  Leaf from to x = IsExpr r depth 0 p from to x p

  negative_is : (at : Span) (ts rest : List Token) (x : Expr) → negative (mark m.Minus at ∷ ts) ≡ Ok (x, rest) → Leaf (mark m.Minus at ∷ ts) rest x
  unfolding negative
  negative_is at [] rest x h = absurd cc
  negative_is at (t ∷ ts) rest x h = by_kind t.kind t.span h
    where
      made : {n : ℕ} {span : Span} {to : List Token} {y : Expr} → Same (e.Negative (cover at span) n) ts y to → Leaf (mark m.Minus at ∷ token (k.Number n) span ∷ ts) to y
      made same = g.negative

      by_kind : (kind : TokenKind) (span : Span) → negative_by at (Some kind) (token kind span ∷ ts) ≡ Ok (x, rest) → Leaf (mark m.Minus at ∷ token kind span ∷ ts) rest x
      by_kind (k.Number n) span h = made (same_is h)
      by_kind k.Name span h = absurd cc
      by_kind (k.BitText count value) span h = absurd cc
      by_kind (k.Mark which) span h = absurd cc

  named_is : (at : Span) (ts rest : List Token) (x : Expr) → named (name_at at ∷ ts) ≡ Ok (x, rest) → Leaf (name_at at ∷ ts) rest x
  unfolding named
  named_is at ts rest x h = by_test (is_next m.Dot (kind_at ts)) refl h
    where
      plain : {y : Expr} {to : List Token} → Same (e.Name at) ts y to → Leaf (name_at at ∷ ts) to y
      plain same = g.name

      dotted : {us mid to : List Token} {dot : Span} {y : Expr} → IsOne m.Dot us mid dot → IsWord at (owners.Field at) mid to y → Leaf (name_at at ∷ us) to y
      dotted one (word is) = g.attribute is

      by_test : (b : Bool) → is_next m.Dot (kind_at ts) ≡ b → either b (take >>= λ _. attribute at (owners.Field at)) (pure (e.Name at)) ts ≡ Ok (x, rest) → Leaf (name_at at ∷ ts) rest x
      by_test true is h = let a = bind_ok take (λ _. attribute at (owners.Field at)) ts x rest h in dotted (taken_is m.Dot ts a.1 a.0 is a.2) (word_is at (owners.Field at) a.1 rest x a.3)
      by_test false is h = plain (same_is h)

  this_is : (at : Span) (ts rest : List Token) (x : Expr) → this (mark m.This at ∷ ts) ≡ Ok (x, rest) → Leaf (mark m.This at ∷ ts) rest x
  unfolding this
  this_is at ts rest x h =
      let a = bind_ok (expect m.Dot) (λ _. attribute at owners.This) ts x rest h in
      dotted (one_is m.Dot ts a.1 a.0 a.2) (word_is at owners.This a.1 rest x a.3)
    where
      dotted : {us mid to : List Token} {dot : Span} {y : Expr} → IsOne m.Dot us mid dot → IsWord at owners.This mid to y → Leaf (mark m.This at ∷ us) to y
      dotted one (word is) = g.this is

  truth_is : {at : Span} {ts to : List Token} {y : Expr} → Same (e.Truth at true) ts y to → Leaf (mark m.True at ∷ ts) to y
  truth_is same = g.truth

  falsehood_is : {at : Span} {ts to : List Token} {y : Expr} → Same (e.Truth at false) ts y to → Leaf (mark m.False at ∷ ts) to y
  falsehood_is same = g.falsehood

  number_is : {n : ℕ} {at : Span} {ts to : List Token} {y : Expr} → Same (e.Number at n) ts y to → Leaf (token (k.Number n) at ∷ ts) to y
  number_is same = g.number

  leaf_mark : (which : Mark) (at : Span) (ts rest : List Token) (x : Expr) → leaf_by (Some (k.Mark which)) (mark which at ∷ ts) ≡ Ok (x, rest) → Leaf (mark which at ∷ ts) rest x
  leaf_mark m.Minus at ts rest x h = negative_is at ts rest x h
  leaf_mark m.True at ts rest x h = truth_is (same_is h)
  leaf_mark m.False at ts rest x h = falsehood_is (same_is h)
  leaf_mark m.This at ts rest x h = this_is at ts rest x h
  leaf_mark _ at ts rest x h = absurd cc

  leaf_kind : (kind : TokenKind) (at : Span) (ts rest : List Token) (x : Expr) → leaf_by (Some kind) (token kind at ∷ ts) ≡ Ok (x, rest) → Leaf (token kind at ∷ ts) rest x
  leaf_kind k.Name at ts rest x h = named_is at ts rest x h
  leaf_kind (k.Number n) at ts rest x h = number_is (same_is h)
  leaf_kind (k.BitText count value) at ts rest x h = absurd cc
  leaf_kind (k.Mark which) at ts rest x h = leaf_mark which at ts rest x h

  leaf_is : Answers leaf Leaf
  unfolding leaf
  leaf_is [] rest x h = absurd cc
  leaf_is (t ∷ ts) rest x h = leaf_kind t.kind t.span ts rest x h

  abbrev Prim : List Token → List Token → Counted → Type 0
  Prim from to c = IsExpr r depth 0 p from to c.expr c.after

  counted_made : {ts mid rest : List Token} {x : Expr} {c : Counted} → Leaf ts mid x → Same (counted p x) mid c rest → Prim ts rest c
  counted_made h same = h

  counted_is : Answers (leaf >>= λ x. pure (counted p x)) Prim
  counted_is ts rest c h = let a = bind_ok leaf (λ x. pure (counted p x)) ts c rest h in counted_made (leaf_is ts a.1 a.0 a.2) (same_is a.3)

-- ---- operators

-- an operator that may stand, at its place
data IsAdmitted (r : Rules) (o : Operator) (q : Progress) : List Token → List Token → Span → Type 0 where
  admitted : {t : Token} {ts : List Token} → Admits r o q → IsAdmitted r o q (t ∷ ts) ts t.span

taken_any : (r : Rules) (o : Operator) (q : Progress) (ts rest : List Token) (at : Span) → Admits r o q → take ts ≡ Ok (at, rest) → IsAdmitted r o q ts rest at
taken_any r o q [] rest at free h = absurd cc
taken_any r o q (t ∷ ts) rest at free h = subst (λ (x : Span). IsAdmitted r o q (t ∷ ts) rest x) (value_is h) (subst (λ (us : List Token). IsAdmitted r o q (t ∷ ts) us t.span) (rest_is h) (admitted free))

mixed_not : (sum : Sum) (ts rest : List Token) (at : Span) → mixed sum ts ≡ Ok (at, rest) → ⊥
mixed_not (sums.Percent first) ts rest at h = absurd cc
mixed_not sums.Empty ts rest at h = absurd cc
mixed_not sums.Plain ts rest at h = absurd cc

module _ (r : Rules) (o : Operator) (q : Progress) where
  admit_is : (ts rest : List Token) (at : Span) → admit r o q ts ≡ Ok (at, rest) → IsAdmitted r o q ts rest at
  unfolding admit
  admit_is ts rest at h = by_room (is_full r most_operators q.operators) refl h
    where
      by_apart : (b : Bool) → is_full r most_operators q.operators ≡ false → (r.sums && is_late o q.sum) ≡ false → (r.sums && follows o q.sum) ≡ b → either b (mixed q.sum) take ts ≡ Ok (at, rest) → IsAdmitted r o q ts rest at
      by_apart true room timely is h = absurd (mixed_not q.sum ts rest at h)
      by_apart false room timely is h = taken_any r o q ts rest at (record { room = room; timely = timely; apart = is }) h

      by_timely : (b : Bool) → is_full r most_operators q.operators ≡ false → (r.sums && is_late o q.sum) ≡ b → either b (stops f.MixedRemainder) (either (r.sums && follows o q.sum) (mixed q.sum) take) ts ≡ Ok (at, rest) → IsAdmitted r o q ts rest at
      by_timely true room is h = absurd cc
      by_timely false room is h = by_apart (r.sums && follows o q.sum) room is refl h

      by_room : (b : Bool) → is_full r most_operators q.operators ≡ b → either b (stops f.TooManyParts) (either (r.sums && is_late o q.sum) (stops f.MixedRemainder) (either (r.sums && follows o q.sum) (mixed q.sum) take)) ts ≡ Ok (at, rest) → IsAdmitted r o q ts rest at
      by_room true is h = absurd cc
      by_room false is h = by_timely (r.sums && is_late o q.sum) is refl h

-- an operator and its right operand, which an operand of the relation is
data IsOperation (r : Rules) (R : Progress → List Token → List Token → Counted → Type 0) (left : Counted) (o : Operator) : List Token → List Token → Counted → Type 0 where
  operated : {t : Token} {ts to : List Token} {right : Counted} → Admits r o left.after → R (step o t.span left.after) ts to right → IsOperation r R left o (t ∷ ts) to (joined o t.span left right)

operation_is : (r : Rules) (operand : Progress → Reader Counted) (R : Progress → List Token → List Token → Counted → Type 0) (reads : (p : Progress) → Answers (operand p) (R p)) (left : Counted) (o : Operator)
    → Answers (operation r operand left o) (IsOperation r R left o)
unfolding operation
operation_is r operand R reads left o ts rest c h =
    let a = bind_ok (admit r o left.after) (λ at. operand (step o at left.after) >>= λ right. pure (joined o at left right)) ts c rest h in
    let b = bind_ok (operand (step o a.0 left.after)) (λ right. pure (joined o a.0 left right)) a.1 c rest a.3 in
    made (admit_is r o left.after ts a.1 a.0 a.2) (reads (step o a.0 left.after) a.1 b.1 b.0 b.2) (same_is b.3)
  where
    made : {us mid after to : List Token} {at : Span} {right x : Counted} → IsAdmitted r o left.after us mid at → R (step o at left.after) mid after right → Same (joined o at left right) after x to → IsOperation r R left o us to x
    made (admitted free) h same = operated free h

module _ (r : Rules) (depth : ℕ) where
  abbrev Tier : ℕ → Progress → List Token → List Token → Counted → Type 0
  Tier tier p from to c = IsExpr r depth tier p from to c.expr c.after

  no_turn : {x : Counted} → ◌≡◌ {A = Option Counted} None (Some x) → ⊥
  no_turn e = absurd cc

  some_is : {x y : Counted} {ts us : List Token} → ◌≡◌ {A = Outcome (Option Counted)} (Ok (Some x, ts)) (Ok (Some y, us)) → Same x ts y us
  some_is {x = x} {y = y} {ts = ts} {us = us} e =
      let some : ◌≡◌ {A = Option Counted} (Some x) (Some y) = value_is e in
      let found : x ≡ y = cc in
      subst (λ (z : Counted). Same x ts z us) found (subst (λ (vs : List Token). Same x ts x vs) (rest_is e) same)

  -- ---- one `^`

  power_is : (p : Progress) (reads : (q : Progress) → Answers (prim r depth q) (Tier 0 q)) (from ts rest : List Token) (left right : Counted) → Tier 0 p from ts left → power r (prim r depth) left ts ≡ Ok (right, rest) → Tier 1 p from rest right
  unfolding power
  power_is p reads from [] rest left right is h = ended (same_is h)
    where
      ended : {x : Counted} {to : List Token} → Same left [] x to → Tier 1 p from to x
      ended same = g.operand is
  power_is p reads from (t ∷ ts) rest left right is h = by_operator (operator 1 (Some t.kind)) refl h
    where
      ended : {x : Counted} {to : List Token} → Same left (t ∷ ts) x to → Tier 1 p from to x
      ended same = g.operand is

      on : {o : Operator} {x : Counted} {to : List Token} → operator 1 (Some t.kind) ≡ Some o → IsOperation r (Tier 0) left o (t ∷ ts) to x → Tier 1 p from to x
      on found (operated free i) = g.power is found free i

      by_operator : (o : Option Operator) → operator 1 (Some t.kind) ≡ o → power_by r (prim r depth) left o (t ∷ ts) ≡ Ok (right, rest) → Tier 1 p from rest right
      by_operator None found read = ended (same_is read)
      by_operator (Some o) found read = on found (operation_is r (prim r depth) (Tier 0) reads left o (t ∷ ts) rest right read)

  -- ---- tiers of operators

  turn_is : (operand : Progress → Reader Counted) (below : ℕ) (reads : (q : Progress) → Answers (operand q) (Tier (suc below) q)) (p : Progress) (from : List Token) (left right : Counted) (ts rest : List Token)
      → Tier (suc (suc below)) p from ts left → turn r operand (suc (suc below)) left ts ≡ Ok (Some right, rest) → Tier (suc (suc below)) p from rest right
  unfolding turn
  turn_is operand below reads p from left right [] rest is h = absurd (no_turn (value_is h))
  turn_is operand below reads p from left right (t ∷ ts) rest is h = by_operator (operator (suc (suc below)) (Some t.kind)) refl h
    where
      on : {o : Operator} {mid to : List Token} {x y : Counted} → operator (suc (suc below)) (Some t.kind) ≡ Some o → IsOperation r (Tier (suc below)) left o (t ∷ ts) mid x → Same x mid y to → Tier (suc (suc below)) p from to y
      on found (operated free i) same = g.operation is found free i

      by_operator : (o : Option Operator) → operator (suc (suc below)) (Some t.kind) ≡ o → turn_by r operand left o (t ∷ ts) ≡ Ok (Some right, rest) → Tier (suc (suc below)) p from rest right
      by_operator None found read = absurd (no_turn (value_is read))
      by_operator (Some o) found read =
          let b = bind_ok (operation r operand left o) (λ x. pure (Some x)) (t ∷ ts) (Some right) rest read in
          on found (operation_is r operand (Tier (suc below)) reads left o (t ∷ ts) b.1 b.0 b.2) (some_is b.3)

  tiers_is : (tier : ℕ) (reads : (q : Progress) → Answers (prim r depth q) (Tier 0 q)) (p : Progress) → Answers (tiers r tier (prim r depth) p) (Tier tier p)
  unfolding tiers
  tiers_is zero reads p = reads p
  tiers_is (suc zero) reads p = λ ts rest c h.
      let b = bind_ok (prim r depth p) (λ first. power r (prim r depth) first) ts c rest h in
      power_is p reads ts b.1 rest b.0 c (reads p ts b.1 b.0 b.2) b.3
  tiers_is (suc (suc below)) reads p = λ ts rest c h.
      let b = bind_ok (tiers r (suc below) (prim r depth) p) (λ first. repeat (turn r (tiers r (suc below) (prim r depth)) (suc (suc below))) first) ts c rest h in
      let first : Tier (suc (suc below)) p ts b.1 b.0 = g.operand (tiers_is (suc below) reads p ts b.1 b.0 b.2) in
      (kept (turn_advances r (local_expr r depth (suc below)) (suc (suc below))) (λ left us. Tier (suc (suc below)) p ts us left)
      (λ left right us vs is turned. turn_is (tiers r (suc below) (prim r depth)) below (tiers_is (suc below) reads) p ts left right us vs is turned)
      b.0 c b.1 rest first b.3).0

-- ---- operands

module _ (r : Rules) (depth : ℕ) (p : Progress) where
  group_is : (reads : (q : Progress) → Answers (prim r depth q) (Tier r depth 0 q)) (at : Span) (ts rest : List Token) (c : Counted) → group r (prim r depth) p (mark m.Open at ∷ ts) ≡ Ok (c, rest) → Tier r (suc depth) 0 p (mark m.Open at ∷ ts) rest c
  unfolding group
  group_is reads at ts rest c h =
      let b = bind_ok (tiers r 6 (prim r depth) (inside p)) (λ inner. expect m.Close >>= λ close. pure (grouped at p inner close)) ts c rest h in
      let d = bind_ok (expect m.Close) (λ close. pure (grouped at p b.0 close)) b.1 c rest b.3 in
      made (tiers_is r depth 6 reads (inside p) ts b.1 b.0 b.2) (one_is m.Close b.1 d.1 d.0 d.2) (same_is d.3)
    where
      made : {us mid after to : List Token} {inner x : Counted} {close : Span} → Tier r depth 6 (inside p) us mid inner → IsOne m.Close mid after close → Same (grouped at p inner close) after x to → Tier r (suc depth) 0 p (mark m.Open at ∷ us) to x
      made h one same = g.group h

  denial_is : (reads : (q : Progress) → Answers (prim r depth q) (Tier r depth 0 q)) (at : Span) (ts rest : List Token) (c : Counted) → denial r (prim r depth) p (mark m.Not at ∷ ts) ≡ Ok (c, rest) → Tier r (suc depth) 0 p (mark m.Not at ∷ ts) rest c
  unfolding denial
  denial_is reads at ts rest c h =
      let b = bind_ok (prim r depth p) (λ inner. pure (denied at inner)) ts c rest h in
      made (reads p ts b.1 b.0 b.2) (same_is b.3)
    where
      made : {us mid to : List Token} {inner x : Counted} → Tier r depth 0 p us mid inner → Same (denied at inner) mid x to → Tier r (suc depth) 0 p (mark m.Not at ∷ us) to x
      made h same = g.not h

module _ (r : Rules) (depth : ℕ) (p : Progress) (grouped denied : Progress → Reader Counted)
    (lg : (at : Span) (ts rest : List Token) (c : Counted) → grouped p (mark m.Open at ∷ ts) ≡ Ok (c, rest) → Tier r depth 0 p (mark m.Open at ∷ ts) rest c)
    (ld : (at : Span) (ts rest : List Token) (c : Counted) → denied p (mark m.Not at ∷ ts) ≡ Ok (c, rest) → Tier r depth 0 p (mark m.Not at ∷ ts) rest c) where
  prim_mark : (which : Mark) (at : Span) (ts rest : List Token) (c : Counted) → prim_by r grouped denied p (Some (k.Mark which)) (mark which at ∷ ts) ≡ Ok (c, rest) → Tier r depth 0 p (mark which at ∷ ts) rest c
  prim_mark m.Open at ts rest c h = lg at ts rest c h
  prim_mark m.Not at ts rest c h = ld at ts rest c h
  prim_mark which at ts rest c h = counted_is r depth p (mark which at ∷ ts) rest c h

  prim_kind : (kind : TokenKind) (at : Span) (ts rest : List Token) (c : Counted) → prim_by r grouped denied p (Some kind) (token kind at ∷ ts) ≡ Ok (c, rest) → Tier r depth 0 p (token kind at ∷ ts) rest c
  prim_kind k.Name at ts rest c h = counted_is r depth p (name_at at ∷ ts) rest c h
  prim_kind (k.Number n) at ts rest c h = counted_is r depth p (token (k.Number n) at ∷ ts) rest c h
  prim_kind (k.BitText count value) at ts rest c h = counted_is r depth p (token (k.BitText count value) at ∷ ts) rest c h
  prim_kind (k.Mark which) at ts rest c h = prim_mark which at ts rest c h

  prim_is : Answers (peek >>= prim_by r grouped denied p) (Tier r depth 0 p)
  prim_is [] rest c h = counted_is r depth p [] rest c h
  prim_is (t ∷ ts) rest c h = prim_kind t.kind t.span ts rest c h

prim_sound : (r : Rules) (depth : ℕ) (p : Progress) → Answers (prim r depth p) (Tier r depth 0 p)
unfolding prim flat nested
prim_sound r zero p = prim_is r 0 p (λ _. stops f.Nesting) (λ _. stops f.Nesting) (λ at ts rest c h. absurd cc) (λ at ts rest c h. absurd cc)
prim_sound r (suc depth) p = prim_is r (suc depth) p (group r (prim r depth)) (denial r (prim r depth)) (group_is r depth p (prim_sound r depth)) (denial_is r depth p (prim_sound r depth))

pub whole_sound : (r : Rules) → Answers (whole r) (IsWhole r)
unfolding whole
whole_sound r ts rest x h =
    let b = bind_ok (tiers r 6 (prim r (nesting r)) start) (λ c. pure c.expr) ts x rest h in
    made (tiers_is r (nesting r) 6 (prim_sound r (nesting r)) start ts b.1 b.0 b.2) (same_is b.3)
  where
    made : {us mid to : List Token} {c : Counted} {y : Expr} → Tier r (nesting r) 6 start us mid c → Same c.expr mid y to → IsWhole r us to y
    made h same = g.whole h
