-- Where an expression is refused, some tokens end it; and where a `%` stands that is refused beside another operator.
use Rattle.std.proofs.Common.{◌≡◌, ◌==◌, inl, inr, ◌&&◌, ◌||◌, ℕ, zero, suc, List, [], ◌∷◌, ◌++◌, Option, Some, None, Ok, Err, Bool, true, false, refl, sym, ap, subst, ◌∙◌, append_assoc}
use Rattle.std.proofs.lemmas.List.{append-nil}
use Rattle.text_source.specs.declared.span.Span.{Span}
use Rattle.text_source.specs.declared.fault.FaultKind.TheVariants as f
use Rattle.text_source.specs.declared.token.TokenKind.{TokenKind}
use Rattle.text_source.specs.declared.token.TokenKind.TheVariants as k
use Rattle.text_source.specs.declared.token.Mark.{Mark}
use Rattle.text_source.specs.declared.token.Mark.TheVariants as m
use Rattle.text_source.specs.declared.token.Token.{Token}
use Rattle.text_tree.specs.declared.refusal.FaultPlace.TheVariants.{At}
use Rattle.text_tree.specs.declared.tree.Operator.{Operator}
use Rattle.text_tree.specs.declared.tree.Operator.TheVariants as op
use Rattle.text_tree.specs.declared.tree.Attribute.{Attribute}
use Rattle.text_tree.specs.declared.tree.Attribute.TheVariants as attributes
use Rattle.text_tree.specs.declared.tree.Owner.{Owner}
use Rattle.text_tree.specs.declared.tree.Owner.TheVariants as owners
use Rattle.text_tree.specs.declared.tree.Expr.{Expr}
use Rattle.text_tree.specs.declared.tree.Expr.TheVariants as e
use Rattle.text_tree.specs.declared.progress.Sum.{Sum}
use Rattle.text_tree.specs.declared.progress.Sum.TheVariants as sums
use Rattle.text_tree.specs.declared.progress.Progress.{Progress}
use Rattle.text_tree.specs.declared.expr.Counted.{Counted}
use Rattle.text_tree.specs.Spans.{cover, span_of}
use Rattle.text_tree.specs.Operators.{operator, operator_of, in_tier, binds, is_integer, is_late, follows, after, step, start, inside}
use Rattle.text_tree.specs.Rules.{all, is_full, nesting, most_operators}
use Rattle.text_tree.specs.Grammar as g
use Rattle.text_tree.specs.Grammar.{IsExpr, IsWhole, mark, name_at, number_at, attribute_of, join}
use Rattle.text_tree.specs.Refused.{Stands, IsOperand, EndsIn, LastOperator, is_plain, is_remainder, follows_name}
use Rattle.text_tree.specs.Reading.{Outcome, Reader, ◌>>=◌, pure, kind_at, stops, take, either, repeat}
use Rattle.text_tree.specs.Expr.{counted, joined, grouped, denied, mixed, attribute_as, attribute_by, attribute, named, this, negative_by, negative, leaf_by, leaf, admit, operation, turn_by, turn, power_by, power, tiers, group, denial, prim_by, flat, nested, prim, whole}
use Rattle.text_tree.proofs.ReadingLocal.{IsLocal}
use Rattle.text_tree.proofs.Exprs.{turn_advances, local_tiers, local_prim}
use Rattle.text_tree.proofs.ReadingBegun.{Relation, Begun, After, Sees, Reads, Any, AnyOf, IsToken, it, nowhere, sees_bind, reads_bind, reads_pure, reads_map, reads_as, sees_refuse, sees_stops, sees_stops_at, sees_peek, reads_peek, sees_take_as, sees_taken, reads_mark, reads_expect, reads_repeat, Turn, Turned}

-- ---- what has no other expression in it

-- the word after the dot
data IsWord (at : Span) (owner : Owner) : List Token → List Token → Expr → Type 0 where
  word : {w : Mark} {last : Span} {which : Attribute} {to : List Token} → attribute_of w ≡ Some which → IsWord at owner (mark w last ∷ to) to (e.Attribute (cover at last) owner which)

word_is : {at last : Span} {owner : Owner} {w : Mark} {which : Attribute} {start to : List Token} → attribute_of w ≡ Some which → IsToken (k.Mark w) start to last
    → IsWord at owner start to (e.Attribute (cover at last) owner which)
word_is is it = word is

begun_word : (at : Span) (owner : Owner) → Begun (IsWord at owner) []
begun_word at owner = record { more = mark m.Uvalue nowhere ∷ []; value = e.Attribute (cover at nowhere) owner attributes.Uvalue; spans = λ to. word refl }

sees_attribute_as : (at : Span) (owner : Owner) (w : Mark) (last : Span) (first ts : List Token) (o : Option Attribute) → attribute_of w ≡ o
    → Sees first (IsWord at owner) AnyOf (attribute_as at owner o) (mark w last ∷ ts) (attribute_as at owner o (mark w last ∷ ts))
sees_attribute_as at owner w last first ts (Some which) is =
    sees_taken (k.Mark w) last first ts (λ sign. reads_pure (e.Attribute (cover at sign) owner which) (λ us start h. word_is is h) (λ us pre. tt))
sees_attribute_as at owner w last first ts None is = sees_refuse first (mark w last ∷ ts) (begun_word at owner)

sees_attribute_by : (at : Span) (owner : Owner) (kind : TokenKind) (sign : Span) (first ts : List Token)
    → Sees first (IsWord at owner) AnyOf (attribute_by at owner (Some kind)) (record { kind = kind; span = sign } ∷ ts) (attribute_by at owner (Some kind) (record { kind = kind; span = sign } ∷ ts))
sees_attribute_by at owner (k.Mark w) sign first ts = sees_attribute_as at owner w sign first ts (attribute_of w) refl
sees_attribute_by at owner k.Name sign first ts = sees_refuse first (name_at sign ∷ ts) (begun_word at owner)
sees_attribute_by at owner (k.Number n) sign first ts = sees_refuse first (number_at n sign ∷ ts) (begun_word at owner)
sees_attribute_by at owner (k.BitText count value) sign first ts = sees_refuse first (record { kind = k.BitText count value; span = sign } ∷ ts) (begun_word at owner)

attribute_sees : (at : Span) (owner : Owner) (first ts : List Token) → Sees first (IsWord at owner) AnyOf (attribute_by at owner (kind_at ts)) ts (attribute_by at owner (kind_at ts) ts)
attribute_sees at owner first [] = sees_refuse first [] (begun_word at owner)
attribute_sees at owner first (t ∷ ts) = sees_attribute_by at owner t.kind t.span first ts

reads_attribute : (at : Span) (owner : Owner) → Reads Any (IsWord at owner) AnyOf (attribute at owner)
unfolding attribute
reads_attribute at owner = reads_peek (attribute_by at owner) (begun_word at owner) (λ first ts pre. attribute_sees at owner first ts)

named_is : {at dot : Span} {x : Expr} {one two from to : List Token} → IsToken k.Name one two at → IsToken (k.Mark m.Dot) two from dot → IsWord at (owners.Field at) from to x → IsExpr 0 one to x
named_is it it (word is) = g.attribute is

name_is : {at : Span} {from to : List Token} → IsToken k.Name from to at → IsExpr 0 from to (e.Name at)
name_is it = g.name

sees_named : (at : Span) (first ts : List Token) → Sees first (IsExpr 0) AnyOf named (name_at at ∷ ts) (named (name_at at ∷ ts))
unfolding named
sees_named at first ts =
    sees_taken k.Name at first ts (λ sign. reads_mark m.Dot
    (λ dot. reads_as (λ x from to h two dot_is one first_is. named_is first_is dot_is h) (λ x us h. tt) (λ us pre. tt) (reads_attribute sign (owners.Field sign)))
    (reads_pure (e.Name sign) (λ us start h. name_is h) (λ us pre. tt)))

this_is : {at dot : Span} {x : Expr} {one two from to : List Token} → IsToken (k.Mark m.This) one two at → IsToken (k.Mark m.Dot) two from dot → IsWord at owners.This from to x → IsExpr 0 one to x
this_is it it (word is) = g.this is

sees_this : (at : Span) (first ts : List Token) → Sees first (IsExpr 0) AnyOf this (mark m.This at ∷ ts) (this (mark m.This at ∷ ts))
unfolding this
sees_this at first ts =
    sees_taken (k.Mark m.This) at first ts (λ sign. reads_bind (reads_expect m.Dot)
    (λ dot. reads_as (λ x from to h two dot_is one first_is. this_is first_is dot_is h) (λ x us h. tt) (λ us pre. tt) (reads_attribute sign owners.This)))

negative_is : {sign at : Span} {n : ℕ} {one two to : List Token} → IsToken (k.Mark m.Minus) one two sign → IsToken (k.Number n) two to at → IsExpr 0 one to (e.Negative (cover sign at) n)
negative_is it it = g.negative

minus_is : {sign : Span} {start to : List Token} → IsToken (k.Mark m.Minus) start (number_at 0 nowhere ∷ to) sign → IsExpr 0 start to (e.Negative (cover sign nowhere) 0)
minus_is h = negative_is h it

begun_minus : (sign : Span) → Begun (After (IsToken (k.Mark m.Minus)) (IsExpr 0) sign) []
begun_minus sign = record { more = number_at 0 nowhere ∷ []; value = e.Negative (cover sign nowhere) 0; spans = λ to start h. minus_is h }

sees_negative_by : (sign : Span) (kind : TokenKind) (at : Span) (first ts : List Token)
    → Sees first (After (IsToken (k.Mark m.Minus)) (IsExpr 0) sign) AnyOf (negative_by sign (Some kind)) (record { kind = kind; span = at } ∷ ts) (negative_by sign (Some kind) (record { kind = kind; span = at } ∷ ts))
sees_negative_by sign (k.Number n) at first ts =
    sees_taken (k.Number n) at first ts (λ last. reads_pure (e.Negative (cover sign last) n) (λ us two second one first_is. negative_is first_is second) (λ us pre. tt))
sees_negative_by sign (k.Mark w) at first ts = sees_refuse first (mark w at ∷ ts) (begun_minus sign)
sees_negative_by sign k.Name at first ts = sees_refuse first (name_at at ∷ ts) (begun_minus sign)
sees_negative_by sign (k.BitText count value) at first ts = sees_refuse first (record { kind = k.BitText count value; span = at } ∷ ts) (begun_minus sign)

negative_sees : (sign : Span) (first ts : List Token) → Sees first (After (IsToken (k.Mark m.Minus)) (IsExpr 0) sign) AnyOf (negative_by sign (kind_at ts)) ts (negative_by sign (kind_at ts) ts)
negative_sees sign first [] = sees_refuse first [] (begun_minus sign)
negative_sees sign first (t ∷ ts) = sees_negative_by sign t.kind t.span first ts

sees_negative : (at : Span) (first ts : List Token) → Sees first (IsExpr 0) AnyOf negative (mark m.Minus at ∷ ts) (negative (mark m.Minus at ∷ ts))
unfolding negative
sees_negative at first ts = sees_taken (k.Mark m.Minus) at first ts (λ sign. reads_peek (negative_by sign) (begun_minus sign) (λ front us pre. negative_sees sign front us))

begun_operand : Begun (IsExpr 0) []
begun_operand = record { more = number_at 0 nowhere ∷ []; value = e.Number nowhere 0; spans = λ to. g.number }

number_is : {n : ℕ} {at : Span} {from to : List Token} → IsToken (k.Number n) from to at → IsExpr 0 from to (e.Number at n)
number_is it = g.number

true_is : {at : Span} {from to : List Token} → IsToken (k.Mark m.True) from to at → IsExpr 0 from to (e.Truth at true)
true_is it = g.truth

false_is : {at : Span} {from to : List Token} → IsToken (k.Mark m.False) from to at → IsExpr 0 from to (e.Truth at false)
false_is it = g.falsehood

sees_leaf_mark : (w : Mark) (at : Span) (first ts : List Token) → Sees first (IsExpr 0) AnyOf (leaf_by (Some (k.Mark w))) (mark w at ∷ ts) (leaf_by (Some (k.Mark w)) (mark w at ∷ ts))
sees_leaf_mark m.Minus at first ts = sees_negative at first ts
sees_leaf_mark m.True at first ts = sees_taken (k.Mark m.True) at first ts (λ sign. reads_pure (e.Truth sign true) (λ us start h. true_is h) (λ us pre. tt))
sees_leaf_mark m.False at first ts = sees_taken (k.Mark m.False) at first ts (λ sign. reads_pure (e.Truth sign false) (λ us start h. false_is h) (λ us pre. tt))
sees_leaf_mark m.This at first ts = sees_this at first ts
sees_leaf_mark w at first ts = sees_refuse first (mark w at ∷ ts) begun_operand

sees_leaf_by : (kind : TokenKind) (at : Span) (first ts : List Token)
    → Sees first (IsExpr 0) AnyOf (leaf_by (Some kind)) (record { kind = kind; span = at } ∷ ts) (leaf_by (Some kind) (record { kind = kind; span = at } ∷ ts))
sees_leaf_by k.Name at first ts = sees_named at first ts
sees_leaf_by (k.Number n) at first ts = sees_taken (k.Number n) at first ts (λ sign. reads_pure (e.Number sign n) (λ us start h. number_is h) (λ us pre. tt))
sees_leaf_by (k.Mark w) at first ts = sees_leaf_mark w at first ts
sees_leaf_by (k.BitText count value) at first ts = sees_refuse first (record { kind = k.BitText count value; span = at } ∷ ts) begun_operand

leaf_sees : (first ts : List Token) → Sees first (IsExpr 0) AnyOf (leaf_by (kind_at ts)) ts (leaf_by (kind_at ts) ts)
leaf_sees first [] = sees_refuse first [] begun_operand
leaf_sees first (t ∷ ts) = sees_leaf_by t.kind t.span first ts

pub reads_leaf : Reads Any (IsExpr 0) AnyOf leaf
unfolding leaf
reads_leaf = reads_peek leaf_by begun_operand (λ first ts pre. leaf_sees first ts)

-- ---- operators

abbrev E : ℕ → Relation Counted
E tier from to c = IsExpr tier from to c.expr

-- the operator in front of the next operand, as far as the sum tells of it
abbrev Before : Sum → List Token → Type 0
Before sums.Empty tokens = Unit {0}
Before sums.Plain tokens = (which : Mark) × (at : Span) × (is_plain which ≡ true) × EndsIn which at tokens
Before (sums.Percent at) tokens = EndsIn m.Remainder at tokens

-- the last operand, and that operator in front of it
record Behind (sum : Sum) (tokens : List Token) : Type 0 where
  start : List Token
  right : List Token
  parts : tokens ≡ start ++ right
  operand : IsOperand right
  before : Before sum start

ends_in : (which : Mark) (at : Span) (sum : Sum) (tokens : List Token) → Behind sum tokens → EndsIn which at (tokens ++ mark which at ∷ [])
ends_in which at sum tokens b = record {
  start = b.start;
  left = b.right;
  parts = ap (λ (us : List Token). us ++ mark which at ∷ []) b.parts ∙ append_assoc b.start b.right (mark which at ∷ []);
  operand = b.operand;
}

remainder_of : (which : Mark) → operator_of which ≡ Some op.Remainder → which ≡ m.Remainder
remainder_of m.Remainder h = refl
remainder_of _ h = absurd cc

abbrev integer_of : Option Operator → Bool
integer_of (Some o) = is_integer o
integer_of None = false

integer_mark : (which : Mark) → integer_of (operator_of which) ≡ true → (is_plain which || is_remainder which) ≡ true
integer_mark m.Power h = refl
integer_mark m.Times h = refl
integer_mark m.Divide h = refl
integer_mark m.Remainder h = refl
integer_mark m.Plus h = refl
integer_mark m.Minus h = refl
integer_mark _ h = absurd cc

-- no operator follows the NAME of a part
no_part : (which : Mark) (o : Operator) → operator_of which ≡ Some o → follows_name which ≡ false
no_part m.Is o h = absurd cc
no_part m.Open o h = absurd cc
no_part m.OpenBrace o h = absurd cc
no_part _ o h = refl

integer_is : (which : Mark) (o : Operator) → operator_of which ≡ Some o → is_integer o ≡ true → (is_plain which || is_remainder which) ≡ true
integer_is which o is integer = integer_mark which (ap integer_of is ∙ integer)

plain_is : (which : Mark) (o : Operator) → operator_of which ≡ Some o → is_integer o ≡ true → (o ≡ op.Remainder → ⊥) → is_plain which ≡ true
plain_is m.Power o is integer other = refl
plain_is m.Times o is integer other = refl
plain_is m.Divide o is integer other = refl
plain_is m.Plus o is integer other = refl
plain_is m.Minus o is integer other = refl
plain_is m.Remainder o is integer other = absurd (other (cc))
plain_is which o is integer other = let bad = ap integer_of is ∙ integer in absurd cc

before_after : (o : Operator) (which : Mark) (at : Span) (sum : Sum) (tokens : List Token) → operator_of which ≡ Some o → is_late o sum ≡ false → follows o sum ≡ false → Behind sum tokens
    → Before (after o at sum) (tokens ++ mark which at ∷ [])
before_after op.Remainder which at sums.Empty tokens is late apart b = subst (λ (w : Mark). EndsIn m.Remainder at (tokens ++ mark w at ∷ [])) (sym (remainder_of which is)) (ends_in m.Remainder at sums.Empty tokens b)
before_after op.Remainder which at sums.Plain tokens is late apart b = absurd cc
before_after op.Remainder which at (sums.Percent sign) tokens is late apart b = absurd cc
before_after op.Power which at (sums.Percent sign) tokens is late apart b = absurd cc
before_after op.Times which at (sums.Percent sign) tokens is late apart b = absurd cc
before_after op.Divide which at (sums.Percent sign) tokens is late apart b = absurd cc
before_after op.Plus which at (sums.Percent sign) tokens is late apart b = absurd cc
before_after op.Minus which at (sums.Percent sign) tokens is late apart b = absurd cc
before_after op.Power which at sums.Empty tokens is late apart b = (which, at, plain_is which op.Power is refl (λ h. absurd cc), ends_in which at sums.Empty tokens b)
before_after op.Times which at sums.Empty tokens is late apart b = (which, at, plain_is which op.Times is refl (λ h. absurd cc), ends_in which at sums.Empty tokens b)
before_after op.Divide which at sums.Empty tokens is late apart b = (which, at, plain_is which op.Divide is refl (λ h. absurd cc), ends_in which at sums.Empty tokens b)
before_after op.Plus which at sums.Empty tokens is late apart b = (which, at, plain_is which op.Plus is refl (λ h. absurd cc), ends_in which at sums.Empty tokens b)
before_after op.Minus which at sums.Empty tokens is late apart b = (which, at, plain_is which op.Minus is refl (λ h. absurd cc), ends_in which at sums.Empty tokens b)
before_after op.Power which at sums.Plain tokens is late apart b = (which, at, plain_is which op.Power is refl (λ h. absurd cc), ends_in which at sums.Plain tokens b)
before_after op.Times which at sums.Plain tokens is late apart b = (which, at, plain_is which op.Times is refl (λ h. absurd cc), ends_in which at sums.Plain tokens b)
before_after op.Divide which at sums.Plain tokens is late apart b = (which, at, plain_is which op.Divide is refl (λ h. absurd cc), ends_in which at sums.Plain tokens b)
before_after op.Plus which at sums.Plain tokens is late apart b = (which, at, plain_is which op.Plus is refl (λ h. absurd cc), ends_in which at sums.Plain tokens b)
before_after op.Minus which at sums.Plain tokens is late apart b = (which, at, plain_is which op.Minus is refl (λ h. absurd cc), ends_in which at sums.Plain tokens b)
before_after _ which at sum tokens is late apart b = tt

last_operator : (which : Mark) (at : Span) (sum : Sum) (tokens : List Token) (b : Behind sum tokens) → EndsIn which at b.start → LastOperator which at (tokens ++ [])
last_operator which at sum tokens b ends = record { start = b.start; right = b.right; parts = append-nil tokens ∙ b.parts; operand = b.operand; operator = ends }

begun_mark : (which : Mark) (at : Span) → Begun (IsToken (k.Mark which)) (mark which at ∷ [])
begun_mark which at = record { more = []; value = at; spans = λ to. it }

late_stands : (o : Operator) (which : Mark) (at : Span) (sum : Sum) (first ts : List Token) → operator_of which ≡ Some o → is_late o sum ≡ true → Behind sum first → Stands f.MixedRemainder (At at) (first ++ []) (mark which at ∷ ts)
late_stands op.Remainder which at sums.Plain first ts is late b =
    inr (b.before.0, b.before.1, refl, last_operator b.before.0 b.before.1 sums.Plain first b b.before.3, b.before.2, ap is_remainder (remainder_of which is))
late_stands op.Remainder which at sums.Empty first ts is late b = absurd cc
late_stands op.Remainder which at (sums.Percent sign) first ts is late b = absurd cc
late_stands _ which at sum first ts is late b = absurd cc

follow_stands : (o : Operator) (which : Mark) (at sign : Span) (first ts : List Token) → operator_of which ≡ Some o → is_integer o ≡ true → Behind (sums.Percent sign) first → Stands f.MixedRemainder (At sign) (first ++ []) (mark which at ∷ ts)
follow_stands o which at sign first ts is integer b = inl (sign, refl, last_operator m.Remainder sign (sums.Percent sign) first b b.before, integer_is which o is integer)

module _ (o : Operator) (which : Mark) (at : Span) (is : operator_of which ≡ Some o) (first ts : List Token) where
  abbrev Admits : Sum → Reader Span → Type 0
  Admits sum p = Sees first (IsToken (k.Mark which)) (λ sign tokens. Before (after o sign sum) tokens) p (mark which at ∷ ts) (p (mark which at ∷ ts))

  sees_follow : (sum : Sum) → Behind sum first → is_late o sum ≡ false → Admits sum (either (true && follows o sum) (mixed sum) take)
  sees_follow sums.Empty b late = sees_take_as (k.Mark which) at first ts (before_after o which at sums.Empty first is late refl b)
  sees_follow sums.Plain b late = sees_take_as (k.Mark which) at first ts (before_after o which at sums.Plain first is late refl b)
  sees_follow (sums.Percent sign) b late = by_test (is_integer o) refl
    where
      by_test : (t : Bool) → is_integer o ≡ t → Admits (sums.Percent sign) (either (true && t) (mixed (sums.Percent sign)) take)
      by_test true integer = sees_stops_at f.MixedRemainder sign first (mark which at ∷ ts) (follow_stands o which at sign first ts is integer b) (begun_mark which at)
      by_test false other = sees_take_as (k.Mark which) at first ts (before_after o which at (sums.Percent sign) first is late other b)

  sees_late : (sum : Sum) → Behind sum first → Admits sum (either (true && is_late o sum) (stops f.MixedRemainder) (either (true && follows o sum) (mixed sum) take))
  sees_late sum b = by_test (is_late o sum) refl
    where
      by_test : (t : Bool) → is_late o sum ≡ t → Admits sum (either (true && t) (stops f.MixedRemainder) (either (true && follows o sum) (mixed sum) take))
      by_test true late = sees_stops f.MixedRemainder first (mark which at) ts (late_stands o which at sum first ts is late b) (begun_mark which at)
      by_test false late = sees_follow sum b late

  sees_admit : (p : Progress) → Behind p.sum first → Admits p.sum (admit all o p)
  unfolding admit
  sees_admit p b = by_test (is_full all most_operators p.operators)
    where
      by_test : (t : Bool) → Admits p.sum (either t (stops f.TooManyParts) (either (true && is_late o p.sum) (stops f.MixedRemainder) (either (true && follows o p.sum) (mixed p.sum) take)))
      by_test true = sees_stops f.TooManyParts first (mark which at) ts (inl (refl, tt, inl (no_part which o is))) (begun_mark which at)
      by_test false = sees_late p.sum b

abbrev BehindOf : Counted → List Token → Type 0
BehindOf c tokens = Behind c.after.sum tokens

-- what reads operands of the tier, or expressions of it
abbrev Reading : ℕ → (Progress → Reader Counted) → Type 0
Reading tier prim = (p : Progress) → Reads (Before p.sum) (E tier) BehindOf (prim p)

abbrev Going : ℕ → ℕ → Counted → Relation Counted
Going low high left = After (E low) (E high) left

joins : (low high tier : ℕ) (which : Mark) (o : Operator) (left right : Counted)
    → ((one two three : List Token) (sign : Span) (x y : Expr) → IsExpr low one (mark which sign ∷ two) x → IsExpr high two three y → IsExpr tier one three (join o sign x y))
    → {one two three : List Token} {sign : Span} → IsToken (k.Mark which) one two sign → E high two three right → (start : List Token) → E low start one left → E tier start three (joined o sign left right)
joins low high tier which o left right rule {one = one} {two = two} {three = three} {sign = sign} it h start j = rule start two three sign left.expr right.expr j h

module _ (low high tier : ℕ) {operand : Progress → Reader Counted} (reads : Reading high operand) where
  sees_operation : (left : Counted) (o : Operator) (which : Mark) (at : Span) (first ts : List Token) → operator_of which ≡ Some o
      → ((one two three : List Token) (sign : Span) (x y : Expr) → IsExpr low one (mark which sign ∷ two) x → IsExpr high two three y → IsExpr tier one three (join o sign x y)) → BehindOf left first
      → Sees first (Going low tier left) BehindOf (operation all operand left o) (mark which at ∷ ts) (operation all operand left o (mark which at ∷ ts))
  unfolding operation
  sees_operation left o which at first ts is rule b =
      sees_bind first (admit all o left.after) (λ sign. operand (step o sign left.after) >>= λ right. pure (joined o sign left right)) (mark which at ∷ ts) (admit all o left.after (mark which at ∷ ts))
      (sees_admit o which at is first ts left.after b)
      (λ sign. reads_map (joined o sign left) (reads (step o sign left.after)) (λ right two three h one token start j. joins low high tier which o left right rule token h start j) (λ right us h. h))

in_tier_is : (tier : ℕ) (o : Option Operator) (found : Operator) → in_tier tier o ≡ Some found → o ≡ Some found
in_tier_is tier None found h = absurd cc
in_tier_is tier (Some q) found h = by_test (binds q == tier) refl
  where
    by_test : (t : Bool) → (binds q == tier) ≡ t → ◌≡◌ {A = Option Operator} (Some q) (Some found)
    by_test true is = let shown = rw is at h in cc
    by_test false is = let shown = rw is at h in absurd cc

-- by the operator that the next token is
module _ {B : Type 0} {X : Relation B} {Post : B → List Token → Type 0} (tier : ℕ) (next : Option Operator → Reader B) (first : List Token)
    (none : (ts : List Token) → Sees first X Post (next None) ts (next None ts))
    (some : (o : Operator) (which : Mark) (at : Span) (us : List Token) → operator tier (Some (k.Mark which)) ≡ Some o → Sees first X Post (next (Some o)) (mark which at ∷ us) (next (Some o) (mark which at ∷ us))) where
  sees_found : (which : Mark) (at : Span) (us : List Token) (o : Option Operator) → operator tier (Some (k.Mark which)) ≡ o → Sees first X Post (next o) (mark which at ∷ us) (next o (mark which at ∷ us))
  sees_found which at us None is = none (mark which at ∷ us)
  sees_found which at us (Some o) is = some o which at us is

  sees_kind : (kind : TokenKind) (at : Span) (us : List Token)
      → Sees first X Post (next (operator tier (Some kind))) (record { kind = kind; span = at } ∷ us) (next (operator tier (Some kind)) (record { kind = kind; span = at } ∷ us))
  sees_kind (k.Mark which) at us = sees_found which at us (operator tier (Some (k.Mark which))) refl
  sees_kind k.Name at us = none (name_at at ∷ us)
  sees_kind (k.Number n) at us = none (number_at n at ∷ us)
  sees_kind (k.BitText count value) at us = none (record { kind = k.BitText count value; span = at } ∷ us)

  sees_operator : (ts : List Token) → Sees first X Post (next (operator tier (kind_at ts))) ts (next (operator tier (kind_at ts)) ts)
  sees_operator [] = none []
  sees_operator (t ∷ ts) = sees_kind t.kind t.span ts

module _ {operand : Progress → Reader Counted} (reads : Reading 0 operand) where
  power_none : (left : Counted) (first ts : List Token) → BehindOf left first → Sees first (Going 0 1 left) BehindOf (pure left) ts (Ok (left, ts))
  power_none left first ts b = (reads_pure {Pre = BehindOf left} {X = Going 0 1 left} {Post = BehindOf} left (λ us start h. g.operand h) (λ us h. h)).sees first ts b

  reads_power : (left : Counted) → Reads (BehindOf left) (Going 0 1 left) BehindOf (power all operand left)
  unfolding power
  reads_power left = reads_peek (λ next. power_by all operand left (operator 1 next)) (record { more = []; value = left; spans = λ to start h. g.operand h })
      (λ first ts b. sees_operator 1 (power_by all operand left) first (λ us. power_none left first us b)
      (λ o which at us is. sees_operation 0 0 1 reads left o which at first us (in_tier_is 1 (operator_of which) o is) (λ one two three sign x y h j. g.power h is j) b) ts)

module _ (b : ℕ) {operand : Progress → Reader Counted} (reads : Reading (suc b) operand) (l : (p : Progress) → IsLocal (operand p)) where
  abbrev Goes : Counted → Relation Counted
  Goes = Going (suc (suc b)) (suc (suc b))

  goes_here : (s : Counted) (ts : List Token) → Goes s ts ts s
  goes_here s ts from h = h

  abbrev Turning : Counted → Relation (Option Counted)
  Turning = Turn (turn_advances all l (suc (suc b))) Goes BehindOf goes_here

  abbrev TurnedBehind : Counted → Option Counted → List Token → Type 0
  TurnedBehind = Turned (turn_advances all l (suc (suc b))) Goes BehindOf goes_here

  turn_none : (left : Counted) (first ts : List Token) → BehindOf left first → Sees first (Turning left) (TurnedBehind left) (pure None) ts (Ok (None, ts))
  turn_none left first ts h = (reads_pure {Pre = BehindOf left} {X = Turning left} {Post = TurnedBehind left} None (λ us. refl) (λ us j. j)).sees first ts h

  sees_turn : (left : Counted) (first ts : List Token) → BehindOf left first → Sees first (Turning left) (TurnedBehind left) (turn all operand (suc (suc b)) left) ts (turn all operand (suc (suc b)) left ts)
  unfolding turn
  sees_turn left first ts h =
      sees_peek first (λ next. turn_by all operand left (operator (suc (suc b)) next)) ts
      (sees_operator (suc (suc b)) (turn_by all operand left) first (λ us. turn_none left first us h)
      (λ o which at us is. sees_bind first (operation all operand left o) (λ c. pure (Some c)) (mark which at ∷ us) (operation all operand left o (mark which at ∷ us))
      (sees_operation (suc (suc b)) (suc b) (suc (suc b)) reads left o which at first us (in_tier_is (suc (suc b)) (operator_of which) o is) (λ one two three sign x y p q. g.operation p is q) h)
      (λ c. reads_pure (Some c) (λ vs start done end u on s j. on s (done s j)) (λ vs j. j))) ts)

  reads_turns : (left : Counted) → Reads (BehindOf left) (Goes left) BehindOf (repeat (turn all operand (suc (suc b))) left)
  reads_turns left = reads_repeat (turn_advances all l (suc (suc b))) Goes BehindOf goes_here sees_turn left

reads_tiers : {operand : Progress → Reader Counted} → Reading 0 operand → ((p : Progress) → IsLocal (operand p)) → (tier : ℕ) → Reading tier (tiers all tier operand)
unfolding tiers
reads_tiers reads l zero p = reads p
reads_tiers reads l (suc zero) p = reads_bind (reads p) (λ left. reads_power reads left)
reads_tiers reads l (suc (suc b)) p =
    reads_bind (reads_tiers reads l (suc b) p)
    (λ left. reads_as (λ u from to h start j. h start (g.operand j)) (λ u us h. h) (λ us pre. pre) (reads_turns b (reads_tiers reads l (suc b)) (local_tiers all l (suc b)) left))

-- ---- round brackets and `!`

abbrev Same : Progress → Counted → List Token → Type 0
Same p c tokens = c.after.sum ≡ p.sum

pub up_six : {from to : List Token} {x : Expr} → IsExpr 0 from to x → IsWhole from to x
up_six h = g.operand (g.operand (g.operand (g.operand (g.operand (g.operand h)))))

group_is : {sign close : Span} {x : Expr} {one two three to : List Token} → IsToken (k.Mark m.Close) three to close → IsExpr 6 two three x → IsToken (k.Mark m.Open) one two sign
    → IsExpr 0 one to (e.Group (cover sign close) x)
group_is it h it = g.group h

not_is : {sign : Span} {x : Expr} {one two to : List Token} → IsToken (k.Mark m.Not) one two sign → IsExpr 0 two to x → IsExpr 0 one to (e.Not (cover sign (span_of x)) x)
not_is it h = g.not h

reads_counted : (p : Progress) → Reads Any (E 0) (Same p) (leaf >>= λ x. pure (counted p x))
reads_counted p = reads_map (counted p) reads_leaf (λ x from to h. h) (λ x ts h. refl)

begun_counted : (p : Progress) → Begun (E 0) []
begun_counted p = (reads_counted p).some

-- an operand is the last one, with the operator in front of it
behind_prim : {prim : Progress → Reader Counted} → ((p : Progress) → Reads Any (E 0) (Same p) (prim p)) → Reading 0 prim
behind_prim {prim = prim} reads p = record { sees = λ first ts before. sees_behind first ts (prim p ts) before ((reads p).sees first ts tt); some = (reads p).some }
  where
    sees_behind : (first ts : List Token) (r : Outcome Counted) → Before p.sum first → Sees first (E 0) (Same p) (prim p) ts r → Sees first (E 0) BehindOf (prim p) ts r
    sees_behind first ts (Ok c) before s = record {
      taken = s.taken;
      rest = s.rest;
      parts = s.parts;
      whatever = s.whatever;
      right = (s.right.0, s.right.1, record { start = first; right = s.taken; parts = refl; operand = (c.0.expr, s.right.1); before = subst (λ (u : Sum). Before u first) (sym s.right.2) before });
    }
    sees_behind first ts (Err e) before s = record { taken = s.taken; rest = s.rest; parts = s.parts; whatever = s.whatever; right = s.right }

-- what begins with `(` or `!`, and else has no other expression in it
module _ (p : Progress) (bracketed denial_of : Progress → Reader Counted) (first : List Token)
    (open_sees : (at : Span) (ts : List Token) → Sees first (E 0) (Same p) (bracketed p) (mark m.Open at ∷ ts) (bracketed p (mark m.Open at ∷ ts)))
    (not_sees : (at : Span) (ts : List Token) → Sees first (E 0) (Same p) (denial_of p) (mark m.Not at ∷ ts) (denial_of p (mark m.Not at ∷ ts))) where
  prim_mark : (which : Mark) (at : Span) (ts : List Token) → Sees first (E 0) (Same p) (prim_by all bracketed denial_of p (Some (k.Mark which))) (mark which at ∷ ts) (prim_by all bracketed denial_of p (Some (k.Mark which)) (mark which at ∷ ts))
  prim_mark m.Open at ts = open_sees at ts
  prim_mark m.Not at ts = not_sees at ts
  prim_mark which at ts = (reads_counted p).sees first (mark which at ∷ ts) tt

  prim_kind : (kind : TokenKind) (at : Span) (ts : List Token)
      → Sees first (E 0) (Same p) (prim_by all bracketed denial_of p (Some kind)) (record { kind = kind; span = at } ∷ ts) (prim_by all bracketed denial_of p (Some kind) (record { kind = kind; span = at } ∷ ts))
  prim_kind (k.Mark which) at ts = prim_mark which at ts
  prim_kind k.Name at ts = (reads_counted p).sees first (name_at at ∷ ts) tt
  prim_kind (k.Number n) at ts = (reads_counted p).sees first (number_at n at ∷ ts) tt
  prim_kind (k.BitText count value) at ts = (reads_counted p).sees first (record { kind = k.BitText count value; span = at } ∷ ts) tt

  prim_sees : (ts : List Token) → Sees first (E 0) (Same p) (prim_by all bracketed denial_of p (kind_at ts)) ts (prim_by all bracketed denial_of p (kind_at ts) ts)
  prim_sees [] = (reads_counted p).sees first [] tt
  prim_sees (t ∷ ts) = prim_kind t.kind t.span ts

begun_open : (at : Span) (p : Progress) → Begun (E 0) (mark m.Open at ∷ [])
begun_open at p = record {
  more = number_at 0 nowhere ∷ mark m.Close nowhere ∷ [];
  value = counted p (e.Group (cover at nowhere) (e.Number nowhere 0));
  spans = λ to. g.group (up_six g.number);
}

begun_not : (at : Span) (p : Progress) → Begun (E 0) (mark m.Not at ∷ [])
begun_not at p = record { more = number_at 0 nowhere ∷ []; value = counted p (e.Not (cover at (span_of (e.Number nowhere 0))) (e.Number nowhere 0)); spans = λ to. g.not g.number }

sees_group : {prim : Progress → Reader Counted} → Reading 0 prim → ((p : Progress) → IsLocal (prim p)) → (p : Progress) (at : Span) (first ts : List Token)
    → Sees first (E 0) (Same p) (group all prim p) (mark m.Open at ∷ ts) (group all prim p (mark m.Open at ∷ ts))
unfolding group
sees_group reads l p at first ts =
    sees_taken (k.Mark m.Open) at first ts (λ sign. reads_bind (reads_as (λ x from to h. h) (λ x us h. h) (λ us pre. tt) (reads_tiers reads l 6 (inside p)))
    (λ inner. reads_bind (reads_expect m.Close) (λ close. reads_pure (grouped sign p inner close) (λ us three shut two h one opened. group_is shut h opened) (λ us pre. refl))))

sees_denial : {prim : Progress → Reader Counted} → ((p : Progress) → Reads Any (E 0) (Same p) (prim p)) → (p : Progress) (at : Span) (first ts : List Token)
    → Sees first (E 0) (Same p) (denial all prim p) (mark m.Not at ∷ ts) (denial all prim p (mark m.Not at ∷ ts))
unfolding denial
sees_denial reads p at first ts =
    sees_taken (k.Mark m.Not) at first ts (λ sign. reads_map (denied sign) (reads_as (λ x from to h. h) (λ x us h. h) (λ us pre. tt) (reads p)) (λ inner from to h start sign_is. not_is sign_is h) (λ inner us h. h))

reads_prim : (depth : ℕ) (p : Progress) → Reads Any (E 0) (Same p) (prim all depth p)
unfolding prim flat nested
reads_prim zero p = reads_peek (prim_by all (λ _. stops f.Nesting) (λ _. stops f.Nesting) p) (begun_counted p)
    (λ first ts pre. prim_sees p (λ _. stops f.Nesting) (λ _. stops f.Nesting) first
    (λ at us. sees_stops f.Nesting first (mark m.Open at) us (refl, refl) (begun_open at p)) (λ at us. sees_stops f.Nesting first (mark m.Not at) us (refl, refl) (begun_not at p)) ts)
reads_prim (suc depth) p = reads_peek (prim_by all (group all (prim all depth)) (denial all (prim all depth)) p) (begun_counted p)
    (λ first ts pre. prim_sees p (group all (prim all depth)) (denial all (prim all depth)) first
    (λ at us. sees_group (behind_prim (reads_prim depth)) (local_prim all depth) p at first us) (λ at us. sees_denial (reads_prim depth) p at first us) ts)

pub reads_whole : Reads Any IsWhole AnyOf (whole all)
unfolding whole
reads_whole = reads_map (λ c. c.expr) (reads_tiers (behind_prim (reads_prim (nesting all))) (local_prim all (nesting all)) 6 start) (λ c from to h. h) (λ c ts h. tt)
