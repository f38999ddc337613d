-- The range of an expression from those of its parts.
use Rattle.std.proofs.Common.{◌≡◌, refl, sym, ◌∙◌, Bool, true, false, Option, Some, None, Result, Ok, Err}
use Rattle.text_source.specs.declared.span.Span.{Span}
use Rattle.sem_expr.specs.declared.interval.Interval.{Interval}
use Rattle.sem_expr.specs.declared.fault.RangeFault.{RangeFault}
use Rattle.sem_expr.specs.declared.expr.Operator.{Operator}
use Rattle.sem_expr.specs.Values.{both}
use Rattle.sem_expr.specs.Rules.{is_limited, rule, refuses}
use Rattle.sem_expr.specs.Ranged.{limited, joined, both_ranged, above_limit, refused_power}

abbrev pub Outcome : Type 0
Outcome = Result Interval RangeFault

-- a value of two parts has both
pub record BothThere {A B : Type 0} (f : A → A → Option B) (o u : Option A) (v : B) : Type 0 where
  pub first : A
  pub second : A
  pub first_is : o ≡ Some first
  pub second_is : u ≡ Some second
  pub value_is : f first second ≡ Some v

pub both_there : {A B : Type 0} (f : A → A → Option B) (o u : Option A) (v : B) → both f o u ≡ Some v → BothThere f o u v
both_there f None u v e = absurd (cc)
both_there f (Some x) None v e = absurd (cc)
both_there f (Some x) (Some y) v e = record { first = x; second = y; first_is = refl; second_is = refl; value_is = e }

-- a range of two parts comes from both
pub record BothRanged (f : Interval → Interval → Outcome) (o u : Outcome) (k : Interval) : Type 0 where
  pub first : Interval
  pub second : Interval
  pub first_is : o ≡ Ok first
  pub second_is : u ≡ Ok second
  pub range_is : f first second ≡ Ok k

pub both_are_ranged : (f : Interval → Interval → Outcome) (o u : Outcome) (k : Interval) → both_ranged f o u ≡ Ok k → BothRanged f o u k
both_are_ranged f (Err e) u k h = absurd (cc)
both_are_ranged f (Ok i) (Err e) k h = absurd (cc)
both_are_ranged f (Ok i) (Ok j) k h = record { first = i; second = j; first_is = refl; second_is = refl; range_is = h }

-- what `limited` and `joined` give
pub record IsLimited (i k : Interval) : Type 0 where
  pub same : i ≡ k
  pub within : is_limited i ≡ true

pub limited_ok : (s : Span) (i : Interval) → is_limited i ≡ true → limited s i ≡ Ok i
limited_ok s i e = rw e refl

pub limited_err : (s : Span) (i : Interval) → is_limited i ≡ false → limited s i ≡ Err (above_limit s)
limited_err s i e = rw e refl

limited_by : (b : Bool) (s : Span) (i k : Interval) → is_limited i ≡ b → limited s i ≡ Ok k → IsLimited i k
limited_by true s i k e h = let own = limited_ok s i e in let same : i ≡ k = cc in record { same = same; within = e }
limited_by false s i k e h = let own = limited_err s i e in absurd (cc)

pub limited_is : (s : Span) (i k : Interval) → limited s i ≡ Ok k → IsLimited i k
limited_is s i k h = limited_by (is_limited i) s i k refl h

pub joined_accepted : (s : Span) (op : Operator) (i j : Interval) → refuses op i j ≡ false → joined s op i j ≡ limited s (rule op i j)
joined_accepted s op i j e = rw e refl

pub joined_ok : (s : Span) (op : Operator) (i j : Interval) → refuses op i j ≡ false → is_limited (rule op i j) ≡ true → joined s op i j ≡ Ok (rule op i j)
joined_ok s op i j e h = joined_accepted s op i j e ∙ limited_ok s (rule op i j) h

pub joined_err : (s : Span) (op : Operator) (i j : Interval) → refuses op i j ≡ false → is_limited (rule op i j) ≡ false → joined s op i j ≡ Err (above_limit s)
joined_err s op i j e h = joined_accepted s op i j e ∙ limited_err s (rule op i j) h

pub joined_refused : (s : Span) (op : Operator) (i j : Interval) → refuses op i j ≡ true → joined s op i j ≡ Err (refused_power s)
joined_refused s op i j e = rw e refl

pub record IsJoined (op : Operator) (i j k : Interval) : Type 0 where
  pub accepted : refuses op i j ≡ false
  pub range : IsLimited (rule op i j) k

joined_by : (b : Bool) (s : Span) (op : Operator) (i j k : Interval) → refuses op i j ≡ b → joined s op i j ≡ Ok k → IsJoined op i j k
joined_by true s op i j k e h = let own = joined_refused s op i j e in absurd (cc)
joined_by false s op i j k e h = record { accepted = e; range = limited_is s (rule op i j) k (sym (joined_accepted s op i j e) ∙ h) }

pub joined_is : (s : Span) (op : Operator) (i j k : Interval) → joined s op i j ≡ Ok k → IsJoined op i j k
joined_is s op i j k h = joined_by (refuses op i j) s op i j k refl h
