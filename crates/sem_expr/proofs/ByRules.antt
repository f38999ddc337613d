-- The range that an expression has, and its fault, are those of the rules.
use Rattle.std.proofs.Common.{◌≡◌, refl, ◌∙◌, subst, ap, Bool, true, false, Ok, Err}
use Rattle.text_source.specs.declared.span.Span.{Span}
use Rattle.sem_expr.specs.declared.interval.Interval.{Interval}
use Rattle.sem_expr.specs.declared.fault.RangeFault.{RangeFault}
use Rattle.sem_expr.specs.declared.expr.Operator.{Operator}
use Rattle.sem_expr.specs.declared.expr.Expr.{Expr}
use Rattle.sem_expr.specs.declared.expr.Expr.TheVariants as expr
use Rattle.sem_expr.specs.declared.expr.Expr.TheVariants.{Number, Parameter, Binary'}
use Rattle.sem_expr.specs.Rules.{from_to, is_limited, rule, refuses}
use Rattle.sem_expr.specs.Ranged.{Bounding, ranged, limited, joined, both_ranged, above_limit, refused_power}
use Rattle.sem_expr.specs.Laws.{HasRange, number_range, parameter_range, attribute_range, operator_range}
use Rattle.sem_expr.specs.Laws.{HasFault, number_fault, parameter_fault, attribute_fault, left_fault, right_fault, power_fault, limit_fault}
use Rattle.sem_expr.proofs.RulesParts.{Outcome, both_are_ranged, limited_is, limited_ok, limited_err, joined_is, joined_ok, joined_err, joined_refused}

leaf_fault : (b : Bool) (s : Span) (i : Interval) (f : RangeFault) → is_limited i ≡ b → limited s i ≡ Err f → (is_limited i ≡ false) × (above_limit s ≡ f)
leaf_fault true s i f e h = let own = limited_ok s i e in absurd (cc)
leaf_fault false s i f e h = let own = limited_err s i e in let same : above_limit s ≡ f = cc in (e, same)

module _ (r : Bounding) where
  pub has_range : (e : Expr) (i : Interval) → ranged r e ≡ Ok i → HasRange r e i
  has_range (Number s n) i h =
      let l = limited_is s (from_to n n) i h in subst (HasRange r (Number s n)) l.same (number_range s n l.within)
  has_range (Parameter s k) i h =
      let l = limited_is s (r.parameter k) i h in subst (HasRange r (Parameter s k)) l.same (parameter_range s k l.within)
  has_range (expr.Attribute s t) i h =
      let l = limited_is s (r.attribute t) i h in subst (HasRange r (expr.Attribute s t)) l.same (attribute_range s t l.within)
  has_range (Binary' s op p x q y) i h =
      let b = both_are_ranged (joined s op) (ranged r x) (ranged r y) i h in
      let j = joined_is s op b.first b.second i b.range_is in
      subst (HasRange r (Binary' s op p x q y)) j.range.same
      (operator_range b.first b.second (has_range x b.first b.first_is) (has_range y b.second b.second_is) j.accepted j.range.within)

  pub range_of : (e : Expr) (i : Interval) → HasRange r e i → ranged r e ≡ Ok i
  range_of _ _ (number_range s n l) = limited_ok s (from_to n n) l
  range_of _ _ (parameter_range s k l) = limited_ok s (r.parameter k) l
  range_of _ _ (attribute_range s t l) = limited_ok s (r.attribute t) l
  range_of _ _ (operator_range {s} {op} {p} {x} {q} {y} i j f g a l) =
      (λ t. both_ranged (joined s op) (range_of x i f t) (range_of y j g t)) ∙ joined_ok s op i j a l

  joined_fault : (s : Span) (op : Operator) (p : _) (x : Expr) (q : _) (y : Expr) (i j : Interval) (b c : Bool) (f : RangeFault) →
      HasRange r x i → HasRange r y j → refuses op i j ≡ b → is_limited (rule op i j) ≡ c → joined s op i j ≡ Err f → HasFault r (Binary' s op p x q y) f
  joined_fault s op p x q y i j true c f g h e l k =
      let own = joined_refused s op i j e in
      let same : refused_power s ≡ f = cc in
      subst (HasFault r (Binary' s op p x q y)) same (power_fault i j g h e)
  joined_fault s op p x q y i j false true f g h e l k = let own = joined_ok s op i j e l in absurd (cc)
  joined_fault s op p x q y i j false false f g h e l k =
      let own = joined_err s op i j e l in
      let same : above_limit s ≡ f = cc in
      subst (HasFault r (Binary' s op p x q y)) same (limit_fault i j g h e l)

  both_fault : (s : Span) (op : Operator) (p : _) (x : Expr) (q : _) (y : Expr) (o u : Outcome) (f : RangeFault) → ranged r x ≡ o → ranged r y ≡ u →
      ((g : RangeFault) → ranged r x ≡ Err g → HasFault r x g) → ((g : RangeFault) → ranged r y ≡ Err g → HasFault r y g) →
      both_ranged (joined s op) o u ≡ Err f → HasFault r (Binary' s op p x q y) f
  both_fault s op p x q y (Err g) u f d e left right h =
      let same : g ≡ f = cc in subst (HasFault r (Binary' s op p x q y)) same (left_fault (left g d))
  both_fault s op p x q y (Ok i) (Err g) f d e left right h =
      let same : g ≡ f = cc in subst (HasFault r (Binary' s op p x q y)) same (right_fault i (has_range x i d) (right g e))
  both_fault s op p x q y (Ok i) (Ok j) f d e left right h =
      joined_fault s op p x q y i j (refuses op i j) (is_limited (rule op i j)) f (has_range x i d) (has_range y j e) refl refl h

  pub has_fault : (e : Expr) (f : RangeFault) → ranged r e ≡ Err f → HasFault r e f
  has_fault (Number s n) f h =
      let l = leaf_fault (is_limited (from_to n n)) s (from_to n n) f refl h in subst (HasFault r (Number s n)) l.1 (number_fault s n l.0)
  has_fault (Parameter s k) f h =
      let l = leaf_fault (is_limited (r.parameter k)) s (r.parameter k) f refl h in subst (HasFault r (Parameter s k)) l.1 (parameter_fault s k l.0)
  has_fault (expr.Attribute s t) f h =
      let l = leaf_fault (is_limited (r.attribute t)) s (r.attribute t) f refl h in subst (HasFault r (expr.Attribute s t)) l.1 (attribute_fault s t l.0)
  has_fault (Binary' s op p x q y) f h =
      both_fault s op p x q y (ranged r x) (ranged r y) f refl refl (has_fault x) (has_fault y) h

  pub fault_of : (e : Expr) (f : RangeFault) → HasFault r e f → ranged r e ≡ Err f
  fault_of _ _ (number_fault s n l) = limited_err s (from_to n n) l
  fault_of _ _ (parameter_fault s k l) = limited_err s (r.parameter k) l
  fault_of _ _ (attribute_fault s t l) = limited_err s (r.attribute t) l
  fault_of _ _ (left_fault {s} {op} {p} {x} {q} {y} {f} h) = ap (λ o. both_ranged (joined s op) o (ranged r y)) (fault_of x f h)
  fault_of _ _ (right_fault {s} {op} {p} {x} {q} {y} {f} i g h) =
      λ t. both_ranged (joined s op) (range_of x i g t) (fault_of y f h t)
  fault_of _ _ (power_fault {s} {op} {p} {x} {q} {y} i j f g a) =
      (λ t. both_ranged (joined s op) (range_of x i f t) (range_of y j g t)) ∙ joined_refused s op i j a
  fault_of _ _ (limit_fault {s} {op} {p} {x} {q} {y} i j f g a l) =
      (λ t. both_ranged (joined s op) (range_of x i f t) (range_of y j g t)) ∙ joined_err s op i j a l
