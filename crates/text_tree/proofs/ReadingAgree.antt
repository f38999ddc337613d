-- What is read under every rule is read so under fewer, but for the faults of the rules left out.
use Rattle.std.proofs.Common.{◌≡◌, ◌&&◌, nat_le, ℕ, zero, suc, ◌+◌, ◌<◌, ◌⊎◌, inl, inr, List, length, Option, Some, None, Ok, Err, Bool, true, false, refl, sym, ap, subst, arith}
use Rattle.text_source.specs.declared.fault.FaultKind.{FaultKind}
use Rattle.text_source.specs.declared.fault.FaultKind.TheVariants as f
use Rattle.text_source.specs.declared.token.TokenKind.{TokenKind}
use Rattle.text_source.specs.declared.token.TokenKind.TheVariants as k
use Rattle.text_source.specs.declared.token.Mark.{Mark}
use Rattle.text_source.specs.declared.token.Mark.TheVariants as m
use Rattle.text_source.specs.declared.token.Token.{Token}
use Rattle.text_tree.specs.declared.tree.Operator.{Operator}
use Rattle.text_tree.specs.declared.progress.Sum.{Sum}
use Rattle.text_tree.specs.declared.progress.Sum.TheVariants as sums
use Rattle.text_tree.specs.declared.progress.Progress.{Progress}
use Rattle.text_tree.specs.declared.expr.Counted.{Counted}
use Rattle.text_tree.specs.Operators.{operator, is_late, follows, step, start, inside}
use Rattle.text_tree.specs.Rules.{Rules, all, nesting, most_operators}
use Rattle.text_tree.specs.Reading.{Outcome, Reader, and_then, ◌>>=◌, pure, stops, stops_at, refuse, peek, take, either, onward, repeat}
use Rattle.text_tree.specs.Expr.{joined, denied, mixed, admit, operation, turn_by, turn, power_by, power, tiers, group, denial, prim_by, flat, nested, prim, whole}
use Rattle.text_tree.proofs.ReadingLocal.{IsLocal, Advances, unroll}
use Rattle.text_tree.proofs.Exprs.{turn_advances, local_tiers, local_prim}

-- The rule that the fault speaks of counts.
abbrev pub Counts : FaultKind → Rules → Type 0
Counts f.Unexpected r = Unit {0}
Counts f.EmptyBracket r = Unit {0}
Counts f.Nesting r = r.deeper ≡ 0
Counts f.RepeatedSection r = r.repeats ≡ true
Counts f.MixedRemainder r = r.sums ≡ true
Counts f.TooManyParts r = r.counts ≡ true
Counts _ r = ⊥

-- a fault of a rule that doesn't count
abbrev pub Off : {A : Type 0} → Rules → Outcome A → Type 0
Off r (Ok a) = ⊥
Off r (Err e) = Counts e.kind r → ⊥

-- p answers what q does, or a fault of a rule that doesn't count
pub record Agree {A : Type 0} (r : Rules) (p q : Reader A) : Type 0 where
  pub same : (ts : List Token) → (p ts ≡ q ts) ⊎ Off r (p ts)

module _ {r : Rules} where
  pub agree_same : {A : Type 0} {p : Reader A} → Agree r p p
  agree_same = record { same = λ ts. inl refl }

  bind_at : {A B : Type 0} (g h : A → Reader B) → ((x : A) → Agree r (g x) (h x)) → (o u : Outcome A) → (o ≡ u) ⊎ Off r o → (and_then o g ≡ and_then u h) ⊎ Off r (and_then o g)
  bind_at g h l (Ok a) u (inl e) = subst (λ (v : Outcome _). (g a.0 a.1 ≡ and_then v h) ⊎ Off r (g a.0 a.1)) e ((l a.0).same a.1)
  bind_at g h l (Err d) u (inl e) = inl (ap (λ (v : Outcome _). and_then v h) e)
  bind_at g h l (Ok a) u (inr off) = absurd off
  bind_at g h l (Err d) u (inr off) = inr off

  pub agree_bind : {A B : Type 0} {p q : Reader A} {g h : A → Reader B} → Agree r p q → ((x : A) → Agree r (g x) (h x)) → Agree r (p >>= g) (q >>= h)
  agree_bind {p = p} {q = q} {g = g} {h = h} a l = record { same = λ ts. bind_at g h l (p ts) (q ts) (a.same ts) }

  -- the first reader is the same
  pub agree_then : {A B : Type 0} (p : Reader A) {g h : A → Reader B} → ((x : A) → Agree r (g x) (h x)) → Agree r (p >>= g) (p >>= h)
  agree_then p l = agree_bind agree_same l

  pub agree_map : {A B : Type 0} (make : A → B) {p q : Reader A} → Agree r p q → Agree r (p >>= λ x. pure (make x)) (q >>= λ x. pure (make x))
  agree_map make a = agree_bind a (λ x. agree_same)

  pub agree_either : {A : Type 0} (b : Bool) {p q s t : Reader A} → Agree r p q → Agree r s t → Agree r (either b p s) (either b q t)
  agree_either true a c = a
  agree_either false a c = c

  -- a test that a rule makes
  pub agree_test : {A : Type 0} (flag : Bool) (test : Bool → Bool) (fault : Reader A) {p q : Reader A} → test false ≡ false
      → (test true ≡ true → flag ≡ false → (ts : List Token) → Off r (fault ts)) → Agree r p q → Agree r (either (test true) fault p) (either (test flag) fault q)
  agree_test true test fault none off a = agree_either (test true) agree_same a
  agree_test {A = A} false test fault {p = p} {q = q} none off a = subst (λ (b : Bool). Agree r (either (test true) fault p) (either b fault q)) (sym none) (by_test (test true) refl)
    where
      by_test : (b : Bool) → test true ≡ b → Agree r (either b fault p) q
      by_test true is = record { same = λ ts. inr (off is refl ts) }
      by_test false is = a

  -- ---- a step again and again

  module _ {S : Type 0} {sp sq : S → Reader (Option S)} (ap_ : Advances sp) (aq : Advances sq) (l : (s : S) → Agree r (sp s) (sq s)) where
    onward_at : (s : S) (ts : List Token) → ((t : S) (rest : List Token) → sp s ts ≡ Ok (Some t, rest) → (repeat sp t rest ≡ repeat sq t rest) ⊎ Off r (repeat sp t rest))
        → (o u : Outcome (Option S)) → sp s ts ≡ o → (o ≡ u) ⊎ Off r o → (and_then o (onward (repeat sp) s) ≡ and_then u (onward (repeat sq) s)) ⊎ Off r (and_then o (onward (repeat sp) s))
    onward_at s ts next (Ok (None, rest)) u is (inl e) = inl (ap (λ (v : Outcome (Option S)). and_then v (onward (repeat sq) s)) e)
    onward_at s ts next (Ok (Some t, rest)) u is (inl e) = subst (λ (v : Outcome (Option S)). (repeat sp t rest ≡ and_then v (onward (repeat sq) s)) ⊎ Off r (repeat sp t rest)) e (next t rest is)
    onward_at s ts next (Err d) u is (inl e) = inl (ap (λ (v : Outcome (Option S)). and_then v (onward (repeat sq) s)) e)
    onward_at s ts next (Ok a) u is (inr off) = absurd off
    onward_at s ts next (Err d) u is (inr off) = inr off

    repeat_at : (n : ℕ) (s : S) (ts : List Token) → length ts < n → (repeat sp s ts ≡ repeat sq s ts) ⊎ Off r (repeat sp s ts)
    repeat_at zero s ts h = absurd (omega arith)
    repeat_at (suc n) s ts h =
        rw (unroll ap_ s ts, unroll aq s ts)
        (onward_at s ts (λ t rest e. let less = ap_.shorter s t ts rest e in repeat_at n t rest (omega arith)) (sp s ts) (sq s ts) refl ((l s).same ts))

    pub agree_repeat : (s : S) → Agree r (repeat sp s) (repeat sq s)
    agree_repeat s = record { same = λ ts. repeat_at (suc (length ts)) s ts (omega arith) }

-- ---- expressions

module _ (r : Rules) where
  agree_follow : (o : Operator) (sum : Sum) → Agree r (either (true && follows o sum) (mixed sum) take) (either (r.sums && follows o sum) (mixed sum) take)
  agree_follow o sums.Empty = agree_test r.sums (λ b. b && false) refuse refl (λ is _ ts. absurd cc) agree_same
  agree_follow o sums.Plain = agree_test r.sums (λ b. b && false) refuse refl (λ is _ ts. absurd cc) agree_same
  agree_follow o (sums.Percent first) = agree_test r.sums (λ b. b && follows o (sums.Percent first)) (stops_at f.MixedRemainder first) refl (λ _ is ts h. absurd cc) agree_same

  agree_admit : (o : Operator) (q : Progress) → Agree r (admit all o q) (admit r o q)
  unfolding admit
  agree_admit o q =
      agree_test r.counts (λ b. b && nat_le most_operators q.operators) (stops f.TooManyParts) refl (λ _ is ts h. absurd cc)
      (agree_test r.sums (λ b. b && is_late o q.sum) (stops f.MixedRemainder) refl (λ _ is ts h. absurd cc) (agree_follow o q.sum))

  module _ {x y : Progress → Reader Counted} (lx : (p : Progress) → IsLocal (x p)) (ly : (p : Progress) → IsLocal (y p)) (a : (p : Progress) → Agree r (x p) (y p)) where
    agree_operation : (left : Counted) (o : Operator) → Agree r (operation all x left o) (operation r y left o)
    unfolding operation
    agree_operation left o = agree_bind (agree_admit o left.after) (λ at. agree_map (λ right. joined o at left right) (a (step o at left.after)))

    agree_power_by : (left : Counted) (o : Option Operator) → Agree r (power_by all x left o) (power_by r y left o)
    agree_power_by left None = agree_same
    agree_power_by left (Some o) = agree_operation left o

    agree_power : (left : Counted) → Agree r (power all x left) (power r y left)
    unfolding power
    agree_power left = agree_then peek (λ next. agree_power_by left (operator 1 next))

    agree_turn_by : (left : Counted) (o : Option Operator) → Agree r (turn_by all x left o) (turn_by r y left o)
    agree_turn_by left None = agree_same
    agree_turn_by left (Some o) = agree_map (λ c. Some c) (agree_operation left o)

    agree_turn : (tier : ℕ) (left : Counted) → Agree r (turn all x tier left) (turn r y tier left)
    unfolding turn
    agree_turn tier left = agree_then peek (λ next. agree_turn_by left (operator tier next))

  agree_tiers : {x y : Progress → Reader Counted} (lx : (p : Progress) → IsLocal (x p)) (ly : (p : Progress) → IsLocal (y p)) (a : (p : Progress) → Agree r (x p) (y p)) (tier : ℕ) (p : Progress)
      → Agree r (tiers all tier x p) (tiers r tier y p)
  unfolding tiers
  agree_tiers lx ly a zero p = a p
  agree_tiers lx ly a (suc zero) p = agree_bind (a p) (agree_power lx ly a)
  agree_tiers lx ly a (suc (suc below)) p =
      agree_bind (agree_tiers lx ly a (suc below) p)
      (agree_repeat (turn_advances all (local_tiers all lx (suc below)) (suc (suc below))) (turn_advances r (local_tiers r ly (suc below)) (suc (suc below)))
      (agree_turn (local_tiers all lx (suc below)) (local_tiers r ly (suc below)) (agree_tiers lx ly a (suc below)) (suc (suc below))))

  agree_prim_mark : {gx gy dx dy : Progress → Reader Counted} (ag : (p : Progress) → Agree r (gx p) (gy p)) (ad : (p : Progress) → Agree r (dx p) (dy p)) (p : Progress) (which : Mark)
      → Agree r (prim_by all gx dx p (Some (k.Mark which))) (prim_by r gy dy p (Some (k.Mark which)))
  agree_prim_mark ag ad p m.Open = ag p
  agree_prim_mark ag ad p m.Not = ad p
  agree_prim_mark ag ad p _ = agree_same

  agree_prim_by : {gx gy dx dy : Progress → Reader Counted} (ag : (p : Progress) → Agree r (gx p) (gy p)) (ad : (p : Progress) → Agree r (dx p) (dy p)) (p : Progress) (next : Option TokenKind)
      → Agree r (prim_by all gx dx p next) (prim_by r gy dy p next)
  agree_prim_by ag ad p (Some (k.Mark which)) = agree_prim_mark ag ad p which
  agree_prim_by ag ad p (Some k.Name) = agree_same
  agree_prim_by ag ad p (Some (k.Number n)) = agree_same
  agree_prim_by ag ad p (Some (k.BitText count value)) = agree_same
  agree_prim_by ag ad p None = agree_same

  too_deep : (e : ℕ) → suc e ≡ 0 + r.deeper → (q : Reader Counted) → Agree r (stops f.Nesting) q
  too_deep e h q = record { same = λ ts. inr (λ flat. absurd (omega arith)) }

  agree_group : {x y : Progress → Reader Counted} (lx : (p : Progress) → IsLocal (x p)) (ly : (p : Progress) → IsLocal (y p)) (a : (p : Progress) → Agree r (x p) (y p)) (p : Progress) → Agree r (group all x p) (group r y p)
  unfolding group
  agree_group lx ly a p = agree_then take (λ sign. agree_bind (agree_tiers lx ly a 6 (inside p)) (λ c. agree_same))

  agree_denial : {x y : Progress → Reader Counted} (a : (p : Progress) → Agree r (x p) (y p)) (p : Progress) → Agree r (denial all x p) (denial r y p)
  unfolding denial
  agree_denial a p = agree_then take (λ sign. agree_map (λ c. denied sign c) (a p))

  agree_flat : (p : Progress) → Agree r (flat all p) (flat r p)
  unfolding flat
  agree_flat p = agree_then peek (agree_prim_by {gx = λ _. stops f.Nesting} {gy = λ _. stops f.Nesting} {dx = λ _. stops f.Nesting} {dy = λ _. stops f.Nesting} (λ q. agree_same) (λ q. agree_same) p)

  agree_deeper : (e : ℕ) → suc e ≡ 0 + r.deeper → (p : Progress) → Agree r (flat all p) (nested r (prim r e) p)
  unfolding flat nested
  agree_deeper e h p = agree_then peek (agree_prim_by {gx = λ _. stops f.Nesting} {gy = group r (prim r e)} {dx = λ _. stops f.Nesting} {dy = denial r (prim r e)}
      (λ q. too_deep e h (group r (prim r e) q)) (λ q. too_deep e h (denial r (prim r e) q)) p)

  agree_nested : {x y : Progress → Reader Counted} (lx : (p : Progress) → IsLocal (x p)) (ly : (p : Progress) → IsLocal (y p)) (a : (p : Progress) → Agree r (x p) (y p)) (p : Progress) → Agree r (nested all x p) (nested r y p)
  unfolding nested
  agree_nested {x = x} {y = y} lx ly a p = agree_then peek (agree_prim_by {gx = group all x} {gy = group r y} {dx = denial all x} {dy = denial r y} (agree_group lx ly a) (agree_denial a) p)

  agree_prim : (d e : ℕ) → e ≡ d + r.deeper → (p : Progress) → Agree r (prim all d p) (prim r e p)
  unfolding prim
  agree_prim zero zero h p = agree_flat p
  agree_prim zero (suc e) h p = agree_deeper e h p
  agree_prim (suc d) zero h p = absurd (omega arith)
  agree_prim (suc d) (suc e) h p = agree_nested (local_prim all d) (local_prim r e) (agree_prim d e (omega arith)) p

  pub agree_whole : Agree r (whole all) (whole r)
  unfolding whole
  agree_whole = agree_map (λ c. c.expr) (agree_tiers (local_prim all (nesting all)) (local_prim r (nesting r)) (agree_prim (nesting all) (nesting r) (omega arith)) 6 start)
