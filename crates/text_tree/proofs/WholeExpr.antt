-- What is an expression is read as that one.
use Rattle.std.proofs.Common.{◌≡◌, ◌==◌, ℕ, zero, suc, ◌<◌, ◌≤◌, List, ◌∷◌, Option, Some, None, Ok, Bool, true, false, refl, ◌∙◌, arith}
use denote.Enum.Bare.{true_same}
use Rattle.std.proofs.lemmas.Bool.{eqb-true, ne_eqb}
use Rattle.text_source.specs.contracts.token.Mark.{the_type}
use Rattle.text_source.specs.declared.span.Span.{Span}
use Rattle.text_source.specs.declared.token.TokenKind.{TokenKind}
use Rattle.text_source.specs.declared.token.TokenKind.TheVariants as k
use Rattle.text_source.specs.declared.token.Mark.{Mark}
use Rattle.text_source.specs.declared.token.Mark.TheVariants as m
use Rattle.text_source.specs.Kinds.{same_mark}
use Rattle.text_source.specs.declared.token.Token.{Token}
use Rattle.text_tree.specs.declared.tree.Operator.{Operator}
use Rattle.text_tree.specs.declared.tree.Expr.{Expr}
use Rattle.text_tree.specs.declared.progress.Progress.{Progress}
use Rattle.text_tree.specs.declared.expr.Counted.{Counted}
use Rattle.text_tree.specs.Operators.{operator, operator_of, in_tier, binds, step, inside}
use Rattle.text_tree.specs.Rules.{Rules, Admits}
use Rattle.text_tree.proofs.GrammarStrict as g
use Rattle.text_tree.specs.Grammar.{mark}
use Rattle.text_tree.proofs.GrammarStrict.{IsExpr, IsWhole}
use Rattle.text_tree.specs.Reading.{Reader, kind_at, is_next, expect}
use Rattle.text_tree.specs.Expr.{counted, joined, attribute, named, this, negative, leaf, admit, operation, power, tiers, operations, group, denial, flat, nested, prim, whole}
use Rattle.text_tree.proofs.Exprs.{operations_stop, operations_on, tiers_one, tiers_on}

-- the token after an expression of the tier is no dot, and no operator that would go on with it
abbrev pub Ends : ℕ → List Token → Type 0
Ends tier ts = (is_next m.Dot (kind_at ts) ≡ false) × ((at : ℕ) → at ≤ tier → operator at (kind_at ts) ≡ None)

-- the tiers below this one are read to their end; the tiers 0 and 1 are whole themselves
abbrev past : ℕ → ℕ
past zero = 0
past (suc zero) = 2
past (suc (suc below)) = suc (suc below)

abbrev EndsBelow : ℕ → List Token → Type 0
EndsBelow tier ts = (is_next m.Dot (kind_at ts) ≡ false) × ((at : ℕ) → at < past tier → operator at (kind_at ts) ≡ None)

-- an operator is of one tier
in_one : (j at : ℕ) (o : Option Operator) (found : Operator) → in_tier j o ≡ Some found → at < j → in_tier at o ≡ None
in_one j at None found h lt = refl
in_one j at (Some q) found h lt = by_test (binds q == j) refl
  where
    by_test : (b : Bool) → (binds q == j) ≡ b → in_tier at (Some q) ≡ None
    by_test true is = let same : binds q ≡ j = eqb-true (binds q) j is in let apart : (binds q == at) ≡ false = ne_eqb (binds q) at (λ e. omega arith) in rw apart refl
    by_test false is = let none = rw is at h in absurd cc

one_tier : (j at : ℕ) (next : Option TokenKind) (found : Operator) → operator j next ≡ Some found → at < j → operator at next ≡ None
one_tier j at None found h lt = refl
one_tier j at (Some k.Name) found h lt = refl
one_tier j at (Some (k.Number n)) found h lt = refl
one_tier j at (Some (k.BitText count value)) found h lt = refl
one_tier j at (Some (k.Mark which)) found h lt = in_one j at (operator_of which) found h lt

-- an operator is no dot
no_dot_mark : (j : ℕ) (which : Mark) (found : Operator) → in_tier j (operator_of which) ≡ Some found → is_next m.Dot (Some (k.Mark which)) ≡ false
unfolding same_mark
no_dot_mark j m.Dot found h = absurd cc
no_dot_mark j _ found h = refl

no_dot : (j : ℕ) (next : Option TokenKind) (found : Operator) → operator j next ≡ Some found → is_next m.Dot next ≡ false
no_dot j None found h = refl
no_dot j (Some k.Name) found h = refl
no_dot j (Some (k.Number n)) found h = refl
no_dot j (Some (k.BitText count value)) found h = refl
no_dot j (Some (k.Mark which)) found h = no_dot_mark j which found h

pub expect_token : (which : Mark) (at : Span) (ts : List Token) → expect which (mark which at ∷ ts) ≡ Ok (at, ts)
unfolding expect same_mark
expect_token which at ts = rw (true_same the_type which which refl) refl

closes : (close : Span) (ts : List Token) → EndsBelow 6 (mark m.Close close ∷ ts)
unfolding same_mark
closes close ts = (refl, λ at lt. refl)

ends_within : (tier : ℕ) (ts : List Token) → EndsBelow (suc (suc tier)) ts → EndsBelow (suc tier) ts
ends_within zero ts ends = ends
ends_within (suc tier) ts ends = (ends.0, λ at lt. ends.1 at (omega arith))

module _ (r : Rules) where
  operation_reads : (operand : Progress → Reader Counted) (c d : Counted) (o : Operator) (t : Token) (after to : List Token) → Admits r o c.after → operand (step o t.span c.after) after ≡ Ok (d, to)
      → operation r operand c o (t ∷ after) ≡ Ok (joined o t.span c d, to)
  unfolding operation admit
  operation_reads operand c d o t after to free read = rw (free.room, free.timely, free.apart, read) refl

  power_stop : (operand : Progress → Reader Counted) (c : Counted) (ts : List Token) → operator 1 (kind_at ts) ≡ None → power r operand c ts ≡ Ok (c, ts)
  unfolding power
  power_stop operand c ts h = rw h refl

  power_on : (operand : Progress → Reader Counted) (c d : Counted) (o : Operator) (ts to : List Token) → operator 1 (kind_at ts) ≡ Some o → operation r operand c o ts ≡ Ok (d, to) → power r operand c ts ≡ Ok (d, to)
  unfolding power
  power_on operand c d o ts to h read = rw (h, read) refl

  resume : ℕ → ℕ → Counted → Reader Counted
  resume depth zero c = λ ts. Ok (c, ts)
  resume depth (suc zero) c = λ ts. Ok (c, ts)
  resume depth (suc (suc below)) c = operations r (suc below) (prim r depth) c

  resume_stop : (depth tier : ℕ) (c : Counted) (ts : List Token) → operator tier (kind_at ts) ≡ None → resume depth tier c ts ≡ Ok (c, ts)
  unfolding resume
  resume_stop depth zero c ts h = refl
  resume_stop depth (suc zero) c ts h = refl
  resume_stop depth (suc (suc below)) c ts h = operations_stop r depth (suc below) c ts h

  resumes : {depth tier : ℕ} {p q : Progress} {from to : List Token} {x : Expr} → IsExpr r depth tier p from to x q → EndsBelow tier to → tiers r tier (prim r depth) p from ≡ resume depth tier (counted q x) to
  unfolding resume tiers prim flat nested leaf named this attribute negative group denial same_mark
  resumes {depth = zero} g.number ends = refl
  resumes {depth = suc depth} g.number ends = refl
  resumes {depth = zero} g.negative ends = refl
  resumes {depth = suc depth} g.negative ends = refl
  resumes {depth = zero} g.truth ends = refl
  resumes {depth = suc depth} g.truth ends = refl
  resumes {depth = zero} g.falsehood ends = refl
  resumes {depth = suc depth} g.falsehood ends = refl
  resumes {depth = zero} g.name ends = rw ends.0 refl
  resumes {depth = suc depth} g.name ends = rw ends.0 refl
  resumes {depth = zero} (g.attribute is) ends = rw is refl
  resumes {depth = suc depth} (g.attribute is) ends = rw is refl
  resumes {depth = zero} (g.this {dot = dot} {last = last} {word = word} {to = to} is) ends = rw (expect_token m.Dot dot (mark word last ∷ to), is) refl
  resumes {depth = suc depth} (g.this {dot = dot} {last = last} {word = word} {to = to} is) ends = rw (expect_token m.Dot dot (mark word last ∷ to), is) refl
  resumes (g.group {depth = depth} {p = p} {q = q} {sign = sign} {close = close} {inner = inner} {to = to} {x = x} h) ends =
      let inner_is : tiers r 6 (prim r depth) (inside p) inner ≡ Ok (counted q x, mark m.Close close ∷ to) =
      resumes h (closes close to) ∙ resume_stop depth 6 (counted q x) (mark m.Close close ∷ to) refl in
      rw (inner_is, expect_token m.Close close to) refl
  resumes (g.not {depth = depth} {p = p} {q = q} {sign = sign} {inner = inner} {to = to} {x = x} h) ends =
      let behind : prim r depth p inner ≡ Ok (counted q x, to) = resumes h ends in
      rw behind refl
  resumes (g.operand {depth = depth} {tier = zero} {p = p} {q = q} {from = from} {to = to} {x = x} h) ends =
      let first : prim r depth p from ≡ Ok (counted q x, to) = resumes h (ends.0, λ at lt. absurd (omega arith)) in
      tiers_one r depth p from to (counted q x) first ∙ power_stop (prim r depth) (counted q x) to (ends.1 1 (omega arith))
  resumes (g.operand {depth = depth} {tier = suc tier} {p = p} {q = q} {from = from} {to = to} {x = x} h) ends =
      tiers_on r depth tier p from to (counted q x) (resumes h (ends_within tier to ends) ∙ resume_stop depth (suc tier) (counted q x) to (ends.1 (suc tier) (omega arith)))
  resumes (g.power {depth = depth} {p = p} {q = q} {s = s} {from = from} {after = after} {to = to} {t = t} {o = o} {x = x} {y = y} h is free i) ends =
      let first : prim r depth p from ≡ Ok (counted q x, t ∷ after) = resumes h (no_dot 1 (Some t.kind) o is, λ at lt. absurd (omega arith)) in
      let second : prim r depth (step o t.span q) after ≡ Ok (counted s y, to) = resumes i (ends.0, λ at lt. absurd (omega arith)) in
      tiers_one r depth p from (t ∷ after) (counted q x) first
      ∙ power_on (prim r depth) (counted q x) (joined o t.span (counted q x) (counted s y)) o (t ∷ after) to is (operation_reads (prim r depth) (counted q x) (counted s y) o t after to free second)
  resumes (g.operation {depth = depth} {tier = tier} {p = p} {q = q} {s = s} {from = from} {after = after} {to = to} {t = t} {o = o} {x = x} {y = y} h is free i) ends =
      let second : tiers r (suc tier) (prim r depth) (step o t.span q) after ≡ Ok (counted s y, to) =
      resumes i (ends_within tier to ends) ∙ resume_stop depth (suc tier) (counted s y) to (ends.1 (suc tier) (omega arith)) in
      resumes h (no_dot (suc (suc tier)) (Some t.kind) o is, λ at lt. one_tier (suc (suc tier)) at (Some t.kind) o is lt)
      ∙ operations_on r depth (suc tier) (counted q x) (t ∷ after) o to (joined o t.span (counted q x) (counted s y)) is (operation_reads (tiers r (suc tier) (prim r depth)) (counted q x) (counted s y) o t after to free second)

  pub expr_whole : {depth : ℕ} {p q : Progress} {from to : List Token} {x : Expr} → IsExpr r depth 6 p from to x q → Ends 6 to → tiers r 6 (prim r depth) p from ≡ Ok (counted q x, to)
  unfolding resume
  expr_whole {depth = depth} {q = q} {to = to} {x = x} h ends = resumes h (ends.0, λ at lt. ends.1 at (omega arith)) ∙ resume_stop depth 6 (counted q x) to (ends.1 6 (omega arith))

  pub whole_reads : {from to : List Token} {x : Expr} → IsWhole r from to x → Ends 6 to → whole r from ≡ Ok (x, to)
  unfolding whole
  whole_reads (g.whole h) ends = rw (expr_whole h ends) refl
