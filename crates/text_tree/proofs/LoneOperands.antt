-- A whole expression of one token.
use Rattle.std.proofs.Common.{◌≡◌, Bool, List, [], ◌∷◌, Some, None, Ok, true, false, refl, ap, sym, ◌∙◌, if◌then◌else◌}
use Rattle.text_source.specs.declared.span.Span.{Span}
use Rattle.text_source.specs.declared.token.TokenKind.{TokenKind}
use Rattle.text_source.specs.declared.token.TokenKind.TheVariants as k
use Rattle.text_source.specs.declared.token.Mark.TheVariants as m
use Rattle.text_source.specs.declared.token.Token.{Token}
use Rattle.text_source.specs.Kinds.{same_mark}
use Rattle.text_tree.specs.declared.tree.Expr.{Expr}
use Rattle.text_tree.specs.declared.tree.Expr.TheVariants as e
use Rattle.text_tree.specs.declared.tree.Owner.TheVariants as owners
use Rattle.text_tree.specs.declared.expr.Counted.{Counted}
use Rattle.text_tree.specs.Operators.{operator_within, start}
use Rattle.text_tree.specs.Rules.{all}
use Rattle.text_tree.specs.Reading.{Outcome, and_then, ◌>>◌, pure, take, either, is_next, kind_at, ends, lone}
use Rattle.text_tree.specs.Expr.{counted, attribute, named, leaf, climb, nested, prim, whole}
use Rattle.text_tree.proofs.Exprs.{climb_all, loop_stops, tiers_climb}

-- no operator ends an expression, and no dot
no_operator : (kind : TokenKind) → ends kind ≡ true → operator_within 1 6 (Some kind) ≡ None
no_operator (k.Mark m.Comma) h = refl
no_operator (k.Mark m.Close) h = refl
no_operator (k.Mark m.CloseSquare) h = refl
no_operator (k.Mark m.Semicolon) h = refl
no_operator _ h = absurd (cc)

no_dot : (kind : TokenKind) → ends kind ≡ true → is_next m.Dot (Some kind) ≡ false
unfolding same_mark
no_dot (k.Mark m.Comma) h = refl
no_dot (k.Mark m.Close) h = refl
no_dot (k.Mark m.CloseSquare) h = refl
no_dot (k.Mark m.Semicolon) h = refl
no_dot _ h = absurd (cc)

-- an operand alone, where no operator follows
module _ (t : Token) (ts : List Token) (x : Expr) (none : operator_within 1 6 (kind_at ts) ≡ None) (first : nested all (prim all 63) start (t ∷ ts) ≡ Ok (counted start x, ts)) where
  alone : whole all (t ∷ ts) ≡ Ok (x, ts)
  unfolding whole prim
  alone =
      let ends_here : climb all 6 (prim all 64) (counted start x) ts ≡ Ok (counted start x, ts) = sym (climb_all all 64 6 (counted start x) ts) ∙ loop_stops all 64 6 1 (counted start x) ts none in
      ap (λ (o : Outcome Counted). and_then o (λ c. pure c.expr)) (tiers_climb all 64 6 start (t ∷ ts) ts (counted start x) first ∙ ends_here)

number_first : (n : _) (at : Span) (ts : List Token) → nested all (prim all 63) start (record { kind = k.Number n; span = at } ∷ ts) ≡ Ok (counted start (e.Number at n), ts)
unfolding nested leaf
number_first n at ts = refl

name_first : (at : Span) (ts : List Token) → is_next m.Dot (kind_at ts) ≡ false → nested all (prim all 63) start (record { kind = k.Name; span = at } ∷ ts) ≡ Ok (counted start (e.Name at), ts)
unfolding nested leaf named
name_first at ts h = ap (λ (b : Bool). and_then (either b (take >> attribute at (owners.Field at)) (pure (e.Name at)) ts) (λ y. pure (counted start y))) h

chosen : (b : Bool) (one other : TokenKind) → (if b then Some one else None) ≡ Some other → (b ≡ true) × (one ≡ other)
chosen true one other h = (refl, cc)
chosen false one other h = absurd (cc)

pub lone_number : (n : _) (ts rest : List Token) (at : Span) → lone ts ≡ Some (k.Number n) → take ts ≡ Ok (at, rest) → whole all ts ≡ Ok (e.Number at n, rest)
lone_number n [] rest at h read = absurd (cc)
lone_number n (t ∷ []) rest at h read = absurd (cc)
lone_number n (t ∷ u ∷ us) rest at h read =
    let c = chosen (ends u.kind) t.kind (k.Number n) h in
    let here : t ≡ record { kind = k.Number n; span = t.span } = ap (λ (kind : TokenKind). record { kind = kind; span = t.span }) c.1 in
    let given : Span × List Token = (t.span, u ∷ us) in
    let found : Span × List Token = (at, rest) in
    let pair : given ≡ found = cc in
    let is_at : t.span ≡ at = ap (λ p. p.0) pair in
    let is_rest : u ∷ us ≡ rest = ap (λ p. p.1) pair in
    rw (← is_at, ← is_rest, here) (alone (record { kind = k.Number n; span = t.span }) (u ∷ us) (e.Number t.span n) (no_operator u.kind c.0) (number_first n t.span (u ∷ us)))

pub lone_name : (ts rest : List Token) (at : Span) → lone ts ≡ Some k.Name → take ts ≡ Ok (at, rest) → whole all ts ≡ Ok (e.Name at, rest)
lone_name [] rest at h read = absurd (cc)
lone_name (t ∷ []) rest at h read = absurd (cc)
lone_name (t ∷ u ∷ us) rest at h read =
    let c = chosen (ends u.kind) t.kind k.Name h in
    let here : t ≡ record { kind = k.Name; span = t.span } = ap (λ (kind : TokenKind). record { kind = kind; span = t.span }) c.1 in
    let given : Span × List Token = (t.span, u ∷ us) in
    let found : Span × List Token = (at, rest) in
    let pair : given ≡ found = cc in
    let is_at : t.span ≡ at = ap (λ p. p.0) pair in
    let is_rest : u ∷ us ≡ rest = ap (λ p. p.1) pair in
    rw (← is_at, ← is_rest, here) (alone (record { kind = k.Name; span = t.span }) (u ∷ us) (e.Name t.span) (no_operator u.kind c.0) (name_first t.span (u ∷ us) (no_dot u.kind c.0)))
