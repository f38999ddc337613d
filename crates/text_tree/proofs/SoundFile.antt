-- What is read as a text is one.
use Rattle.std.proofs.Common.{◌≡◌, ◌&&◌, ℕ, List, [], ◌∷◌, ◌++◌, length, Option, Some, None, Ok, Bool, true, false, refl, sym, ap, subst, ◌∙◌, append_assoc}
use Rattle.std.proofs.lemmas.List.{append-nil}
use Rattle.text_source.specs.declared.span.Span.{Span}
use Rattle.text_source.specs.declared.fault.FaultKind.TheVariants as f
use Rattle.text_source.specs.declared.token.TokenKind.{TokenKind}
use Rattle.text_source.specs.declared.token.TokenKind.TheVariants as k
use Rattle.text_source.specs.declared.token.Mark.{Mark}
use Rattle.text_source.specs.declared.token.Mark.TheVariants as m
use Rattle.text_source.specs.declared.token.Token.{Token}
use Rattle.text_source.specs.Kinds.{same_mark}
use Rattle.text_tree.specs.declared.tree.Expr.{Expr}
use Rattle.text_tree.specs.declared.tree.Encoding.{Encoding}
use Rattle.text_tree.specs.declared.tree.Encoding.TheVariants as encodings
use Rattle.text_tree.specs.declared.tree.Bracket.{Bracket}
use Rattle.text_tree.specs.declared.tree.Bound.{Bound}
use Rattle.text_tree.specs.declared.tree.Item.{Item}
use Rattle.text_tree.specs.declared.tree.Item.TheVariants as i
use Rattle.text_tree.specs.declared.tree.SectionKind.TheVariants as kinds
use Rattle.text_tree.specs.declared.tree.Section.{Section}
use Rattle.text_tree.specs.declared.tree.Part.{Part}
use Rattle.text_tree.specs.declared.tree.Part.TheVariants as p
use Rattle.text_tree.specs.declared.file.SectionHead.{SectionHead}
use Rattle.text_tree.specs.Counts.{seen_in, tally_of}
use Rattle.text_tree.specs.Rules.{Rules, is_full, is_out, most_parameters, most_statements, most_values}
use Rattle.text_tree.proofs.GrammarStrict as g
use Rattle.text_tree.specs.declared.progress.Progress.{Progress}
use Rattle.text_tree.specs.Grammar.{holds_bound, mark, name_at, bits_at}
use Rattle.text_tree.proofs.GrammarStrict.{Many, IsExpr, IsWhole, IsNext, IsExprs, IsBracket, IsArguments, IsEncoding, IsBound, IsItem, IsStatement, IsHead, IsSection, IsParameter, IsParameters, IsStop, IsPart}
use Rattle.text_tree.specs.Reading.{Reader, ◌>>=◌, pure, stops, stops_at, peek, take, expect, either, kind_at, is_next, is_there}
use Rattle.text_tree.specs.Expr.{whole}
use Rattle.text_tree.specs.File.{name_by, name, gather, many, limited, is_name, begins_expr, before, begins_statement, begins_method, call_of, variable_of, lengths_of, head_at, repeats, next_expr, exprs, variable, lengths, filled, bracket_of, bracket, given, arguments_of, arguments, encoding_by, encoding, field, binding, bound, named_item, enforce, item_by, item, any_statement, statement, statements, called_by, called, format, plain, heading_by, heading, section_of, section, sections, next_name, names, declared, parameters_of, parameters, constant_of, constant, stop, method_of, method, part, parts}
use Rattle.text_tree.proofs.ReadingLocal.{value_is, rest_is, bind_ok, kept, no_some}
use Rattle.text_tree.proofs.ReadingMany.{Consumes, gather_advances}
use Rattle.text_tree.proofs.FileLemmas.{consumes_next_expr, consumes_statement, consumes_section, consumes_next_name, consumes_part}
use Rattle.text_tree.proofs.SoundExpr.{Answers, whole_sound, token, IsOne, one, Same, same, same_is, one_is, taken_is}

-- ---- one after the other

many_snoc : {A : Type 0} {X : List A → List Token → List Token → A → Type 0} {first : List A} {from mid to : List Token} {xs : List A} {x : A} → Many X first from mid xs → X (first ++ xs) mid to x → Many X first from to (xs ++ x ∷ [])
many_snoc {X = X} {to = to} {x = x} (g.ended {before = first} {to = mid}) h = g.more (subst (λ (ys : List _). X ys mid to x) (append-nil first) h) g.ended
many_snoc {X = X} {mid = mid} {to = to} {x = x} (g.more {before = first} {x = y} {xs = ys} j js) h = g.more j (many_snoc js (subst (λ (zs : List _). X zs mid to x) (sym (append_assoc first (y ∷ []) ys)) h))

module _ {A : Type 0} {X : List A → List Token → List Token → A → Type 0} (goes : Option TokenKind → Bool) {item : List A → Reader A} (c : (found : List A) → Consumes (item found))
    (answers : (found : List A) (ts rest : List Token) (x : A) → goes (kind_at ts) ≡ true → item found ts ≡ Ok (x, rest) → X found ts rest x) where
  turn_is : (b : Bool) (found xs : List A) (ts rest : List Token) → goes (kind_at ts) ≡ b → either b (item found >>= (λ x. pure (found ++ x ∷ [])) >>= λ ys. pure (Some ys)) (pure None) ts ≡ Ok (Some xs, rest)
      → (x : A) × X found ts rest x × (found ++ x ∷ [] ≡ xs)
  turn_is true found xs ts rest go e =
      let b = bind_ok (item found >>= (λ x. pure (found ++ x ∷ []))) (λ ys. pure (Some ys)) ts (Some xs) rest e in
      let d = bind_ok (item found) (λ x. pure (found ++ x ∷ [])) ts b.0 b.1 b.2 in
      let some : ◌≡◌ {A = Option (List A)} (Some b.0) (Some xs) = value_is b.3 in
      let list : b.0 ≡ xs = cc in
      (d.0, subst (λ (us : List Token). X found ts us d.0) (rest_is d.3 ∙ rest_is b.3) (answers found ts d.1 d.0 go d.2), value_is d.3 ∙ list)
  turn_is false found xs ts rest go e = absurd (no_some e)

  stop_is : (b : Bool) (found : List A) (ts rest : List Token) → either b (item found >>= (λ x. pure (found ++ x ∷ [])) >>= λ ys. pure (Some ys)) (pure None) ts ≡ Ok (None, rest) → b ≡ false
  stop_is true found ts rest e = let b = bind_ok (item found >>= (λ x. pure (found ++ x ∷ []))) (λ ys. pure (Some ys)) ts None rest e in absurd (no_some (sym b.3))
  stop_is false found ts rest e = refl

  pub many_is : (found xs : List A) (ts rest : List Token) → many goes item found ts ≡ Ok (xs, rest) → (ys : List A) × (xs ≡ found ++ ys) × Many X found ts rest ys × (goes (kind_at rest) ≡ false)
  unfolding many gather
  many_is found xs ts rest e =
      let all = kept (gather_advances goes c) (λ us mid. (ys : List A) × (us ≡ found ++ ys) × Many X found ts mid ys)
      (λ us vs mid to p turned.
      let t = turn_is (goes (kind_at mid)) us vs mid to refl turned in
      (p.0 ++ t.0 ∷ [], sym t.2 ∙ ap (λ (zs : List A). zs ++ t.0 ∷ []) p.1 ∙ append_assoc found p.0 (t.0 ∷ []), many_snoc p.2 (subst (λ (zs : List A). X zs mid to t.0) p.1 t.1)))
      found xs ts rest ([], sym (append-nil found), g.ended) e in
      (all.0.0, all.0.1, all.0.2, stop_is (goes (kind_at rest)) xs rest rest all.1)

-- where there is room, a limited reader is the reader
limited_is : {A : Type 0} (full : Bool) (begins : Option TokenKind → Bool) (item : Reader A) (R : List Token → List Token → A → Type 0) → Answers item R
    → ((ts rest : List Token) (x : A) → begins (kind_at ts) ≡ false → R ts rest x → ⊥)
    → (ts rest : List Token) (x : A) → limited full begins item ts ≡ Ok (x, rest) → (full ≡ false) × R ts rest x
unfolding limited
limited_is {A = A} full begins item R sound starts ts rest x e = by_full full refl e
  where
    by_begins : (b : Bool) → begins (kind_at ts) ≡ b → either b (stops f.TooManyParts) item ts ≡ Ok (x, rest) → (true ≡ false) × R ts rest x
    by_begins true is e = absurd cc
    by_begins false is e = absurd (starts ts rest x is (sound ts rest x e))

    by_full : (b : Bool) → full ≡ b → either (b && begins (kind_at ts)) (stops f.TooManyParts) item ts ≡ Ok (x, rest) → (full ≡ false) × R ts rest x
    by_full true is e = let both = by_begins (begins (kind_at ts)) refl e in (is ∙ both.0, both.1)
    by_full false is e = (is, sound ts rest x e)

-- ---- one token

data IsName : List Token → List Token → Span → Type 0 where
  is_named : {at : Span} {to : List Token} → IsName (name_at at ∷ to) to at

by_name : (kind : TokenKind) (span at : Span) (ts rest : List Token) → name_by (Some kind) (token kind span ∷ ts) ≡ Ok (at, rest) → IsName (token kind span ∷ ts) rest at
by_name k.Name span at ts rest e = subst (λ (x : Span). IsName (name_at span ∷ ts) rest x) (value_is e) (subst (λ (us : List Token). IsName (name_at span ∷ ts) us span) (rest_is e) is_named)
by_name (k.Number n) span at ts rest e = absurd cc
by_name (k.BitText count value) span at ts rest e = absurd cc
by_name (k.Mark which) span at ts rest e = absurd cc

name_is : (ts rest : List Token) (at : Span) → name ts ≡ Ok (at, rest) → IsName ts rest at
unfolding name
name_is [] rest at e = absurd cc
name_is (t ∷ ts) rest at e = by_name t.kind t.span at ts rest e

name_starts : (ts rest : List Token) (at : Span) → is_name (kind_at ts) ≡ false → IsName ts rest at → ⊥
name_starts _ rest at bad is_named = absurd cc

-- ---- the rules

expr_starts : {r : Rules} {depth tier : ℕ} {p q : Progress} {from to : List Token} {x : Expr} → IsExpr r depth tier p from to x q → begins_expr (kind_at from) ≡ false → ⊥
expr_starts g.number bad = absurd cc
expr_starts g.negative bad = absurd cc
expr_starts g.truth bad = absurd cc
expr_starts g.falsehood bad = absurd cc
expr_starts g.name bad = absurd cc
expr_starts (g.attribute is) bad = absurd cc
expr_starts (g.this is) bad = absurd cc
expr_starts (g.group h) bad = absurd cc
expr_starts (g.not h) bad = absurd cc
expr_starts (g.operand h) bad = expr_starts h bad
expr_starts (g.power h is free j) bad = expr_starts h bad
expr_starts (g.operation h is free j) bad = expr_starts h bad

module _ (r : Rules) where
  whole_starts : (ts rest : List Token) (x : Expr) → begins_expr (kind_at ts) ≡ false → IsWhole r ts rest x → ⊥
  whole_starts ts rest x bad (g.whole h) = expr_starts h bad

  next_is : (found : List Expr) (ts rest : List Token) (x : Expr) → is_next m.Comma (kind_at ts) ≡ true → next_expr r (length found) ts ≡ Ok (x, rest) → IsNext r found ts rest x
  unfolding next_expr
  next_is found ts rest x go e =
      let b = bind_ok take (λ _. limited (is_full r most_values (length found)) begins_expr (whole r)) ts x rest e in
      let d = limited_is (is_full r most_values (length found)) begins_expr (whole r) (IsWhole r) (whole_sound r) whole_starts b.1 rest x b.3 in
      made d.0 (taken_is m.Comma ts b.1 b.0 go b.2) d.1
    where
      made : {us mid to : List Token} {at : Span} {y : Expr} → is_full r most_values (length found) ≡ false → IsOne m.Comma us mid at → IsWhole r mid to y → IsNext r found us to y
      made room one w = g.next room w

  exprs_is : Answers (exprs r) (IsExprs r)
  unfolding exprs
  exprs_is ts rest xs e =
      let b = bind_ok (whole r) (λ first. many (is_next m.Comma) (λ found. next_expr r (length found)) (first ∷ [])) ts xs rest e in
      let all = many_is (is_next m.Comma) (λ found. consumes_next_expr r (length found)) next_is (b.0 ∷ []) xs b.1 rest b.3 in
      subst (λ (ys : List Expr). IsExprs r ts rest ys) (sym all.1) (g.exprs (whole_sound r ts b.1 b.0 b.2) all.2)

  -- what stands after `[`
  data IsFilled (first : Span) : List Token → List Token → Option Bracket → Type 0 where
    filled_by : {from to : List Token} {b : Option Bracket} → IsBracket r (mark m.OpenSquare first ∷ from) to b → IsFilled first from to b

  variable_is : (first : Span) (ts rest : List Token) (b : Option Bracket) → is_next m.Variable (kind_at ts) ≡ true → variable r first ts ≡ Ok (b, rest) → IsFilled first ts rest b
  unfolding variable
  variable_is first ts rest b is e =
      let a = bind_ok take (λ _. expect m.CloseSquare >>= λ last. pure (variable_of first last)) ts b rest e in
      let d = bind_ok (expect m.CloseSquare) (λ last. pure (variable_of first last)) a.1 b rest a.3 in
      made (taken_is m.Variable ts a.1 a.0 is a.2) (one_is m.CloseSquare a.1 d.1 d.0 d.2) (same_is d.3)
    where
      made : {us mid after to : List Token} {at last : Span} {y : Option Bracket} → IsOne m.Variable us mid at → IsOne m.CloseSquare mid after last → Same (variable_of first last) after y to → IsFilled first us to y
      made one one same = filled_by g.variable

  lengths_is : (first : Span) (ts rest : List Token) (b : Option Bracket) → lengths r first ts ≡ Ok (b, rest) → IsFilled first ts rest b
  unfolding lengths
  lengths_is first ts rest b e =
      let a = bind_ok (exprs r) (λ found. expect m.CloseSquare >>= λ last. pure (lengths_of first found last)) ts b rest e in
      let d = bind_ok (expect m.CloseSquare) (λ last. pure (lengths_of first a.0 last)) a.1 b rest a.3 in
      made (exprs_is ts a.1 a.0 a.2) (one_is m.CloseSquare a.1 d.1 d.0 d.2) (same_is d.3)
    where
      made : {us mid after to : List Token} {xs : List Expr} {last : Span} {y : Option Bracket} → IsExprs r us mid xs → IsOne m.CloseSquare mid after last → Same (lengths_of first xs last) after y to → IsFilled first us to y
      made es one same = filled_by (g.lengths es)

  filled_is : (first : Span) (ts rest : List Token) (b : Option Bracket) → filled r first ts ≡ Ok (b, rest) → IsFilled first ts rest b
  unfolding filled
  filled_is first ts rest b e = by_test (is_next m.Variable (kind_at ts)) refl e
    where
      by_test : (t : Bool) → is_next m.Variable (kind_at ts) ≡ t → either t (variable r first) (lengths r first) ts ≡ Ok (b, rest) → IsFilled first ts rest b
      by_test true is e = variable_is first ts rest b is e
      by_test false is e = lengths_is first ts rest b e

  bracket_is : Answers (bracket r) (IsBracket r)
  unfolding bracket bracket_of
  bracket_is ts rest b e = by_test (is_next m.OpenSquare (kind_at ts)) refl e
    where
      none : {us to : List Token} {y : Option Bracket} → Same None us y to → IsBracket r us to y
      none same = g.unbracketed

      some : {us mid to : List Token} {first : Span} {y : Option Bracket} → IsOne m.OpenSquare us mid first → IsFilled first mid to y → IsBracket r us to y
      some one (filled_by h) = h

      inner : (t : Bool) (first : Span) (mid : List Token) → IsOne m.OpenSquare ts mid first → either t (stops_at f.EmptyBracket first) (filled r first) mid ≡ Ok (b, rest) → IsBracket r ts rest b
      inner true first mid o e = absurd cc
      inner false first mid o e = some o (filled_is first mid rest b e)

      by_test : (t : Bool) → is_next m.OpenSquare (kind_at ts) ≡ t → either t (take >>= λ first. peek >>= λ next. either (is_next m.CloseSquare next) (stops_at f.EmptyBracket first) (filled r first)) (pure None) ts ≡ Ok (b, rest) → IsBracket r ts rest b
      by_test true is e =
          let a = bind_ok take (λ first. peek >>= λ next. either (is_next m.CloseSquare next) (stops_at f.EmptyBracket first) (filled r first)) ts b rest e in
          inner (is_next m.CloseSquare (kind_at a.1)) a.0 a.1 (taken_is m.OpenSquare ts a.1 a.0 is a.2) a.3
      by_test false is e = none (same_is e)

  given_is : (ts rest : List Token) (xs : List Expr) → given r ts ≡ Ok (xs, rest) → (last : Span) × IsExprs r ts (mark m.Close last ∷ rest) xs
  unfolding given
  given_is ts rest xs e =
      let b = bind_ok (exprs r) (λ found. expect m.Close >>= λ _. pure found) ts xs rest e in
      let d = bind_ok (expect m.Close) (λ _. pure b.0) b.1 xs rest b.3 in
      (d.0, made (exprs_is ts b.1 b.0 b.2) (one_is m.Close b.1 d.1 d.0 d.2) (same_is d.3))
    where
      made : {us after to vs : List Token} {end : Span} {ys zs : List Expr} → IsExprs r us after ys → IsOne m.Close after to end → Same ys to zs vs → IsExprs r us (mark m.Close end ∷ vs) zs
      made es one same = es

  arguments_is : Answers (arguments r) (IsArguments r)
  unfolding arguments arguments_of
  arguments_is ts rest xs e = by_test (is_next m.Open (kind_at ts)) refl e
    where
      none : {us to : List Token} {ys : List Expr} → Same [] us ys to → IsArguments r us to ys
      none same = g.no_arguments

      empty : {us mid after to : List Token} {first last : Span} {ys : List Expr} → IsOne m.Open us mid first → IsOne m.Close mid after last → Same [] after ys to → IsArguments r us to ys
      empty one one same = g.empty_arguments

      some : {us mid to : List Token} {first last : Span} {ys : List Expr} → IsOne m.Open us mid first → IsExprs r mid (mark m.Close last ∷ to) ys → IsArguments r us to ys
      some one es = g.some_arguments es

      inner : (b : Bool) (mid : List Token) (first : Span) → is_next m.Close (kind_at mid) ≡ b → IsOne m.Open ts mid first → either b (take >>= λ _. pure []) (given r) mid ≡ Ok (xs, rest) → IsArguments r ts rest xs
      inner true mid first is o e = let d = bind_ok take (λ _. pure []) mid xs rest e in empty o (taken_is m.Close mid d.1 d.0 is d.2) (same_is d.3)
      inner false mid first is o e = let d = given_is mid rest xs e in some o d.1

      by_test : (b : Bool) → is_next m.Open (kind_at ts) ≡ b → either b (take >>= λ _. peek >>= λ next. either (is_next m.Close next) (take >>= λ _. pure []) (given r)) (pure []) ts ≡ Ok (xs, rest) → IsArguments r ts rest xs
      by_test true is e =
          let b = bind_ok take (λ _. peek >>= λ next. either (is_next m.Close next) (take >>= λ _. pure []) (given r)) ts xs rest e in
          inner (is_next m.Close (kind_at b.1)) b.1 b.0 refl (taken_is m.Open ts b.1 b.0 is b.2) b.3
      by_test false is e = none (same_is e)

  encoding_is : Answers (encoding r) (IsEncoding r)
  unfolding encoding
  encoding_is [] rest x e = absurd cc
  encoding_is (t ∷ ts) rest x e = by_kind t.kind t.span e
    where
      bits : {count value : ℕ} {at : Span} {to : List Token} {y : Encoding} → Same (encodings.Bits at count value) ts y to → IsEncoding r (bits_at count value at ∷ ts) to y
      bits same = g.bits

      called : {at : Span} {mid to : List Token} {xs : List Expr} {y : Encoding} → IsArguments r ts mid xs → Same (call_of at xs) mid y to → IsEncoding r (name_at at ∷ ts) to y
      called h same = g.call h

      by_kind : (kind : TokenKind) (span : Span) → encoding_by r (Some kind) (token kind span ∷ ts) ≡ Ok (x, rest) → IsEncoding r (token kind span ∷ ts) rest x
      by_kind (k.BitText count value) span e = bits (same_is e)
      by_kind k.Name span e = let b = bind_ok (arguments r) (λ xs. pure (call_of span xs)) ts x rest e in called (arguments_is ts b.1 b.0 b.2) (same_is b.3)
      by_kind (k.Number n) span e = absurd cc
      by_kind (k.Mark which) span e = absurd cc

  field_is : (at : Span) (ts rest : List Token) (x : Item) → field r at ts ≡ Ok (x, rest) → IsItem r (name_at at ∷ ts) rest x
  unfolding field
  field_is at ts rest x e =
      let b = bind_ok (bracket r) (λ found. expect m.Semicolon >>= λ _. pure (i.Field at found)) ts x rest e in
      let d = bind_ok (expect m.Semicolon) (λ _. pure (i.Field at b.0)) b.1 x rest b.3 in
      made (bracket_is ts b.1 b.0 b.2) (one_is m.Semicolon b.1 d.1 d.0 d.2) (same_is d.3)
    where
      made : {us mid to vs : List Token} {end : Span} {b : Option Bracket} {y : Item} → IsBracket r us mid b → IsOne m.Semicolon mid to end → Same (i.Field at b) to y vs → IsItem r (name_at at ∷ us) vs y
      made b one same = g.field b

  binding_is : (at : Span) (ts rest : List Token) (x : Bound) → binding r at ts ≡ Ok (x, rest) → IsBound r (name_at at ∷ ts) rest x
  unfolding binding
  binding_is at ts rest x e =
      let a = bind_ok (expect m.Binds) (λ _. encoding r >>= λ method. bracket r >>= λ found. expect m.Semicolon >>= λ _. pure (record { name = at; encoding = method; bracket = found })) ts x rest e in
      let b = bind_ok (encoding r) (λ method. bracket r >>= λ found. expect m.Semicolon >>= λ _. pure (record { name = at; encoding = method; bracket = found })) a.1 x rest a.3 in
      let d = bind_ok (bracket r) (λ found. expect m.Semicolon >>= λ _. pure (record { name = at; encoding = b.0; bracket = found })) b.1 x rest b.3 in
      let h = bind_ok (expect m.Semicolon) (λ _. pure (record { name = at; encoding = b.0; bracket = d.0 })) d.1 x rest d.3 in
      made (one_is m.Binds ts a.1 a.0 a.2) (encoding_is a.1 b.1 b.0 b.2) (bracket_is b.1 d.1 d.0 d.2) (one_is m.Semicolon d.1 h.1 h.0 h.2) (same_is h.3)
    where
      made : {us first mid after to vs : List Token} {sign end : Span} {c : Encoding} {b : Option Bracket} {y : Bound}
          → IsOne m.Binds us first sign → IsEncoding r first mid c → IsBracket r mid after b → IsOne m.Semicolon after to end → Same (record { name = at; encoding = c; bracket = b }) to y vs → IsBound r (name_at at ∷ us) vs y
      made one c b one same = g.binding c b

  bound_is : Answers (bound r) (IsBound r)
  unfolding bound
  bound_is ts rest x e =
      let a = bind_ok name (λ at. binding r at) ts x rest e in
      made (name_is ts a.1 a.0 a.2) (binding_is a.0 a.1 rest x a.3)
    where
      made : {us mid to : List Token} {at : Span} {y : Bound} → IsName us mid at → IsBound r (name_at at ∷ mid) to y → IsBound r us to y
      made is_named h = h

  some_bound : {us mid to : List Token} {b : Bound} {y : Item} → IsBound r us mid b → Same (i.Bound b) mid y to → IsItem r us to y
  some_bound h same = g.bound h

  enforce_is : (ts rest : List Token) (x : Item) → is_next m.Enforce (kind_at ts) ≡ true → enforce r ts ≡ Ok (x, rest) → IsItem r ts rest x
  unfolding enforce
  enforce_is ts rest x is e =
      let a = bind_ok take (λ at. expect m.Open >>= λ _. whole r >>= λ test. expect m.Close >>= λ _. expect m.Semicolon >>= λ _. pure (i.Enforce at test)) ts x rest e in
      let b = bind_ok (expect m.Open) (λ _. whole r >>= λ test. expect m.Close >>= λ _. expect m.Semicolon >>= λ _. pure (i.Enforce a.0 test)) a.1 x rest a.3 in
      let d = bind_ok (whole r) (λ test. expect m.Close >>= λ _. expect m.Semicolon >>= λ _. pure (i.Enforce a.0 test)) b.1 x rest b.3 in
      let h = bind_ok (expect m.Close) (λ _. expect m.Semicolon >>= λ _. pure (i.Enforce a.0 d.0)) d.1 x rest d.3 in
      let j = bind_ok (expect m.Semicolon) (λ _. pure (i.Enforce a.0 d.0)) h.1 x rest h.3 in
      made (taken_is m.Enforce ts a.1 a.0 is a.2) (one_is m.Open a.1 b.1 b.0 b.2) (whole_sound r b.1 d.1 d.0 d.2) (one_is m.Close d.1 h.1 h.0 h.2) (one_is m.Semicolon h.1 j.1 j.0 j.2) (same_is j.3)
    where
      made : {us a b d h j to : List Token} {at first last end : Span} {y : Expr} {z : Item}
          → IsOne m.Enforce us a at → IsOne m.Open a b first → IsWhole r b d y → IsOne m.Close d h last → IsOne m.Semicolon h j end → Same (i.Enforce at y) j z to → IsItem r us to z
      made one one w one one same = g.enforce w

  item_is : Answers (item r) (IsItem r)
  unfolding item named_item same_mark
  item_is [] rest x e = absurd cc
  item_is (t ∷ ts) rest x e = by_kind t.kind t.span e
    where
      by_mark : (which : Mark) (span : Span) → item_by r (Some (k.Mark which)) (token (k.Mark which) span ∷ ts) ≡ Ok (x, rest) → IsItem r (token (k.Mark which) span ∷ ts) rest x
      by_mark m.Enforce span e = enforce_is (token (k.Mark m.Enforce) span ∷ ts) rest x refl e
      by_mark _ span e = absurd cc

      by_next : (span : Span) (b : Bool) → either b (binding r span >>= λ y. pure (i.Bound y)) (field r span) ts ≡ Ok (x, rest) → IsItem r (name_at span ∷ ts) rest x
      by_next span true e = let b = bind_ok (binding r span) (λ y. pure (i.Bound y)) ts x rest e in some_bound (binding_is span ts b.1 b.0 b.2) (same_is b.3)
      by_next span false e = field_is span ts rest x e

      by_kind : (kind : TokenKind) (span : Span) → item_by r (Some kind) (token kind span ∷ ts) ≡ Ok (x, rest) → IsItem r (token kind span ∷ ts) rest x
      by_kind k.Name span e = by_next span (is_next m.Binds (kind_at ts)) e
      by_kind (k.Number n) span e = absurd cc
      by_kind (k.BitText count value) span e = absurd cc
      by_kind (k.Mark which) span e = by_mark which span e

  -- a statement, without its count
  data IsAny : Bool → List Token → List Token → Item → Type 0 where
    free : {from to : List Token} {x : Item} → IsItem r from to x → IsAny false from to x
    tied : {from to : List Token} {b : Bound} → IsBound r from to b → IsAny true from to (i.Bound b)

  any_is : (only_bound : Bool) → Answers (any_statement r only_bound) (IsAny only_bound)
  unfolding any_statement
  any_is true ts rest x e = let b = bind_ok (bound r) (λ y. pure (i.Bound y)) ts x rest e in made (bound_is ts b.1 b.0 b.2) (same_is b.3)
    where
      made : {us mid to : List Token} {b : Bound} {y : Item} → IsBound r us mid b → Same (i.Bound b) mid y to → IsAny true us to y
      made h same = tied h
  any_is false ts rest x e = free (item_is ts rest x e)

  bound_starts : (only_bound : Bool) {from to : List Token} {b : Bound} → IsBound r from to b → begins_statement only_bound (kind_at from) ≡ false → ⊥
  bound_starts only_bound (g.binding c b) bad = absurd cc

  item_starts : {from to : List Token} {x : Item} → IsItem r from to x → begins_statement false (kind_at from) ≡ false → ⊥
  unfolding same_mark
  item_starts (g.field b) bad = absurd cc
  item_starts (g.bound b) bad = bound_starts false b bad
  item_starts (g.enforce h) bad = absurd cc

  any_starts : (only_bound : Bool) (ts rest : List Token) (x : Item) → begins_statement only_bound (kind_at ts) ≡ false → IsAny only_bound ts rest x → ⊥
  any_starts _ ts rest x bad (free h) = item_starts h bad
  any_starts _ ts rest _ bad (tied h) = bound_starts true h bad

  statement_is : (only_bound : Bool) (found : List Item) (ts rest : List Token) (x : Item) → before m.CloseBrace (kind_at ts) ≡ true → statement r only_bound (length found) ts ≡ Ok (x, rest) → IsStatement r only_bound found ts rest x
  unfolding statement
  statement_is only_bound found ts rest x go e =
      let d = limited_is (is_full r most_statements (length found)) (begins_statement only_bound) (any_statement r only_bound) (IsAny only_bound) (any_is only_bound) (any_starts only_bound) ts rest x e in
      made d.0 d.1
    where
      made : {b : Bool} {us to : List Token} {y : Item} → is_full r most_statements (length found) ≡ false → IsAny b us to y → IsStatement r b found us to y
      made room (free h) = g.any_item room h
      made room (tied h) = g.bound_item room h

  statements_is : (only_bound : Bool) → Answers (statements r only_bound) (Many (IsStatement r only_bound) [])
  unfolding statements
  statements_is only_bound ts rest xs e =
      let all = many_is (before m.CloseBrace) (λ found. consumes_statement r only_bound (length found)) (statement_is only_bound) [] xs ts rest e in
      subst (λ (ys : List Item). Many (IsStatement r only_bound) [] ts rest ys) (sym all.1) all.2

  -- a name, or none
  data IsCalled : List Token → List Token → Option Span → Type 0 where
    nameless : {to : List Token} → IsCalled to to None
    called_so : {at : Span} {to : List Token} → IsCalled (name_at at ∷ to) to (Some at)

  called_is : Answers (called r) IsCalled
  unfolding called
  called_is [] rest x e = made (same_is e)
    where
      made : {us to : List Token} {y : Option Span} → Same None us y to → IsCalled us to y
      made same = nameless
  called_is (t ∷ ts) rest x e = by_kind t.kind t.span e
    where
      made : {us to : List Token} {y : Option Span} → Same None us y to → IsCalled us to y
      made same = nameless

      some : {us to : List Token} {at : Span} {y : Option Span} → Same (Some at) us y to → IsCalled (name_at at ∷ us) to y
      some same = called_so

      by_kind : (kind : TokenKind) (span : Span) → called_by r (Some kind) (token kind span ∷ ts) ≡ Ok (x, rest) → IsCalled (token kind span ∷ ts) rest x
      by_kind k.Name span e = some (same_is e)
      by_kind (k.Number n) span e = made (same_is e)
      by_kind (k.BitText count value) span e = made (same_is e)
      by_kind (k.Mark which) span e = made (same_is e)

  -- the head that begins with this word
  abbrev Heads : Mark → List Token → List Token → SectionHead → Type 0
  Heads word from to h = IsHead from to word h.word h.kind

  heading_mark : (which : Mark) (at : Span) (ts rest : List Token) (h : SectionHead) → heading_by r (Some (k.Mark which)) (mark which at ∷ ts) ≡ Ok (h, rest) → Heads which (mark which at ∷ ts) rest h
  unfolding plain format
  heading_mark m.Uncompressed at ts rest h e = made (same_is e)
    where
      made : {to : List Token} {y : SectionHead} → Same (head_at kinds.Uncompressed at) ts y to → Heads m.Uncompressed (mark m.Uncompressed at ∷ ts) to y
      made same = g.uncompressed
  heading_mark m.Control at ts rest h e = made (same_is e)
    where
      made : {to : List Token} {y : SectionHead} → Same (head_at kinds.Control at) ts y to → Heads m.Control (mark m.Control at ∷ ts) to y
      made same = g.control
  heading_mark m.Initial at ts rest h e = made (same_is e)
    where
      made : {to : List Token} {y : SectionHead} → Same (head_at kinds.Initial at) ts y to → Heads m.Initial (mark m.Initial at ∷ ts) to y
      made same = g.initial
  heading_mark m.Default at ts rest h e = made (same_is e)
    where
      made : {to : List Token} {y : SectionHead} → Same (head_at kinds.Default at) ts y to → Heads m.Default (mark m.Default at ∷ ts) to y
      made same = g.default
  heading_mark m.Compressed at ts rest h e =
      let b = bind_ok (called r) (λ name. pure (head_at (kinds.Compressed name) at)) ts h rest e in
      made (called_is ts b.1 b.0 b.2) (same_is b.3)
    where
      made : {us mid to : List Token} {name : Option Span} {y : SectionHead} → IsCalled us mid name → Same (head_at (kinds.Compressed name) at) mid y to → Heads m.Compressed (mark m.Compressed at ∷ us) to y
      made nameless same = g.unnamed
      made called_so same = g.named
  heading_mark _ at ts rest h e = absurd cc

  -- a head, with its word
  data IsWorded : List Token → List Token → SectionHead → Type 0 where
    worded : {which : Mark} {at : Span} {from to : List Token} {h : SectionHead} → Heads which (mark which at ∷ from) to h → IsWorded (mark which at ∷ from) to h

  heading_is : Answers (heading r) IsWorded
  unfolding heading
  heading_is [] rest h e = absurd cc
  heading_is (t ∷ ts) rest h e = by_kind t.kind t.span e
    where
      by_kind : (kind : TokenKind) (span : Span) → heading_by r (Some kind) (token kind span ∷ ts) ≡ Ok (h, rest) → IsWorded (token kind span ∷ ts) rest h
      by_kind (k.Mark which) span e = worded (heading_mark which span ts rest h e)
      by_kind k.Name span e = absurd cc
      by_kind (k.Number n) span e = absurd cc
      by_kind (k.BitText count value) span e = absurd cc

  section_of_is : (found : List Section) (ts rest : List Token) (x : Section) → (r.repeats && repeats (kind_at ts) (seen_in found)) ≡ false → (is_next m.Compressed (kind_at ts) && is_out r (seen_in found).formats_left) ≡ false
      → section_of r ts ≡ Ok (x, rest) → IsSection r found ts rest x
  unfolding section_of
  section_of_is found ts rest x once room e =
      let a = bind_ok (heading r) (λ h. expect m.OpenBrace >>= λ _. statements r (holds_bound h.kind) >>= λ found. expect m.CloseBrace >>= λ _. pure (record { kind = h.kind; word = h.word; items = found })) ts x rest e in
      let b = bind_ok (expect m.OpenBrace) (λ _. statements r (holds_bound a.0.kind) >>= λ found. expect m.CloseBrace >>= λ _. pure (record { kind = a.0.kind; word = a.0.word; items = found })) a.1 x rest a.3 in
      let d = bind_ok (statements r (holds_bound a.0.kind)) (λ found. expect m.CloseBrace >>= λ _. pure (record { kind = a.0.kind; word = a.0.word; items = found })) b.1 x rest b.3 in
      let h = bind_ok (expect m.CloseBrace) (λ _. pure (record { kind = a.0.kind; word = a.0.word; items = d.0 })) d.1 x rest d.3 in
      made once room (heading_is ts a.1 a.0 a.2) (one_is m.OpenBrace a.1 b.1 b.0 b.2) (statements_is (holds_bound a.0.kind) b.1 d.1 d.0 d.2) (one_is m.CloseBrace d.1 h.1 h.0 h.2) (same_is h.3)
    where
      made : {us a b d h to : List Token} {y : SectionHead} {first last : Span} {xs : List Item} {z : Section}
          → (r.repeats && repeats (kind_at us) (seen_in found)) ≡ false → (is_next m.Compressed (kind_at us) && is_out r (seen_in found).formats_left) ≡ false
          → IsWorded us a y → IsOne m.OpenBrace a b first → Many (IsStatement r (holds_bound y.kind)) [] b d xs → IsOne m.CloseBrace d h last → Same (record { kind = y.kind; word = y.word; items = xs }) h z to → IsSection r found us to z
      made once room (worded head) one js one same = g.section once room head js

  section_is : (found : List Section) (ts rest : List Token) (x : Section) → before m.CloseBrace (kind_at ts) ≡ true → section r (seen_in found) ts ≡ Ok (x, rest) → IsSection r found ts rest x
  unfolding section
  section_is found ts rest x go e = by_once (r.repeats && repeats (kind_at ts) (seen_in found)) refl e
    where
      by_room : (b : Bool) → (r.repeats && repeats (kind_at ts) (seen_in found)) ≡ false → (is_next m.Compressed (kind_at ts) && is_out r (seen_in found).formats_left) ≡ b
          → either b (stops f.TooManyParts) (section_of r) ts ≡ Ok (x, rest) → IsSection r found ts rest x
      by_room true once is e = absurd cc
      by_room false once is e = section_of_is found ts rest x once is e

      by_once : (b : Bool) → (r.repeats && repeats (kind_at ts) (seen_in found)) ≡ b
          → either b (stops f.RepeatedSection) (either (is_next m.Compressed (kind_at ts) && is_out r (seen_in found).formats_left) (stops f.TooManyParts) (section_of r)) ts ≡ Ok (x, rest) → IsSection r found ts rest x
      by_once true is e = absurd cc
      by_once false is e = by_room (is_next m.Compressed (kind_at ts) && is_out r (seen_in found).formats_left) is refl e

  sections_is : Answers (sections r) (Many (IsSection r) [])
  unfolding sections
  sections_is ts rest xs e =
      let all = many_is (before m.CloseBrace) (λ found. consumes_section r (seen_in found)) section_is [] xs ts rest e in
      subst (λ (ys : List Section). Many (IsSection r) [] ts rest ys) (sym all.1) all.2

  next_name_is : (found : List Span) (ts rest : List Token) (x : Span) → is_next m.Comma (kind_at ts) ≡ true → next_name r (length found) ts ≡ Ok (x, rest) → IsParameter r found ts rest x
  unfolding next_name
  next_name_is found ts rest x go e =
      let b = bind_ok take (λ _. limited (is_full r most_parameters (length found)) is_name name) ts x rest e in
      let d = limited_is (is_full r most_parameters (length found)) is_name name IsName name_is name_starts b.1 rest x b.3 in
      made d.0 (taken_is m.Comma ts b.1 b.0 go b.2) d.1
    where
      made : {us mid to : List Token} {at : Span} {y : Span} → is_full r most_parameters (length found) ≡ false → IsOne m.Comma us mid at → IsName mid to y → IsParameter r found us to y
      made room one is_named = g.parameter room

  -- NAME { "," NAME } ")"
  data IsDeclared : List Token → List Token → List Span → Type 0 where
    declared_so : {at last : Span} {mid to : List Token} {xs : List Span} → Many (IsParameter r) (at ∷ []) mid (mark m.Close last ∷ to) xs → IsDeclared (name_at at ∷ mid) to (at ∷ xs)

  declared_is : Answers (declared r) IsDeclared
  unfolding declared names
  declared_is ts rest xs e =
      let a = bind_ok (name >>= λ first. many (is_next m.Comma) (λ found. next_name r (length found)) (first ∷ [])) (λ found. expect m.Close >>= λ _. pure found) ts xs rest e in
      let b = bind_ok name (λ first. many (is_next m.Comma) (λ found. next_name r (length found)) (first ∷ [])) ts a.0 a.1 a.2 in
      let all = many_is (is_next m.Comma) (λ found. consumes_next_name r (length found)) next_name_is (b.0 ∷ []) a.0 b.1 a.1 b.3 in
      let d = bind_ok (expect m.Close) (λ _. pure a.0) a.1 xs rest a.3 in
      subst (λ (ys : List Span). IsDeclared ts rest ys) (sym all.1 ∙ value_is d.3)
      (subst (λ (us : List Token). IsDeclared ts us (b.0 ∷ all.0)) (rest_is d.3) (made (name_is ts b.1 b.0 b.2) all.2 (one_is m.Close a.1 d.1 d.0 d.2)))
    where
      made : {us mid after to : List Token} {at close : Span} {ys : List Span} → IsName us mid at → Many (IsParameter r) (at ∷ []) mid after ys → IsOne m.Close after to close → IsDeclared us to (at ∷ ys)
      made is_named hs one = declared_so hs

  parameters_is : Answers (parameters r) (IsParameters r)
  unfolding parameters parameters_of
  parameters_is ts rest xs e = by_test (is_next m.Open (kind_at ts)) refl e
    where
      none : {us to : List Token} {ys : List Span} → Same [] us ys to → IsParameters r us to ys
      none same = g.no_parameters

      empty : {us mid after to : List Token} {first last : Span} {ys : List Span} → IsOne m.Open us mid first → IsOne m.Close mid after last → Same [] after ys to → IsParameters r us to ys
      empty one one same = g.empty_parameters

      some : {us mid to : List Token} {first : Span} {ys : List Span} → IsOne m.Open us mid first → IsDeclared mid to ys → IsParameters r us to ys
      some one (declared_so hs) = g.some_parameters hs

      inner : (b : Bool) (mid : List Token) (first : Span) → is_next m.Close (kind_at mid) ≡ b → IsOne m.Open ts mid first → either b (take >>= λ _. pure []) (declared r) mid ≡ Ok (xs, rest) → IsParameters r ts rest xs
      inner true mid first is o e = let d = bind_ok take (λ _. pure []) mid xs rest e in empty o (taken_is m.Close mid d.1 d.0 is d.2) (same_is d.3)
      inner false mid first is o e = some o (declared_is mid rest xs e)

      by_test : (b : Bool) → is_next m.Open (kind_at ts) ≡ b → either b (take >>= λ _. peek >>= λ next. either (is_next m.Close next) (take >>= λ _. pure []) (declared r)) (pure []) ts ≡ Ok (xs, rest) → IsParameters r ts rest xs
      by_test true is e =
          let b = bind_ok take (λ _. peek >>= λ next. either (is_next m.Close next) (take >>= λ _. pure []) (declared r)) ts xs rest e in
          inner (is_next m.Close (kind_at b.1)) b.1 b.0 refl (taken_is m.Open ts b.1 b.0 is b.2) b.3
      by_test false is e = none (same_is e)

  stop_ends : (ts rest : List Token) (x : Unit {0}) → stop r ts ≡ Ok (x, rest) → IsStop ts rest
  unfolding stop
  stop_ends ts rest x e = by_test (is_next m.Semicolon (kind_at ts)) refl e
    where
      none : {us to : List Token} {y : Unit {0}} → Same tt us y to → IsStop us to
      none same = g.unstopped

      some : {us mid to : List Token} {at : Span} {y : Unit {0}} → IsOne m.Semicolon us mid at → Same tt mid y to → IsStop us to
      some one same = g.stopped

      by_test : (b : Bool) → is_next m.Semicolon (kind_at ts) ≡ b → either b (take >>= λ _. pure tt) (pure tt) ts ≡ Ok (x, rest) → IsStop ts rest
      by_test true is e = let a = bind_ok take (λ _. pure tt) ts x rest e in some (taken_is m.Semicolon ts a.1 a.0 is a.2) (same_is a.3)
      by_test false is e = none (same_is e)

  constant_is : (found : List Part) (at : Span) (ts rest : List Token) (x : Part) → is_next m.Is (kind_at ts) ≡ true → is_out r (tally_of found).constants_left ≡ false → constant_of r at ts ≡ Ok (x, rest) → IsPart r found (name_at at ∷ ts) rest x
  unfolding constant_of
  constant_is found at ts rest x is room e =
      let a = bind_ok take (λ _. whole r >>= λ value. expect m.Semicolon >>= λ _. pure (p.Constant (record { name = at; value = value }))) ts x rest e in
      let b = bind_ok (whole r) (λ value. expect m.Semicolon >>= λ _. pure (p.Constant (record { name = at; value = value }))) a.1 x rest a.3 in
      let d = bind_ok (expect m.Semicolon) (λ _. pure (p.Constant (record { name = at; value = b.0 }))) b.1 x rest b.3 in
      made (taken_is m.Is ts a.1 a.0 is a.2) (whole_sound r a.1 b.1 b.0 b.2) (one_is m.Semicolon b.1 d.1 d.0 d.2) (same_is d.3)
    where
      made : {us a b to vs : List Token} {sign end : Span} {value : Expr} {y : Part} → IsOne m.Is us a sign → IsWhole r a b value → IsOne m.Semicolon b to end → Same (p.Constant (record { name = at; value = value })) to y vs → IsPart r found (name_at at ∷ us) vs y
      made one w one same = g.constant room w

  -- a method, without its count
  data IsMethod (at : Span) : List Token → List Token → Part → Type 0 where
    is_method : {first last : Span} {mid inner after to : List Token} {ps : List Span} {xs : List Section} → IsParameters r mid (mark m.OpenBrace first ∷ inner) ps
        → Many (IsSection r) [] inner (mark m.CloseBrace last ∷ after) xs → IsStop after to → IsMethod at mid to (p.Method (record { name = at; parameters = ps; sections = xs }))

  method_of_is : (at : Span) → Answers (method_of r at) (IsMethod at)
  unfolding method_of
  method_of_is at ts rest x e =
      let a = bind_ok (parameters r) (λ taken. expect m.OpenBrace >>= λ _. sections r >>= λ found. expect m.CloseBrace >>= λ _. stop r >>= λ _. pure (p.Method (record { name = at; parameters = taken; sections = found }))) ts x rest e in
      let b = bind_ok (expect m.OpenBrace) (λ _. sections r >>= λ found. expect m.CloseBrace >>= λ _. stop r >>= λ _. pure (p.Method (record { name = at; parameters = a.0; sections = found }))) a.1 x rest a.3 in
      let d = bind_ok (sections r) (λ found. expect m.CloseBrace >>= λ _. stop r >>= λ _. pure (p.Method (record { name = at; parameters = a.0; sections = found }))) b.1 x rest b.3 in
      let h = bind_ok (expect m.CloseBrace) (λ _. stop r >>= λ _. pure (p.Method (record { name = at; parameters = a.0; sections = d.0 }))) d.1 x rest d.3 in
      let j = bind_ok (stop r) (λ _. pure (p.Method (record { name = at; parameters = a.0; sections = d.0 }))) h.1 x rest h.3 in
      made (parameters_is ts a.1 a.0 a.2) (one_is m.OpenBrace a.1 b.1 b.0 b.2) (sections_is b.1 d.1 d.0 d.2) (one_is m.CloseBrace d.1 h.1 h.0 h.2) (stop_ends h.1 j.1 j.0 j.2) (same_is j.3)
    where
      made : {us a b d h j to : List Token} {first last : Span} {ps : List Span} {xs : List Section} {y : Part}
          → IsParameters r us a ps → IsOne m.OpenBrace a b first → Many (IsSection r) [] b d xs → IsOne m.CloseBrace d h last → IsStop h j → Same (p.Method (record { name = at; parameters = ps; sections = xs })) j y to → IsMethod at us to y
      made ps one js one s same = is_method ps js s

  parameters_start : {from to : List Token} {first : Span} {ps : List Span} → IsParameters r from (mark m.OpenBrace first ∷ to) ps → begins_method (kind_at from) ≡ false → ⊥
  unfolding same_mark
  parameters_start g.no_parameters bad = absurd cc
  parameters_start g.empty_parameters bad = absurd cc
  parameters_start (g.some_parameters hs) bad = absurd cc

  method_starts : (at : Span) (ts rest : List Token) (x : Part) → begins_method (kind_at ts) ≡ false → IsMethod at ts rest x → ⊥
  method_starts at ts rest _ bad (is_method ps js s) = parameters_start ps bad

  method_is : (found : List Part) (at : Span) (ts rest : List Token) (x : Part) → method r (tally_of found).methods_left at ts ≡ Ok (x, rest) → IsPart r found (name_at at ∷ ts) rest x
  unfolding method
  method_is found at ts rest x e = by_full (is_out r (tally_of found).methods_left) refl e
    where
      made : {us to : List Token} {y : Part} → is_out r (tally_of found).methods_left ≡ false → IsMethod at us to y → IsPart r found (name_at at ∷ us) to y
      made room (is_method ps js s) = g.method room ps js s

      by_begins : (b : Bool) → begins_method (kind_at ts) ≡ b → either b (stops_at f.TooManyParts at) (method_of r at) ts ≡ Ok (x, rest) → IsPart r found (name_at at ∷ ts) rest x
      by_begins true is e = absurd cc
      by_begins false is e = absurd (method_starts at ts rest x is (method_of_is at ts rest x e))

      by_full : (b : Bool) → is_out r (tally_of found).methods_left ≡ b → either (b && begins_method (kind_at ts)) (stops_at f.TooManyParts at) (method_of r at) ts ≡ Ok (x, rest) → IsPart r found (name_at at ∷ ts) rest x
      by_full true is e = by_begins (begins_method (kind_at ts)) refl e
      by_full false is e = made is (method_of_is at ts rest x e)

  part_is : (found : List Part) (ts rest : List Token) (x : Part) → is_there (kind_at ts) ≡ true → part r (tally_of found) ts ≡ Ok (x, rest) → IsPart r found ts rest x
  unfolding part constant
  part_is found ts rest x go e =
      let a = bind_ok name (λ at. peek >>= λ next. either (is_next m.Is next) (constant r (tally_of found).constants_left at) (method r (tally_of found).methods_left at)) ts x rest e in
      made (name_is ts a.1 a.0 a.2) (by_test a.0 a.1 (is_next m.Is (kind_at a.1)) refl a.3)
    where
      made : {us mid : List Token} {at : Span} → IsName us mid at → IsPart r found (name_at at ∷ mid) rest x → IsPart r found us rest x
      made is_named h = h

      by_room : (at : Span) (mid : List Token) (b : Bool) → is_next m.Is (kind_at mid) ≡ true → is_out r (tally_of found).constants_left ≡ b → either b (stops_at f.TooManyParts at) (constant_of r at) mid ≡ Ok (x, rest) → IsPart r found (name_at at ∷ mid) rest x
      by_room at mid true is out e = absurd cc
      by_room at mid false is out e = constant_is found at mid rest x is out e

      by_test : (at : Span) (mid : List Token) (b : Bool) → is_next m.Is (kind_at mid) ≡ b → either b (constant r (tally_of found).constants_left at) (method r (tally_of found).methods_left at) mid ≡ Ok (x, rest) → IsPart r found (name_at at ∷ mid) rest x
      by_test at mid true is e = by_room at mid (is_out r (tally_of found).constants_left) is refl e
      by_test at mid false is e = method_is found at mid rest x e

  -- nothing is left
  at_end : (ts : List Token) → is_there (kind_at ts) ≡ false → ts ≡ []
  at_end [] e = refl
  at_end (t ∷ ts) e = absurd cc

  pub parts_sound : (ts rest : List Token) (xs : List Part) → parts r ts ≡ Ok (xs, rest) → Many (IsPart r) [] ts [] xs
  unfolding parts
  parts_sound ts rest xs e =
      let all = many_is is_there (λ found. consumes_part r (tally_of found)) part_is [] xs ts rest e in
      subst (λ (us : List Token). Many (IsPart r) [] ts us xs) (at_end rest all.3) (subst (λ (ys : List Part). Many (IsPart r) [] ts rest ys) (sym all.1) all.2)
