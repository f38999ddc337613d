-- Readers whose fault may stand at a token that was taken before them.
use Rattle.std.proofs.Common.{rules, ◌≡◌, ◌≤◌, length, length-append, arith, List, [], ◌∷◌, ◌++◌, Option, Some, Ok, Err, Bool, true, false, refl, sym, ap, subst, ◌∙◌, inr}
use Rattle.text_source.specs.declared.span.Span.{Span}
use Rattle.text_source.specs.declared.fault.FaultKind.TheVariants as f
use Rattle.text_source.specs.declared.token.TokenKind.{TokenKind}
use Rattle.text_source.specs.declared.token.TokenKind.TheVariants as k
use Rattle.text_source.specs.declared.token.Mark.{Mark}
use Rattle.text_source.specs.declared.token.Mark.TheVariants as m
use Rattle.text_source.specs.declared.token.Token.{Token}
use denote.Enum.Bare.{same_true}
use Rattle.text_source.specs.contracts.token.Mark.{the_type}
use Rattle.text_source.specs.Kinds.{same_mark, is_mark}
use Rattle.text_tree.specs.Grammar.{mark, name_at}
use Rattle.text_tree.specs.Reading.{Outcome, Reader, ◌>>=◌, pure, kind_at, refusal_of, place, stops_at, refuse, peek, take, is_next, either}
use Rattle.text_tree.specs.declared.refusal.FaultPlace.TheVariants.{At}
use Rattle.text_tree.specs.File.{name_by, name}
use Rattle.text_tree.proofs.ReadingLocal.{Alike, moved, Holds, Looks, IsLocal, Alike-append, kind_alike, holds_after}

-- as `Looks`, where these tokens were taken before
pub record LooksAfter {A : Type 0} (first : List Token) (p : Reader A) (ts : List Token) (r : Outcome A) : Type 0 where
  pub taken : List Token
  pub rest : List Token
  pub parts : ts ≡ taken ++ rest
  pub stands : Holds r (first ++ taken) rest
  pub whatever : (other : List Token) → Alike rest other → p (taken ++ other) ≡ moved r other

pub record IsLocalAfter {A : Type 0} (first : List Token) (p : Reader A) : Type 0 where
  pub looks : (ts : List Token) → LooksAfter first p ts (p ts)

looks_after : {A : Type 0} (first : List Token) (p : Reader A) (ts : List Token) (r : Outcome A) → Looks p ts r → LooksAfter first p ts r
looks_after first p ts r l = record { taken = l.taken; rest = l.rest; parts = l.parts; stands = holds_after first l.taken l.rest r l.stands; whatever = l.whatever }

pub after_local : {A : Type 0} {first : List Token} {p : Reader A} → IsLocal p → IsLocalAfter first p
after_local {first = first} {p = p} l = record { looks = λ ts. looks_after first p ts (p ts) (l.looks ts) }

pub after_either : {A : Type 0} {first : List Token} (b : Bool) {p q : Reader A} → IsLocalAfter first p → IsLocalAfter first q → IsLocalAfter first (either b p q)
after_either true lp lq = lp
after_either false lp lq = lq

peek_looks : {A : Type 0} (first : List Token) (next : Option TokenKind → Reader A) (ts : List Token) → LooksAfter first (next (kind_at ts)) ts (next (kind_at ts) ts) → LooksAfter first (peek >>= next) ts ((peek >>= next) ts)
peek_looks first next ts l = record {
  taken = l.taken;
  rest = l.rest;
  parts = l.parts;
  stands = l.stands;
  whatever = λ other h.
      let alike : Alike ts (l.taken ++ other) = subst (λ (us : List Token). Alike us (l.taken ++ other)) (sym l.parts) (Alike-append l.taken l.rest other h) in
      ap (λ (o : Option TokenKind). next o (l.taken ++ other)) (kind_alike ts (l.taken ++ other) alike) ∙ l.whatever other h;
}

pub after_peek : {A : Type 0} {first : List Token} {next : Option TokenKind → Reader A} → ((o : Option TokenKind) → IsLocalAfter first (next o)) → IsLocalAfter first (peek >>= next)
after_peek {first = first} {next = next} l = record { looks = λ ts. peek_looks first next ts ((l (kind_at ts)).looks ts) }

pub after_too_many : {A : Type 0} (at : Span) → IsLocalAfter (name_at at ∷ []) (stops_at {A = A} f.TooManyParts at)
after_too_many at = record { looks = λ ts. record { taken = []; rest = ts; parts = refl; stands = inr (at, [], refl, refl); whatever = λ other h. refl } }

after_len : {A : Type 0} (first : List Token) (p : Reader A) (ts : List Token) (r : Outcome A) (x : A) (rest : List Token) → LooksAfter first p ts r → r ≡ Ok (x, rest) → length rest ≤ length ts
after_len first p ts (Ok a) x rest l e =
    let same : l.rest ≡ rest = sym l.stands ∙ (cc) in
    omega (arith, ap length l.parts, length-append l.taken l.rest, ap length same)
after_len first p ts (Err f) x rest l e = absurd cc

pub after_shrinks : {A : Type 0} {first : List Token} {p : Reader A} → IsLocalAfter first p → (ts : List Token) (x : A) (rest : List Token) → p ts ≡ Ok (x, rest) → length rest ≤ length ts
after_shrinks {first = first} {p = p} l ts x rest e = after_len first p ts (p ts) x rest (l.looks ts) e

pub mark_is : (mark : Mark) (kind : TokenKind) → is_mark mark kind ≡ true → kind ≡ k.Mark mark
unfolding same_mark
mark_is mark (k.Mark other) h = ap (λ (x : Mark). k.Mark x) (same_true the_type (search rules) other mark h)
mark_is mark k.Name h = absurd cc
mark_is mark (k.Number n) h = absurd cc
mark_is mark (k.BitText count value) h = absurd cc

-- ---- after a name

module _ {A : Type 0} {next : Span → Reader A} (l : (at : Span) → IsLocalAfter (name_at at ∷ []) (next at)) where
  refused : (kind : TokenKind) (at : Span) (ts : List Token) → name_by (Some kind) ≡ refuse → Looks (name >>= next) (record { kind = kind; span = at } ∷ ts) ((name >>= next) (record { kind = kind; span = at } ∷ ts))
  unfolding name
  refused kind at ts is =
      rw is (record { taken = []; rest = record { kind = kind; span = at } ∷ ts; parts = refl; stands = refl; whatever = λ other h. other_is other h })
    where
      other_is : (other : List Token) → Alike (record { kind = kind; span = at } ∷ ts) other → (name >>= next) other ≡ Err (refusal_of f.Unexpected (place (record { kind = kind; span = at } ∷ ts)))
      other_is [] h = absurd h
      other_is (u ∷ us) h = subst (λ (v : Token). (name >>= next) (v ∷ us) ≡ Err (refusal_of f.Unexpected (place (record { kind = kind; span = at } ∷ ts)))) h (rw is refl)

  by_kind : (kind : TokenKind) (at : Span) (ts : List Token) → Looks (name >>= next) (record { kind = kind; span = at } ∷ ts) ((name >>= next) (record { kind = kind; span = at } ∷ ts))
  unfolding name
  by_kind k.Name at ts =
      let inner = (l at).looks ts in
      record { taken = name_at at ∷ inner.taken; rest = inner.rest; parts = ap (λ (us : List Token). name_at at ∷ us) inner.parts; stands = inner.stands; whatever = inner.whatever }
  by_kind (k.Number n) at ts = refused (k.Number n) at ts refl
  by_kind (k.BitText count value) at ts = refused (k.BitText count value) at ts refl
  by_kind (k.Mark which) at ts = refused (k.Mark which) at ts refl

  name_looks : (ts : List Token) → Looks (name >>= next) ts ((name >>= next) ts)
  unfolding name
  name_looks [] = record { taken = []; rest = []; parts = refl; stands = refl; whatever = λ other h. at_end other h }
    where
      at_end : (other : List Token) → Alike [] other → (name >>= next) other ≡ Err (refusal_of f.Unexpected (place []))
      at_end [] h = refl
      at_end (u ∷ us) h = absurd h
  name_looks (t ∷ ts) = by_kind t.kind t.span ts

  pub local_name : IsLocal (name >>= next)
  local_name = record { looks = name_looks }

-- ---- after `[`

abbrev pub filled_by : {A : Type 0} → (Span → Reader A) → Span → Reader A
filled_by inside first = peek >>= λ next. either (is_next m.CloseSquare next) (stops_at f.EmptyBracket first) (inside first)

module _ {A : Type 0} {inside : Span → Reader A} (l : (at : Span) → IsLocal (inside at)) where
  closed_is : (first : Span) (u : Token) (us : List Token) → is_mark m.CloseSquare u.kind ≡ true → filled_by inside first (u ∷ us) ≡ Err (refusal_of f.EmptyBracket (At first))
  closed_is first u us is = rw is refl

  closed_on : (first : Span) (u : Token) (us other : List Token) → is_mark m.CloseSquare u.kind ≡ true → Alike (u ∷ us) other → filled_by inside first other ≡ Err (refusal_of f.EmptyBracket (At first))
  closed_on first u us [] is h = absurd h
  closed_on first u us (v ∷ vs) is h = closed_is first v vs (subst (λ (w : Token). is_mark m.CloseSquare w.kind ≡ true) h is)

  closed_looks : (first : Span) (u : Token) (us : List Token) → is_mark m.CloseSquare u.kind ≡ true → LooksAfter (mark m.OpenSquare first ∷ []) (filled_by inside first) (u ∷ us) (Err (refusal_of f.EmptyBracket (At first)))
  closed_looks first u us is = record {
    taken = [];
    rest = u ∷ us;
    parts = refl;
    stands = (first, u.span, [], us, refl, ap (λ (kind : TokenKind). record { kind = kind; span = u.span } ∷ us) (mark_is m.CloseSquare u.kind is), refl);
    whatever = λ other h. closed_on first u us other is h;
  }

  inside_looks : (first : Span) (ts : List Token) → is_next m.CloseSquare (kind_at ts) ≡ false → LooksAfter (mark m.OpenSquare first ∷ []) (filled_by inside first) ts (inside first ts)
  inside_looks first ts is =
      let inner = (l first).looks ts in
      record {
        taken = inner.taken;
        rest = inner.rest;
        parts = inner.parts;
        stands = holds_after (mark m.OpenSquare first ∷ []) inner.taken inner.rest (inside first ts) inner.stands;
        whatever = λ other h.
            let alike : Alike ts (inner.taken ++ other) = subst (λ (us : List Token). Alike us (inner.taken ++ other)) (sym inner.parts) (Alike-append inner.taken inner.rest other h) in
            let same : is_next m.CloseSquare (kind_at (inner.taken ++ other)) ≡ false = ap (is_next m.CloseSquare) (kind_alike ts (inner.taken ++ other) alike) ∙ is in
            rw same (inner.whatever other h);
      }

  filled_looks : (first : Span) (ts : List Token) → LooksAfter (mark m.OpenSquare first ∷ []) (filled_by inside first) ts (filled_by inside first ts)
  filled_looks first [] = inside_looks first [] refl
  filled_looks first (u ∷ us) = by_test (is_mark m.CloseSquare u.kind) refl
    where
      by_test : (b : Bool) → is_mark m.CloseSquare u.kind ≡ b → LooksAfter (mark m.OpenSquare first ∷ []) (filled_by inside first) (u ∷ us) (either b (stops_at f.EmptyBracket first) (inside first) (u ∷ us))
      by_test true is = closed_looks first u us is
      by_test false is = inside_looks first (u ∷ us) is

  abbrev pub opened_by : A → Reader A
  opened_by none = peek >>= λ next. either (is_next m.OpenSquare next) (take >>= filled_by inside) (pure none)

  module _ (none : A) where
    unopened : (t : Token) (ts : List Token) → is_mark m.OpenSquare t.kind ≡ false → Looks (opened_by none) (t ∷ ts) (Ok (none, t ∷ ts))
    unopened t ts is = record { taken = []; rest = t ∷ ts; parts = refl; stands = refl; whatever = λ other h. on other h }
      where
        on : (other : List Token) → Alike (t ∷ ts) other → opened_by none other ≡ Ok (none, other)
        on [] h = absurd h
        on (v ∷ vs) h = rw (subst (λ (w : Token). is_mark m.OpenSquare w.kind ≡ false) h is) refl

    opened : (t : Token) (ts : List Token) → is_mark m.OpenSquare t.kind ≡ true → Looks (opened_by none) (t ∷ ts) (filled_by inside t.span ts)
    opened t ts is =
        let inner = filled_looks t.span ts in
        let same : mark m.OpenSquare t.span ≡ t = ap (λ (kind : TokenKind). record { kind = kind; span = t.span }) (sym (mark_is m.OpenSquare t.kind is)) in
        record {
          taken = t ∷ inner.taken;
          rest = inner.rest;
          parts = ap (λ (us : List Token). t ∷ us) inner.parts;
          stands = subst (λ (u : Token). Holds (filled_by inside t.span ts) (u ∷ inner.taken) inner.rest) same inner.stands;
          whatever = λ other h. rw is (inner.whatever other h);
        }

    opened_looks : (ts : List Token) → Looks (opened_by none) ts (opened_by none ts)
    opened_looks [] = record { taken = []; rest = []; parts = refl; stands = refl; whatever = λ other h. on other h }
      where
        on : (other : List Token) → Alike [] other → opened_by none other ≡ Ok (none, other)
        on [] h = refl
        on (v ∷ vs) h = absurd h
    opened_looks (t ∷ ts) = by_test (is_mark m.OpenSquare t.kind) refl
      where
        by_test : (b : Bool) → is_mark m.OpenSquare t.kind ≡ b → Looks (opened_by none) (t ∷ ts) (either b (take >>= filled_by inside) (pure none) (t ∷ ts))
        by_test true is = opened t ts is
        by_test false is = unopened t ts is

    pub local_opened : IsLocal (opened_by none)
    local_opened = record { looks = opened_looks }
