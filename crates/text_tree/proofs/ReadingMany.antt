-- One after the other, as a loop reads them.
use Rattle.std.proofs.Common.{◌≡◌, ◌<◌, List, [], ◌∷◌, ◌++◌, length, Option, Some, None, Ok, Err, Bool, true, false, refl, sym, ap, subst, ◌∙◌, append_assoc, arith}
use Rattle.std.proofs.lemmas.List.{append-nil}
use Rattle.text_source.specs.declared.span.Span.{Span}
use Rattle.text_source.specs.declared.token.TokenKind.{TokenKind}
use Rattle.text_source.specs.declared.token.Mark.{Mark}
use Rattle.text_source.specs.declared.token.Token.{Token}
use Rattle.text_tree.specs.declared.refusal.PlacedFault.{PlacedFault}
use Rattle.text_source.specs.declared.fault.FaultKind.{FaultKind}
use Rattle.text_source.specs.declared.fault.FaultKind.TheVariants as f
use Rattle.text_tree.specs.declared.refusal.ParseError.{ParseError}
use Rattle.text_tree.specs.declared.refusal.ParseError.TheVariants as errors
use Rattle.text_tree.proofs.GrammarStrict as g
use Rattle.text_tree.proofs.GrammarStrict.{Many}
use Rattle.text_tree.specs.Reading.{Reader, ◌>>=◌, pure, place, refuse, stops, stops_at, peek, take, expect, either, is_next, kind_at, Fails}
use Rattle.text_tree.specs.File.{gather, many}
use Rattle.text_tree.proofs.ReadingLocal.{Stood, IsLocal, Advances, rest_is, bind_ok, shrinks, local_pure, local_refuse, local_stops, local_mixed_at, local_peek, local_take, local_bind, local_map, local_either, local_repeat, unroll, no_some, taken_shorter}

-- a reader that takes some token
pub record Consumes {A : Type 0} (p : Reader A) : Type 0 where
  pub local : IsLocal p
  pub shorter : (x : A) (ts rest : List Token) → p ts ≡ Ok (x, rest) → length rest < length ts

pub consumes_refuse : {A : Type 0} → Consumes (refuse {A = A})
consumes_refuse = record { local = local_refuse; shorter = λ x ts rest e. absurd cc }

pub consumes_stops : {A : Type 0} (kind : FaultKind) → ((ts : List Token) → Stood kind (place ts) [] ts) → Consumes (stops {A = A} kind)
consumes_stops kind here = record { local = local_stops kind here; shorter = λ x ts rest e. absurd cc }

pub consumes_mixed_at : {A : Type 0} (at : Span) → Consumes (stops_at {A = A} f.MixedRemainder at)
consumes_mixed_at at = record { local = local_mixed_at at; shorter = λ x ts rest e. absurd cc }

pub consumes_take : {A : Type 0} {f : Span → Reader A} → ((at : Span) → IsLocal (f at)) → Consumes (take >>= f)
consumes_take lf = record { local = local_bind local_take lf; shorter = λ x ts rest e. taken_shorter lf x ts rest e }

pub consumes_peek : {A : Type 0} {f : Option TokenKind → Reader A} → ((next : Option TokenKind) → Consumes (f next)) → Consumes (peek >>= f)
consumes_peek lf = record { local = local_bind local_peek (λ next. (lf next).local); shorter = λ x ts rest e. (lf (kind_at ts)).shorter x ts rest e }

pub consumes_either : {A : Type 0} (b : Bool) {p q : Reader A} → Consumes p → Consumes q → Consumes (either b p q)
consumes_either true cp cq = cp
consumes_either false cp cq = cq

pub consumes_bind : {A B : Type 0} {p : Reader A} {f : A → Reader B} → Consumes p → ((x : A) → IsLocal (f x)) → Consumes (p >>= f)
consumes_bind {p = p} {f = f} cp lf = record {
  local = local_bind cp.local lf;
  shorter = λ x ts rest e.
      let b = bind_ok p f ts x rest e in
      let first = cp.shorter b.0 ts b.1 b.2 in
      let second = shrinks (lf b.0) b.1 x rest b.3 in
      omega arith;
}

take_whole : (take >>= λ at. pure at) ≡ take
take_whole = λ i ts. same ts i
  where
    same : (ts : List Token) → (take >>= λ at. pure at) ts ≡ take ts
    same [] = refl
    same (t ∷ ts) = refl

pub consumes_one : Consumes take
consumes_one = subst (λ (p : Reader Span). Consumes p) take_whole (consumes_take local_pure)

pub consumes_expect : (mark : Mark) → Consumes (expect mark)
unfolding expect
consumes_expect mark = consumes_peek (λ next. consumes_either (is_next mark next) consumes_one consumes_refuse)

-- ---- the loop

module _ {A : Type 0} (goes : Option TokenKind → Bool) {item : List A → Reader A} (c : (found : List A) → Consumes (item found)) where
  gather_at : (b : Bool) (found : List A) → IsLocal (either b (item found >>= (λ x. pure (found ++ x ∷ [])) >>= λ xs. pure (Some xs)) (pure None))
  gather_at b found = local_either b (local_map (λ xs. Some xs) (local_map (λ x. found ++ x ∷ []) (c found).local)) (local_pure None)

  shorter_at : (b : Bool) (found xs : List A) (ts rest : List Token) → either b (item found >>= (λ x. pure (found ++ x ∷ [])) >>= λ xs. pure (Some xs)) (pure None) ts ≡ Ok (Some xs, rest) → length rest < length ts
  shorter_at true found xs ts rest e =
      let b = bind_ok (item found >>= (λ x. pure (found ++ x ∷ []))) (λ xs. pure (Some xs)) ts (Some xs) rest e in
      let d = bind_ok (item found) (λ x. pure (found ++ x ∷ [])) ts b.0 b.1 b.2 in
      let less = (c found).shorter d.0 ts d.1 d.2 in
      omega (arith, ap length (rest_is d.3), ap length (rest_is b.3))
  shorter_at false found xs ts rest e = absurd (no_some e)

  stays_at : (b : Bool) (found : List A) (ts rest : List Token) → either b (item found >>= (λ x. pure (found ++ x ∷ [])) >>= λ xs. pure (Some xs)) (pure None) ts ≡ Ok (None, rest) → ts ≡ rest
  stays_at true found ts rest e = let b = bind_ok (item found >>= (λ x. pure (found ++ x ∷ []))) (λ xs. pure (Some xs)) ts None rest e in absurd (no_some (sym b.3))
  stays_at false found ts rest e = rest_is e

  pub gather_advances : Advances (gather goes item)
  unfolding gather
  gather_advances = record {
    local = λ found. local_bind local_peek (λ next. gather_at (goes next) found);
    shorter = λ found xs ts rest e. shorter_at (goes (kind_at ts)) found xs ts rest e;
    stays = λ found ts rest e. stays_at (goes (kind_at ts)) found ts rest e;
  }

  pub local_many : (found : List A) → IsLocal (many goes item found)
  unfolding many
  local_many found = local_repeat gather_advances found

  pub many_stop : (found : List A) (ts : List Token) → goes (kind_at ts) ≡ false → many goes item found ts ≡ Ok (found, ts)
  unfolding many gather
  many_stop found ts h = unroll gather_advances found ts ∙ rw h refl

  pub many_on : (found : List A) (ts rest : List Token) (x : A) → goes (kind_at ts) ≡ true → item found ts ≡ Ok (x, rest) → many goes item found ts ≡ many goes item (found ++ x ∷ []) rest
  unfolding many gather
  many_on found ts rest x h e = unroll gather_advances found ts ∙ rw (h, e) refl

  many_err : (found : List A) (ts : List Token) (f : PlacedFault) → goes (kind_at ts) ≡ true → item found ts ≡ Err f → many goes item found ts ≡ Err f
  unfolding many gather
  many_err found ts f h e = unroll gather_advances found ts ∙ rw (h, e) refl

  pub many_fails : (found : List A) (ts : List Token) (error : ParseError) → goes (kind_at ts) ≡ true → Fails error (item found ts) → Fails error (many goes item found ts)
  many_fails found ts errors.Memory h e = tt
  many_fails found ts (errors.Refused f) h e = many_err found ts f h e

-- ---- one after the other is read as such

module _ {A : Type 0} {X : List A → List Token → List Token → A → Type 0} (goes : Option TokenKind → Bool) {item : List A → Reader A} (c : (found : List A) → Consumes (item found))
    (Good : List Token → Type 0)
    (reads : (found : List A) (from to : List Token) (x : A) → X found from to x → Good to → item found from ≡ Ok (x, to))
    (starts : (found : List A) (from to : List Token) (x : A) → X found from to x → Good from × (goes (kind_at from) ≡ true)) where
  pub good_before : {found : List A} {from to : List Token} {xs : List A} → Many X found from to xs → Good to → Good from
  good_before g.ended good = good
  good_before (g.more {before = found} {from = from} {mid = mid} {x = x} h hs) good = (starts found from mid x h).0

  pub many_whole : {found : List A} {from to : List Token} {xs : List A} → Many X found from to xs → Good to → goes (kind_at to) ≡ false → many goes item found from ≡ Ok (found ++ xs, to)
  many_whole (g.ended {before = found} {to = to}) good none = many_stop goes c found to none ∙ ap (λ (ys : List A). Ok (ys, to)) (sym (append-nil found))
  many_whole (g.more {before = found} {from = from} {mid = mid} {to = to} {x = x} {xs = xs} h hs) good none =
      many_on goes c found from mid x (starts found from mid x h).1 (reads found from mid x h (good_before hs good))
      ∙ many_whole hs good none
      ∙ ap (λ (ys : List A). Ok (ys, to)) (append_assoc found (x ∷ []) xs)
