-- A reader looks no further than one token past what it took. So what it answers holds whatever follows that token.
use Rattle.std.proofs.Common.{◌≡◌, ◌⊎◌, ℕ, zero, suc, ◌<◌, ◌≤◌, List, [], ◌∷◌, ◌++◌, length, Option, Some, None, Result, Ok, Err, Bool, true, false, refl, sym, ap, subst, ◌∙◌, append_assoc, arith, length-append, inl, inr}
use Rattle.text_source.specs.declared.span.Span.{Span}
use Rattle.text_source.specs.declared.token.TokenKind.{TokenKind}
use Rattle.text_source.specs.declared.token.Mark.{Mark}
use Rattle.text_source.specs.declared.token.Token.{Token}
use Rattle.text_tree.specs.declared.refusal.FaultPlace.{FaultPlace}
use Rattle.text_tree.specs.declared.refusal.FaultPlace.TheVariants.{At, End}
use Rattle.text_tree.specs.declared.refusal.PlacedFault.{PlacedFault}
use Rattle.text_source.specs.declared.fault.FaultKind.{FaultKind}
use Rattle.text_source.specs.declared.fault.FaultKind.TheVariants as f
use Rattle.text_source.specs.declared.token.Mark.TheVariants as m
use Rattle.text_tree.specs.Grammar.{mark, name_at}
use Rattle.text_tree.specs.Reading.{Outcome, Reader, and_then, ◌>>=◌, pure, place, kind_at, refusal_of, stops, stops_at, refuse, peek, take, is_next, either, expect, onward, again, repeat}
use Rattle.text_tree.specs.Refused.{begins, nests, stands_once}

-- where a refused token stands, as far as readers show it alone
abbrev pub Stood : FaultKind → FaultPlace → List Token → List Token → Type 0
Stood f.Unexpected at front rest = at ≡ place rest
Stood f.Nesting at front rest = (at ≡ place rest) × (begins nests rest ≡ true)
Stood f.RepeatedSection at front rest = (at ≡ place rest) × (begins stands_once rest ≡ true)
Stood f.TooManyParts at front rest = (at ≡ place rest) ⊎ ((name : Span) × (start : List Token) × (front ≡ start ++ name_at name ∷ []) × (at ≡ At name))
Stood f.EmptyBracket at front rest = (first last : Span) × (start after : List Token)
    × (front ≡ start ++ mark m.OpenSquare first ∷ []) × (rest ≡ mark m.CloseSquare last ∷ after) × (at ≡ At first)
Stood f.MixedRemainder at front rest = Unit {0}
Stood _ at front rest = ⊥

-- the same next token, or no token on both sides
abbrev pub Alike : List Token → List Token → Type 0
Alike [] [] = Unit {0}
Alike [] (u ∷ us) = ⊥
Alike (t ∷ ts) [] = ⊥
Alike (t ∷ ts) (u ∷ us) = t ≡ u

-- the outcome where other tokens follow
abbrev pub moved : {A : Type 0} → Outcome A → List Token → Outcome A
moved (Ok p) other = Ok (p.0, other)
moved (Err f) other = Err f

-- the outcome's tokens are these, and so is the place that it names
abbrev pub Holds : {A : Type 0} → Outcome A → List Token → List Token → Type 0
Holds (Ok p) front rest = p.1 ≡ rest
Holds (Err f) front rest = Stood f.kind f.at front rest

pub record Looks {A : Type 0} (p : Reader A) (ts : List Token) (r : Outcome A) : Type 0 where
  pub taken : List Token
  pub rest : List Token
  pub parts : ts ≡ taken ++ rest
  pub stands : Holds r taken rest
  pub whatever : (other : List Token) → Alike rest other → p (taken ++ other) ≡ moved r other

pub record IsLocal {A : Type 0} (p : Reader A) : Type 0 where
  pub looks : (ts : List Token) → Looks p ts (p ts)

pub Alike-append : (taken rest other : List Token) → Alike rest other → Alike (taken ++ rest) (taken ++ other)
Alike-append [] rest other h = h
Alike-append (t ∷ ts) rest other h = refl

pub place_alike : (ts us : List Token) → Alike ts us → place us ≡ place ts
place_alike [] [] h = refl
place_alike [] (u ∷ us) h = absurd h
place_alike (t ∷ ts) [] h = absurd h
place_alike (t ∷ ts) (u ∷ us) h = ap (λ (x : Token). At x.span) (sym h)

pub kind_alike : (ts us : List Token) → Alike ts us → kind_at us ≡ kind_at ts
kind_alike [] [] h = refl
kind_alike [] (u ∷ us) h = absurd h
kind_alike (t ∷ ts) [] h = absurd h
kind_alike (t ∷ ts) (u ∷ us) h = ap (λ (x : Token). Some x.kind) (sym h)

-- more tokens in front change nothing
stands_after : (kind : FaultKind) (at : FaultPlace) (first front rest : List Token) → Stood kind at front rest → Stood kind at (first ++ front) rest
stands_after f.Unexpected at first front rest h = h
stands_after f.Nesting at first front rest h = h
stands_after f.RepeatedSection at first front rest h = h
stands_after f.TooManyParts at first front rest (inl h) = inl h
stands_after f.TooManyParts at first front rest (inr h) =
    inr (h.0, first ++ h.1, ap (λ (us : List Token). first ++ us) h.2 ∙ sym (append_assoc first h.1 (name_at h.0 ∷ [])), h.3)
stands_after f.EmptyBracket at first front rest h =
    (h.0, h.1, first ++ h.2, h.3, ap (λ (us : List Token). first ++ us) h.4 ∙ sym (append_assoc first h.2 (mark m.OpenSquare h.0 ∷ [])), h.5, h.6)
stands_after f.MixedRemainder at first front rest h = tt
stands_after _ at first front rest h = absurd h

pub ok_is : {A : Type 0} {x y : A} → ◌≡◌ {A = Result A PlacedFault} (Ok x) (Ok y) → x ≡ y
ok_is e = cc

pub value_is : {A : Type 0} {x y : A} {ts us : List Token} → ◌≡◌ {A = Outcome A} (Ok (x, ts)) (Ok (y, us)) → x ≡ y
value_is e = ap (λ (p : _ × List Token). p.0) (ok_is e)

pub rest_is : {A : Type 0} {x y : A} {ts us : List Token} → ◌≡◌ {A = Outcome A} (Ok (x, ts)) (Ok (y, us)) → ts ≡ us
rest_is e = ap (λ (p : _ × List Token). p.1) (ok_is e)

pub bind_ok : {A B : Type 0} (p : Reader A) (f : A → Reader B) (ts : List Token) (y : B) (rest : List Token) → (p >>= f) ts ≡ Ok (y, rest)
    → (x : A) × (mid : List Token) × (p ts ≡ Ok (x, mid)) × (f x mid ≡ Ok (y, rest))
bind_ok p f ts y rest e = bind_at (p ts) refl e
  where
    bind_at : (r : Outcome _) → p ts ≡ r → and_then r f ≡ Ok (y, rest) → (x : _) × (mid : List Token) × (p ts ≡ Ok (x, mid)) × (f x mid ≡ Ok (y, rest))
    bind_at (Ok a) is e = (a.0, a.1, is, e)
    bind_at (Err d) is e = absurd cc

-- ---- the steps

pub local_pure : {A : Type 0} (a : A) → IsLocal (pure a)
local_pure a = record { looks = λ ts. record { taken = []; rest = ts; parts = refl; stands = refl; whatever = λ other h. refl } }

-- a fault that stands at the next token, wherever that is
pub local_stops : {A : Type 0} (kind : FaultKind) → ((ts : List Token) → Stood kind (place ts) [] ts) → IsLocal (stops {A = A} kind)
local_stops kind here = record { looks = λ ts. record { taken = []; rest = ts; parts = refl; stands = here ts; whatever = λ other h. ap (λ (at : FaultPlace). Err (refusal_of kind at)) (place_alike ts other h) } }

pub local_mixed_at : {A : Type 0} (at : Span) → IsLocal (stops_at {A = A} f.MixedRemainder at)
local_mixed_at at = record { looks = λ ts. record { taken = []; rest = ts; parts = refl; stands = tt; whatever = λ other h. refl } }

pub local_refuse : {A : Type 0} → IsLocal (refuse {A = A})
local_refuse = local_stops f.Unexpected (λ ts. refl)

pub local_peek : IsLocal peek
local_peek = record { looks = λ ts. record { taken = []; rest = ts; parts = refl; stands = refl; whatever = λ other h. ap (λ (o : Option TokenKind). Ok (o, other)) (kind_alike ts other h) } }

take_looks : (ts : List Token) → Looks take ts (take ts)
take_looks [] = record { taken = []; rest = []; parts = refl; stands = refl; whatever = λ other h. at_end other h }
  where
    at_end : (other : List Token) → Alike [] other → take other ≡ Err (refusal_of f.Unexpected End)
    at_end [] h = refl
    at_end (u ∷ us) h = absurd h
take_looks (t ∷ ts) = record { taken = t ∷ []; rest = ts; parts = refl; stands = refl; whatever = λ other h. refl }

pub local_take : IsLocal take
local_take = record { looks = take_looks }

pub holds_after : {A : Type 0} (first front rest : List Token) (r : Outcome A) → Holds r front rest → Holds r (first ++ front) rest
holds_after first front rest (Ok p) h = h
holds_after first front rest (Err e) h = stands_after e.kind e.at first front rest h

bind_looks : {A B : Type 0} (p : Reader A) (f : A → Reader B) (ts : List Token) (r : Outcome A) → Looks p ts r
    → ((x : A) (rest : List Token) → ◌≡◌ {A = Outcome A} r (Ok (x, rest)) → Looks (f x) rest (f x rest)) → Looks (p >>= f) ts (and_then r f)
bind_looks p f ts (Ok a) l lf =
    let m = lf a.0 a.1 refl in
    record {
      taken = l.taken ++ m.taken;
      rest = m.rest;
      parts = l.parts ∙ ap (λ (us : List Token). l.taken ++ us) (sym l.stands ∙ m.parts) ∙ sym (append_assoc l.taken m.taken m.rest);
      stands = holds_after l.taken m.taken m.rest (f a.0 a.1) m.stands;
      whatever = λ other h.
          let alike : Alike l.rest (m.taken ++ other) = subst (λ (us : List Token). Alike us (m.taken ++ other)) (sym m.parts ∙ l.stands) (Alike-append m.taken m.rest other h) in
          ap (λ (us : List Token). and_then (p us) f) (append_assoc l.taken m.taken other) ∙ ap (λ (o : Outcome _). and_then o f) (l.whatever (m.taken ++ other) alike) ∙ m.whatever other h;
    }
bind_looks p f ts (Err e) l lf = record { taken = l.taken; rest = l.rest; parts = l.parts; stands = l.stands; whatever = λ other h. ap (λ (o : Outcome _). and_then o f) (l.whatever other h) }

pub local_bind : {A B : Type 0} {p : Reader A} {f : A → Reader B} → IsLocal p → ((x : A) → IsLocal (f x)) → IsLocal (p >>= f)
local_bind {p = p} {f = f} lp lf = record { looks = λ ts. bind_looks p f ts (p ts) (lp.looks ts) (λ x rest e. (lf x).looks rest) }

pub local_map : {A B : Type 0} (g : A → B) {p : Reader A} → IsLocal p → IsLocal (p >>= (λ x. pure (g x)))
local_map g lp = local_bind lp (λ x. local_pure (g x))

-- a reader that goes on by the next token's kind, where each kind is looked at alone
pub local_peek_at : {A : Type 0} (next : Option TokenKind → Reader A) → ((ts : List Token) → Looks (next (kind_at ts)) ts (next (kind_at ts) ts)) → IsLocal (peek >>= next)
local_peek_at next l = record { looks = λ ts. peek_at ts (l ts) }
  where
    peek_at : (ts : List Token) → Looks (next (kind_at ts)) ts (next (kind_at ts) ts) → Looks (peek >>= next) ts ((peek >>= next) ts)
    peek_at ts inner = record {
      taken = inner.taken;
      rest = inner.rest;
      parts = inner.parts;
      stands = inner.stands;
      whatever = λ other h.
          let alike : Alike ts (inner.taken ++ other) = subst (λ (us : List Token). Alike us (inner.taken ++ other)) (sym inner.parts) (Alike-append inner.taken inner.rest other h) in
          ap (λ (o : Option TokenKind). next o (inner.taken ++ other)) (kind_alike ts (inner.taken ++ other) alike) ∙ inner.whatever other h;
    }

pub stops_looks : {A : Type 0} (kind : FaultKind) (ts : List Token) → Stood kind (place ts) [] ts → Looks (stops {A = A} kind) ts (Err (refusal_of kind (place ts)))
stops_looks kind ts here = record { taken = []; rest = ts; parts = refl; stands = here; whatever = λ other h. ap (λ (at : FaultPlace). Err (refusal_of kind at)) (place_alike ts other h) }

-- ---- a reader takes no token back

looks_len : {A : Type 0} (p : Reader A) (ts : List Token) (r : Outcome A) (x : A) (rest : List Token) → Looks p ts r → r ≡ Ok (x, rest) → length rest ≤ length ts
looks_len p ts (Ok a) x rest l e =
    let same : l.rest ≡ rest = sym l.stands ∙ (cc) in
    omega (arith, ap length l.parts, length-append l.taken l.rest, ap length same)
looks_len p ts (Err f) x rest l e = absurd cc

pub shrinks : {A : Type 0} {p : Reader A} → IsLocal p → (ts : List Token) (x : A) (rest : List Token) → p ts ≡ Ok (x, rest) → length rest ≤ length ts
shrinks {p = p} lp ts x rest e = looks_len p ts (p ts) x rest (lp.looks ts) e

-- ---- this mark, and no other token

pub local_either : {A : Type 0} (b : Bool) {p q : Reader A} → IsLocal p → IsLocal q → IsLocal (either b p q)
local_either true lp lq = lp
local_either false lp lq = lq

pub local_expect : (mark : Mark) → IsLocal (expect mark)
unfolding expect
local_expect mark = local_bind local_peek (λ next. local_either (is_next mark next) local_take local_refuse)

-- ---- a step again and again

-- each turn that goes on takes a token
pub record Advances {S : Type 0} (step : S → Reader (Option S)) : Type 0 where
  pub local : (s : S) → IsLocal (step s)
  pub shorter : (s t : S) (ts rest : List Token) → step s ts ≡ Ok (Some t, rest) → length rest < length ts
  -- and one that does not takes none
  pub stays : (s : S) (ts rest : List Token) → step s ts ≡ Ok (None, rest) → ts ≡ rest

same_on : {S : Type 0} (f g : S → Reader S) (s : S) (o : Option S) (rest : List Token) → ((t : S) → o ≡ Some t → f t rest ≡ g t rest) → onward f s o rest ≡ onward g s o rest
same_on f g s None rest h = refl
same_on f g s (Some t) rest h = h t refl

same_at : {S : Type 0} (f g : S → Reader S) (s : S) (r : Outcome (Option S)) → ((t : S) (rest : List Token) → ◌≡◌ {A = Outcome (Option S)} r (Ok (Some t, rest)) → f t rest ≡ g t rest) → and_then r (onward f s) ≡ and_then r (onward g s)
same_at f g s (Ok p) h = same_on f g s p.0 p.1 (λ t e. h t p.1 (ap (λ (o : Option _). Ok (o, p.1)) e))
same_at f g s (Err e) h = refl

-- more turns than tokens change nothing
enough : {S : Type 0} {step : S → Reader (Option S)} → Advances step → (n m : ℕ) (s : S) (ts : List Token) → length ts < n → length ts < m → again n step s ts ≡ again m step s ts
unfolding again
enough a zero m s ts h k = absurd (omega arith)
enough a (suc n) zero s ts h k = absurd (omega arith)
enough {step = step} a (suc n) (suc m) s ts h k =
    same_at (again n step) (again m step) s (step s ts) (λ t rest e. let less = a.shorter s t ts rest e in enough a n m t rest (omega arith) (omega arith))

pub unroll : {S : Type 0} {step : S → Reader (Option S)} → Advances step → (s : S) (ts : List Token) → repeat step s ts ≡ and_then (step s ts) (onward (repeat step) s)
unfolding again repeat
unroll {step = step} a s ts =
    same_at (again (length ts) step) (repeat step) s (step s ts) (λ t rest e. let less = a.shorter s t ts rest e in enough a (length ts) (suc (length rest)) t rest less (omega arith))

looks_same : {A : Type 0} (p q : Reader A) (ts : List Token) → ((us : List Token) → p us ≡ q us) → Looks q ts (q ts) → Looks p ts (p ts)
looks_same p q ts same l = rw (same ts) (record { taken = l.taken; rest = l.rest; parts = l.parts; stands = l.stands; whatever = λ other h. same (l.taken ++ other) ∙ l.whatever other h })

onward_looks : {S : Type 0} (f : S → Reader S) (s : S) (o : Option S) (rest : List Token) → ((t : S) → o ≡ Some t → Looks (f t) rest (f t rest)) → Looks (onward f s o) rest (onward f s o rest)
onward_looks f s None rest h = (local_pure s).looks rest
onward_looks f s (Some t) rest h = h t refl

repeat_looks : {S : Type 0} {step : S → Reader (Option S)} → Advances step → (n : ℕ) (s : S) (ts : List Token) → length ts < n → Looks (repeat step s) ts (repeat step s ts)
repeat_looks a zero s ts h = absurd (omega arith)
repeat_looks {step = step} a (suc n) s ts h =
    looks_same (repeat step s) (step s >>= onward (repeat step) s) ts (unroll a s)
    (bind_looks (step s) (onward (repeat step) s) ts (step s ts) ((a.local s).looks ts)
    (λ o rest e. onward_looks (repeat step) s o rest (λ t some. let less = a.shorter s t ts rest (e ∙ ap (λ (x : Option _). Ok (x, rest)) some) in repeat_looks a n t rest (omega arith))))

pub local_repeat : {S : Type 0} {step : S → Reader (Option S)} → Advances step → (s : S) → IsLocal (repeat step s)
local_repeat a s = record { looks = λ ts. repeat_looks a (suc (length ts)) s ts (omega arith) }

-- ---- turns that take a token, or nothing at all

pub record IsTurn {A : Type 0} (p : Reader (Option A)) : Type 0 where
  pub shorter : (t : A) (ts rest : List Token) → p ts ≡ Ok (Some t, rest) → length rest < length ts
  pub stays : (ts rest : List Token) → p ts ≡ Ok (None, rest) → ts ≡ rest

pub no_some : {A : Type 0} {t : A} {ts us : List Token} → ◌≡◌ {A = Outcome (Option A)} (Ok (None, ts)) (Ok (Some t, us)) → ⊥
no_some {A = A} {t = t} e = let o : ◌≡◌ {A = Option A} None (Some t) = value_is e in absurd cc

pub turn_stop : {A : Type 0} → IsTurn {A = A} (pure None)
turn_stop = record { shorter = λ t ts rest e. absurd (no_some e); stays = λ ts rest e. rest_is e }

pub taken_shorter : {A : Type 0} {f : Span → Reader A} → ((at : Span) → IsLocal (f at)) → (x : A) (ts rest : List Token) → (take >>= f) ts ≡ Ok (x, rest) → length rest < length ts
taken_shorter lf x [] rest e = absurd cc
taken_shorter lf x (t ∷ ts) rest e = let le = shrinks (lf t.span) ts x rest e in omega arith

-- a turn that answers some value of a reader that takes a token
pub turn_map : {A : Type 0} {p : Reader A} → ((x : A) (ts rest : List Token) → p ts ≡ Ok (x, rest) → length rest < length ts) → IsTurn (p >>= λ x. pure (Some x))
turn_map {p = p} less = record {
  shorter = λ t ts rest e. let b = bind_ok p (λ x. pure (Some x)) ts (Some t) rest e in let same = rest_is b.3 in let fewer = less b.0 ts b.1 b.2 in omega (arith, ap length same);
  stays = λ ts rest e. let b = bind_ok p (λ x. pure (Some x)) ts None rest e in absurd (no_some (sym b.3));
}

pub turn_peek : {A : Type 0} {f : Option TokenKind → Reader (Option A)} → ((next : Option TokenKind) → IsTurn (f next)) → IsTurn (peek >>= f)
turn_peek lf = record { shorter = λ t ts rest e. (lf (kind_at ts)).shorter t ts rest e; stays = λ ts rest e. (lf (kind_at ts)).stays ts rest e }

-- what each turn keeps, the whole keeps
kept_on : {S : Type 0} {step : S → Reader (Option S)} → Advances step → (P : S → List Token → Type 0) (s u : S) (ts rest : List Token) → P s ts
    → ((t : S) (mid : List Token) → step s ts ≡ Ok (Some t, mid) → repeat step t mid ≡ Ok (u, rest) → P u rest × (step u rest ≡ Ok (None, rest)))
    → (o : Option S) (mid : List Token) → step s ts ≡ Ok (o, mid) → onward (repeat step) s o mid ≡ Ok (u, rest) → P u rest × (step u rest ≡ Ok (None, rest))
kept_on {S = S} {step = step} a P s u ts rest p next None mid was is =
    let stay = a.stays s ts mid was in
    let at : ts ≡ rest = stay ∙ rest_is is in (
      subst (λ (v : S). P v rest) (value_is is) (subst (λ (us : List Token). P s us) at p),
      subst (λ (v : S). step v rest ≡ Ok (None, rest)) (value_is is) (ap (step s) (sym at) ∙ was ∙ ap (λ (us : List Token). Ok (None, us)) (rest_is is)),
    )
kept_on a P s u ts rest p next (Some t) mid was is = next t mid was is

kept_at : {S : Type 0} {step : S → Reader (Option S)} → Advances step → (P : S → List Token → Type 0) → ((s t : S) (ts rest : List Token) → P s ts → step s ts ≡ Ok (Some t, rest) → P t rest)
    → (n : ℕ) (s u : S) (ts rest : List Token) → length ts < n → P s ts → repeat step s ts ≡ Ok (u, rest) → P u rest × (step u rest ≡ Ok (None, rest))
kept_at a P keeps zero s u ts rest h p e = absurd (omega arith)
kept_at {step = step} a P keeps (suc n) s u ts rest h p e =
    let b = bind_ok (step s) (onward (repeat step) s) ts u rest (sym (unroll a s ts) ∙ e) in
    kept_on a P s u ts rest p
    (λ t mid was is. let less = a.shorter s t ts mid was in kept_at a P keeps n t u mid rest (omega arith) (keeps s t ts mid p was) is)
    b.0 b.1 b.2 b.3

pub kept : {S : Type 0} {step : S → Reader (Option S)} → Advances step → (P : S → List Token → Type 0) → ((s t : S) (ts rest : List Token) → P s ts → step s ts ≡ Ok (Some t, rest) → P t rest)
    → (s u : S) (ts rest : List Token) → P s ts → repeat step s ts ≡ Ok (u, rest) → P u rest × (step u rest ≡ Ok (None, rest))
kept a P keeps s u ts rest p e = kept_at a P keeps (suc (length ts)) s u ts rest (omega arith) p e
