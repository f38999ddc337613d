-- Where a reader refuses a token, the tokens before it begin what it reads: some tokens end it.
use Rattle.std.proofs.Common.{rules, ◌≡◌, ℕ, zero, suc, ◌<◌, List, [], ◌∷◌, ◌++◌, length, Option, Some, None, Ok, Err, Bool, true, false, refl, sym, ap, subst, ◌∙◌, append_assoc, arith}
use Rattle.std.proofs.lemmas.List.{append-nil}
use Rattle.text_source.specs.declared.span.Span.{Span}
use Rattle.text_source.specs.declared.fault.FaultKind.{FaultKind}
use Rattle.text_source.specs.declared.fault.FaultKind.TheVariants as f
use Rattle.text_source.specs.declared.token.TokenKind.{TokenKind}
use Rattle.text_source.specs.declared.token.TokenKind.TheVariants as k
use Rattle.text_source.specs.declared.token.Mark.{Mark}
use Rattle.text_source.specs.declared.token.Token.{Token}
use denote.Enum.Bare.{same_true, true_same}
use Rattle.text_source.specs.contracts.token.Mark.{the_type}
use Rattle.text_source.specs.Kinds.{same_mark, is_mark}
use Rattle.text_tree.specs.declared.refusal.FaultPlace.{FaultPlace}
use Rattle.text_tree.specs.declared.refusal.FaultPlace.TheVariants.{At}
use Rattle.text_tree.specs.Grammar as g
use Rattle.text_tree.specs.Grammar.{mark, Many}
use Rattle.text_tree.specs.Refused.{Stands, reached}
use Rattle.text_tree.specs.Reading.{Outcome, Reader, and_then, ◌>>=◌, pure, kind_at, refusal_of, stops, stops_at, refuse, peek, take, is_next, either, expect, onward, repeat}
use Rattle.text_tree.specs.File.{gather, many}
use Rattle.text_tree.proofs.ReadingLocal.{Alike, moved, Alike-append, kind_alike, place_alike, Advances, unroll}
use Rattle.text_tree.proofs.ReadingMany.{Consumes, gather_advances}

-- what tokens stand for
abbrev pub Relation : Type 0 → Type 1
Relation A = List Token → List Token → A → Type 0

-- the tokens are such, whatever follows
abbrev pub Spans : {A : Type 0} → Relation A → List Token → A → Type 0
Spans X ts x = (to : List Token) → X (ts ++ to) to x

-- some tokens end what these begin
pub record Begun {A : Type 0} (X : Relation A) (tokens : List Token) : Type 0 where
  pub more : List Token
  pub value : A
  pub spans : Spans X (tokens ++ more) value

-- such an x in front makes it a Z
abbrev pub After : {A B : Type 0} → Relation A → Relation B → A → Relation B
After X Z x from to z = (start : List Token) → X start from x → Z start to z

abbrev pub Right : {A : Type 0} → List Token → Relation A → (A → List Token → Type 0) → Outcome A → List Token → List Token → Type 0
Right first X Post (Ok p) taken rest = (p.1 ≡ rest) × Spans X taken p.0 × Post p.0 (first ++ taken)
Right first X Post (Err e) taken rest = Stands e.kind e.at (first ++ taken) rest × Begun X (reached e.kind taken rest)

-- what a reader answers, where the first tokens were taken before
pub record Sees {A : Type 0} (first : List Token) (X : Relation A) (Post : A → List Token → Type 0) (p : Reader A) (ts : List Token) (r : Outcome A) : Type 0 where
  pub taken : List Token
  pub rest : List Token
  pub parts : ts ≡ taken ++ rest
  pub right : Right first X Post r taken rest
  pub whatever : (other : List Token) → Alike rest other → p (taken ++ other) ≡ moved r other

pub record Reads {A : Type 0} (Pre : List Token → Type 0) (X : Relation A) (Post : A → List Token → Type 0) (p : Reader A) : Type 0 where
  pub sees : (first ts : List Token) → Pre first → Sees first X Post p ts (p ts)
  pub some : Begun X []

abbrev pub Any : List Token → Type 0
Any ts = Unit {0}

abbrev pub AnyOf : {A : Type 0} → A → List Token → Type 0
AnyOf a ts = Unit {0}

reached_after : (kind : FaultKind) (first front rest : List Token) → reached kind (first ++ front) rest ≡ first ++ reached kind front rest
reached_after f.Unexpected first front rest = refl
reached_after f.EmptyBracket first front rest = refl
reached_after _ first front [] = refl
reached_after _ first front (t ∷ ts) = append_assoc first front (t ∷ [])

-- ---- one after the other

right_join : {A B : Type 0} (X : Relation A) (Z : Relation B) (Post : B → List Token → Type 0) (first one two rest : List Token) (x : A) (r : Outcome B) → Spans X one x
    → Right (first ++ one) (After X Z x) Post r two rest → Right first Z Post r (one ++ two) rest
right_join X Z Post first one two rest x (Ok p) spans h = (
  h.0,
  λ to. subst (λ (ts : List Token). Z ts to p.0) (sym (append_assoc one two to)) (h.1 to (one ++ (two ++ to)) (spans (two ++ to))),
  subst (Post p.0) (append_assoc first one two) h.2,
)
right_join X Z Post first one two rest x (Err e) spans h =
    let b = h.1 in
    let tokens = reached e.kind two rest in (
      subst (λ (ts : List Token). Stands e.kind e.at ts rest) (append_assoc first one two) h.0,
      record {
        more = b.more;
        value = b.value;
        spans = λ to.
            subst (λ (ts : List Token). Z ((ts ++ b.more) ++ to) to b.value) (sym (reached_after e.kind one two rest))
            (subst (λ (ts : List Token). Z ts to b.value) (sym (ap (λ (ts : List Token). ts ++ to) (append_assoc one tokens b.more) ∙ append_assoc one (tokens ++ b.more) to))
            (b.spans to (one ++ ((tokens ++ b.more) ++ to)) (spans ((tokens ++ b.more) ++ to))));
      },
    )

begun_join : {A B : Type 0} (X : Relation A) (Z : Relation B) (tokens : List Token) → Begun X tokens → ((x : A) → Begun (After X Z x) []) → Begun Z tokens
begun_join X Z tokens b next =
    let c = next b.value in
    record {
      more = b.more ++ c.more;
      value = c.value;
      spans = λ to.
          subst (λ (ts : List Token). Z ts to c.value) (sym (ap (λ (ts : List Token). ts ++ to) (sym (append_assoc tokens b.more c.more)) ∙ append_assoc (tokens ++ b.more) c.more to))
          (c.spans to ((tokens ++ b.more) ++ (c.more ++ to)) (b.spans (c.more ++ to)));
    }

module _ {A B : Type 0} {X : Relation A} {Mid : A → List Token → Type 0} {Z : Relation B} {Post : B → List Token → Type 0} where
  pub sees_on : (first : List Token) (p : Reader A) (next : A → Reader B) (ts : List Token) (r : Outcome A) → Sees first X Mid p ts r → ((x : A) → Begun (After X Z x) [])
      → ((x : A) (mid tokens : List Token) → ◌≡◌ {A = Outcome A} r (Ok (x, mid)) → Mid x tokens → Sees tokens (After X Z x) Post (next x) mid (next x mid)) → Sees first Z Post (p >>= next) ts (and_then r next)
  sees_on first p next ts (Ok a) l some on =
      let m = on a.0 a.1 (first ++ l.taken) refl l.right.2 in
      record {
        taken = l.taken ++ m.taken;
        rest = m.rest;
        parts = l.parts ∙ ap (λ (us : List Token). l.taken ++ us) (sym l.right.0 ∙ m.parts) ∙ sym (append_assoc l.taken m.taken m.rest);
        right = right_join X Z Post first l.taken m.taken m.rest a.0 (next a.0 a.1) l.right.1 m.right;
        whatever = λ other h.
            let alike : Alike l.rest (m.taken ++ other) = subst (λ (us : List Token). Alike us (m.taken ++ other)) (sym m.parts ∙ l.right.0) (Alike-append m.taken m.rest other h) in
            ap (λ (us : List Token). and_then (p us) next) (append_assoc l.taken m.taken other) ∙ ap (λ (o : Outcome _). and_then o next) (l.whatever (m.taken ++ other) alike) ∙ m.whatever other h;
      }
  sees_on first p next ts (Err e) l some on = record {
    taken = l.taken;
    rest = l.rest;
    parts = l.parts;
    right = (l.right.0, begun_join X Z (reached e.kind l.taken l.rest) l.right.1 some);
    whatever = λ other h. ap (λ (o : Outcome _). and_then o next) (l.whatever other h);
  }

  pub sees_bind : (first : List Token) (p : Reader A) (next : A → Reader B) (ts : List Token) (r : Outcome A) → Sees first X Mid p ts r → ((x : A) → Reads (Mid x) (After X Z x) Post (next x))
      → Sees first Z Post (p >>= next) ts (and_then r next)
  sees_bind first p next ts r l reads = sees_on first p next ts r l (λ x. (reads x).some) (λ x mid tokens is pre. (reads x).sees tokens mid pre)

  pub reads_bind : {Pre : List Token → Type 0} {p : Reader A} {next : A → Reader B} → Reads Pre X Mid p → ((x : A) → Reads (Mid x) (After X Z x) Post (next x)) → Reads Pre Z Post (p >>= next)
  reads_bind {p = p} {next = next} l reads = record {
    sees = λ first ts pre. sees_bind first p next ts (p ts) (l.sees first ts pre) reads;
    some = begun_join X Z [] l.some (λ x. (reads x).some);
  }

pub reads_pure : {A : Type 0} {Pre : List Token → Type 0} {X : Relation A} {Post : A → List Token → Type 0} (a : A) → ((ts : List Token) → X ts ts a) → ((ts : List Token) → Pre ts → Post a ts) → Reads Pre X Post (pure a)
reads_pure {Post = Post} a is post = record {
  sees = λ first ts pre. record {
    taken = [];
    rest = ts;
    parts = refl;
    right = (refl, λ to. is to, subst (Post a) (sym (append-nil first)) (post first pre));
    whatever = λ other h. refl;
  };
  some = record { more = []; value = a; spans = λ to. is to };
}

-- what is read is handed on under a name
pub reads_map : {A B : Type 0} {X : Relation A} {Z : Relation B} {Pre : List Token → Type 0} {Mid : A → List Token → Type 0} {Post : B → List Token → Type 0} (make : A → B) {p : Reader A} → Reads Pre X Mid p
    → ((x : A) (from to : List Token) → X from to x → Z from to (make x)) → ((x : A) (ts : List Token) → Mid x ts → Post (make x) ts) → Reads Pre Z Post (p >>= λ x. pure (make x))
reads_map make l is post = reads_bind l (λ x. reads_pure (make x) (λ ts start h. is x start ts h) (post x))

-- the same reader, said of less or of something weaker
module _ {A : Type 0} {X Z : Relation A} {Mid Post : A → List Token → Type 0} (is : (x : A) (from to : List Token) → X from to x → Z from to x) (post : (x : A) (ts : List Token) → Mid x ts → Post x ts) where
  as_right : (first taken rest : List Token) (r : Outcome A) → Right first X Mid r taken rest → Right first Z Post r taken rest
  as_right first taken rest (Ok a) h = (h.0, λ to. is a.0 (taken ++ to) to (h.1 to), post a.0 (first ++ taken) h.2)
  as_right first taken rest (Err e) h = let b = h.1 in (h.0, record { more = b.more; value = b.value; spans = λ to. is b.value ((reached e.kind taken rest ++ b.more) ++ to) to (b.spans to) })

  pub sees_as : {first ts : List Token} {p : Reader A} {r : Outcome A} → Sees first X Mid p ts r → Sees first Z Post p ts r
  sees_as {first = first} {r = r} s = record { taken = s.taken; rest = s.rest; parts = s.parts; right = as_right first s.taken s.rest r s.right; whatever = s.whatever }

  pub reads_as : {Pre Less : List Token → Type 0} {p : Reader A} → ((ts : List Token) → Less ts → Pre ts) → Reads Pre X Mid p → Reads Less Z Post p
  reads_as less l = record {
    sees = λ first ts pre. sees_as (l.sees first ts (less first pre));
    some = record { more = l.some.more; value = l.some.value; spans = λ to. is l.some.value (l.some.more ++ to) to (l.some.spans to) };
  }

pub sees_same : {A : Type 0} {X : Relation A} {Post : A → List Token → Type 0} {first ts : List Token} {p q : Reader A} → ((us : List Token) → q us ≡ p us) → Sees first X Post p ts (p ts) → Sees first X Post q ts (q ts)
sees_same {X = X} {Post = Post} {first = first} {ts = ts} {p = p} {q = q} same s = record {
  taken = s.taken;
  rest = s.rest;
  parts = s.parts;
  right = subst (λ (o : Outcome _). Right first X Post o s.taken s.rest) (sym (same ts)) s.right;
  whatever = λ other h. same (s.taken ++ other) ∙ s.whatever other h ∙ ap (λ (o : Outcome _). moved o other) (sym (same ts));
}

-- ---- refusals

pub sees_refuse : {A : Type 0} {X : Relation A} {Post : A → List Token → Type 0} (first ts : List Token) → Begun X [] → Sees first X Post refuse ts (refuse ts)
sees_refuse first ts b = record { taken = []; rest = ts; parts = refl; right = (refl, b); whatever = λ other h. ap (λ (at : FaultPlace). Err (refusal_of f.Unexpected at)) (place_alike ts other h) }

pub reads_refuse : {A : Type 0} {Pre : List Token → Type 0} {X : Relation A} {Post : A → List Token → Type 0} → Begun X [] → Reads Pre X Post refuse
reads_refuse b = record { sees = λ first ts pre. sees_refuse first ts b; some = b }

-- a fault at the next token or an earlier one, with which some such begins
pub sees_stops : {A : Type 0} {X : Relation A} {Post : A → List Token → Type 0} (kind : FaultKind) (first : List Token) (t : Token) (ts : List Token) → Stands kind (At t.span) (first ++ []) (t ∷ ts) → Begun X (reached kind [] (t ∷ ts))
    → Sees first X Post (stops kind) (t ∷ ts) (stops kind (t ∷ ts))
sees_stops kind first t ts h b = record { taken = []; rest = t ∷ ts; parts = refl; right = (h, b); whatever = λ other alike. ap (λ (at : FaultPlace). Err (refusal_of kind at)) (place_alike (t ∷ ts) other alike) }

pub sees_stops_at : {A : Type 0} {X : Relation A} {Post : A → List Token → Type 0} (kind : FaultKind) (at : Span) (first ts : List Token) → Stands kind (At at) (first ++ []) ts → Begun X (reached kind [] ts)
    → Sees first X Post (stops_at kind at) ts (stops_at kind at ts)
sees_stops_at kind at first ts h b = record { taken = []; rest = ts; parts = refl; right = (h, b); whatever = λ other alike. refl }

-- ---- the next token

-- goes on by the kind of the next token, where each kind is looked at alone
pub sees_peek : {A : Type 0} {X : Relation A} {Post : A → List Token → Type 0} (first : List Token) (next : Option TokenKind → Reader A) (ts : List Token) → Sees first X Post (next (kind_at ts)) ts (next (kind_at ts) ts)
    → Sees first X Post (peek >>= next) ts ((peek >>= next) ts)
sees_peek first next ts s = record {
  taken = s.taken;
  rest = s.rest;
  parts = s.parts;
  right = s.right;
  whatever = λ other h.
      let alike : Alike ts (s.taken ++ other) = subst (λ (us : List Token). Alike us (s.taken ++ other)) (sym s.parts) (Alike-append s.taken s.rest other h) in
      ap (λ (o : Option TokenKind). next o (s.taken ++ other)) (kind_alike ts (s.taken ++ other) alike) ∙ s.whatever other h;
}

pub reads_peek : {A : Type 0} {Pre : List Token → Type 0} {X : Relation A} {Post : A → List Token → Type 0} (next : Option TokenKind → Reader A) → Begun X []
    → ((first ts : List Token) → Pre first → Sees first X Post (next (kind_at ts)) ts (next (kind_at ts) ts)) → Reads Pre X Post (peek >>= next)
reads_peek next b s = record { sees = λ first ts pre. sees_peek first next ts (s first ts pre); some = b }

-- a token of the kind
pub data IsToken (kind : TokenKind) : List Token → List Token → Span → Type 0 where
  it : {at : Span} {to : List Token} → IsToken kind (record { kind = kind; span = at } ∷ to) to at

-- such a token is the last
abbrev pub Last : TokenKind → Span → List Token → Type 0
Last kind at tokens = (start : List Token) × (tokens ≡ start ++ record { kind = kind; span = at } ∷ [])

pub nowhere : Span
nowhere = record { from = 0; to = 0 }

pub begun_token : (kind : TokenKind) → Begun (IsToken kind) []
begun_token kind = record { more = record { kind = kind; span = nowhere } ∷ []; value = nowhere; spans = λ to. it }

pub sees_take : (kind : TokenKind) (at : Span) (first ts : List Token) → Sees first (IsToken kind) (Last kind) take (record { kind = kind; span = at } ∷ ts) (Ok (at, ts))
sees_take kind at first ts = record { taken = record { kind = kind; span = at } ∷ []; rest = ts; parts = refl; right = (refl, λ to. it, (first, refl)); whatever = λ other h. refl }

-- where more is known of the tokens so far
pub sees_take_as : {Post : Span → List Token → Type 0} (kind : TokenKind) (at : Span) (first ts : List Token) → Post at (first ++ record { kind = kind; span = at } ∷ [])
    → Sees first (IsToken kind) Post take (record { kind = kind; span = at } ∷ ts) (Ok (at, ts))
sees_take_as kind at first ts post = record { taken = record { kind = kind; span = at } ∷ []; rest = ts; parts = refl; right = (refl, λ to. it, post); whatever = λ other h. refl }

pub sees_taken : {A : Type 0} {X : Relation A} {Post : A → List Token → Type 0} (kind : TokenKind) (at : Span) {next : Span → Reader A} (first ts : List Token)
    → ((sign : Span) → Reads (Last kind sign) (After (IsToken kind) X sign) Post (next sign)) → Sees first X Post (take >>= next) (record { kind = kind; span = at } ∷ ts) ((take >>= next) (record { kind = kind; span = at } ∷ ts))
sees_taken kind at {next = next} first ts reads = sees_bind first take next (record { kind = kind; span = at } ∷ ts) (Ok (at, ts)) (sees_take kind at first ts) reads

pub mark_is : (which : Mark) (kind : TokenKind) → is_mark which kind ≡ true → kind ≡ k.Mark which
unfolding same_mark
mark_is which (k.Mark other) h = ap (λ (x : Mark). k.Mark x) (same_true the_type (search rules) other which h)
mark_is which k.Name h = absurd cc
mark_is which (k.Number n) h = absurd cc
mark_is which (k.BitText count value) h = absurd cc

pub is_itself : (which : Mark) → is_mark which (k.Mark which) ≡ true
unfolding same_mark
is_itself which = true_same the_type which which refl

-- the mark, and what follows it; or else another reader
module _ {A : Type 0} {Pre : List Token → Type 0} {X : Relation A} {Post : A → List Token → Type 0} (which : Mark) {yes otherwise : Reader A}
    (there : (first : List Token) (at : Span) (ts : List Token) → Pre first → Sees first X Post yes (mark which at ∷ ts) (yes (mark which at ∷ ts))) (else : Reads Pre X Post otherwise) where
  sees_test : (first ts : List Token) → Pre first → Sees first X Post (either (is_next which (kind_at ts)) yes otherwise) ts (either (is_next which (kind_at ts)) yes otherwise ts)
  sees_test first [] pre = else.sees first [] pre
  sees_test first (t ∷ ts) pre = by_test (is_mark which t.kind) refl
    where
      by_test : (b : Bool) → is_mark which t.kind ≡ b → Sees first X Post (either b yes otherwise) (t ∷ ts) (either b yes otherwise (t ∷ ts))
      by_test true is =
          let same : mark which t.span ≡ t = ap (λ (kind : TokenKind). record { kind = kind; span = t.span }) (sym (mark_is which t.kind is)) in
          subst (λ (u : Token). Sees first X Post yes (u ∷ ts) (yes (u ∷ ts))) same (there first t.span ts pre)
      by_test false is = else.sees first (t ∷ ts) pre

  pub reads_test : Reads Pre X Post (peek >>= λ next. either (is_next which next) yes otherwise)
  reads_test = reads_peek (λ o. either (is_next which o) yes otherwise) else.some sees_test

pub reads_mark : {A : Type 0} {Pre : List Token → Type 0} {X : Relation A} {Post : A → List Token → Type 0} (which : Mark) {next : Span → Reader A} {otherwise : Reader A}
    → ((at : Span) → Reads (Last (k.Mark which) at) (After (IsToken (k.Mark which)) X at) Post (next at)) → Reads Pre X Post otherwise
    → Reads Pre X Post (peek >>= λ o. either (is_next which o) (take >>= next) otherwise)
reads_mark which reads else = reads_test which (λ first at ts pre. sees_taken (k.Mark which) at first ts reads) else

pub reads_expect : {Pre : List Token → Type 0} (which : Mark) → Reads Pre (IsToken (k.Mark which)) (Last (k.Mark which)) (expect which)
unfolding expect
reads_expect which = reads_test which (λ first at ts pre. sees_take (k.Mark which) at first ts) (reads_refuse (begun_token (k.Mark which)))

-- ---- a step again and again

module _ {S : Type 0} {step : S → Reader (Option S)} (a : Advances step) (N : S → Relation S) (Inv : S → List Token → Type 0) (here : (s : S) (ts : List Token) → N s ts ts s) where
  -- what a turn adds
  abbrev pub Turn : S → Relation (Option S)
  Turn s from to None = from ≡ to
  Turn s from to (Some t) = (end : List Token) (u : S) → N t to end u → N s from end u

  abbrev pub Turned : S → Option S → List Token → Type 0
  Turned s None = Inv s
  Turned s (Some t) = Inv t

  module _ (turn : (s : S) (first ts : List Token) → Inv s first → Sees first (Turn s) (Turned s) (step s) ts (step s ts)) where
    -- reading on is over in any case
    onward_some : (s : S) (o : Option S) → Begun (After (Turn s) (N s) o) []
    onward_some s None = record { more = []; value = s; spans = λ to start same. subst (λ (ts : List Token). N s ts to s) (sym same) (here s to) }
    onward_some s (Some t) = record { more = []; value = t; spans = λ to start on. on to t (here t to) }

    stop_sees : (s : S) (first ts : List Token) → Inv s first → Sees first (After (Turn s) (N s) None) Inv (pure s) ts (Ok (s, ts))
    stop_sees s first ts inv =
        (reads_pure {Pre = Inv s} {X = After (Turn s) (N s) None} {Post = Inv} s (λ us start same. subst (λ (vs : List Token). N s vs us s) (sym same) (here s us)) (λ us pre. pre)).sees first ts inv

    onward_sees : (s : S) (o : Option S) (first ts : List Token) → Turned s o first → ((t : S) → o ≡ Some t → Sees first (N t) Inv (repeat step t) ts (repeat step t ts))
        → Sees first (After (Turn s) (N s) o) Inv (onward (repeat step) s o) ts (onward (repeat step) s o ts)
    onward_sees s None first ts inv next = stop_sees s first ts inv
    onward_sees s (Some t) first ts inv next = sees_as (λ u from to h start on. on to u h) (λ u us h. h) (next t refl)

    repeat_sees : (n : ℕ) (s : S) (first ts : List Token) → length ts < n → Inv s first → Sees first (N s) Inv (repeat step s) ts (repeat step s ts)
    repeat_sees zero s first ts h inv = absurd (omega arith)
    repeat_sees (suc n) s first ts h inv =
        sees_same (unroll a s) (sees_on first (step s) (onward (repeat step) s) ts (step s ts) (turn s first ts inv) (onward_some s)
        (λ o mid tokens is pre. onward_sees s o tokens mid pre
        (λ t some. let less = a.shorter s t ts mid (is ∙ ap (λ (x : Option S). Ok (x, mid)) some) in repeat_sees n t tokens mid (omega arith) (subst (λ (x : Option S). Turned s x tokens) some pre))))

    pub reads_repeat : (s : S) → Reads (Inv s) (N s) Inv (repeat step s)
    reads_repeat s = record { sees = λ first ts inv. repeat_sees (suc (length ts)) s first ts (omega arith) inv; some = record { more = []; value = s; spans = λ to. here s to } }

-- ---- { X }

module _ {A : Type 0} (goes : Option TokenKind → Bool) {item : List A → Reader A} (c : (found : List A) → Consumes (item found)) (X : Relation A) (Inv : List Token → Type 0)
    (reads : (found : List A) (first ts : List Token) → goes (kind_at ts) ≡ true → Inv first → Sees first X (λ _. Inv) (item found) ts (item found ts)) (some : Begun X []) where
  -- these come after those that were found
  abbrev pub More : List A → Relation (List A)
  More found from to ys = (xs : List A) × (ys ≡ found ++ xs) × Many X from to xs

  more_here : (found : List A) (ts : List Token) → More found ts ts found
  more_here found ts = ([], sym (append-nil found), g.ended)

  abbrev Adds : List A → Relation (Option (List A))
  Adds = Turn (gather_advances goes c) More (λ _. Inv) more_here

  adds : (found : List A) (x : A) (from to : List Token) → X from to x → Adds found from to (Some (found ++ x ∷ []))
  adds found x from to h end ys more = (x ∷ more.0, more.1 ∙ append_assoc found (x ∷ []) more.0, g.more h more.2)

  gather_sees : (found : List A) (first ts : List Token) → Inv first → Sees first (Adds found) (Turned (gather_advances goes c) More (λ _. Inv) more_here found) (gather goes item found) ts (gather goes item found ts)
  unfolding gather
  gather_sees found first ts inv = sees_peek first (λ next. either (goes next) (item found >>= (λ x. pure (found ++ x ∷ [])) >>= λ xs. pure (Some xs)) (pure None)) ts (by_test (goes (kind_at ts)) refl)
    where
      by_test : (b : Bool) → goes (kind_at ts) ≡ b
          → Sees first (Adds found) (Turned (gather_advances goes c) More (λ _. Inv) more_here found) (either b (item found >>= (λ x. pure (found ++ x ∷ [])) >>= λ xs. pure (Some xs)) (pure None)) ts
          (either b (item found >>= (λ x. pure (found ++ x ∷ [])) >>= λ xs. pure (Some xs)) (pure None) ts)
      by_test true is =
          sees_bind first (item found >>= (λ x. pure (found ++ x ∷ []))) (λ xs. pure (Some xs)) ts _
          (sees_bind {X = X} {Mid = λ _. Inv} {Z = λ from to ys. Adds found from to (Some ys)} {Post = λ _. Inv} first (item found) (λ x. pure (found ++ x ∷ [])) ts (item found ts) (reads found first ts is inv)
          (λ x. reads_pure (found ++ x ∷ []) (λ us start h. adds found x start us h) (λ us pre. pre)))
          (λ ys. reads_pure (Some ys) (λ us start h. h) (λ us pre. pre))
      by_test false is = (reads_pure {Pre = Inv} None (λ us. refl) (λ us pre. pre)).sees first ts inv

  pub reads_many : (found : List A) → Reads Inv (More found) (λ _. Inv) (many goes item found)
  unfolding many
  reads_many found = reads_repeat (gather_advances goes c) More (λ _. Inv) more_here gather_sees found
