-- No call is told just where the formats of each method call alike.
use Rattle.std.proofs.Common.{◌≡◌, ◌∙◌, refl, sym, ap, subst, ℕ, zero, suc, ◌+◌, Bool, true, false, List, [], ◌∷◌, ◌++◌, arith}
use Rattle.std.specs.Prelude.{◌||◌, ◌&&◌, not, Option, Some, None, slice_get, flat_map, if◌then◌else◌}
use Rattle.std.specs.List.{enumerate_from}
use Rattle.std.specs.Option.{option_or, option_and_then}
use Rattle.std.proofs.lemmas.Bool.{true≢false}
use Rattle.std.proofs.lemmas.Bool.Decides.{Decides-eqb}
use Rattle.sem_expr.specs.declared.expr.Expr.{Expr}
use Rattle.sem_profile.specs.declared.profile.Encoding.{Encoding}
use Rattle.sem_profile.specs.declared.profile.Encoding.TheVariants as encoding
use Rattle.sem_profile.specs.declared.profile.Field.{Field}
use Rattle.sem_profile.specs.declared.profile.Format.{Format}
use Rattle.sem_profile.specs.declared.profile.Method.{Method}
use Rattle.sem_profile.specs.declared.profile.Part.{Part}
use Rattle.sem_profile.specs.declared.profile.Part.TheVariants.{Local}
use Rattle.sem_profile.specs.declared.profile.Part.TheVariants as part
use Rattle.sem_filling.specs.Fits.{format_at}
use Rattle.sem_filling.proofs.FitsSized.{one_value, and_then_some}
use Rattle.sem_elsewhere.specs.Paths.{CallAlike}
use Rattle.sem_lint.specs.declared.unlike.UnlikeCall.{UnlikeCall}
use Rattle.sem_lint.specs.Paths.{called_by, is_local, is_some_number}
use Rattle.sem_lint.specs.Unlike.{calls_it, call_it, is_unlike, unlike_by, unlike_field, unlike_fields, unlike_formats, told_call, unlike_method, unlike_calls, SilentWhereAlike}

-- ---- parts

or_none : {T : Type 0} (o p : Option T) → option_or o p ≡ None → (o ≡ None) × (p ≡ None)
or_none None p e = (refl, e)
or_none (Some x) p e = absurd (cc)

none_or : {T : Type 0} (o p : Option T) → o ≡ None → p ≡ None → option_or o p ≡ None
none_or None p e h = h
none_or (Some x) p e h = absurd (cc)

no_tests : (a b : Bool) → (a || not b) ≡ false → (a ≡ false) × (b ≡ true)
no_tests false true e = (refl, refl)
no_tests false false e = absurd (true≢false e)
no_tests true b e = absurd (true≢false e)

tests_none : (a b : Bool) → a ≡ false → b ≡ true → (a || not b) ≡ false
tests_none false true e h = refl
tests_none false false e h = absurd (true≢false (sym h))
tests_none true b e h = absurd (true≢false e)

both : (a b : Bool) → (a && b) ≡ true → (a ≡ true) × (b ≡ true)
both true b e = (refl, e)
both false b e = absurd (cc)

both_are : (a b : Bool) → a ≡ true → b ≡ true → (a && b) ≡ true
both_are a b e h = ap (λ x. x && b) e ∙ h

no_choice : {T : Type 0} (b : Bool) (x : T) → (if b then Some x else None) ≡ None → b ≡ false
no_choice true x e = absurd (cc)
no_choice false x e = refl

choice_none : {T : Type 0} (b : Bool) (x : T) → b ≡ false → (if b then Some x else None) ≡ None
choice_none true x e = absurd (true≢false e)
choice_none false x e = refl

no_call : (o : Option UnlikeCall) → told_call o ≡ [] → o ≡ None
no_call None e = refl
no_call (Some x) e = absurd (cc)

both_empty : {T : Type 0} (xs ys : List T) → xs ++ ys ≡ [] → (xs ≡ []) × (ys ≡ [])
both_empty [] ys e = (refl, e)
both_empty (x ∷ xs) ys e = absurd (cc)

empty_both : {T : Type 0} (xs ys : List T) → xs ≡ [] → ys ≡ [] → xs ++ ys ≡ []
empty_both [] ys e h = h
empty_both (x ∷ xs) ys e h = absurd (cc)

pub calls_of : (e : Encoding) (j : ℕ) → called_by e ≡ Some j → (es : List Expr) × (e ≡ encoding.Call j es)
calls_of encoding.Bare j e = absurd (cc)
calls_of (encoding.Library l) j e = absurd (cc)
calls_of (encoding.Call m es) j e = (es, let same : m ≡ j = cc in ap (λ x. encoding.Call x es) same)

that_number : (o : Option ℕ) (j : ℕ) → is_some_number o j ≡ true → o ≡ Some j
that_number None j e = absurd (cc)
that_number (Some n) j e = ap Some ((Decides-eqb n j).0 e)

own_number : (o : Option ℕ) (j : ℕ) → o ≡ Some j → is_some_number o j ≡ true
own_number None j e = absurd (cc)
own_number (Some n) j e = (Decides-eqb n j).1 (let same : n ≡ j = cc in same)

local_is : (p : Part) → p ≡ Local → is_local p ≡ true
local_is part.Local e = refl
local_is part.Header e = absurd (cc)
local_is part.Control e = absurd (cc)

not_local : (p : Part) → is_local p ≡ false → p ≡ Local → ⊥
not_local p e h = true≢false (sym (local_is p h) ∙ e)

no_local_is : (p : Part) → (p ≡ Local → ⊥) → is_local p ≡ false
no_local_is part.Local h = absurd (h refl)
no_local_is part.Header h = refl
no_local_is part.Control h = refl

-- ---- where none is told

each_calls : (i j : ℕ) (formats : List Format) → call_it i j formats ≡ true → (m : ℕ) (g : Format) → slice_get formats m ≡ Some g → calls_it j (slice_get g.fields i) ≡ true
each_calls i j [] e m g at = absurd (cc)
each_calls i j (x ∷ xs) e zero g at = let same : x ≡ g = one_value (Some x) x g refl at in ap (λ (y : Format). calls_it j (slice_get y.fields i)) (sym same) ∙ (both _ _ e).0
each_calls i j (x ∷ xs) e (suc m) g at = each_calls i j xs (both (calls_it j (slice_get x.fields i)) _ e).1 m g at

each_field : (k : ℕ) (formats : List Format) (n b : ℕ) (ds : List Field) → unlike_fields k formats n b ds ≡ None → (i c : ℕ) (d : Field) → c ≡ b + i → slice_get ds i ≡ Some d → unlike_field k formats n c d ≡ None
each_field k formats n b [] e i c d is at = absurd (cc)
each_field k formats n b (x ∷ ds) e zero c d is at =
    let same : x ≡ d = one_value (Some x) x d refl at in
    let here : b ≡ c = omega (arith, is) in
    subst (λ y. unlike_field k formats n y d ≡ None) here (subst (λ y. unlike_field k formats n b y ≡ None) same (or_none (unlike_field k formats n b x) _ e).0)
each_field k formats n b (x ∷ ds) e (suc i) c d is at =
    each_field k formats n (suc b) ds (or_none (unlike_field k formats n b x) _ e).1 i c d (omega (arith, is)) at

each_format : (k : ℕ) (formats : List Format) (b : ℕ) (fs : List Format) → unlike_formats k formats b fs ≡ None → (n : ℕ) (f : Format) → slice_get fs n ≡ Some f → (c : ℕ) × (unlike_fields k formats c 0 f.fields ≡ None)
each_format k formats b [] e n f at = absurd (cc)
each_format k formats b (x ∷ fs) e zero f at =
    let same : x ≡ f = one_value (Some x) x f refl at in
    (b, subst (λ (y : Format). unlike_fields k formats b 0 y.fields ≡ None) same (or_none (unlike_fields k formats b 0 x.fields) _ e).0)
each_format k formats b (x ∷ fs) e (suc n) f at = each_format k formats (suc b) fs (or_none (unlike_fields k formats b 0 x.fields) _ e).1 n f at

each_method : (b : ℕ) (methods : List Method) → flat_map (λ (m : ℕ × Method). unlike_method m.0 m.1) (enumerate_from b methods) ≡ [] → (k : ℕ) (m : Method) → slice_get methods k ≡ Some m → (c : ℕ) × (unlike_method c m ≡ [])
each_method b [] e k m at = absurd (cc)
each_method b (x ∷ xs) e zero m at =
    let same : x ≡ m = one_value (Some x) x m refl at in
    (b, subst (λ (y : Method). unlike_method b y ≡ []) same (both_empty (unlike_method b x) _ e).0)
each_method b (x ∷ xs) e (suc k) m at = each_method (b + 1) xs (both_empty (unlike_method b x) _ e).1 k m at

like_by : (k : ℕ) (formats : List Format) (n i : ℕ) (d : Field) (o : Option ℕ) (j : ℕ) → o ≡ Some j → unlike_by k formats n i d o ≡ None → is_unlike formats i d j ≡ false
like_by k formats n i d None j is e = absurd (cc)
like_by k formats n i d (Some x) j is e = let same : x ≡ j = cc in subst (λ y. is_unlike formats i d y ≡ false) same (no_choice (is_unlike formats i d x) _ e)

-- of a method, of one of its formats, of a field of that which calls a method
like_there : (methods : List Method) → unlike_calls methods ≡ [] → (k : ℕ) (m : Method) → slice_get methods k ≡ Some m → (n : ℕ) (f : Format) → slice_get m.formats n ≡ Some f
    → (i : ℕ) (d : Field) → slice_get f.fields i ≡ Some d → (j : ℕ) (es : List Expr) → d.encoding ≡ encoding.Call j es → is_unlike m.formats i d j ≡ false
like_there methods none k m at n f fat i d dat j es is =
    let whole = each_method 0 methods none k m at in
    let part = each_format whole.0 m.formats 0 m.formats (no_call _ whole.1) n f fat in
    like_by whole.0 m.formats part.0 i d (called_by d.encoding) j (ap called_by is) (each_field whole.0 m.formats part.0 0 f.fields part.1 i i d (omega arith) dat)

in_method : (methods : List Method) (k n : ℕ) (f : Format) → format_at methods k n ≡ Some f → (m : Method) × (slice_get methods k ≡ Some m) × (slice_get m.formats n ≡ Some f)
in_method methods k n f e = and_then_some (λ (m : Method). slice_get m.formats n) (slice_get methods k) f e

alike : (methods : List Method) → unlike_calls methods ≡ [] → CallAlike methods
alike methods none = record { same = same; no_local = no_local }
  where
    same : (k n m i j : ℕ) (es : List Expr) (f g : Format) (d e : Field) → format_at methods k n ≡ Some f → format_at methods k m ≡ Some g → slice_get f.fields i ≡ Some d → slice_get g.fields i ≡ Some e
        → (d.declared.part ≡ Local → ⊥) → d.encoding ≡ encoding.Call j es → (others : List Expr) × (e.encoding ≡ encoding.Call j others)
    same k n m i j es f g d e fat gat dat eat far is =
        let of_f = in_method methods k n f fat in
        let of_g = in_method methods k m g gat in
        let one : of_g.0 ≡ of_f.0 = one_value (slice_get methods k) of_g.0 of_f.0 of_g.1 of_f.1 in
        let there = subst (λ (y : Method). slice_get y.formats m ≡ Some g) one of_g.2 in
        let like = like_there methods none k of_f.0 of_f.1 n f of_f.2 i d dat j es is in
        let each = (no_tests (is_local d.declared.part) _ like).1 in
        let found = each_calls i j of_f.0.formats each m g there in
        calls_of e.encoding j (that_number (called_by e.encoding) j (ap (calls_it j) (sym eat) ∙ found))

    no_local : (k n i j : ℕ) (es : List Expr) (f : Format) (d : Field) → format_at methods k n ≡ Some f → slice_get f.fields i ≡ Some d → d.declared.part ≡ Local → d.encoding ≡ encoding.Call j es → ⊥
    no_local k n i j es f d fat dat here is =
        let of_f = in_method methods k n f fat in
        let like = like_there methods none k of_f.0 of_f.1 n f of_f.2 i d dat j es is in
        not_local d.declared.part (no_tests (is_local d.declared.part) _ like).0 here

-- ---- where all call alike

all_call : (i j : ℕ) (formats : List Format) → ((m : ℕ) (g : Format) → slice_get formats m ≡ Some g → calls_it j (slice_get g.fields i) ≡ true) → call_it i j formats ≡ true
all_call i j [] h = refl
all_call i j (x ∷ xs) h = both_are (calls_it j (slice_get x.fields i)) _ (h 0 x refl) (all_call i j xs (λ m g at. h (suc m) g at))

no_fields : (k : ℕ) (formats : List Format) (n b : ℕ) (ds : List Field) → ((i c : ℕ) (d : Field) → c ≡ b + i → slice_get ds i ≡ Some d → unlike_field k formats n c d ≡ None) → unlike_fields k formats n b ds ≡ None
no_fields k formats n b [] h = refl
no_fields k formats n b (x ∷ ds) h =
    none_or (unlike_field k formats n b x) _ (h 0 b x (omega arith) refl) (no_fields k formats n (suc b) ds (λ i c d is at. h (suc i) c d (omega (arith, is)) at))

no_formats : (k : ℕ) (formats : List Format) (b : ℕ) (fs : List Format) → ((n c : ℕ) (f : Format) → slice_get fs n ≡ Some f → unlike_fields k formats c 0 f.fields ≡ None) → unlike_formats k formats b fs ≡ None
no_formats k formats b [] h = refl
no_formats k formats b (x ∷ fs) h = none_or (unlike_fields k formats b 0 x.fields) _ (h 0 b x refl) (no_formats k formats (suc b) fs (λ n c f at. h (suc n) c f at))

no_methods : (b : ℕ) (methods : List Method) → ((k c : ℕ) (m : Method) → slice_get methods k ≡ Some m → unlike_method c m ≡ []) → flat_map (λ (m : ℕ × Method). unlike_method m.0 m.1) (enumerate_from b methods) ≡ []
no_methods b [] h = refl
no_methods b (x ∷ xs) h = empty_both (unlike_method b x) _ (h 0 b x refl) (no_methods (b + 1) xs (λ k c m at. h (suc k) c m at))

by_none : (k : ℕ) (formats : List Format) (n i : ℕ) (d : Field) (o : Option ℕ) → ((j : ℕ) → o ≡ Some j → is_unlike formats i d j ≡ false) → unlike_by k formats n i d o ≡ None
by_none k formats n i d None h = refl
by_none k formats n i d (Some j) h = choice_none (is_unlike formats i d j) _ (h j refl)

called_it : (j i : ℕ) (o : Option Field) → ((d : Field) → o ≡ Some d → called_by d.encoding ≡ Some j) → calls_it j o ≡ true
called_it j i None h = refl
called_it j i (Some d) h = own_number (called_by d.encoding) j (h d refl)

silent : (methods : List Method) → CallAlike methods → unlike_calls methods ≡ []
silent methods are = no_methods 0 methods (λ k c m at. ap told_call (no_formats c m.formats 0 m.formats (λ n n2 f fat. no_fields c m.formats n2 0 f.fields (λ i i2 d is dat. one k m at n f fat c n2 i i2 d is dat))))
  where
    format_is : (k : ℕ) (m : Method) → slice_get methods k ≡ Some m → (n : ℕ) (f : Format) → slice_get m.formats n ≡ Some f → format_at methods k n ≡ Some f
    format_is k m at n f fat = ap (option_and_then (λ (y : Method). slice_get y.formats n)) at ∙ fat

    like : (k : ℕ) (m : Method) → slice_get methods k ≡ Some m → (n : ℕ) (f : Format) → slice_get m.formats n ≡ Some f → (i : ℕ) (d : Field) → slice_get f.fields i ≡ Some d
        → (j : ℕ) → called_by d.encoding ≡ Some j → is_unlike m.formats i d j ≡ false
    like k m at n f fat i d dat j called =
        let call = calls_of d.encoding j called in
        let far = λ (here : d.declared.part ≡ Local). are.no_local k n i j call.0 f d (format_is k m at n f fat) dat here call.1 in
        tests_none (is_local d.declared.part) _ (no_local_is d.declared.part far)
        (all_call i j m.formats (λ m2 g gat. called_it j i (slice_get g.fields i) (λ e eat.
        ap called_by (are.same k n m2 i j call.0 f g d e (format_is k m at n f fat) (format_is k m at m2 g gat) dat eat far call.1).1)))

    one : (k : ℕ) (m : Method) → slice_get methods k ≡ Some m → (n : ℕ) (f : Format) → slice_get m.formats n ≡ Some f → (c n2 i i2 : ℕ) (d : Field) → i2 ≡ 0 + i → slice_get f.fields i ≡ Some d
        → unlike_field c m.formats n2 i2 d ≡ None
    one k m at n f fat c n2 i i2 d is dat =
        let same : i ≡ i2 = omega (arith, is) in
        subst (λ y. unlike_field c m.formats n2 y d ≡ None) same (by_none c m.formats n2 i d (called_by d.encoding) (λ j called. like k m at n f fat i d dat j called))

pub silent_where_alike : SilentWhereAlike
silent_where_alike methods = (alike methods, silent methods)
