-- The table of callers, and the walk over the callers alone.
use Rattle.std.proofs.Common.{◌≡◌, ◌∙◌, ap, sym, refl, ℕ, ◌+◌, ◌-◌, ◌<◌, ◌≤◌, ◌||◌, Bool, true, false, cond, nat_eq, eq-eqb, List, [], ◌∷◌, ◌++◌, suc, zero, length, get_or, take, map, fold, arith, length-take, length-append, append-nil}
use Rattle.std.specs.Prelude.{slice_get, option_map, Option, Some, None}
use Rattle.std.specs.List.{list_any}
use Rattle.std.specs.Option.{unwrap_or}
use Rattle.std.proofs.lemmas.Option.{slice_get-get_or}
use Rattle.std.proofs.lemmas.Bool.{eqb-true}
use Rattle.std.proofs.lemmas.List.{take_more, take_all}
use Rattle.std.proofs.lemmas.List.Folds.{list_any_more}
use Rattle.sem_expr.specs.declared.interval.Interval.{Interval}
use Rattle.sem_expr.specs.declared.ranges.Ranges.{Ranges}
use Rattle.sem_profile.specs.declared.profile.FormatSizes.{FormatSizes}
use Rattle.sem_profile.specs.declared.profile.MethodSizes.{MethodSizes}
use Rattle.sem_profile.specs.declared.profile.Encoding.{Encoding}
use Rattle.sem_profile.specs.declared.profile.Encoding.TheVariants as encoding
use Rattle.sem_profile.specs.declared.profile.Format.{Format}
use Rattle.sem_profile.specs.declared.profile.Method.{Method}
use Rattle.sem_profile.specs.Passes.{indexed, changed, folded}
use Rattle.sem_profile.specs.Ranging.{format_ranges}
use Rattle.sem_profile.specs.Parameters.{calls, with_arguments, with_call, with_format, with_entry, gathered}
use Rattle.sem_bounds.specs.Callers.{is_caller, callers_from, callers_of, caller_table, row_at, is_place, ends_with, ending, noted, with_caller}
use Rattle.sem_profile.proofs.PassesPlaces.{indexed-at, indexed-same, indexed-changed}
use Rattle.sem_bounds.proofs.ParametersCalling.{not-called, fold-still, folded-still, none-passes}

-- ---- the end of a row

after-all : {A : Type 0} → (xs : List A) (x : A) → slice_get (xs ++ x ∷ []) (length xs) ≡ Some x
after-all [] x = refl
after-all (y ∷ ys) x = after-all ys x

ends-appended : (p : ℕ) (row : List ℕ) → ends_with (row ++ p ∷ []) p ≡ true
ends-appended p row =
    let long : length (row ++ p ∷ []) - 1 ≡ length row = omega (arith, length-append row (p ∷ [])) in
    ap (λ j. is_place p (slice_get (row ++ p ∷ []) j)) long ∙ ap (is_place p) (after-all row p) ∙ eq-eqb p p refl

ending-there : (p : ℕ) (row : List ℕ) → ends_with row p ≡ true → ending p row ≡ row
ending-there p row e = ap (λ b. cond b row (row ++ p ∷ [])) e

ending-new : (p : ℕ) (row : List ℕ) → ends_with row p ≡ false → ending p row ≡ row ++ p ∷ []
ending-new p row e = ap (λ b. cond b row (row ++ p ∷ [])) e

ending-twice : (p : ℕ) (row : List ℕ) → ending p (ending p row) ≡ ending p row
ending-twice p row = by (ends_with row p) refl
  where
    by : (b : Bool) → ends_with row p ≡ b → ending p (ending p row) ≡ ending p row
    by true e = ap (ending p) (ending-there p row e)
    by false e =
        ap (ending p) (ending-new p row e) ∙ ending-there p (row ++ p ∷ []) (ends-appended p row) ∙ sym (ending-new p row e)

-- ---- rows that end with a place

indexed-twice : {A B C : Type 0} → (f : ℕ → B → C) (g : ℕ → A → B) (n : ℕ) (xs : List A) → indexed f n (indexed g n xs) ≡ indexed (λ k x. f k (g k x)) n xs
indexed-twice f g n [] = refl
indexed-twice f g n (x ∷ xs) = ap (λ ys. f n (g n x) ∷ ys) (indexed-twice f g (n + 1) xs)

indexed-kept : {A : Type 0} → (n : ℕ) (xs : List A) → indexed (λ k x. x) n xs ≡ xs
indexed-kept n [] = refl
indexed-kept n (x ∷ xs) = ap (λ ys. x ∷ ys) (indexed-kept (n + 1) xs)

noted-same : (p : ℕ) (a b : ℕ → Bool) (rows : List (List ℕ)) → ((k : ℕ) → a k ≡ b k) → noted p a rows ≡ noted p b rows
noted-same p a b rows same =
    indexed-same (λ k row. cond (a k) (ending p row) row) (λ k row. cond (b k) (ending p row) row) 0 rows (λ k row at. ap (λ c. cond c (ending p row) row) (same (0 + k)))

pub noted-none : (p : ℕ) (rows : List (List ℕ)) → rows ≡ noted p (λ k. false) rows
noted-none p rows = sym (indexed-kept 0 rows)

pub noted-one : (p j : ℕ) (rows : List (List ℕ)) → changed (ending p) rows j (slice_get rows j) ≡ noted p (λ k. nat_eq j k) rows
noted-one p j rows =
    ap (λ (rs : List (List ℕ)). changed (ending p) rs j (slice_get rs j)) (sym (indexed-kept 0 rows)) ∙ indexed-changed (ending p) (λ k row. row) 0 rows j
    ∙ (let zero-j : 0 + j ≡ j = omega arith in ap (λ l. indexed (λ i row. cond (nat_eq l i) (ending p row) row) 0 rows) zero-j)

either-ends : (p : ℕ) (row : List ℕ) (a b : Bool)
    → cond b (ending p (cond a (ending p row) row)) (cond a (ending p row) row) ≡ cond (a || b) (ending p row) row
either-ends p row true true = ending-twice p row
either-ends p row true false = refl
either-ends p row false true = refl
either-ends p row false false = refl

noted-more : (p : ℕ) (a b : ℕ → Bool) (rows : List (List ℕ)) → noted p b (noted p a rows) ≡ noted p (λ k. a k || b k) rows
noted-more p a b rows =
    indexed-twice (λ k row. cond (b k) (ending p row) row) (λ k row. cond (a k) (ending p row) row) 0 rows
    ∙ indexed-same (λ k row. cond (b k) (ending p (cond (a k) (ending p row) row)) (cond (a k) (ending p row) row)) (λ k row. cond (a k || b k) (ending p row) row) 0 rows
    (λ k row at. either-ends p row (a (0 + k)) (b (0 + k)))

-- a step of a loop over the parts of a method
pub noted-step : {A : Type 0} → (p : ℕ) (q : ℕ → A → Bool) (items xs : List A) (i : ℕ) (x : A) (start old new : List (List ℕ)) → items ≡ xs → i < length items → x ≡ get_or items i x
    → old ≡ noted p (λ k. list_any (q k) (take i xs)) start → new ≡ noted p (λ k. q k x) old → new ≡ noted p (λ k. list_any (q k) (take (i + 1) xs)) start
noted-step p q items xs i x start old new view lt at so made =
    made ∙ ap (noted p (λ k. q k x)) so ∙ noted-more p (λ k. list_any (q k) (take i xs)) (λ k. q k x) start
    ∙ noted-same p (λ k. list_any (q k) (take i xs) || q k x) (λ k. list_any (q k) (take (i + 1) xs)) start
    (λ k.
    let within : list_any (q k) (take i xs) ≡ list_any (q k) (take i items) = ap (λ ys. list_any (q k) (take i ys)) (sym view) in
    ap (λ b. b || q k x) within ∙ ap (λ y. list_any (q k) (take i items) || q k y) at ∙ sym (list_any_more (q k) items i x lt)
    ∙ ap (λ ys. list_any (q k) (take (i + 1) ys)) view)

-- ---- the callers of one more method

pick-below : (b : Bool) (n top : ℕ) (rest : List ℕ) → n < top → ((i j : ℕ) → slice_get rest i ≡ Some j → j < top)
    → (i j : ℕ) → slice_get (cond b (n ∷ rest) rest) i ≡ Some j → j < top
pick-below true n top rest lt below zero j at = let same : n ≡ j = cc in omega (arith, same)
pick-below true n top rest lt below (suc i) j at = below i j at
pick-below false n top rest lt below i j at = below i j at

callers-below : (k n : ℕ) (ms : List Method) → (i j : ℕ) → slice_get (callers_from k n ms) i ≡ Some j → j < n + length ms
callers-below k n [] i j at = let wrong : None ≡ Some j = at in absurd cc
callers-below k n (m ∷ ms) i j at =
    pick-below (is_caller k m) n (n + suc (length ms)) (callers_from k (n + 1) ms) (omega arith)
    (λ i j here. let lt : j < n + 1 + length ms = callers-below k (n + 1) ms i j here in omega arith) i j at

never-last : (row : List ℕ) (p : ℕ) → ((i j : ℕ) → slice_get row i ≡ Some j → j < p) → ends_with row p ≡ false
never-last row p below = by (slice_get row (length row - 1)) refl
  where
    apart : (j : ℕ) → j < p → (b : Bool) → nat_eq j p ≡ b → b ≡ false
    apart j lt true e = let same : j ≡ p = eqb-true j p e in absurd (omega arith)
    apart j lt false e = refl

    by : (o : Option ℕ) → slice_get row (length row - 1) ≡ o → ends_with row p ≡ false
    by None e = ap (is_place p) e
    by (Some j) e = ap (is_place p) e ∙ apart j (below (length row - 1) j e) (nat_eq j p) refl

lead : (b : Bool) (n : ℕ) (rest more whole : List ℕ) → whole ≡ rest ++ more → cond b (n ∷ whole) whole ≡ cond b (n ∷ rest) rest ++ more
lead true n rest more whole e = ap (λ r. n ∷ r) e
lead false n rest more whole e = e

callers-append : (k n : ℕ) (ms : List Method) (m : Method) → callers_from k n (ms ++ m ∷ []) ≡ callers_from k n ms ++ cond (is_caller k m) ((n + length ms) ∷ []) []
callers-append k n [] m = ap (λ j. cond (is_caller k m) (j ∷ []) []) (omega arith)
callers-append k n (q ∷ ms) m =
    lead (is_caller k q) n (callers_from k (n + 1) ms) (cond (is_caller k m) ((n + suc (length ms)) ∷ []) []) (callers_from k (n + 1) (ms ++ m ∷ []))
    (callers-append k (n + 1) ms m ∙ ap (λ j. callers_from k (n + 1) ms ++ cond (is_caller k m) (j ∷ []) []) (omega arith))

one-more : (k i : ℕ) (xs : List Method) (m : Method) → i ≡ 0 + length xs
    → cond (is_caller k m) (ending i (callers_of k xs)) (callers_of k xs) ≡ callers_of k (xs ++ m ∷ [])
one-more k i xs m count =
    by (is_caller k m) ∙ ap (λ j. callers_of k xs ++ cond (is_caller k m) (j ∷ []) []) count ∙ sym (callers-append k 0 xs m)
  where
    new : ending i (callers_of k xs) ≡ callers_of k xs ++ i ∷ []
    new = ending-new i (callers_of k xs) (never-last (callers_of k xs) i (λ l j at. omega (arith, count, callers-below k 0 xs l j at)))

    by : (b : Bool) → cond b (ending i (callers_of k xs)) (callers_of k xs) ≡ callers_of k xs ++ cond b (i ∷ []) []
    by true = new
    by false = sym (append-nil (callers_of k xs))

abbrev pub so-far : List Method → List Method → List (List ℕ)
so-far methods xs = indexed (λ k m. callers_of k xs) 0 methods

pub callers-step : (methods : List Method) (i place : ℕ) (m : Method) (old new : List (List ℕ)) → i < length methods → m ≡ get_or methods i m
    → (place ≡ i) × (old ≡ so-far methods (take i methods)) → new ≡ noted place (λ k. is_caller k m) old
    → (place + 1 ≡ i + 1) × (new ≡ so-far methods (take (i + 1) methods))
callers-step methods i place m old new lt at so made =
    let count : place ≡ 0 + length (take i methods) = so.0 ∙ omega (arith, length-take {A = Method}) in
    let taken : take (i + 1) methods ≡ take i methods ++ m ∷ [] = take_more methods i m lt ∙ ap (λ y. take i methods ++ y ∷ []) (sym at) in (
      ap (λ k. k + 1) so.0,
      made ∙ ap (noted place (λ k. is_caller k m)) so.1
          ∙ indexed-twice (λ k row. cond (is_caller k m) (ending place row) row) (λ k q. callers_of k (take i methods)) 0 methods
          ∙ indexed-same (λ k q. cond (is_caller k m) (ending place (callers_of k (take i methods))) (callers_of k (take i methods))) (λ k q. callers_of k (take i methods ++ m ∷ [])) 0 methods
          (λ k q here. one-more (0 + k) place (take i methods) m count)
          ∙ ap (so-far methods) (sym taken),
    )

pub none-yet : (n : ℕ) (methods : List Method) → map (λ (m : Method). []) methods ≡ indexed (λ k m. callers_of k []) n methods
none-yet n [] = refl
none-yet n (m ∷ ms) = ap (λ rows. [] ∷ rows) (none-yet (n + 1) ms)

pub row-of : (methods : List Method) (k : ℕ) (m : Method) → slice_get methods k ≡ Some m → row_at (caller_table methods) k ≡ callers_of k methods
row-of methods k m at =
    ap (λ (o : Option (List ℕ)). unwrap_or o []) (indexed-at (λ k m. callers_of k methods) 0 methods k ∙ ap (option_map (λ m. callers_of (0 + k) methods)) at)
    ∙ (let zero-k : 0 + k ≡ k = omega arith in ap (λ j. callers_of j methods) zero-k)

pub row-within : (methods : List Method) (k i : ℕ) (m : Method) → k ≡ i → i < length methods → row_at (caller_table methods) k ≡ callers_of k methods
row-within methods k i m at lt =
    let within : k < length methods = omega (arith, at, lt) in
    row-of methods k (get_or methods k m) (slice_get-get_or methods k m within)

-- ---- the walk over the callers

pub uncalled-entry : (e : Option MethodSizes) (k : ℕ) (o : List (Option Interval)) (m : Method) → is_caller k m ≡ false → with_entry e k o m ≡ o
uncalled-entry None k o m none = refl
uncalled-entry (Some s) k o m none =
    folded-still (λ n c format. with_format s.parameters k c format (slice_get s.formats n)) 0 o m.formats (λ n format at j.
    sym (not-called s.parameters k o format (slice_get s.formats j) (none-passes (calls k) m.formats none n format at)))

abbrev pub given-by : List Method → List MethodSizes → ℕ → List (Option Interval) → ℕ → List (Option Interval)
given-by methods table k o i = with_caller table k o i (slice_get methods i)

abbrev given-all : List MethodSizes → ℕ → ℕ → List (Option Interval) → Method → List (Option Interval)
given-all table k i o m = with_entry (slice_get table i) k o m

walked-one : (methods : List Method) (table : List MethodSizes) (k n : ℕ) (m : Method) (ms : List Method) (o : List (Option Interval)) (b : Bool) → is_caller k m ≡ b → slice_get methods n ≡ Some m
    → ((c : List (Option Interval)) → fold (given-by methods table k) c (callers_from k (n + 1) ms) ≡ folded (given-all table k) (n + 1) c ms)
    → fold (given-by methods table k) o (callers_from k n (m ∷ ms)) ≡ folded (given-all table k) n o (m ∷ ms)
walked-one methods table k n m ms o true e here rest =
    ap (λ b. fold (given-by methods table k) o (cond b (n ∷ callers_from k (n + 1) ms) (callers_from k (n + 1) ms))) e
    ∙ ap (λ (q : Option Method). fold (given-by methods table k) (with_caller table k o n q) (callers_from k (n + 1) ms)) here ∙ rest (with_entry (slice_get table n) k o m)
walked-one methods table k n m ms o false e here rest =
    ap (λ b. fold (given-by methods table k) o (cond b (n ∷ callers_from k (n + 1) ms) (callers_from k (n + 1) ms))) e
    ∙ rest o ∙ ap (λ c. folded (given-all table k) (n + 1) c ms) (sym (uncalled-entry (slice_get table n) k o m e))

walked-from : (methods : List Method) (table : List MethodSizes) (k n : ℕ) (ms : List Method) (o : List (Option Interval)) → ((i : ℕ) → slice_get methods (n + i) ≡ slice_get ms i)
    → fold (given-by methods table k) o (callers_from k n ms) ≡ folded (given-all table k) n o ms
walked-from methods table k n [] o same = refl
walked-from methods table k n (m ∷ ms) o same =
    walked-one methods table k n m ms o (is_caller k m) refl (let zero-n : n ≡ n + 0 = omega arith in ap (slice_get methods) zero-n ∙ same 0)
    (λ c. walked-from methods table k (n + 1) ms c (λ i. let next : n + 1 + i ≡ n + suc i = omega arith in ap (slice_get methods) next ∙ same (suc i)))

-- only the callers give a method ranges
pub walked : (methods : List Method) (table : List MethodSizes) (k i : ℕ) (o all : List (Option Interval)) (row : List ℕ) → row ≡ callers_of k methods → length row ≤ i
    → all ≡ fold (given-by methods table k) o (take i row) → all ≡ gathered methods table k o
walked methods table k i o all row is past so =
    so ∙ ap (fold (given-by methods table k) o) (take_all i row past ∙ is)
    ∙ walked-from methods table k 0 methods o (λ i. let zero-i : 0 + i ≡ i = omega arith in ap (slice_get methods) zero-i)

-- ---- a method without parameters

call-empty : (r : Ranges) (k : ℕ) (e : Encoding) → with_call r k [] e ≡ []
call-empty r k encoding.Bare = refl
call-empty r k (encoding.Library l) = refl
call-empty r k (encoding.Call j arguments) = by (nat_eq j k)
  where
    by : (b : Bool) → cond b (with_arguments r arguments []) [] ≡ []
    by true = refl
    by false = refl

format-empty : (ps : List Interval) (k : ℕ) (format : Format) (s : Option FormatSizes) → with_format ps k [] format s ≡ []
format-empty ps k format None = refl
format-empty ps k format (Some s) =
    fold-still (λ c d. with_call (format_ranges s ps) k c d.encoding) [] format.fields (λ i d at. call-empty (format_ranges s ps) k d.encoding)

entry-empty : (e : Option MethodSizes) (k : ℕ) (m : Method) → with_entry e k [] m ≡ []
entry-empty None k m = refl
entry-empty (Some s) k m =
    folded-still (λ n c format. with_format s.parameters k c format (slice_get s.formats n)) 0 [] m.formats (λ n format at j. format-empty s.parameters k format (slice_get s.formats j))

pub gathered-empty : (methods : List Method) (table : List MethodSizes) (k : ℕ) (found : List (Option Interval)) → found ≡ [] → found ≡ gathered methods table k found
gathered-empty methods table k found none =
    none ∙ sym (ap (gathered methods table k) none ∙ folded-still (λ i c m. with_entry (slice_get table i) k c m) 0 [] methods (λ i m at j. entry-empty (slice_get table j) k m))
