-- Steps that needn't be looked at aren't next.
use Rattle.std.proofs.Common.{◌≡◌, ◌⊎◌, refl, sym, ◌∙◌, ap, subst, ℕ, zero, suc, ◌+◌, ◌*◌, ◌/◌, ◌%◌, ◌^◌, ◌-◌, ◌<◌, ◌≤◌, Bool, true, false, List, [], ◌∷◌, ◌++◌, length, replicate, get_or, map, drop, inl, inr, cond, find, arith}
use Rattle.std.specs.Prelude.{Option, Some, None, slice_get, slice_set, nat_lt, MatchOption, ◌&&◌, ◌||◌, not}
use Rattle.std.specs.List.{list_all}
use Rattle.std.proofs.lemmas.Bool.{cases_eq}
use Rattle.std.specs.Int.{bit_at}
use Rattle.std.proofs.lemmas.Nat.Bits.{bit_at_ones}
use Rattle.std.proofs.lemmas.List.{drop_more, drop_all, get_or-replicate, length-replicate, length-append, length-set, get_or-set_same, get_or-set_other}
use Rattle.std.proofs.lemmas.List.Folds.{list_all-append}
use Rattle.std.proofs.lemmas.Option.{slice_get_within}
use Rattle.sem_profile.specs.declared.profile.Format.{Format}
use Rattle.cert_types.specs.declared.rule.Fact.{Fact}
use Rattle.cert_types.specs.declared.rule.Rule.{Rule}
use Rattle.cert_rules.specs.Facts.{has}
use Rattle.cert_plans.specs.declared.knowledge.Knowledge.{Knowledge}
use Rattle.cert_plans.specs.Knowing.{field_of, shows, width}
use Rattle.cert_plans.specs.Needing.{told}
use Rattle.cert_prove.specs.declared.possible.Possible.{Possible}
use Rattle.cert_prove.specs.declared.rest.Rest.{Rest}
use Rattle.cert_prove.specs.declared.rest.Rest.TheVariants.{Due, Until, Over}
use Rattle.cert_prove.specs.Marking.{bit_in, IsDue, IsInRow, AreWoken}
use Rattle.cert_prove.specs.Searching.{Ruled, ruled, gives_more, gives_none, KnowsAll, StandFor, LacksFor, StandIfWritten, AreLeft, RestsBy, is_still, IsNotedFor, Rests, AreWaiting}
use Rattle.cert_prove.specs.Needed.{AskTheSame}

never : (b : Bool) → (b && false) ≡ false
never true = refl
never false = refl

not_true : (b : Bool) → not b ≡ true → b ≡ false
not_true false e = refl
not_true true e = absurd (cc)

pub not_false : (b : Bool) → b ≡ false → not b ≡ true
not_false false e = refl
not_false true e = absurd (cc)

-- what all have, those that have more have
list_keeps : (known more : Fact → Bool) → KnowsAll known more → (xs : List Fact) → list_all known xs ≡ true → list_all more xs ≡ true
list_keeps known more keeps [] e = refl
list_keeps known more keeps (x ∷ xs) e = by (known x) refl e (λ h. list_keeps known more keeps xs h) where
  by : (b : Bool) → known x ≡ b → (b && list_all known xs) ≡ true → (list_all known xs ≡ true → list_all more xs ≡ true) → (more x && list_all more xs) ≡ true
  by true h e rest = ap (λ b. b && list_all more xs) (keeps x h) ∙ rest e
  by false h e rest = absurd (cc)

some_stays : (known more : Fact → Bool) → KnowsAll known more → (xs : List Fact) → list_all (λ x. not (known x)) xs ≡ false → list_all (λ x. not (more x)) xs ≡ false
some_stays known more keeps [] e = absurd (cc)
some_stays known more keeps (x ∷ xs) e = by (known x) refl e (λ h. some_stays known more keeps xs h) where
  by : (b : Bool) → known x ≡ b → (not b && list_all (λ y. not (known y)) xs) ≡ false → (list_all (λ y. not (known y)) xs ≡ false → list_all (λ y. not (more y)) xs ≡ false) → (not (more x) && list_all (λ y. not (more y)) xs) ≡ false
  by true h e rest = ap (λ b. not b && list_all (λ y. not (more y)) xs) (keeps x h)
  by false h e rest = ap (λ b. not (more x) && b) (rest e) ∙ never (not (more x))

module _ (r : Rule) where
  gives_nothing : (known : Fact → Bool) → list_all known r.gives ≡ true → gives_more known r ≡ false
  gives_nothing known e = ap (λ b. (list_all known r.needs && list_all (λ y. not (known y)) r.absent) && not b) e ∙ never (list_all known r.needs && list_all (λ y. not (known y)) r.absent)

  is_hindered : (known : Fact → Bool) → list_all (λ y. not (known y)) r.absent ≡ false → gives_more known r ≡ false
  is_hindered known e = ap (λ b. (list_all known r.needs && b) && not (list_all known r.gives)) e ∙ ap (λ b. b && not (list_all known r.gives)) (never (list_all known r.needs))

  needs_more : (known : Fact → Bool) → list_all known r.needs ≡ false → gives_more known r ≡ false
  needs_more known e = ap (λ b. (b && list_all (λ y. not (known y)) r.absent) && not (list_all known r.gives)) e

  -- one that needn't be looked at gives nothing new
  pub rests_still : (known : Fact → Bool) (why : Rest) → RestsBy known r why → is_still known why ≡ true → gives_more known r ≡ false
  rests_still known Due w e = absurd (cc)
  rests_still known (Until x) w e = needs_more known (w known (λ x h. h) (not_true (known x) e))
  rests_still known Over w e = w known (λ x h. h)

  -- one that gives nothing new, or is hindered, does so whatever more is known
  pub over_ever : (known : Fact → Bool) → gives_none known r ≡ true → RestsBy known r Over
  over_ever known e = λ more keeps. by more keeps (list_all known r.gives) refl e where
    by : (more : Fact → Bool) → KnowsAll known more → (b : Bool) → list_all known r.gives ≡ b → (b || not (list_all (λ y. not (known y)) r.absent)) ≡ true → gives_more more r ≡ false
    by more keeps true h e = gives_nothing more (list_keeps known more keeps r.gives h)
    by more keeps false h e = is_hindered more (some_stays known more keeps r.absent (not_true (list_all (λ y. not (known y)) r.absent) e))

  -- one that waits for what isn't known
  pub waits_for_it : (known : Fact → Bool) (x : Fact) → LacksFor known r.needs (Some x) → RestsBy known r (Until x)
  waits_for_it known x lacks = lacks.1

  -- else it is next
  pub next_else : (known : Fact → Bool) → gives_none known r ≡ false → LacksFor known r.needs None → true ≡ gives_more known r
  next_else known over all = by (list_all known r.gives) (list_all (λ y. not (known y)) r.absent) over (sym all) where
    by : (gives free : Bool) → (gives || not free) ≡ false → true ≡ list_all known r.needs → true ≡ ((list_all known r.needs && free) && not gives)
    by true free e m = absurd (cc)
    by false false e m = absurd (cc)
    by false true e m = m ∙ ever (list_all known r.needs) where
      ever : (b : Bool) → b ≡ ((b && true) && true)
      ever true = refl
      ever false = refl

-- one that isn't known, wherever it stands
pub lacks_there : (known : Fact → Bool) (xs : List Fact) (i : ℕ) (x : Fact) → slice_get xs i ≡ Some x → known x ≡ false → list_all known xs ≡ false
lacks_there known [] i x at h = absurd (cc)
lacks_there known (y ∷ ys) zero x at h = let same : y ≡ x = cc in ap (λ b. b && list_all known ys) (ap known same ∙ h)
lacks_there known (y ∷ ys) (suc i) x at h = ap (λ b. known y && b) (lacks_there known ys i x at h) ∙ never (known y)

pub lacks_it : (known : Fact → Bool) (needs left : List Fact) (i : ℕ) (x : Fact) → StandFor known needs left → slice_get left i ≡ Some x → known x ≡ false → LacksFor known needs (Some x)
lacks_it known needs left i x stand at h = (h, λ more keeps lacks. sym (stand more keeps) ∙ lacks_there more left i x at lacks)

pub lacks_none : (known : Fact → Bool) (needs left : List Fact) → StandFor known needs left → left ≡ [] → LacksFor known needs None
lacks_none known needs left stand none = sym (stand known (λ x h. h)) ∙ ap (list_all known) none

-- the last of a list
at_end : (xs : List Fact) (y : Fact) → slice_get (xs ++ y ∷ []) (length xs) ≡ Some y
at_end [] y = refl
at_end (x ∷ xs) y = at_end xs y

-- one that is known is taken away
pub stands_without : (known : Fact → Bool) (needs left rest : List Fact) (x y : Fact) → StandFor known needs left → slice_get left (length left - 1) ≡ Some x → known x ≡ true → left ≡ rest ++ y ∷ [] → StandFor known needs rest
stands_without known needs left rest x y stand at h e = λ more keeps.
    let last : length left - 1 ≡ length rest = let n = ap length e ∙ length-append rest (y ∷ []) in omega (arith, n) in
    let there : Some y ≡ Some x = sym (at_end rest y) ∙ (ap (λ z. slice_get z (length rest)) (sym e) ∙ (ap (slice_get left) (sym last) ∙ at)) in
    let same : y ≡ x = cc in
    let full : list_all more left ≡ (list_all more rest && (more y && true)) = ap (list_all more) e ∙ list_all-append more rest (y ∷ []) in
    let has : more y ≡ true = ap more same ∙ keeps x h in
    sym (full ∙ (ap (λ b. list_all more rest && (b && true)) has ∙ and_true (list_all more rest))) ∙ stand more keeps where
      and_true : (b : Bool) → (b && true) ≡ b
      and_true true = refl
      and_true false = refl

pub stands_popped : (known : Fact → Bool) (needs left rest : List Fact) (x : Fact) (o : Option Fact) → StandFor known needs left → slice_get left (length left - 1) ≡ Some x → known x ≡ true →
    MatchOption o ((left ≡ []) × (rest ≡ [])) (λ y. left ≡ rest ++ y ∷ []) → StandFor known needs rest
stands_popped known needs left rest x None stand at h e = subst (StandFor known needs) (e.0 ∙ sym e.1) stand
stands_popped known needs left rest x (Some y) stand at h e = stands_without known needs left rest x y stand at h e

-- what is written out stands for all of it
pub stands_at_first : (known : Fact → Bool) (needs left : List Fact) → AskTheSame left needs → StandFor known needs left
stands_at_first known needs left same = λ more keeps. same more

-- where there is no last one, there is none
pub none_there : (xs : List Fact) → slice_get xs (length xs - 1) ≡ None → xs ≡ []
none_there [] at = refl
none_there (x ∷ xs) at = let e : length (x ∷ xs) - 1 ≡ length xs = omega arith in absurd (by xs x (subst (λ n. slice_get (x ∷ xs) n ≡ None) e at)) where
  by : (ys : List Fact) (y : Fact) → slice_get (y ∷ ys) (length ys) ≡ None → ⊥
  by [] y e = absurd (cc)
  by (z ∷ zs) y e = by zs z e

-- what stands for the needs of each step
module _ (format : Format) (possible : List Possible) where
  unwritten : (known : Fact → Bool) (n i : ℕ) (needs : List Fact) → StandIfWritten known needs (get_or (replicate n None) i None)
  unwritten known zero i needs = tt
  unwritten known (suc n) zero needs = tt
  unwritten known (suc n) (suc i) needs = unwritten known n i needs

  pub none_left : (known : Fact → Bool) (needs : List (Option (List Fact))) → needs ≡ replicate (length possible) None → AreLeft known format possible needs
  none_left known needs e = record {
    each = ap length e ∙ length-replicate (length possible) None;
    right = λ i p at. subst (λ z. StandIfWritten known (told format p.rule).needs (get_or z i None)) (sym e) (unwritten known (length possible) i (told format p.rule).needs);
  }

  stand_on : (known new : Fact → Bool) (needs : List Fact) (left : Option (List Fact)) → KnowsAll known new → StandIfWritten known needs left → StandIfWritten new needs left
  stand_on known new needs None knows so = tt
  stand_on known new needs (Some left) knows so = λ more keeps. so more (λ x e. keeps x (knows x e))

  pub left_on : (known new : Fact → Bool) (needs : List (Option (List Fact))) → KnowsAll known new → AreLeft known format possible needs → AreLeft new format possible needs
  left_on known new needs knows are = record { each = are.each; right = λ i p at. stand_on known new (told format p.rule).needs (get_or needs i None) knows (are.right i p at) }

  pub left_more : (known : Fact → Bool) (needs new : List (Option (List Fact))) (place : ℕ) (p : Possible) (left : Option (List Fact)) → slice_get possible place ≡ Some p → new ≡ slice_set needs place left →
      AreLeft known format possible needs → StandIfWritten known (told format p.rule).needs left → AreLeft known format possible new
  left_more known needs new place p left at e are stand =
      let there : place < length needs = subst (λ z. place < z) (sym are.each) (slice_get_within possible place p at) in
      record {
        each = ap length e ∙ (length-set needs place left ∙ are.each);
        right = λ i q found. elim (cases_eq place i) [
          | inl s ↦
              let one : Some p ≡ Some q = sym at ∙ (ap (slice_get possible) s ∙ found) in
              let is : p ≡ q = cc in
              let here : get_or new i None ≡ left = ap (λ z. get_or z i None) e ∙ (ap (λ j. get_or (slice_set needs place left) j None) (sym s) ∙ get_or-set_same needs place left None there) in
              subst (StandIfWritten known (told format q.rule).needs) (sym here) (subst (λ (z : Possible). StandIfWritten known (told format z.rule).needs left) is stand)
          | inr n ↦
              let kept : get_or new i None ≡ get_or needs i None = ap (λ z. get_or z i None) e ∙ get_or-set_other needs place i left None (λ z. n (sym z)) in
              subst (StandIfWritten known (told format q.rule).needs) (sym kept) (are.right i q found)
        ];
      }

-- at first all are to be looked at
all_ones : (n i : ℕ) → i < 64 * n → IsDue (replicate n (2 ^ 64 - 1)) i
all_ones n i h = ap (λ z. bit_at z (i % 64)) (get_or-replicate n (i / 64) (2 ^ 64 - 1) 0 (omega (arith, h))) ∙ bit_at_ones 64 (i % 64) (omega arith)

pub none_rest : (known : Fact → Bool) (format : Format) (possible : List Possible) (due noted : List ℕ) → due ≡ replicate (length possible / 64 + 1) (2 ^ 64 - 1) → length noted ≡ 128 * length due → 128 * length due < 2 ^ 64 → AreWaiting known format possible due noted None
none_rest known format possible due noted all rows few =
    let words : length due ≡ length possible / 64 + 1 = ap length all ∙ length-replicate (length possible / 64 + 1) (2 ^ 64 - 1) in
    record {
      enough = omega (arith, words);
      rows = rows;
      few = few;
      rests = λ i p at n.
          let within = slice_get_within possible i p at in
          absurd (n (subst (λ z. IsDue z i) (sym all) (all_ones (length possible / 64 + 1) i (omega (arith, within)))));
    }

-- where none comes next, each that isn't due rests
rests_in : (known : Fact → Bool) (format : Format) (possible : List Possible) (due noted : List ℕ) → AreWaiting known format possible due noted None → (i : ℕ) (p : Possible) → slice_get possible i ≡ Some p → (IsDue due i → ⊥) → Rests known (told format p.rule) noted i
rests_in known format possible due noted are i p at n = elim (are.rests i p at n) [
  | inl r ↦ r
  | inr e ↦ absurd (cc)
]

-- where one more step is laid aside
module _ (due noted less more : List ℕ) (step : ℕ) (others : (i : ℕ) → (i ≡ step → ⊥) → bit_in less (i / 64) (i % 64) ≡ bit_in due (i / 64) (i % 64)) where
  module _ (known : Fact → Bool) (format : Format) (possible : List Possible) (p : Possible) (are : AreWaiting known format possible due noted None) (at : slice_get possible step ≡ Some p)
      (many : length less ≡ length due) (rows : length more ≡ length noted) (keeps : (x : Fact) (i : ℕ) → IsInRow noted x i → IsInRow more x i) where
    seen_still : (why : Rest) (i : ℕ) → IsNotedFor noted why i → IsNotedFor more why i
    seen_still Due i h = tt
    seen_still (Until x) i h = keeps x i h
    seen_still Over i h = tt

    -- what is so of it is so of each
    laid : (next : Option Rule) → Rests known (told format p.rule) more step ⊎ (next ≡ Some (told format p.rule)) → AreWaiting known format possible less more next
    laid next this = record {
      enough = subst (λ n. length possible ≤ 64 * n) (sym many) are.enough;
      rows = rows ∙ (are.rows ∙ ap (λ n. 128 * n) (sym many));
      few = subst (λ n. 128 * n < 2 ^ 64) (sym many) are.few;
      rests = λ i q there n. elim (cases_eq step i) [
        | inl e ↦
            let same : Some p ≡ Some q = sym at ∙ (ap (slice_get possible) e ∙ there) in
            let is : p ≡ q = cc in
            subst (λ (z : Possible). Rests known (told format z.rule) more i ⊎ (next ≡ Some (told format z.rule))) is (subst (λ j. Rests known (told format p.rule) more j ⊎ (next ≡ Some (told format p.rule))) e this)
        | inr o ↦
            let old = rests_in known format possible due noted are i q there (λ d. n (others i (λ s. o (sym s)) ∙ d)) in
            inl record { why = old.why; right = old.right; still = old.still; seen = seen_still old.why i old.seen }
      ];
    }

    -- for a reason
    pub waits_more : (why : Rest) → RestsBy known (told format p.rule) why → is_still known why ≡ true → IsNotedFor more why step → AreWaiting known format possible less more None
    waits_more why w still seen = laid None (inl record { why = why; right = w; still = still; seen = seen })

    -- or since it comes next
    pub waits_next : AreWaiting known format possible less more (Some (told format p.rule))
    waits_next = laid (Some (told format p.rule)) (inr refl)

  -- none up to it is to be looked at
  pub before_more : ((i : ℕ) → i < step → IsDue due i → ⊥) → (IsDue less step → ⊥) → (i : ℕ) → i < step + 1 → IsDue less i → ⊥
  before_more before gone i h d = elim (cases_eq i step) [
    | inl e ↦ gone (subst (IsDue less) e d)
    | inr n ↦ before i (omega (arith, h, n)) (sym (others i n) ∙ d)
  ]

-- where those before a place fail the test, what is found stands from there on
before_fail : (f : Possible → Ruled) (test : Ruled → Bool) (ps : List Possible) (n : ℕ) → ((i : ℕ) (p : Possible) → i < n → slice_get ps i ≡ Some p → test (f p) ≡ false) → find test (map f (drop n ps)) ≡ find test (map f ps)
before_fail f test ps zero fails = refl
before_fail f test [] (suc n) fails = refl
before_fail f test (p ∷ ps) (suc n) fails =
    before_fail f test ps n (λ i q h at. fails (suc i) q (omega (arith, h)) at) ∙ sym (ap (λ b. cond b (Some (f p)) (find test (map f ps))) (fails 0 p (omega arith) refl))

module _ (known : Fact → Bool) (format : Format) (possible : List Possible) (due noted : List ℕ) (from : ℕ) (are : AreWaiting known format possible due noted None) (before : (i : ℕ) → i < from → IsDue due i → ⊥) where
  abbrev test : Ruled → Bool
  test p = gives_more known p.rule

  rest_before : find test (map (ruled format) (drop from possible)) ≡ find test (map (ruled format) possible)
  rest_before = before_fail (ruled format) test possible from (λ i p h at. let r = rests_in known format possible due noted are i p at (before i h) in rests_still (told format p.rule) known r.why r.right r.still)

  -- what is found is the first that is next
  pub found_here : (p : Possible) → from < length possible → p ≡ get_or possible from p → gives_more known (told format p.rule) ≡ true → find test (map (ruled format) possible) ≡ Some (ruled format p)
  found_here p here is e =
      sym rest_before
      ∙ ap (λ ps. find test (map (ruled format) ps)) (drop_more possible from p here ∙ ap (λ z. z ∷ drop (from + 1) possible) (sym is))
      ∙ ap (λ b. cond b (Some (ruled format p)) (find test (map (ruled format) (drop (from + 1) possible)))) e

  pub none_here : length possible ≤ from → find test (map (ruled format) possible) ≡ None
  none_here past = sym rest_before ∙ ap (λ ps. find test (map (ruled format) ps)) (drop_all from possible past)

-- ---- after facts are learnt

module _ (old new : Knowledge) (gives : List Fact) (learns : (x : Fact) → shows new x ≡ ((has gives x && nat_lt (field_of x) (width old)) || shows old x)) where
  pub knows_all : KnowsAll (shows old) (shows new)
  knows_all x e = learns x ∙ ap (λ b. (has gives x && nat_lt (field_of x) (width old)) || b) e ∙ ever (has gives x && nat_lt (field_of x) (width old)) where
    ever : (b : Bool) → (b || true) ≡ true
    ever true = refl
    ever false = refl

  rests_on : (r : Rule) (why : Rest) → RestsBy (shows old) r why → RestsBy (shows new) r why
  rests_on r Due w = tt
  rests_on r (Until x) w = λ more keeps. w more (λ x e. keeps x (knows_all x e))
  rests_on r Over w = λ more keeps. w more (λ x e. keeps x (knows_all x e))

  unknown_yet : (x : Fact) → has gives x ≡ false → shows new x ≡ shows old x
  unknown_yet x n = learns x ∙ ap (λ b. (b && nat_lt (field_of x) (width old)) || shows old x) n

  -- those that are woken are looked at again, and the one that came next gives nothing more
  module _ (format : Format) (possible : List Possible) (due noted more left : List ℕ) (next : Rule) (are : AreWaiting (shows old) format possible due noted (Some next)) (woken : AreWoken gives due noted more left) (given : list_all (shows new) next.gives ≡ true) where
    rests_so : (r : Rule) (i : ℕ) → i < 64 * length due → (IsDue more i → ⊥) → (why : Rest) → RestsBy (shows old) r why → is_still (shows old) why ≡ true → IsNotedFor noted why i → Rests (shows new) r left i
    rests_so r i within n Due w still seen = absurd (cc)
    rests_so r i within n (Until x) w still seen =
        let on = woken.rests i x within seen n in
        record { why = Until x; right = rests_on r (Until x) w; still = ap not (unknown_yet x on.0) ∙ still; seen = on.1 }
    rests_so r i within n Over w still seen = record { why = Over; right = rests_on r Over w; still = refl; seen = tt }

    rests_next : (i : ℕ) → Rests (shows new) next left i
    rests_next i = record { why = Over; right = over_ever next (shows new) (ap (λ b. b || not (list_all (λ y. not (shows new y)) next.absent)) given); still = refl; seen = tt }

    pub waits_on : AreWaiting (shows new) format possible more left None
    waits_on = record {
      enough = subst (λ n. length possible ≤ 64 * n) (sym woken.many) are.enough;
      rows = woken.rows ∙ (are.rows ∙ ap (λ n. 128 * n) (sym woken.many));
      few = subst (λ n. 128 * n < 2 ^ 64) (sym woken.many) are.few;
      rests = λ i p at n.
          let within = slice_get_within possible i p at in
          let room = are.enough in
          inl (elim (are.rests i p at (λ d. n (woken.keeps i d))) [
            | inl r ↦ rests_so (told format p.rule) i (omega (arith, within, room)) n r.why r.right r.still r.seen
            | inr e ↦
                let same : next ≡ told format p.rule = cc in
                subst (λ r. Rests (shows new) r left i) same (rests_next i)
          ]);
    }
