-- How a journal grows.
use Rattle.std.proofs.Common.{◌≡◌, ◌∙◌, refl, sym, ap, subst, ℕ, nat_eq, Bool, true, false, cond, ◌&&◌, ◌||◌, List, [], ◌∷◌, ◌++◌, ◌+◌, ◌-◌, ◌<◌, length, append_assoc, arith}
use Rattle.std.specs.Prelude.{◌≢◌, find, is_some, slice_get, Option, Some, None, Result, Ok, Err, OnOk}
use Rattle.std.specs.declared.alloc.AllocError.{AllocError}
use Rattle.std.specs.Option.{option_or}
use Rattle.std.proofs.lemmas.Bool.{false≢true, eqb-true}
use Rattle.std.proofs.lemmas.List.{append-nil, map-append}
use Rattle.cert_accepted.specs.Accepted.{Accepting}
use Rattle.sem_context.specs.Entries.{Entries, bits_at}
use Rattle.sem_filling.specs.declared.filling.Filling.{out-Filling}
use Rattle.sem_filling.specs.declared.filling.Item.{Item}
use Rattle.walk_engine.specs.declared.search.Packed.{Packed}
use Rattle.walk_loss.specs.declared.reception.Heard.{Heard}
use Rattle.walk_loss.specs.declared.reception.HeardKind.{HeardKind}
use Rattle.walk_loss.specs.declared.reception.HeardKind.TheVariants as kinds
use Rattle.walk_loss.specs.declared.journal.Case.{Case}
use Rattle.walk_loss.specs.declared.journal.Journal.{Journal}
use Rattle.walk_loss.specs.declared.journal.Reading.{Reading}
use Rattle.walk_loss.specs.declared.unserved.Unserved.{Unserved}
use Rattle.walk_loss.specs.Reception.{IsHeard, kind}
use Rattle.walk_loss.specs.Journal.{Entry, reading_of, same_kind, is_entry, first_entry, is_case, first_case, is_known, IsCaseOf, TellsOf, IsJournal, AddsOne, AddsFirst, none_heard, one_hears, back, entry}
use Rattle.walk_loss.specs.Unserved.{HasUnserved}

find_append : {A : Type 0} (p : A → Bool) (xs : List A) (x : A) → find p (xs ++ x ∷ []) ≡ option_or (find p xs) (cond (p x) (Some x) None)
find_append p [] x = refl
find_append p (y ∷ ys) x = by (p y) (find_append p ys x)
  where
    by : (b : Bool) → find p (ys ++ x ∷ []) ≡ option_or (find p ys) (cond (p x) (Some x) None)
        → cond b (Some y) (find p (ys ++ x ∷ [])) ≡ option_or (cond b (Some y) (find p ys)) (cond (p x) (Some x) None)
    by true rest = refl
    by false rest = rest

or_none : {A : Type 0} (o : Option A) → option_or o None ≡ o
or_none None = refl
or_none (Some x) = refl

both_of : (a b : Bool) → (a && b) ≡ true → (a ≡ true) × (b ≡ true)
both_of true b e = (refl, e)
both_of false b e = absurd (false≢true e)

either_of : (a b : Bool) (R : Type 0) → (a || b) ≡ true → (a ≡ true → R) → (b ≡ true → R) → R
either_of true b R e left right = left refl
either_of false b R e left right = right e

kinds_same : (k l : HeardKind) → same_kind k l ≡ true → k ≡ l
kinds_same kinds.Right kinds.Right e = refl
kinds_same kinds.Right kinds.Wrong e = absurd (false≢true e)
kinds_same kinds.Right kinds.Refused e = absurd (false≢true e)
kinds_same kinds.Wrong kinds.Right e = absurd (false≢true e)
kinds_same kinds.Wrong kinds.Wrong e = refl
kinds_same kinds.Wrong kinds.Refused e = absurd (false≢true e)
kinds_same kinds.Refused kinds.Right e = absurd (false≢true e)
kinds_same kinds.Refused kinds.Wrong e = absurd (false≢true e)
kinds_same kinds.Refused kinds.Refused e = refl

module _ (a : Accepting) where
  tells_on : (o : Option Entry) (q : Option Case) (more : Option Entry) (extra : Option Case) → TellsOf a o q → (q ≡ None → TellsOf a more extra) → TellsOf a (option_or o more) (option_or q extra)
  tells_on (Some e) (Some c) more extra t new = t
  tells_on (Some e) None more extra t new = absurd t
  tells_on None (Some c) more extra t new = absurd t
  tells_on None None more extra t new = new refl

  -- where nothing is to be told of an entry, it is the first of no kind
  known_one : (e : Entry) (cs : List Case) → is_known e.lost (kind e.heard) cs ≡ true → (n : ℕ) (k : HeardKind) → k ≢ kinds.Right → first_case n k cs ≡ None → (b : Bool) → is_entry n k e ≡ b → TellsOf a (cond b (Some e) None) None
  known_one e cs known n k other none false is = tt
  known_one e cs known n k other none true is =
      let parts = both_of (nat_eq e.lost n) (same_kind (kind e.heard) k) is in
      let lost_is : e.lost ≡ n = eqb-true e.lost n parts.0 in
      let kind_is : kind e.heard ≡ k = kinds_same (kind e.heard) k parts.1 in
      absurd (either_of (same_kind (kind e.heard) kinds.Right) (is_some (first_case e.lost (kind e.heard) cs)) ⊥ known (λ right. other (sym kind_is ∙ kinds_same (kind e.heard) kinds.Right right))
      (λ some. false≢true (ap is_some (sym none) ∙ (ap (λ x. is_some (first_case x k cs)) (sym lost_is) ∙ ap (λ x. is_some (first_case e.lost x cs)) (sym kind_is) ∙ some))))

  -- the journal with one reading more, of which nothing is to be told
  pub journal_same : (es : List Entry) (e : Entry) (old : Journal) (readings : List Reading) → IsJournal a es old → readings ≡ old.readings ++ reading_of e ∷ [] → is_known e.lost (kind e.heard) old.cases ≡ true
      → IsJournal a (es ++ e ∷ []) (record { readings = readings; cases = old.cases })
  journal_same es e old readings is grown known = record {
    readings_are = grown ∙ ap (λ rs. rs ++ reading_of e ∷ []) is.readings_are ∙ sym (map-append reading_of es (e ∷ []));
    cases_are = λ n k other.
        let one = tells_on (first_entry n k es) (first_case n k old.cases) (cond (is_entry n k e) (Some e) None) None (is.cases_are n k other)
        (λ none. known_one e old.cases known n k other none (is_entry n k e) refl) in
        subst (λ o. TellsOf a o (first_case n k old.cases)) (sym (find_append (is_entry n k) es e)) (subst (λ q. TellsOf a (option_or (first_entry n k es) (cond (is_entry n k e) (Some e) None)) q) (or_none (first_case n k old.cases)) one);
  }

  told_one : (e : Entry) (c : Case) (b : Bool) → IsCaseOf a e c → TellsOf a (cond b (Some e) None) (cond b (Some c) None)
  told_one e c true is = is
  told_one e c false is = tt

  same_test : (e : Entry) (c : Case) (n : ℕ) (k : HeardKind) → IsCaseOf a e c → is_case n k c ≡ is_entry n k e
  same_test e c n k is = (λ i. nat_eq (is.lost_is i) n && same_kind (kind (is.heard_is i)) k)

  -- and with one of which a case is told
  pub journal_more : (es : List Entry) (e : Entry) (old : Journal) (readings : List Reading) (cases : List Case) (c : Case) → IsJournal a es old → readings ≡ old.readings ++ reading_of e ∷ [] → cases ≡ old.cases ++ c ∷ [] → IsCaseOf a e c
      → IsJournal a (es ++ e ∷ []) (record { readings = readings; cases = cases })
  journal_more es e old readings cases c is grown more told = record {
    readings_are = grown ∙ ap (λ rs. rs ++ reading_of e ∷ []) is.readings_are ∙ sym (map-append reading_of es (e ∷ []));
    cases_are = λ n k other.
        let one = tells_on (first_entry n k es) (first_case n k old.cases) (cond (is_entry n k e) (Some e) None) (cond (is_case n k c) (Some c) None) (is.cases_are n k other)
        (λ none. subst (λ b. TellsOf a (cond (is_entry n k e) (Some e) None) (cond b (Some c) None)) (sym (same_test e c n k told)) (told_one e c (is_entry n k e) told)) in
        let cases_are : first_case n k cases ≡ option_or (first_case n k old.cases) (cond (is_case n k c) (Some c) None) = ap (first_case n k) more ∙ find_append (is_case n k) old.cases c in
        subst (λ o. TellsOf a o (first_case n k cases)) (sym (find_append (is_entry n k) es e)) (subst (λ q. TellsOf a (option_or (first_entry n k es) (cond (is_entry n k e) (Some e) None)) q) (sym cases_are) one);
  }

-- ---- what one receiver adds

module _ (a : Accepting) (ctx : Entries) (lost number : ℕ) (it : Item) (p : Packed) (old : Journal) (h : Heard) (is : IsHeard a ctx it p.packed h) (k : HeardKind) (kind_is : k ≡ kind h) (readings : List Reading)
    (grown : readings ≡ old.readings ++ record { lost = lost; format = (out-Filling p.filling).format; kind = k } ∷ []) where
  -- the reading that is added is that of the entry
  right_reading : readings ≡ old.readings ++ reading_of (entry lost number p ctx h) ∷ []
  right_reading = grown ∙ ap (λ x. old.readings ++ record { lost = lost; format = (out-Filling p.filling).format; kind = x } ∷ []) kind_is

  pub adds_known : (b : Bool) (cases : List Case) → b ≡ is_known lost k cases → b ≡ true → cases ≡ old.cases → AddsOne a ctx lost number it p old (record { readings = readings; cases = old.cases })
  adds_known b cases test holds same =
      let known : is_known lost (kind h) old.cases ≡ true = sym (ap (λ x. is_known lost x cases) kind_is ∙ ap (is_known lost (kind h)) same) ∙ sym test ∙ holds in
      record { heard = h; is_heard = is; grows = λ es journal. journal_same a es (entry lost number p ctx h) old readings journal right_reading known }

  pub adds_case : {T : Type 0} (r : Result T AllocError) (cases : List Case) (unserved : List Unserved)
      → OnOk r (cases ≡ old.cases ++ record { lost = lost; number = number; format = (out-Filling p.filling).format; heard = h; unserved = unserved } ∷ [])
      → HasUnserved a.profile.methods (bits_at ctx) a.profile.top [] [] p.filling unserved → OnOk r (AddsOne a ctx lost number it p old (record { readings = readings; cases = cases }))
  adds_case (Err e) cases unserved more told = tt
  adds_case (Ok x) cases unserved more told = record {
    heard = h;
    is_heard = is;
    grows = λ es journal. journal_more a es (entry lost number p ctx h) old readings cases _ journal right_reading more (record { lost_is = refl; number_is = refl; format_is = refl; heard_is = refl; unserved = told });
  }

-- ---- what all add

module _ (a : Accepting) (held : List Entries) (number : ℕ) (it : Item) (p : Packed) where
  pub none_added : (j : Journal) → AddsFirst a held number it p 0 j j
  none_added j = record { entries = []; are_heard = none_heard; grows = λ es is. subst (λ xs. IsJournal a xs j) (sym (append-nil es)) is }

  pub one_added : (n : ℕ) (c : Entries) (old mid new : Journal) → back held n ≡ Some c → AddsFirst a held number it p n old mid → AddsOne a c n number it p mid new → AddsFirst a held number it p (n + 1) old new
  one_added n c old mid new at before one = record {
    entries = before.entries ++ entry n number p c one.heard ∷ [];
    are_heard = one_hears c one.heard before.are_heard at one.is_heard;
    grows = λ es is.
        subst (λ xs. IsJournal a xs new) (append_assoc es before.entries (entry n number p c one.heard ∷ [])) (one.grows (es ++ before.entries) (before.grows es is));
  }

-- the context at its place from the end is the one so many before the newest
pub back_is : (held : List Entries) (n k : ℕ) (c : Entries) → n < length held → k ≡ length held - 1 - n → slice_get held k ≡ Some c → back held n ≡ Some c
back_is held n k c lt is at = let same : k ≡ length held - (n + 1) = omega (arith, lt, is) in ap (slice_get held) (sym same) ∙ at
