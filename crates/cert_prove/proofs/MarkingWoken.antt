-- Steps that are woken word by word, and fact by fact.
use Rattle.std.proofs.Common.{◌≡◌, refl, sym, ◌∙◌, ap, subst, ℕ, ◌+◌, ◌*◌, ◌/◌, ◌%◌, ◌<◌, Bool, true, false, List, [], ◌∷◌, ◌++◌, length, inl, inr, arith}
use Rattle.std.specs.Prelude.{◌||◌}
use Rattle.std.proofs.lemmas.Bool.{cases_eq}
use Rattle.cert_types.specs.declared.rule.Fact.{Fact}
use Rattle.cert_rules.specs.Facts.{same_fact}
use Rattle.cert_rules.proofs.ViewsAgree.{same_is}
use Rattle.cert_plans.proofs.KnowingFollowing.{has_both}
use Rattle.cert_prove.specs.Marking.{bit_in, IsDue, row_of, IsInRow, AreWoken}
use Rattle.cert_prove.proofs.MarkingBits.{kind_within}

-- up to a word the row of the fact is due, and no other row is changed
pub record WokenTo (fact : Fact) (word : ℕ) (due noted more left : List ℕ) : Type 0 where
  pub many : length more ≡ length due
  pub rows : length left ≡ length noted
  pub keeps : (k bit : ℕ) → bit_in due k bit ≡ 1 → bit_in more k bit ≡ 1
  pub woken : (k bit : ℕ) → k < word → bit_in noted (row_of k fact) bit ≡ 1 → bit_in more k bit ≡ 1
  pub others : (k bit : ℕ) → ((v : ℕ) → v < word → k ≡ row_of v fact → ⊥) → bit_in left k bit ≡ bit_in noted k bit

pub none_woken : (fact : Fact) (due noted : List ℕ) → WokenTo fact 0 due noted due noted
none_woken fact due noted = record { many = refl; rows = refl; keeps = λ k bit e. e; woken = λ k bit h. absurd (omega (arith, h)); others = λ k bit n. refl }

pub word_woken : (fact : Fact) (word row : ℕ) (due noted more left full still : List ℕ) → row ≡ row_of word fact → WokenTo fact word due noted more left → length full ≡ length more → length still ≡ length left →
    ((k bit : ℕ) → bit_in more k bit ≡ 1 → bit_in full k bit ≡ 1) → ((bit : ℕ) → bit_in left row bit ≡ 1 → bit_in full word bit ≡ 1) →
    ((k bit : ℕ) → (k ≡ row → ⊥) → bit_in still k bit ≡ bit_in left k bit) → WokenTo fact (word + 1) due noted full still
word_woken fact word row due noted more left full still at so many rows keeps woken others = record {
  many = many ∙ so.many;
  rows = rows ∙ so.rows;
  keeps = λ k bit e. keeps k bit (so.keeps k bit e);
  woken = λ k bit h e. elim (cases_eq k word) [
    | inl s ↦ subst (λ z. bit_in full z bit ≡ 1) (sym s)
        (woken bit (so.others row bit (λ v l is. absurd (omega (arith, l, is, at))) ∙ subst (λ z. bit_in noted z bit ≡ 1) (ap (λ z. row_of z fact) s ∙ sym at) e))
    | inr n ↦ keeps k bit (so.woken k bit (omega (arith, h, n)) e)
  ];
  others = λ k bit n. others k bit (λ s. n word (omega arith) (s ∙ at)) ∙ so.others k bit (λ v l s. n v (omega (arith, l)) s);
}

module _ (fact : Fact) (due noted more left : List ℕ) (so : WokenTo fact (length due) due noted more left) where
  -- one that isn't due stands in another row
  elsewhere : (i : ℕ) (x : Fact) → i < 64 * length due → IsInRow noted x i → (IsDue more i → ⊥) → (v : ℕ) → row_of (i / 64) x ≡ row_of v fact → ⊥
  elsewhere i x within seen n v s =
      let k = kind_within x in
      let l = kind_within fact in
      let same : row_of (i / 64) x ≡ row_of (i / 64) fact = omega (arith, s, k, l) in
      n (so.woken (i / 64) (i % 64) (omega (arith, within)) (subst (λ z. bit_in noted z (i % 64) ≡ 1) same seen))

  -- the fact is all that was learnt
  pub all_woken : AreWoken (fact ∷ []) due noted more left
  all_woken = record {
    many = so.many;
    rows = so.rows;
    keeps = λ i d. so.keeps (i / 64) (i % 64) d;
    rests = λ i x within seen n. (other i x within seen n (same_fact fact x) refl, so.others (row_of (i / 64) x) (i % 64) (λ v l s. elsewhere i x within seen n v s) ∙ seen);
  } where
    other : (i : ℕ) (x : Fact) → i < 64 * length due → IsInRow noted x i → (IsDue more i → ⊥) → (b : Bool) → same_fact fact x ≡ b → (b || false) ≡ false
    other i x within seen n true h = absurd (elsewhere i x within seen n (i / 64) (ap (row_of (i / 64)) (sym (same_is fact x h))))
    other i x within seen n false h = refl

-- where nothing was learnt
pub no_fact : (due noted : List ℕ) → AreWoken [] due noted due noted
no_fact due noted = record { many = refl; rows = refl; keeps = λ i d. d; rests = λ i x within seen n. (refl, seen) }

-- and one more
pub fact_woken : (facts : List Fact) (x : Fact) (due noted more left full still : List ℕ) → AreWoken facts due noted more left → AreWoken (x ∷ []) more left full still → AreWoken (facts ++ x ∷ []) due noted full still
fact_woken facts x due noted more left full still first next = record {
  many = next.many ∙ first.many;
  rows = next.rows ∙ first.rows;
  keeps = λ i d. next.keeps i (first.keeps i d);
  rests = λ i y within seen n.
      let a = first.rests i y within seen (λ d. n (next.keeps i d)) in
      let b = next.rests i y (subst (λ z. i < 64 * z) (sym first.many) within) a.1 n in
      (has_both facts (x ∷ []) y ∙ (λ j. a.0 j || b.0 j), b.1);
}
