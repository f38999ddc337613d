-- What a format alone tells of its levels.
use Rattle.std.proofs.Common.{◌≡◌, ◌∙◌, refl, sym, ap, subst, ℕ, zero, suc, ◌+◌, ◌<◌, ◌≤◌, List, [], ◌∷◌, ◌++◌, Bool, length, arith}
use Rattle.std.specs.Prelude.{pos, slice_get, Some}
use Rattle.sem_bits.specs.Number.{num}
use Rattle.sem_expr.specs.Values.{val}
use Rattle.sem_pages.proofs.Growing.{front_get, last_get}
use Rattle.sem_profile.specs.declared.profile.Constraint.{Constraint}
use Rattle.sem_profile.specs.declared.profile.Encoding.TheVariants as encoding
use Rattle.sem_profile.specs.declared.profile.Field.{Field}
use Rattle.sem_profile.specs.declared.profile.Library.{Library}
use Rattle.sem_profile.specs.declared.profile.Library.TheVariants as library
use Rattle.sem_pages.specs.Chains.{IsOperand, Meaning}
use Rattle.sem_pages.specs.Pages.{Seen, numbers_seen}
use Rattle.sem_pages.specs.declared.prepared.Computed.{Computed}
use Rattle.sem_pages.specs.declared.prepared.LengthTest.{LengthTest}
use Rattle.sem_pages.specs.Prepared.{AreCovered, IsComputed, IsConstant, IsConstantBy, IsCovered, IsReadOn, IsSettled, IsTest, by_encoding, by_test, by_value}
use Rattle.sem_pages.proofs.CodedSides.{constant_up_on}
use Rattle.sem_pages.proofs.Pages.{plain_has}

-- a constant by its library method
pub constant_field : (d : Field) (library : Library) (u c : List Bool) → d.encoding ≡ encoding.Library library → IsConstantBy library u c → IsConstant d u c
constant_field d library u c is coded = λ methods ctx path v s plain l bears. plain_has methods ctx path l d s library u c is plain (coded ctx path v d l bears)

-- a field that is worked out
pub computed_reads : (v : Seen) (d : Field) (x : Computed) (n : ℕ) (u c : List Bool) → IsComputed d x → ((m : Meaning) → IsOperand x.chains x.value m → m (numbers_seen v) ≡ Some (pos n)) → length u ≡ x.count → num u ≡ n → x.count ≤ 64 → c ≡ []
    → IsReadOn v d u c
computed_reads v d x n u c is finds count spelled short none = λ methods ctx path s plain l bears.
    let by = is.by in
    plain_has methods ctx path l d s (library.UncompressedValue by.length by.value) u c (is.encoding_is ∙ ap encoding.Library by.library_is) plain
    (constant_up_on v ctx path d u c by.length by.value
    (record {
      count = pos x.count;
      count_is = by.is.count_is (numbers_seen v);
      number = pos n;
      number_is = finds (λ a. val a by.value) by.is.value_is;
      spells = record { length_is = ap pos count; number_is = ap pos spelled; short = omega (arith, count, short) };
    })
    none l bears)

-- ---- constraints

more_tests : (ds : List Field) (tests more : List LengthTest) (others : List ℕ) (j : ℕ) (c : Constraint) → IsCovered ds tests others j c → IsCovered ds (tests ++ more) others j c
more_tests ds tests more others j c (by_test m t at is) = by_test m t (front_get tests more m t at) is
more_tests ds tests more others j c (by_encoding t settled is) = by_encoding t settled is
more_tests ds tests more others j c (by_value m at) = by_value m at

more_others : (ds : List Field) (tests : List LengthTest) (others more : List ℕ) (j : ℕ) (c : Constraint) → IsCovered ds tests others j c → IsCovered ds tests (others ++ more) j c
more_others ds tests others more j c (by_test m t at is) = by_test m t at is
more_others ds tests others more j c (by_encoding t settled is) = by_encoding t settled is
more_others ds tests others more j c (by_value m at) = by_value m (front_get others more m j at)

-- an index below the next one
below_next : (j n : ℕ) (P : Type 0) → j < n + 1 → (j < n → P) → (j ≡ n → P) → P
below_next zero zero P lt old new = new refl
below_next zero (suc n) P lt old new = old (omega arith)
below_next (suc j) zero P lt old new = absurd (omega (arith, lt))
below_next (suc j) (suc n) P lt old new = below_next j n P (omega (arith, lt)) (λ h. old (omega (arith, h))) (λ h. new (ap suc h))

-- one more by its test
pub covered_test : (ds : List Field) (all : List Constraint) (tests : List LengthTest) (others : List ℕ) (n : ℕ) (c : Constraint) (t : LengthTest) → slice_get all n ≡ Some c → IsTest c t → AreCovered ds all tests others n → AreCovered ds all (tests ++ t ∷ []) others (n + 1)
covered_test ds all tests others n c t here is before = λ j d lt at. below_next j n (IsCovered ds (tests ++ t ∷ []) others j d) lt
    (λ old. more_tests ds tests (t ∷ []) others j d (before j d old at))
    (λ last.
    let one : Some c ≡ Some d = sym here ∙ ap (slice_get all) (sym last) ∙ at in
    let same : c ≡ d = cc in
    subst (λ z. IsCovered ds (tests ++ t ∷ []) others j z) same (by_test (length tests) t (last_get tests t) is))

-- one more that is settled
pub covered_settled : (ds : List Field) (all : List Constraint) (tests : List LengthTest) (others : List ℕ) (n : ℕ) (c : Constraint) (t : LengthTest) → slice_get all n ≡ Some c → IsTest c t → IsSettled ds t → AreCovered ds all tests others n → AreCovered ds all tests others (n + 1)
covered_settled ds all tests others n c t here is settled before = λ j d lt at. below_next j n (IsCovered ds tests others j d) lt
    (λ old. before j d old at)
    (λ last.
    let one : Some c ≡ Some d = sym here ∙ ap (slice_get all) (sym last) ∙ at in
    let same : c ≡ d = cc in
    subst (λ z. IsCovered ds tests others j z) same (by_encoding t settled is))

-- one more by its index
pub covered_other : (ds : List Field) (all : List Constraint) (tests : List LengthTest) (others : List ℕ) (n : ℕ) → AreCovered ds all tests others n → AreCovered ds all tests (others ++ n ∷ []) (n + 1)
covered_other ds all tests others n before = λ j d lt at. below_next j n (IsCovered ds tests (others ++ n ∷ []) j d) lt
    (λ old. more_others ds tests others (n ∷ []) j d (before j d old at))
    (λ last. by_value (length others) (last_get others n ∙ ap Some (sym last)))
