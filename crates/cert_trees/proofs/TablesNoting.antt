-- A table of known bits against a format's listing.
use Rattle.std.proofs.Common.{◌≡◌, ◌∙◌, refl, sym, ap, subst, ℕ, zero, suc, ◌+◌, ◌-◌, ◌^◌, ◌<◌, ◌≤◌, Bool, true, false, nat_lt, List, [], ◌∷◌, length, drop, get_or, Option, Some, None, arith}
use Rattle.std.specs.Prelude.{slice_get}
use Rattle.std.specs.Option.{SomeIff}
use Rattle.std.proofs.lemmas.Bool.{ltb-true, ltb-false}
use Rattle.std.proofs.lemmas.List.{drop_more, drop_all}
use Rattle.sem_profile.specs.declared.profile.Field.{Field}
use Rattle.sem_profile.specs.declared.profile.Sizes.{Sizes}
use Rattle.cert_rules.specs.Trees.{after_bits, after_gap, after_field, known_bit}
use Rattle.cert_trees.specs.Tables.{Table, HasBits, TellsTo, TellsOn}

-- a number is below another, or so many above it
split : {P : Type 0} (o n : ℕ) → (o < n → P) → ((k : ℕ) → o ≡ n + k → P) → P
split {P = P} o n low high = by (nat_lt o n) refl
  where
    by : (b : Bool) → nat_lt o n ≡ b → P
    by true e = low (ltb-true o n e)
    by false e = let le = ltb-false o n e in high (o - n) (omega (arith, le))

in_bits : (bits : List Bool) (rest : Table) (k : ℕ) → k < length bits → after_bits bits rest k ≡ slice_get bits k
in_bits [] rest k lt = absurd (omega (arith, lt))
in_bits (b ∷ bits) rest zero lt = refl
in_bits (b ∷ bits) rest (suc k) lt = in_bits bits rest k (omega (arith, lt))

past_bits : (bits : List Bool) (rest : Table) (m k : ℕ) → m ≡ length bits + k → after_bits bits rest m ≡ rest k
past_bits [] rest m k e = ap rest (omega (arith, e))
past_bits (b ∷ bits) rest zero k e = absurd (omega (arith, e))
past_bits (b ∷ bits) rest (suc m) k e = past_bits bits rest m k (omega (arith, e))

in_gap : (n : ℕ) (rest : Table) (k : ℕ) → k < n → after_gap n rest k ≡ None
in_gap zero rest k lt = absurd (omega (arith, lt))
in_gap (suc n) rest zero lt = refl
in_gap (suc n) rest (suc k) lt = in_gap n rest k (omega (arith, lt))

past_gap : (n : ℕ) (rest : Table) (m k : ℕ) → m ≡ n + k → after_gap n rest m ≡ rest k
past_gap zero rest m k e = ap rest (omega (arith, e))
past_gap (suc n) rest zero k e = absurd (omega (arith, e))
past_gap (suc n) rest (suc m) k e = past_gap n rest m k (omega (arith, e))

module _ (known new whole rest : Table) (offset : ℕ) where
  -- below the end of the bits the new table tells
  with_bits : (bits : List Bool) → TellsTo known offset (after_bits bits rest) whole → HasBits known new offset bits (length bits) → (o : ℕ) → o < offset + length bits → o < 2 ^ 128 → whole o ≡ new o
  with_bits bits tells has o lt small = split o offset
      (λ low. tells.told o low ∙ sym (has.before o low))
      (λ k e. let there : k < length bits = omega (arith, e, lt) in
      ap whole e ∙ (tells.left k (omega (arith, e, small)) ∙ (in_bits bits rest k there ∙ (sym (has.here k there (omega (arith, e, small))) ∙ ap new (sym e)))))

  with_gap : (n : ℕ) → TellsTo known offset (after_gap n rest) whole → (o : ℕ) → o < offset + n → o < 2 ^ 128 → whole o ≡ known o
  with_gap n tells o lt small = split o offset
      (λ low. tells.told o low)
      (λ k e. ap whole e ∙ (tells.left k (omega (arith, e, small)) ∙ (in_gap n rest k (omega (arith, e, lt)) ∙ sym (tells.empty o (omega (arith, e))))))

  on_bits : (bits : List Bool) (end : Option ℕ) → SomeIff end (offset + length bits < 2 ^ 128) (offset + length bits) → HasBits known new offset bits (length bits) →
      TellsTo known offset (after_bits bits rest) whole → TellsOn end new rest whole
  on_bits bits None far has tells = λ o small. split {P = whole o ≡ new o} o (offset + length bits)
      (λ low. with_bits bits tells has o low small)
      (λ k e. absurd (far (omega (arith, e, small))))
  on_bits bits (Some end) moved has tells = record {
    below = omega (arith, moved.0, moved.1);
    told = λ o lt. with_bits bits tells has o (omega (arith, moved.1, lt)) (omega (arith, moved.0, moved.1, lt));
    left = λ k small. let at : end + k ≡ offset + (length bits + k) = omega (arith, moved.1) in
        ap whole at ∙ (tells.left (length bits + k) (omega (arith, at, small)) ∙ past_bits bits rest (length bits + k) k refl);
    empty = λ o le. has.after o (omega (arith, moved.1, le)) ∙ tells.empty o (omega (arith, moved.1, le));
  }

  on_gap : (n : ℕ) (end : Option ℕ) → SomeIff end (offset + n < 2 ^ 128) (offset + n) → TellsTo known offset (after_gap n rest) whole → TellsOn end known rest whole
  on_gap n None far tells = λ o small. split {P = whole o ≡ known o} o (offset + n)
      (λ low. with_gap n tells o low small)
      (λ k e. absurd (far (omega (arith, e, small))))
  on_gap n (Some end) moved tells = record {
    below = omega (arith, moved.0, moved.1);
    told = λ o lt. with_gap n tells o (omega (arith, moved.1, lt)) (omega (arith, moved.0, moved.1, lt));
    left = λ k small. let at : end + k ≡ offset + (n + k) = omega (arith, moved.1) in
        ap whole at ∙ (tells.left (n + k) (omega (arith, at, small)) ∙ past_gap n rest (n + k) k refl);
    empty = λ o le. tells.empty o (omega (arith, moved.1, le));
  }

-- where the next bit has no offset of 128 bits
pub bits_end : (known new : Table) (offset : ℕ) (bits : List Bool) (n : ℕ) → n < length bits → (offset + n < 2 ^ 128 → ⊥) → HasBits known new offset bits n → HasBits known new offset bits (length bits)
bits_end known new offset bits n lt end has = record {
  before = has.before;
  here = λ k within small. by k small (nat_lt k n) refl;
  after = λ o le. has.after o (omega (arith, le, lt));
}
  where
    by : (k : ℕ) → offset + k < 2 ^ 128 → (b : Bool) → nat_lt k n ≡ b → new (offset + k) ≡ slice_get bits k
    by k small true e = has.here k (ltb-true k n e) small
    by k small false e = let past = ltb-false k n e in absurd (end (omega (arith, past, small)))

-- where nothing is left to tell
pub on_nothing : (known whole rest : Table) (offset : ℕ) → ((k : ℕ) → rest k ≡ None) → TellsTo known offset rest whole → (o : ℕ) → o < 2 ^ 128 → whole o ≡ known o
on_nothing known whole rest offset none tells o small = split o offset
    (λ low. tells.told o low)
    (λ k e. ap whole e ∙ (tells.left k (omega (arith, e, small)) ∙ (none k ∙ sym (tells.empty o (omega (arith, e))))))

-- a field with a literal, one of a fixed length, and another
pub noted_bits : (known new : Table) (offset : ℕ) (l : Option (List Bool)) (w : Option ℕ) (bits : List Bool) (end : Option ℕ) → l ≡ Some bits → HasBits known new offset bits (length bits) →
    SomeIff end (offset + length bits < 2 ^ 128) (offset + length bits) → (rest whole : Table) → TellsTo known offset (after_field l w rest) whole → TellsOn end new rest whole
noted_bits known new offset l w bits end is has moved rest whole tells =
    on_bits known new whole rest offset bits end moved has (subst (λ z. TellsTo known offset (after_field z w rest) whole) is tells)

pub noted_gap : (known : Table) (offset : ℕ) (l : Option (List Bool)) (w : Option ℕ) (n : ℕ) (end : Option ℕ) → l ≡ None → w ≡ Some n →
    SomeIff end (offset + n < 2 ^ 128) (offset + n) → (rest whole : Table) → TellsTo known offset (after_field l w rest) whole → TellsOn end known rest whole
noted_gap known offset l w n end none is moved rest whole tells =
    on_gap known known whole rest offset n end moved (subst (λ z. TellsTo known offset (after_field None z rest) whole) is (subst (λ z. TellsTo known offset (after_field z w rest) whole) none tells))

pub noted_nothing : (known : Table) (offset : ℕ) (l : Option (List Bool)) (w : Option ℕ) → l ≡ None → w ≡ None →
    (rest whole : Table) → TellsTo known offset (after_field l w rest) whole → TellsOn None known rest whole
noted_nothing known offset l w none no_width rest whole tells =
    on_nothing known whole (after_field None None rest) offset (λ k. refl) (subst (λ z. TellsTo known offset (after_field None z rest) whole) no_width (subst (λ z. TellsTo known offset (after_field z w rest) whole) none tells))

-- the listing from a place on
pub listing_at : (known whole : Table) (offset : ℕ) (fields : List Field) (sizes : List Sizes) (listing : List ℕ) (n : ℕ) → n < length listing → TellsTo known offset (known_bit fields sizes (drop n listing)) whole →
    TellsTo known offset (known_bit fields sizes (get_or listing n 0 ∷ drop (n + 1) listing)) whole
listing_at known whole offset fields sizes listing n lt tells = subst (λ is. TellsTo known offset (known_bit fields sizes is) whole) (drop_more listing n 0 lt) tells

pub listing_ended : (known whole : Table) (offset : ℕ) (fields : List Field) (sizes : List Sizes) (listing : List ℕ) (n : ℕ) → length listing ≤ n → TellsTo known offset (known_bit fields sizes (drop n listing)) whole →
    (o : ℕ) → o < 2 ^ 128 → known o ≡ whole o
listing_ended known whole offset fields sizes listing n past tells =
    λ o small. sym (on_nothing known whole (known_bit fields sizes []) offset (λ k. refl) (subst (λ is. TellsTo known offset (known_bit fields sizes is) whole) (drop_all n listing past) tells) o small)
