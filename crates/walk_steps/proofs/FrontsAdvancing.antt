-- How far the parts of the whole are known, as the walk goes on.
use Rattle.std.proofs.Common.{◌≡◌, refl, sym, ◌∙◌, ap, subst, ℕ, suc, ◌+◌, ◌-◌, ◌<◌, ◌≤◌, ◌^◌, Bool, true, false, ◌⊎◌, inl, inr, List, [], ◌∷◌, ◌++◌, length, take, get_or, arith, length-append}
use Rattle.std.specs.Prelude.{Option, Some, None, slice_get, slice_set, ◌&&◌, if◌then◌else◌, nat_eq}
use Rattle.std.specs.List.{flat_map, list_all}
use Rattle.std.proofs.lemmas.List.{length-replicate, take_more, take_all, append-nil}
use Rattle.std.proofs.lemmas.List.Folds.{length-flat_map-take}
use Rattle.std.proofs.lemmas.Bool.{eqb-true}
use Rattle.std.proofs.lemmas.Option.{same_Some}
use Rattle.sem_expr.specs.declared.expr.Side.{Side}
use Rattle.sem_expr.specs.declared.expr.Side.TheVariants.{Uncompressed, Compressed}
use Rattle.sem_profile.specs.declared.profile.Bounds.{Bounds}
use Rattle.cert_rules.specs.declared.slots.Learnt.{Learnt}
use Rattle.cert_rules.specs.declared.slots.Learnt.TheVariants.{Nothing, Length, Whole}
use Rattle.cert_rules.specs.declared.slots.Slot.{Slot}
use Rattle.cert_rules.specs.Slots.{has_length, side_of_slot, learnt_of, learnt_at, bits_of, HasSide}
use Rattle.cert_rules.specs.Facts.{before, before_more}
use Rattle.cert_rules.proofs.ViewsAgree.{and_true}
use Rattle.walk_steps.specs.declared.fronts.Front.{Front}
use Rattle.walk_steps.specs.declared.fronts.Fronts.{Fronts}
use Rattle.walk_steps.specs.Sides.{length_of, with_side, IsJoint, LearnsAt}
use Rattle.walk_steps.specs.Joined.{joined_bits, joined_length, are_measured}
use Rattle.walk_steps.specs.Fronts.{IsMeasured, AreMeasured, front}
use Rattle.walk_steps.proofs.FrontsChanged.{set_here, set_still}

-- ---- one part more

all_joined : (f : ℕ → Bool) (xs : List ℕ) (i : ℕ) → list_all f xs ≡ true → f i ≡ true → list_all f (xs ++ i ∷ []) ≡ true
all_joined f [] i e h = λ k. h k && true
all_joined f (x ∷ xs) i e h = let b = and_true (f x) (list_all f xs) e in λ k. b.0 k && all_joined f xs i b.1 h k

flat_joined : (f : ℕ → List Bool) (xs : List ℕ) (i : ℕ) → length (flat_map f (xs ++ i ∷ [])) ≡ length (flat_map f xs) + length (f i)
flat_joined f [] i = let e : length (f i ++ []) ≡ length (f i) = ap length (append-nil (f i)) in omega (arith, e)
flat_joined f (x ∷ xs) i =
    let rest = flat_joined f xs i in
    omega (arith, rest, length-append (f x) (flat_map f (xs ++ i ∷ [])), length-append (f x) (flat_map f xs))

known_length : (l : Learnt) (n : ℕ) → length_of l ≡ Some n → (has_length l ≡ true) × (length (bits_of l) ≡ n)
known_length Nothing n e = absurd (cc)
known_length (Length k) n e = (refl, length-replicate k false ∙ same_Some k n e)
known_length (Whole bits) n e = (refl, same_Some (length bits) n e)

module _ (slots : List Slot) (side : Side) (parts : List ℕ) where
  pub measured_next : (front next : Front) (n : ℕ) → IsMeasured slots side parts front → front.measured < length parts → length_of (learnt_at slots (get_or parts front.measured 0) side) ≡ Some n →
      next.measured ≡ front.measured + 1 → next.length ≡ front.length + n → IsMeasured slots side parts next
  measured_next front next n m less is place sum =
      let m' = front.measured in
      let here = known_length (learnt_at slots (get_or parts m' 0) side) n is in
      let more = take_more parts m' 0 less in
      let all = all_joined (λ i. has_length (learnt_at slots i side)) (take m' parts) (get_or parts m' 0) m.measured here.0 in
      let long = flat_joined (λ i. bits_of (learnt_at slots i side)) (take m' parts) (get_or parts m' 0) in
      record {
        within = omega (arith, less, place);
        measured = (λ k. are_measured slots side (take (place k) parts)) ∙ (ap (are_measured slots side) more ∙ all);
        length_is = sum ∙ ((λ k. m.length_is k + sym here.1 k) ∙ (sym long ∙ (ap (λ xs. length (joined_bits slots side xs)) (sym more) ∙ (λ k. length (joined_bits slots side (take (sym place k) parts))))));
      }

  -- the sum stays short
  pub sum_short : (front : Front) (n : ℕ) → IsMeasured slots side parts front → front.measured < length parts → length_of (learnt_at slots (get_or parts front.measured 0) side) ≡ Some n →
      length (joined_bits slots side parts) < 2 ^ 31 → front.length + n < 2 ^ 31
  sum_short front n m less is short =
      let here = known_length (learnt_at slots (get_or parts front.measured 0) side) n is in
      let most = length-flat_map-take (λ i. bits_of (learnt_at slots i side)) parts front.measured 0 less in
      omega (arith, most, short, m.length_is, here.1)

-- ---- the bits before a part

front_all : (f : ℕ → Bool) (xs : List ℕ) (i : ℕ) → list_all f (xs ++ i ∷ []) ≡ true → list_all f xs ≡ true
front_all f [] i e = refl
front_all f (x ∷ xs) i e = let b = and_true (f x) (list_all f (xs ++ i ∷ [])) e in λ k. b.0 k && front_all f xs i b.1 k

-- the parts before one that is there
abbrev IsBefore : List ℕ → ℕ → List ℕ → Type 0
IsBefore parts i xs = (take (length xs) parts ≡ xs) × (get_or parts (length xs) 0 ≡ i)

next_before : (k i : ℕ) (ks : List ℕ) (b : Bool) → nat_eq k i ≡ b → (length (before i ks) < length ks → IsBefore ks i (before i ks)) → length (before_more b k (before i ks)) < suc (length ks) →
    IsBefore (k ∷ ks) i (before_more b k (before i ks))
next_before k i ks true e rest less = (refl, eqb-true k i e)
next_before k i ks false e rest less = let r = rest (omega (arith, less)) in (ap (λ xs. k ∷ xs) r.0, r.1)

before_there : (i : ℕ) (parts : List ℕ) → length (before i parts) < length parts → IsBefore parts i (before i parts)
before_there i [] less = absurd (omega (arith, less))
before_there i (k ∷ ks) less = next_before k i ks (nat_eq k i) refl (before_there i ks) less

-- where the front is just past the part
pub bits_before : (slots : List Slot) (side : Side) (parts : List ℕ) (i : ℕ) (front : Front) (n : ℕ) → IsMeasured slots side parts front → length (before i parts) < length parts → front.measured ≡ length (before i parts) + 1 →
    length_of (learnt_at slots i side) ≡ Some n → (n ≤ front.length) × (joined_length slots side (before i parts) ≡ Some (front.length - n))
bits_before slots side parts i front n m less past is =
    let xs = before i parts in
    let there = before_there i parts less in
    let here = known_length (learnt_at slots i side) n is in
    let taken : take front.measured parts ≡ xs ++ i ∷ [] =
    (λ k. take (past k) parts) ∙ (take_more parts (length xs) 0 less ∙ (λ k. there.0 k ++ there.1 k ∷ [])) in
    let all : are_measured slots side xs ≡ true = front_all (λ j. has_length (learnt_at slots j side)) xs i (ap (are_measured slots side) (sym taken) ∙ m.measured) in
    let long : front.length ≡ length (joined_bits slots side xs) + length (bits_of (learnt_at slots i side)) =
    m.length_is ∙ (ap (λ ys. length (joined_bits slots side ys)) taken ∙ flat_joined (λ j. bits_of (learnt_at slots j side)) xs i) in
    let left : length (joined_bits slots side xs) ≡ front.length - n = omega (arith, long, here.1) in
    (omega (arith, long, here.1), λ k. if all k then Some (left k) else None)

-- ---- what was known stays so

-- the length that was known of a side is known still
abbrev Stays : Learnt → Learnt → Type 0
Stays old new = has_length old ≡ true → (has_length new ≡ true) × (length (bits_of new) ≡ length (bits_of old))

abbrev AllStay : List Slot → List Slot → Type 0
AllStay old new = (j : ℕ) (z : Side) → Stays (learnt_at old j z) (learnt_at new j z)

module _ (old new : List Slot) (stay : AllStay old new) (side : Side) where
  measured_stays : (parts : List ℕ) → are_measured old side parts ≡ true → (are_measured new side parts ≡ true) × (length (joined_bits new side parts) ≡ length (joined_bits old side parts))
  measured_stays [] e = (refl, refl)
  measured_stays (i ∷ is) e =
      let b = and_true (has_length (learnt_at old i side)) (are_measured old side is) e in
      let here = stay i side b.0 in
      let rest = measured_stays is b.1 in (
        λ k. here.0 k && rest.0 k,
        omega (arith, here.1, rest.1, length-append (bits_of (learnt_at new i side)) (joined_bits new side is), length-append (bits_of (learnt_at old i side)) (joined_bits old side is)),
      )

  pub front_stays : (parts : List ℕ) (front : Front) → IsMeasured old side parts front → IsMeasured new side parts front
  front_stays parts front f =
      let m = measured_stays (take front.measured parts) f.measured in
      record { within = f.within; measured = m.0; length_is = f.length_is ∙ sym m.1 }

same_stays : (l m : Learnt) → m ≡ l → Stays l m
same_stays l m e = λ h. (ap has_length e ∙ h, ap (λ x. length (bits_of x)) e)

has_own : (l : Learnt) → HasSide (bits_of l) l
has_own Nothing = tt
has_own (Length n) = length-replicate n false
has_own (Whole bits) = refl

joint_stays : (bounds : Bounds) (old found now : Learnt) → IsJoint bounds old found now → Stays old now
joint_stays bounds Nothing found now j = λ h. absurd (cc)
joint_stays bounds (Length n) found now j = λ h. (j.kept, let both = (j.both (bits_of now)).0 (has_own now) in both.0 ∙ sym (length-replicate n false))
joint_stays bounds (Whole bits) found now j = same_stays (Whole bits) now j.kept

side_stays : (bounds : Bounds) (side z : Side) (found now : Learnt) (s : Slot) → IsJoint bounds (side_of_slot side s) found now → Stays (side_of_slot z s) (side_of_slot z (with_side side now s))
side_stays bounds Uncompressed Uncompressed found now s j = joint_stays bounds s.uncompressed found now j
side_stays bounds Uncompressed Compressed found now s j = same_stays s.compressed s.compressed refl
side_stays bounds Compressed Uncompressed found now s j = same_stays s.uncompressed s.uncompressed refl
side_stays bounds Compressed Compressed found now s j = joint_stays bounds s.compressed found now j

module _ (bounds : Bounds) (i : ℕ) (side : Side) (found : Learnt) (old new : List Slot) (l : LearnsAt bounds i side found old new) where
  all_stay : AllStay old new
  all_stay j z = by (slice_get old j) refl
    where
      slot_now : Slot
      slot_now = with_side side l.now l.slot

      by : (o : Option Slot) → slice_get old j ≡ o → Stays (learnt_at old j z) (learnt_at new j z)
      by None at = subst (λ x. Stays (learnt_of z x) (learnt_at new j z)) (sym at) (λ h. absurd (cc))
      by (Some s) at = subst (λ x. Stays (learnt_of z x) (learnt_at new j z)) (sym at) (here (set_still old i slot_now j s at))
        where
          here : (j ≡ i) ⊎ (slice_get (slice_set old i slot_now) j ≡ Some s) → Stays (side_of_slot z s) (learnt_at new j z)
          here (inr still) = same_stays (side_of_slot z s) (learnt_at new j z) (ap (learnt_of z) (ap (λ xs. slice_get xs j) l.slots_are ∙ still))
          here (inl same) =
              let is : l.slot ≡ s = same_Some l.slot s (sym l.slot_is ∙ (ap (slice_get old) (sym same) ∙ at)) in
              let there : learnt_at new j z ≡ side_of_slot z slot_now =
              ap (learnt_of z) (ap (λ xs. slice_get xs j) l.slots_are ∙ (ap (slice_get (slice_set old i slot_now)) same ∙ set_here old i slot_now l.slot l.slot_is)) in
              subst (λ x. Stays (side_of_slot z x) (learnt_at new j z)) is
              (subst (Stays (side_of_slot z l.slot)) (sym there) (side_stays bounds side z found l.now l.slot l.joint))

  pub fronts_after : (headers listing : List ℕ) (fronts : Fronts) → AreMeasured old headers listing fronts → AreMeasured new headers listing fronts
  fronts_after headers listing fronts f = record {
    uncompressed = front_stays old new all_stay Uncompressed headers fronts.uncompressed f.uncompressed;
    compressed = front_stays old new all_stay Compressed listing fronts.compressed f.compressed;
  }

-- the sides are as they were
pub fronts_same : (old new : List Slot) → ((j : ℕ) (z : Side) → learnt_at old j z ≡ learnt_at new j z) → (headers listing : List ℕ) (fronts : Fronts) →
    AreMeasured old headers listing fronts → AreMeasured new headers listing fronts
fronts_same old new same headers listing fronts f =
    let stay : AllStay old new = λ j z. same_stays (learnt_at old j z) (learnt_at new j z) (sym (same j z)) in
    record {
      uncompressed = front_stays old new stay Uncompressed headers fronts.uncompressed f.uncompressed;
      compressed = front_stays old new stay Compressed listing fronts.compressed f.compressed;
    }

-- before the first part
pub front_first : (slots : List Slot) (side : Side) (parts : List ℕ) (first : Front) → first ≡ front 0 0 → IsMeasured slots side parts first
front_first slots side parts first is =
    let m = ap (λ f. f.measured) is in
    record {
      within = omega (arith, m);
      measured = λ k. are_measured slots side (take (m k) parts);
      length_is = ap (λ f. f.length) is ∙ (λ k. length (joined_bits slots side (take (sym m k) parts)));
    }

-- past the last part
pub length_at_end : (slots : List Slot) (side : Side) (parts : List ℕ) (front : Front) → IsMeasured slots side parts front → front.measured ≡ length parts → joined_length slots side parts ≡ Some front.length
length_at_end slots side parts front m e =
    let all : take front.measured parts ≡ parts = take_all front.measured parts (omega (arith, e)) in
    (λ k. if (ap (are_measured slots side) (sym all) ∙ m.measured) k then Some (length (joined_bits slots side parts)) else None)
    ∙ ap Some (ap (λ xs. length (joined_bits slots side xs)) (sym all) ∙ sym m.length_is)
