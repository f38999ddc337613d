-- Where header fields begin, by the lengths that are known.
use Rattle.std.proofs.Common.{◌≡◌, refl, sym, ◌∙◌, ap, ℕ, zero, suc, ◌+◌, Bool, true, false, List, [], ◌∷◌, ◌++◌, length, take, arith, eq-eqb, nat_eq}
use Rattle.std.specs.Prelude.{Some, None, slice_get, ◌||◌, not, if◌then◌else◌}
use Rattle.std.specs.List.{flat_map}
use Rattle.std.proofs.lemmas.Bool.{eqb-true}
use Rattle.sem_expr.specs.declared.expr.Side.TheVariants.{Uncompressed}
use Rattle.sem_profile.specs.declared.profile.Field.{Field}
use Rattle.sem_profile.specs.declared.profile.Format.{Format}
use Rattle.sem_filling.specs.Fillings.{is_header, header_bits}
use Rattle.cert_types.specs.declared.rule.Fact.TheVariants.{Done}
use Rattle.cert_rules.specs.declared.slots.Learnt.{Learnt}
use Rattle.cert_rules.specs.declared.slots.Learnt.TheVariants.{Nothing, Length, Whole}
use Rattle.cert_rules.specs.declared.slots.Slot.{Slot}
use Rattle.cert_rules.specs.Facts.{before, before_more, of_header, of_headers}
use Rattle.cert_rules.specs.Rules.{headers_before}
use Rattle.cert_rules.specs.Slots.{has_length, has_bits, learnt_of, learnt_at, bits_of, slot_sides, calls_at, is_there, slot_inner}
use Rattle.cert_rules.proofs.ViewsAgree.{and_true}
use Rattle.cert_rules.proofs.ViewsInputs.{joined, header_cons}
use Rattle.walk_steps.specs.Joined.{header_places, joined_bits, are_measured, joined_length}
use Rattle.cert_candidates.specs.Knowing.{writer_knows, writer_knows_all}
use Rattle.cert_candidates.specs.Writing.{header_offset}
use Rattle.cert_candidates.proofs.Knowing.{both_true}

-- the places before that of a header field
places_before : (n i k : ℕ) (ds : List Field) (d : Field) → n + i ≡ k → slice_get ds i ≡ Some d → is_header d.declared.part ≡ true → before k (header_places n ds) ≡ header_places n (take i ds)
places_before n i k [] d at e is = absurd (cc)
places_before n zero k (x ∷ ds) d at e is =
    let one : x ≡ d = cc in
    let header : is_header x.declared.part ≡ true = ap (λ (z : Field). is_header z.declared.part) one ∙ is in
    let here : nat_eq n k ≡ true = eq-eqb n k (omega (arith, at)) in
    ap (λ b. before k (if b then n ∷ header_places (suc n) ds else header_places (suc n) ds)) header ∙ ap (λ b. before_more b n (before k (header_places (suc n) ds))) here
places_before n (suc i) k (x ∷ ds) d at e is = by (is_header x.declared.part) (nat_eq n k) refl (places_before (suc n) i k ds d (omega (arith, at)) e is)
  where
    by : (b same : Bool) → nat_eq n k ≡ same → before k (header_places (suc n) ds) ≡ header_places (suc n) (take i ds) →
        before k (if b then n ∷ header_places (suc n) ds else header_places (suc n) ds) ≡ (if b then n ∷ header_places (suc n) (take i ds) else header_places (suc n) (take i ds))
    by false same t later = later
    by true true t later = let here : n ≡ k = eqb-true n k t in absurd (omega (arith, at, here))
    by true false t later = ap (λ b. before_more b n (before k (header_places (suc n) ds))) t ∙ ap (λ ks. n ∷ ks) later

-- their bits, joined
next_part : (f : ℕ → List Bool) (b : Bool) (n : ℕ) (more : List ℕ) (u rest : List Bool) → u ≡ f n → rest ≡ flat_map f more → joined b u rest ≡ flat_map f (if b then n ∷ more else more)
next_part f true n more u rest e es = λ i. e i ++ es i
next_part f false n more u rest e es = es

front_joined : (slots : List Slot) (n i : ℕ) (ds : List Field) (ss : List Slot) → length ss ≡ length ds → ((j : ℕ) → learnt_at slots (n + j) Uncompressed ≡ learnt_of Uncompressed (slice_get ss j)) →
    header_bits (take i (slot_sides ds ss)) ≡ joined_bits slots Uncompressed (header_places n (take i ds))
front_joined slots n zero ds ss e same = refl
front_joined slots n (suc i) [] ss e same = refl
front_joined slots n (suc i) (d ∷ ds) [] e same = absurd (omega (arith, e))
front_joined slots n (suc i) (d ∷ ds) (s ∷ ss) e same =
    let here : s.uncompressed ≡ learnt_at slots n Uncompressed = sym (ap (λ z. learnt_at slots z Uncompressed) (omega arith) ∙ same zero) in
    header_cons record { declared = d.declared; uncompressed = bits_of s.uncompressed; compressed = bits_of s.compressed } (take i (slot_sides ds ss))
    ∙ next_part (λ i. bits_of (learnt_at slots i Uncompressed)) (is_header d.declared.part) n (header_places (suc n) (take i ds)) (bits_of s.uncompressed) (header_bits (take i (slot_sides ds ss))) (ap bits_of here)
    (front_joined slots (suc n) i ds ss (omega (arith, e)) (λ j. ap (λ z. learnt_at slots z Uncompressed) (omega arith) ∙ same (suc j)))

-- their lengths are known
bits_measure : (l : Learnt) → has_bits l ≡ true → has_length l ≡ true
bits_measure Nothing e = e
bits_measure (Length n) e = refl
bits_measure (Whole bits) e = refl

done_measured : (format : Format) (slots : List Slot) (n : ℕ) (ds : List Field) → writer_knows_all format slots (of_headers Done n ds) ≡ true → are_measured slots Uncompressed (header_places n ds) ≡ true
done_measured format slots n [] e = refl
done_measured format slots n (d ∷ ds) e = by (is_header d.declared.part) e (done_measured format slots (suc n) ds)
  where
    by : (b : Bool) → writer_knows_all format slots (of_header b (Done n) (of_headers Done (suc n) ds)) ≡ true →
        (writer_knows_all format slots (of_headers Done (suc n) ds) ≡ true → are_measured slots Uncompressed (header_places (suc n) ds) ≡ true) →
        are_measured slots Uncompressed (if b then n ∷ header_places (suc n) ds else header_places (suc n) ds) ≡ true
    by false e later = later e
    by true e later =
        let all = and_true (writer_knows format slots (Done n)) (writer_knows_all format slots (of_headers Done (suc n) ds)) e in
        let bits = (and_true (has_bits (learnt_at slots n Uncompressed)) (not (calls_at (slice_get format.fields n)) || is_there (slot_inner (slice_get slots n))) all.0).0 in
        both_true (has_length (learnt_at slots n Uncompressed)) (are_measured slots Uncompressed (header_places (suc n) ds)) (bits_measure (learnt_at slots n Uncompressed) bits) (later all.1)

-- Where the header fields before a header field are done, the bits before it are counted, and are as many as its offset.
pub offset_known : (format : Format) (slots : List Slot) → length slots ≡ length format.fields → (i : ℕ) (d : Field) → slice_get format.fields i ≡ Some d → is_header d.declared.part ≡ true →
    writer_knows_all format slots (headers_before format i) ≡ true → joined_length slots Uncompressed (before i (header_places 0 format.fields)) ≡ Some (header_offset format slots i)
offset_known format slots count i d e is known =
    let front = front_joined slots 0 i format.fields slots count (λ j. ap (λ z. learnt_at slots z Uncompressed) (omega arith)) in
    let measured = done_measured format slots 0 (take i format.fields) known in
    ap (joined_length slots Uncompressed) (places_before 0 i i format.fields d (omega arith) e is)
    ∙ (ap (λ b. if b then Some (length (joined_bits slots Uncompressed (header_places 0 (take i format.fields)))) else None) measured ∙ ap (λ bits. Some (length bits)) (sym front))
