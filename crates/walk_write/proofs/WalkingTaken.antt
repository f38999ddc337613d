-- What the level shows of a header field that is taken, and what is learnt of its bits.
use Rattle.std.proofs.Common.{◌≡◌, refl, sym, ◌∙◌, ap, subst, ℕ, ◌+◌, ◌-◌, ◌<◌, ◌≤◌, ◌^◌, Bool, true, false, List, [], ◌∷◌, length, take, drop, arith}
use Rattle.std.specs.Prelude.{Option, Some, None, Result, Ok, Err, IfOk, OnOk, option_and_then, slice_get, slice_range, not, ◌&&◌, ◌||◌, if◌then◌else◌}
use Rattle.std.specs.Option.{SomeIff}
use Rattle.std.proofs.lemmas.List.{length-drop, length-take-le, length-replicate}
use Rattle.std.proofs.lemmas.Option.{same_Some, slice_get_within}
use Rattle.sem_bits.specs.Number.{num, enc}
use Rattle.sem_bits.proofs.CursorLists.{drop_add}
use Rattle.sem_bits.proofs.Numbers.{enc-num, num-below}
use Rattle.sem_context.specs.Entries.{bits_at}
use Rattle.sem_expr.specs.declared.expr.Side.TheVariants.{Uncompressed}
use Rattle.sem_profile.specs.declared.profile.Field.{Field}
use Rattle.sem_filling.specs.declared.filling.AskedValue.{AskedValue}
use Rattle.sem_filling.specs.declared.filling.Filling.{Filling}
use Rattle.sem_filling.specs.Fillings.{is_header}
use Rattle.cert_types.specs.declared.rule.Fact.TheVariants.{LengthOf, BitsOf, Done}
use Rattle.cert_types.specs.declared.rule.Rule.{Rule}
use Rattle.cert_rules.specs.declared.slots.Learnt.{Learnt}
use Rattle.cert_rules.specs.declared.slots.Learnt.TheVariants.{Nothing, Length, Whole}
use Rattle.cert_rules.specs.Facts.{before}
use Rattle.cert_rules.specs.Rules.{is_call, when, rule_once, headers_before, write_take}
use Rattle.cert_rules.specs.Slots.{has_bits, learnt_at, bits_of, calls_at, is_there, slot_inner}
use Rattle.cert_rules.specs.Views.{view, side_at}
use Rattle.cert_rules.proofs.ViewsAgree.{and_true}
use Rattle.walk_steps.specs.Joined.{header_places, joined_bits, are_measured, joined_length}
use Rattle.walk_steps.specs.Partial.{Reached, IsKept, Learns}
use Rattle.walk_steps.specs.Sides.{length_of}
use Rattle.walk_steps.proofs.JoinedKept.{offset_short}
use Rattle.walk_steps.specs.declared.fault.StepFault.{StepFault}
use Rattle.walk_steps.specs.declared.level_frame.LevelFrame.{LevelFrame}
use Rattle.cert_candidates.specs.Knowing.{writer_knows, writer_knows_all}
use Rattle.cert_candidates.specs.Writing.{TakenIs, header_offset}
use Rattle.cert_candidates.proofs.WritingSteps as writing
use Rattle.walk_write.specs.Take.{HasBits}
use Rattle.walk_write.specs.Walking.{IsHere, IsReadyToWrite, LearnsOf, site_at}
use Rattle.walk_write.proofs.CallsOffsets as offsets
use Rattle.walk_write.proofs.WalkingLearning.{bits_now, learns_of}

-- ---- bits that are built from the number that a look shows

spelled : (left : List Bool) (place count number : ℕ) → place + count ≤ length left → number ≡ num (slice_range left place (place + count)) →
    (number < 2 ^ count) × (enc count number ≡ take count (drop place left))
spelled left place count number within shown =
    let next = take count (drop place left) in
    let end : (place + count) - place ≡ count = omega arith in
    let long : length next ≡ count = length-take-le count (drop place left) (omega (arith, length-drop place left, within)) in
    let is : number ≡ num next = shown ∙ ap (λ n. num (take n (drop place left))) end in
    (subst (λ n. n < 2 ^ count) (sym is) (subst (λ n. num next < 2 ^ n) long (num-below next)), (λ j. enc (sym long j) (is j)) ∙ enc-num next)

pub next_bits : {E : Type 0} (left : List Bool) (ahead count number : ℕ) (o : Option ℕ) (r : Result (Option (List Bool)) E) →
    SomeIff o ((count ≤ 64) × (ahead + count ≤ length left)) (num (slice_range left ahead (ahead + count))) → o ≡ Some number →
    IfOk r (λ b. SomeIff b ((count ≤ 64) × (number < 2 ^ count)) (enc count number)) → IfOk r (λ b. SomeIff b (ahead + count ≤ length left) (take count (drop ahead left)))
next_bits left ahead count number o (Err e) look some built = built
next_bits left ahead count number o (Ok b) look some built =
    let shown : SomeIff (Some number) ((count ≤ 64) × (ahead + count ≤ length left)) (num (slice_range left ahead (ahead + count))) = subst (λ o. SomeIff o ((count ≤ 64) × (ahead + count ≤ length left)) (num (slice_range left ahead (ahead + count)))) some look in
    let spells = spelled left ahead count number shown.0.1 shown.1 in
    by b shown.0.0 shown.0.1 spells built
  where
    by : (b : Option (List Bool)) → count ≤ 64 → ahead + count ≤ length left → (number < 2 ^ count) × (enc count number ≡ take count (drop ahead left)) →
        SomeIff b ((count ≤ 64) × (number < 2 ^ count)) (enc count number) → SomeIff b (ahead + count ≤ length left) (take count (drop ahead left))
    by None narrow within spells built = absurd (built (narrow, spells.0))
    by (Some bits) narrow within spells built = (within, built.1 ∙ spells.1)

-- ---- what the rule asks for, and the level knows

abbrev taking : Reached → ℕ → Rule
taking l i = rule_once i (LengthOf Uncompressed i ∷ headers_before l.format i) (BitsOf Uncompressed i ∷ Done i ∷ [])

pub record Readied (l : Reached) (i : ℕ) : Type 0 where
  pub field : Field
  pub field_is : slice_get l.format.fields i ≡ Some field
  pub header : is_header field.declared.part ≡ true
  pub plain : is_call field.encoding ≡ false
  pub known : writer_knows_all l.format l.slots (LengthOf Uncompressed i ∷ headers_before l.format i) ≡ true
  pub rule_is : option_and_then (write_take l.format i) (slice_get l.format.fields i) ≡ Some (taking l i)

readied : (l : Reached) (i : ℕ) → IsReadyToWrite l (option_and_then (write_take l.format i) (slice_get l.format.fields i)) → Readied l i
readied l i ready = by (slice_get l.format.fields i) refl ready
  where
    by : (o : Option Field) → slice_get l.format.fields i ≡ o → IsReadyToWrite l (option_and_then (write_take l.format i) o) → Readied l i
    by None e h = absurd h
    by (Some d) e h = tested (is_header d.declared.part) (is_call d.encoding) refl refl h
      where
        tested : (a b : Bool) → is_header d.declared.part ≡ a → is_call d.encoding ≡ b → IsReadyToWrite l (when (a && not b) (taking l i)) → Readied l i
        tested true false header plain h =
            record {
              field = d;
              field_is = e;
              header = header;
              plain = plain;
              known = h;
              rule_is = ap (option_and_then (write_take l.format i)) e ∙ (λ j. when (header j && not (plain j)) (taking l i));
            }
        tested true true header plain h = absurd h
        tested false b header plain h = absurd h

-- ---- where the bits stand, and how many they are

counted : (l : Learnt) (n : ℕ) → length_of l ≡ Some n → n ≡ length (bits_of l)
counted Nothing n e = absurd (cc)
counted (Length m) n e = sym (same_Some m n e) ∙ sym (length-replicate m false)
counted (Whole bits) n e = sym (same_Some (length bits) n e)

where_measured : (b : Bool) (n k : ℕ) → (if b then Some n else None) ≡ Some k → k ≡ n
where_measured true n k e = sym (same_Some n k e)
where_measured false n k e = absurd (cc)

module _ (l : Reached) (i : ℕ) (kept : IsKept l) (ready : IsReadyToWrite l (option_and_then (write_take l.format i) (slice_get l.format.fields i))) where
  here : Readied l i
  here = readied l i ready

  known_apart : (writer_knows l.format l.slots (LengthOf Uncompressed i) ≡ true) × (writer_knows_all l.format l.slots (headers_before l.format i) ≡ true)
  known_apart = and_true (writer_knows l.format l.slots (LengthOf Uncompressed i)) (writer_knows_all l.format l.slots (headers_before l.format i)) here.known

  pub within : i < length l.slots
  within = omega (arith, slice_get_within l.format.fields i here.field here.field_is, kept.count)

  module _ (o : Option ℕ) (joined : o ≡ joined_length l.slots Uncompressed (before i (header_places 0 l.format.fields))) where
    offset_is : o ≡ Some (header_offset l.format l.slots i)
    offset_is = joined ∙ offsets.offset_known l.format l.slots kept.count i here.field here.field_is here.header known_apart.1

    pub offset_there : o ≡ None → ⊥
    offset_there none = let wrong : Some (header_offset l.format l.slots i) ≡ None = sym offset_is ∙ none in absurd (cc)

    module _ (offset : ℕ) (some_offset : o ≡ Some offset) where
      at : offset ≡ header_offset l.format l.slots i
      at = same_Some offset (header_offset l.format l.slots i) (sym some_offset ∙ offset_is)

      pub short : offset < 2 ^ 31
      short =
          let places = before i (header_places 0 l.format.fields) in
          let same = where_measured (are_measured l.slots Uncompressed places) (length (joined_bits l.slots Uncompressed places)) offset (sym joined ∙ some_offset) in
          let less = offset_short l.format l.sizes l.args l.slots kept Uncompressed i in
          omega (arith, same, less)

      -- ---- what is taken

      module _ (p : Option ℕ) (measured : p ≡ length_of (learnt_at l.slots i Uncompressed)) (count : ℕ) (some_count : p ≡ Some count)
          (level_frame : LevelFrame) (left : List Bool) (from : ℕ) (asked : List AskedValue) (from_within : from ≤ length left) (found : Option (List Bool))
          (looked : SomeIff found (from + offset + count ≤ length left) (take count (drop (from + offset) left))) where
        many : count ≡ length (bits_of (learnt_at l.slots i Uncompressed))
        many = counted (learnt_at l.slots i Uncompressed) count (sym measured ∙ some_count)

        taken_is : (f : Filling) → IsHere level_frame l (drop from left) asked f → TakenIs l.format l.slots (site_at level_frame l (drop from left) asked) i (length (bits_of (learnt_at l.slots i Uncompressed))) f
        taken_is f h =
            writing.taken level_frame.frame.profile.now.methods (bits_at level_frame.frame.context.now) (site_at level_frame l (drop from left) asked) level_frame.format l.format l.slots f h.begins h.shows i here.field here.field_is here.header here.known

        pub too_few : found ≡ None → (f : Filling) → IsHere level_frame l (drop from left) asked f → ⊥
        too_few none f h =
            let never : from + offset + count ≤ length left → ⊥ = subst (λ z. SomeIff z (from + offset + count ≤ length left) (take count (drop (from + offset) left))) none looked in
            never (omega (arith, (taken_is f h).enough, length-drop from left, from_within, at, many))

        module _ (bits : List Bool) (some_bits : found ≡ Some bits) where
          bits_in : (f : Filling) → IsHere level_frame l (drop from left) asked f → side_at (view f) i Uncompressed ≡ bits
          bits_in f h =
              let is = subst (λ z. SomeIff z (from + offset + count ≤ length left) (take count (drop (from + offset) left))) some_bits looked in
              (taken_is f h).taken ∙ ((λ j. take (sym many j) (drop (sym at j) (drop from left))) ∙ (ap (take count) (sym (drop_add from offset left)) ∙ sym is.1))

          pub among : (f : Filling) → IsHere level_frame l (drop from left) asked f → HasBits level_frame l i bits f
          among f h = record { source = drop from left; asked = asked; here = h; bits_are = bits_in f h }

          pub learns : (new : Reached) (r : Result (Unit {0}) StepFault) → OnOk r (Learns l i Uncompressed (Whole bits) new) →
              OnOk r (LearnsOf (IsHere level_frame l (drop from left) asked) (option_and_then (write_take l.format i) (slice_get l.format.fields i)) l new)
          learns new (Err e) h = h
          learns new (Ok x) h =
              learns_of l new i bits h (IsHere level_frame l (drop from left) asked) bits_in (option_and_then (write_take l.format i) (slice_get l.format.fields i)) (taking l i) here.rule_is
              (given (bits_now l new i bits h))
            where
              given : has_bits (learnt_at new.slots i Uncompressed) ≡ true → writer_knows_all l.format new.slots (BitsOf Uncompressed i ∷ Done i ∷ []) ≡ true
              given known =
                  let uncalled : calls_at (slice_get l.format.fields i) ≡ false = ap calls_at here.field_is ∙ here.plain in
                  λ j. known j && ((known j && (not (uncalled j) || is_there (slot_inner (slice_get new.slots i)))) && true)
