-- What the level shows of a field that is taken, and what is learnt of its bits.
use Rattle.std.proofs.Common.{◌≡◌, refl, sym, ◌∙◌, ap, subst, ℕ, ◌+◌, ◌-◌, ◌<◌, ◌≤◌, ◌^◌, inl, Bool, true, false, List, [], ◌∷◌, length, take, drop, arith}
use Rattle.std.specs.Prelude.{Option, Some, None, IsSomeAnd, option_and_then, slice_get, not, ◌&&◌, ◌||◌}
use Rattle.std.proofs.lemmas.List.{length-drop, length-replicate}
use Rattle.std.proofs.lemmas.Option.{same_Some, slice_get_within}
use Rattle.sem_bits.proofs.CursorLists.{drop_add}
use Rattle.sem_context.specs.Entries.{bits_at}
use Rattle.sem_expr.specs.declared.expr.Side.TheVariants.{Compressed}
use Rattle.sem_profile.specs.declared.profile.Field.{Field}
use Rattle.sem_profile.specs.Fields.{lists}
use Rattle.sem_profile.proofs.FieldsRuling.{field-is, there}
use Rattle.sem_profile.specs.Resolved.{IsSound}
use Rattle.sem_filling.specs.declared.filling.Filling.{Filling}
use Rattle.sem_filling.specs.Fillings.{packed}
use Rattle.sem_filling.specs.Bounded.{LiesBetween}
use Rattle.cert_types.specs.declared.certificate.Step.TheVariants.{Take}
use Rattle.cert_types.specs.declared.rule.Fact.TheVariants.{LengthOf, BitsOf, Done}
use Rattle.cert_types.specs.declared.rule.Rule.{Rule}
use Rattle.cert_rules.specs.declared.slots.Learnt.{Learnt}
use Rattle.cert_rules.specs.declared.slots.Learnt.TheVariants.{Nothing, Length, Whole}
use Rattle.cert_rules.specs.Facts.{before}
use Rattle.cert_types.specs.declared.certificate.Version.TheVariants.{Two}
use Rattle.cert_rules.specs.Rules.{is_call, when, rule_once, listed_before, read_take, read_rule}
use Rattle.cert_rules.specs.Slots.{has_bits, learnt_at, learnt_of, knows_all, bits_of, HasSide, calls_at, is_there, slot_inner}
use Rattle.cert_rules.specs.Views.{view, side_at}
use Rattle.cert_rules.specs.Reading.{TakenIs, offset_of}
use Rattle.cert_rules.proofs.ViewsLearning as rules
use Rattle.cert_rules.proofs.SlotsWithin.{all_end_within, learnt_high, bound_count}
use Rattle.walk_steps.specs.Joined.{joined_length}
use Rattle.walk_steps.specs.Partial.{Reached, IsKept, bounds_at}
use Rattle.walk_steps.specs.Partial as level
use Rattle.walk_steps.specs.Sides.{length_of}
use Rattle.walk_steps.proofs.SidesGained as gained
use Rattle.walk_steps.specs.declared.level_frame.LevelFrame.{LevelFrame}
use Rattle.walk_steps.specs.Finding.{IsAt, IsReady, Shows, spot_of}
use Rattle.walk_steps.proofs.FindingGaining.{has_known}
use Rattle.walk_steps.proofs.FindingShown.{lies}
use Rattle.walk_steps.proofs.LevelAsked.{knows_right}
use Rattle.walk_read.specs.Walk.{LearnsAhead}
use Rattle.walk_read.proofs.TakeNarrow.{uncalled_short}
use Rattle.walk_read.proofs.WalkOffsets.{joined_offset}

-- ---- what the rule asks for, and the level knows

abbrev taking : Reached → ℕ → Rule
taking l i = rule_once i (LengthOf Compressed i ∷ listed_before l.format i) (BitsOf Compressed i ∷ Done i ∷ [])

pub record Readied (l : Reached) (i : ℕ) : Type 0 where
  pub field : Field
  pub field_is : slice_get l.format.fields i ≡ Some field
  pub listed : lists l.format.listing i ≡ true
  pub plain : is_call field.encoding ≡ false
  pub known : knows_all l.format l.slots (LengthOf Compressed i ∷ listed_before l.format i) ≡ true
  pub rule_is : read_rule Two l.sizes l.format (Take i) ≡ Some (taking l i)

readied : (l : Reached) (i : ℕ) → IsReady l (read_rule Two l.sizes l.format (Take i)) → Readied l i
readied l i ready = by (slice_get l.format.fields i) refl ready
  where
    by : (o : Option Field) → slice_get l.format.fields i ≡ o → IsReady l (option_and_then (read_take l.format i) o) → Readied l i
    by None e h = absurd h
    by (Some d) e h = tested (lists l.format.listing i) (is_call d.encoding) refl refl h
      where
        tested : (a b : Bool) → lists l.format.listing i ≡ a → is_call d.encoding ≡ b → IsReady l (when (a && not b) (taking l i)) → Readied l i
        tested true false listed plain h =
            record {
              field = d;
              field_is = e;
              listed = listed;
              plain = plain;
              known = h;
              rule_is = ap (option_and_then (read_take l.format i)) e ∙ (λ j. when (listed j && not (plain j)) (taking l i));
            }
        tested true true listed plain h = absurd h
        tested false b listed plain h = absurd h

-- ---- where the bits stand, and how many they are

counted : (l : Learnt) (n : ℕ) → length_of l ≡ Some n → n ≡ length (bits_of l)
counted Nothing n e = absurd (cc)
counted (Length m) n e = sym (same_Some m n e) ∙ sym (length-replicate m false)
counted (Whole bits) n e = sym (same_Some (length bits) n e)

-- the offset and the count are those of the field
pub record Placed (l : Reached) (i offset count : ℕ) : Type 0 where
  pub ready : Readied l i
  pub offset_is : offset ≡ offset_of l.format l.slots i
  pub count_is : count ≡ length (bits_of (learnt_at l.slots i Compressed))
  pub narrow : count ≤ 64
  pub few : offset + count ≤ 2 ^ 18
  pub within : i < length l.slots

-- the field's bits are at most 64
narrow_at : (l : Reached) (i : ℕ) → IsKept l → (r : Readied l i) → i < length l.slots → length (bits_of (learnt_at l.slots i Compressed)) ≤ 64
narrow_at l i kept r within =
    let p = kept.placed in
    let s = there l.slots i within in
    let b = there l.sizes.fields i (omega (arith, within, bound_count p.methods p.table p.are_sizes p.method l.format p.whole l.sizes p.at l.slots kept.count kept.within)) in
    let is = field-is p.methods p.table p.are_sizes p.method l.format p.whole l.sizes p.at i r.field b.0 r.field_is b.1 in
    let short : b.0.compressed.most ≤ 64 = subst (λ z. z.compressed.most ≤ 64) is (uncalled_short p.table l.format i r.field r.plain) in
    let high = learnt_high b.0.compressed s.0.compressed (kept.within i s.0 b.0 Compressed s.1 b.1) in
    let same : length (bits_of (learnt_at l.slots i Compressed)) ≡ length (bits_of s.0.compressed) = ap (λ o. length (bits_of (learnt_of Compressed o))) s.1 in
    omega (arith, short, high, same)

module _ (l : Reached) (i : ℕ) (o : Option ℕ) (kept : IsKept l) (ready : IsReady l (read_rule Two l.sizes l.format (Take i))) (joined : o ≡ joined_length l.slots Compressed (before i l.format.listing)) where
  here : Readied l i
  here = readied l i ready

  pub offset_known : o ≡ Some (offset_of l.format l.slots i)
  offset_known = joined ∙ joined_offset l.format l.slots i kept.count (knows_right l.format l.slots (LengthOf Compressed i ∷ []) (listed_before l.format i) here.known)

  pub placed : (p : Option ℕ) (offset count : ℕ) → p ≡ length_of (learnt_at l.slots i Compressed) → o ≡ Some offset → p ≡ Some count → Placed l i offset count
  placed p offset count measured some_offset some_count =
      let within : i < length l.slots = omega (arith, slice_get_within l.format.fields i here.field here.field_is, kept.count) in
      let at : offset ≡ offset_of l.format l.slots i = same_Some offset (offset_of l.format l.slots i) (sym some_offset ∙ offset_known) in
      let many : count ≡ length (bits_of (learnt_at l.slots i Compressed)) = counted (learnt_at l.slots i Compressed) count (sym measured ∙ some_count) in
      let q = kept.placed in
      let ends = all_end_within q.methods q.table q.are_sizes q.method l.format q.whole l.sizes q.at l.slots kept.count kept.within i here.listed in
      record {
        ready = here;
        offset_is = at;
        count_is = many;
        narrow = omega (arith, many, narrow_at l i kept here within);
        few = omega (arith, at, many, ends.0, ends.1);
        within = within;
      }

-- ---- what is taken

module _ (level_frame : LevelFrame) (l : Reached) (i offset count : ℕ) (p : Placed l i offset count) (bits : List Bool) (from : ℕ) (within : from ≤ length bits) where
  taken_is : (f : Filling) → Shows level_frame l (drop from bits) f → TakenIs l.format l.slots (spot_of level_frame l (drop from bits)) i (length (bits_of (learnt_at l.slots i Compressed))) f
  taken_is f shows =
      rules.taken level_frame.frame.profile.now.methods (bits_at level_frame.frame.context.now) (spot_of level_frame l (drop from bits)) level_frame.format l.format l.slots f shows i p.ready.listed p.ready.known

  pub too_short : length bits - from < offset + count → (f : Filling) → Shows level_frame l (drop from bits) f → length (drop from bits) < length (packed f)
  too_short less f shows = (taken_is f shows).few (omega (arith, length-drop from bits, less, p.offset_is, p.count_is))

  pub few_left : length bits - from < offset + count → length (drop from bits) < 2 ^ 18
  few_left less = omega (arith, length-drop from bits, less, p.few)

  module _ (found : List Bool) (enough : offset + count ≤ length bits - from) (is : found ≡ take count (drop (from + offset) bits)) where
    found_in : (f : Filling) → Shows level_frame l (drop from bits) f → HasSide (side_at (view f) i Compressed) (Whole found)
    found_in f shows =
        (taken_is f shows).enough (omega (arith, length-drop from bits, enough, within, p.offset_is, p.count_is))
        ∙ ((λ j. take (sym p.count_is j) (drop (sym p.offset_is j) (drop from bits))) ∙ (ap (take count) (sym (drop_add from offset bits)) ∙ sym is))

    pub refuses : IsSound level_frame.frame.profile.now → IsKept l → IsAt level_frame l →
        ((bs : List Bool) → HasSide bs (learnt_at l.slots i Compressed) → HasSide bs (Whole found) → LiesBetween (bounds_at l.sizes i Compressed) (length bs) → ⊥) →
        (f : Filling) → Shows level_frame l (drop from bits) f → ⊥
    refuses sound kept at never f shows =
        never (side_at (view f) i Compressed) (has_known f l.slots shows.has i Compressed) (found_in f shows) (lies level_frame l sound kept at (drop from bits) f shows i p.within Compressed)

    pub learns : (new : Reached) → level.Learns l i Compressed (Whole found) new → LearnsAhead level_frame (drop from bits) (read_rule Two l.sizes l.format (Take i)) l new
    learns new h =
        let b = bounds_at l.sizes i Compressed in
        let known = gained.bits_known b i Compressed (Whole found) l.slots new.slots h.slots_are refl in
        record {
          format_is = h.format_is;
          sizes_are = h.sizes_are;
          args_are = h.args_are;
          grown = gained.grown b i Compressed (Whole found) l.slots new.slots h.slots_are;
          inners = λ n. inl (gained.inners b i Compressed (Whole found) l.slots new.slots h.slots_are n);
          gives = subst (λ r. IsSomeAnd r (λ z. knows_all l.format new.slots z.gives ≡ true)) (sym p.ready.rule_is) (given new known);
          agrees = λ f shows. gained.still_had b i Compressed (Whole found) l.slots new.slots h.slots_are f shows.has (found_in f shows);
        }
      where
        given : (new : Reached) → has_bits (learnt_at new.slots i Compressed) ≡ true → knows_all l.format new.slots (BitsOf Compressed i ∷ Done i ∷ []) ≡ true
        given new known =
            let uncalled : calls_at (slice_get l.format.fields i) ≡ false = ap calls_at p.ready.field_is ∙ p.ready.plain in
            λ j. known j && ((known j && (not (uncalled j) || is_there (slot_inner (slice_get new.slots i)))) && true)
