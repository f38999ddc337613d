-- A called field is filled: its two sides are learnt, and the filling is kept.
use Rattle.std.proofs.Common.{◌≡◌, refl, sym, ◌∙◌, ap, subst, ℕ, zero, suc, ◌<◌, ◌≤◌, ◌⊎◌, inl, inr, List, [], ◌∷◌, Bool, length, arith, ◌^◌}
use Rattle.std.specs.Prelude.{Option, Some, None, IfSome, slice_get, slice_set, ◌≢◌}
use Rattle.std.proofs.lemmas.Option.{same_Some}
use Rattle.sem_expr.specs.declared.expr.Side.{Side}
use Rattle.sem_expr.specs.declared.expr.Side.TheVariants.{Uncompressed, Compressed}
use Rattle.sem_profile.specs.Resolved.{IsSound}
use Rattle.sem_filling.specs.declared.filling.Filling.{Filling}
use Rattle.sem_filling.specs.Fillings.{header, packed}
use Rattle.sem_filling.specs.Bounded.{LiesBetween}
use Rattle.cert_rules.specs.declared.slots.Learnt.{Learnt}
use Rattle.cert_rules.specs.declared.slots.Learnt.TheVariants.{Nothing, Length, Whole}
use Rattle.cert_rules.specs.declared.slots.Slot.{Slot}
use Rattle.cert_rules.specs.Slots.{has_length, side_of_slot, learnt_of, learnt_at, slot_inner, HasSide, HasSlot, HasSlots, SideGrows, SlotGrows, Grows}
use Rattle.cert_rules.specs.Views.{view, side_at}
use Rattle.walk_steps.specs.Partial.{Reached, IsKept, Learns, Keeps, bounds_at}
use Rattle.walk_steps.proofs.FrontsChanged.{set_length, set_here, set_cases, set_still}
use Rattle.walk_steps.proofs.SidesGained as gained
use Rattle.walk_steps.proofs.LevelHeld.{with_inner}
use Rattle.walk_steps.specs.declared.level_frame.LevelFrame.{LevelFrame}
use Rattle.walk_steps.specs.Finding.{IsAt, Shows}
use Rattle.walk_steps.specs.declared.fault.StepFault.{StepFault}
use Rattle.walk_steps.specs.declared.fault.StepFault.TheVariants.{Short, Refused, OutOfMemory}
use Rattle.walk_steps.specs.Calls.{side_given, IsFilledBy, Fills, BlamesFilling}
use Rattle.walk_steps.proofs.FindingGaining.{has_known}
use Rattle.walk_steps.proofs.FindingShown.{lies, side_short}

pub given_is : (f : Filling) (i : ℕ) (g : Filling) → IsFilledBy f i g → (side : Side) → side_at (view f) i side ≡ side_given side g
given_is f i g filled Uncompressed = filled.uncompressed
given_is f i g filled Compressed = filled.compressed

-- ---- why a side can't be learnt

module _ (level_frame : LevelFrame) (old : Reached) (i : ℕ) (side : Side) (g : Filling) (sound : IsSound level_frame.frame.profile.now) (kept : IsKept old) (at : IsAt level_frame old) (within : i < length old.slots) where
  -- it is too long
  pub long_fails : 2 ^ 31 ≤ length (side_given side g) → (bits : List Bool) (f : Filling) → Shows level_frame old bits f → IsFilledBy f i g → ⊥
  long_fails long bits f shows filled =
      let short = side_short level_frame old sound kept at bits f shows i within side in
      let same = ap length (given_is f i g filled side) in
      omega (arith, long, short, same)

  -- it is not what is known
  pub other_fails : ((bits : List Bool) → HasSide bits (learnt_at old.slots i side) → HasSide bits (Whole (side_given side g)) → LiesBetween (bounds_at old.sizes i side) (length bits) → ⊥) →
      (bits : List Bool) (f : Filling) → Shows level_frame old bits f → IsFilledBy f i g → ⊥
  other_fails never bits f shows filled =
      never (side_at (view f) i side) (has_known f old.slots shows.has i side) (given_is f i g filled side) (lies level_frame old sound kept at bits f shows i within side)

-- ---- once a side is learnt

module _ (old new : Reached) (i : ℕ) (side : Side) (g : Filling) (l : Learns old i side (Whole (side_given side g)) new) where
  pub still_has : (f : Filling) → HasSlots f old.slots → IsFilledBy f i g → HasSlots f new.slots
  still_has f has filled = gained.still_had (bounds_at old.sizes i side) i side (Whole (side_given side g)) old.slots new.slots l.slots_are f has (given_is f i g filled side)

  pub as_many : length new.slots ≡ length old.slots
  as_many = ap length l.slots_are.slots_are ∙ set_length old.slots i _

  pub still_at : (level_frame : LevelFrame) → IsAt level_frame old → IsAt level_frame new
  still_at level_frame at = record { format_is = at.format_is ∙ ap Some (sym l.format_is); sizes_are = at.sizes_are ∙ ap Some (sym l.sizes_are) }

  pub still_shows : (level_frame : LevelFrame) (bits : List Bool) (f : Filling) → Shows level_frame old bits f → IsFilledBy f i g → Shows level_frame new bits f
  still_shows level_frame bits f shows filled = subst (λ a. Shows level_frame (record { format = new.format; sizes = new.sizes; args = a; slots = new.slots }) bits f) (sym l.args_are) record {
    ahead = shows.ahead;
    format_is = shows.format_is;
    at = shows.at ∙ ap Some (sym l.format_is);
    count = as_many ∙ (shows.count ∙ ap (λ x. length x.fields) (sym l.format_is));
    has = still_has f shows.has filled;
  }

  pub now_known : learnt_at new.slots i side ≡ Whole (side_given side g)
  now_known = gained.known_now (bounds_at old.sizes i side) i side (Whole (side_given side g)) old.slots new.slots l.slots_are ∙ l.slots_are.joint.gained

  pub side_grown : Grows old.slots new.slots
  side_grown = gained.grown (bounds_at old.sizes i side) i side (Whole (side_given side g)) old.slots new.slots l.slots_are

  pub same_inners : (j : ℕ) → slot_inner (slice_get new.slots j) ≡ slot_inner (slice_get old.slots j)
  same_inners = gained.inners (bounds_at old.sizes i side) i side (Whole (side_given side g)) old.slots new.slots l.slots_are

-- ---- slots that know more and more

side_on : (a b c : Learnt) → SideGrows a b → SideGrows b c → SideGrows a c
side_on Nothing b c h k = tt
side_on (Length n) (Length m) c h k = k
side_on (Length n) (Whole bits) c h k = ap has_length k
side_on (Length n) Nothing c h k = absurd (cc)
side_on (Whole bits) b c h k = subst (λ z. SideGrows z c) h k

inner_on : (a b c : Option Filling) → IfSome a (λ g. b ≡ Some g) → IfSome b (λ g. c ≡ Some g) → IfSome a (λ g. c ≡ Some g)
inner_on None b c h k = tt
inner_on (Some g) b c h k = subst (λ z. IfSome z (λ g. c ≡ Some g)) h k

pub grown_on : (a b c : List Slot) → Grows a b → Grows b c → Grows a c
grown_on a b c h k j s at =
    let t = h j s at in
    let u = k j t.0 t.1 in (
      u.0,
      u.1,
      record {
        uncompressed = side_on s.uncompressed t.0.uncompressed u.0.uncompressed t.2.uncompressed u.2.uncompressed;
        compressed = side_on s.compressed t.0.compressed u.0.compressed t.2.compressed u.2.compressed;
        inner = inner_on s.inner t.0.inner u.0.inner t.2.inner u.2.inner;
      },
    )

-- bits that are known stay as they are
pub whole_kept : (old new : List Slot) → Grows old new → (i : ℕ) (side : Side) (bits : List Bool) → learnt_at old i side ≡ Whole bits → learnt_at new i side ≡ Whole bits
whole_kept old new grown i side bits = by (slice_get old i) refl
  where
    of_side : (side : Side) (s t : Slot) → SlotGrows s t → side_of_slot side s ≡ Whole bits → side_of_slot side t ≡ Whole bits
    of_side Uncompressed s t h e = subst (λ z. SideGrows z t.uncompressed) e h.uncompressed
    of_side Compressed s t h e = subst (λ z. SideGrows z t.compressed) e h.compressed

    by : (o : Option Slot) → slice_get old i ≡ o → learnt_of side o ≡ Whole bits → learnt_at new i side ≡ Whole bits
    by None at e = absurd (cc)
    by (Some s) at e = let t = grown i s at in ap (learnt_of side) t.1 ∙ of_side side s t.0 t.2 e

-- ---- once the filling is kept

module _ (old new : Reached) (i : ℕ) (g : Filling) (k : Keeps old i g new) (empty : slot_inner (slice_get old.slots i) ≡ None) where
  abbrev slot_now : Slot
  slot_now = with_inner g k.slot

  at_new : (j : ℕ) → slice_get new.slots j ≡ slice_get (slice_set old.slots i slot_now) j
  at_new j = ap (λ xs. slice_get xs j) k.slots_are

  here_now : slice_get new.slots i ≡ Some slot_now
  here_now = at_new i ∙ set_here old.slots i slot_now k.slot k.slot_is

  was_empty : k.slot.inner ≡ None
  was_empty = sym (ap slot_inner k.slot_is) ∙ empty

  pub filling_grown : Grows old.slots new.slots
  filling_grown j s at = by (set_still old.slots i slot_now j s at)
    where
      by : (j ≡ i) ⊎ (slice_get (slice_set old.slots i slot_now) j ≡ Some s) → (t : Slot) × (slice_get new.slots j ≡ Some t) × SlotGrows s t
      by (inr still) = (s, at_new j ∙ still, record { uncompressed = gained.side_grows s.uncompressed; compressed = gained.side_grows s.compressed; inner = gained.inner_grows s.inner })
      by (inl here) =
          let same : k.slot ≡ s = same_Some k.slot s (sym k.slot_is ∙ (ap (slice_get old.slots) (sym here) ∙ at)) in
          let grows : SlotGrows k.slot slot_now =
          record { uncompressed = gained.side_grows k.slot.uncompressed; compressed = gained.side_grows k.slot.compressed; inner = subst (λ o. IfSome o (λ h. Some g ≡ Some h)) (sym was_empty) tt } in
          (slot_now, ap (slice_get new.slots) here ∙ here_now, subst (λ z. SlotGrows z slot_now) same grows)

  pub filled_is : slot_inner (slice_get new.slots i) ≡ Some g
  filled_is = ap slot_inner here_now

  pub others_same : (j : ℕ) → j ≢ i → slot_inner (slice_get new.slots j) ≡ slot_inner (slice_get old.slots j)
  others_same j other = ap slot_inner (at_new j ∙ set_other old.slots i slot_now j other)
    where
      set_other : {A : Type 0} (xs : List A) (k : ℕ) (x : A) (j : ℕ) → j ≢ k → slice_get (slice_set xs k x) j ≡ slice_get xs j
      set_other [] k x j other = refl
      set_other (y ∷ ys) zero x zero other = absurd (other refl)
      set_other (y ∷ ys) zero x (suc j) other = refl
      set_other (y ∷ ys) (suc k) x zero other = refl
      set_other (y ∷ ys) (suc k) x (suc j) other = set_other ys k x j (λ e. other (ap suc e))

  pub filling_had : (f : Filling) → HasSlots f old.slots → IsFilledBy f i g → HasSlots f new.slots
  filling_had f has filled j s at = by (set_cases old.slots i slot_now j s (sym (at_new j) ∙ at))
    where
      by : ((j ≡ i) × (slot_now ≡ s)) ⊎ (slice_get old.slots j ≡ Some s) → HasSlot f j s
      by (inr before) = has j s before
      by (inl h) =
          let was = has i k.slot k.slot_is in
          subst (λ n. HasSlot f n s) (sym h.0) (subst (HasSlot f i) h.1 record { uncompressed = was.uncompressed; compressed = was.compressed; inner = filled.inner_is })

-- ---- all three

pub fills : (old first second new : Reached) (i : ℕ) (g : Filling) → Learns old i Uncompressed (Whole (header g)) first → Learns first i Compressed (Whole (packed g)) second → Keeps second i g new →
    slot_inner (slice_get old.slots i) ≡ None → Fills old i g new
fills old first second new i g up down k empty =
    let none = same_inners first second i Compressed g down i ∙ (same_inners old first i Uncompressed g up i ∙ empty) in
    let held = filling_grown second new i g k none in
    let later = grown_on first.slots second.slots new.slots (side_grown first second i Compressed g down) held in
    record {
      format_is = k.format_is ∙ (down.format_is ∙ up.format_is);
      sizes_are = k.sizes_are ∙ (down.sizes_are ∙ up.sizes_are);
      args_are = k.args_are ∙ (down.args_are ∙ up.args_are);
      grown = grown_on old.slots first.slots new.slots (side_grown old first i Uncompressed g up) later;
      inner_is = filled_is second new i g k none;
      others = λ j other. others_same second new i g k none j other ∙ (same_inners first second i Compressed g down j ∙ same_inners old first i Uncompressed g up j);
      uncompressed_is = whole_kept first.slots new.slots later i Uncompressed (header g) (now_known old first i Uncompressed g up);
      compressed_is = whole_kept second.slots new.slots held i Compressed (packed g) (now_known first second i Compressed g down);
      agrees = λ f has filled. filling_had second new i g k none f (still_has first second i Compressed g down f (still_has old first i Uncompressed g up f has filled) filled) filled;
    }

-- why the second side can't be learnt
pub blamed_on : (level_frame : LevelFrame) (old new : Reached) (i : ℕ) (side : Side) (g : Filling) → Learns old i side (Whole (side_given side g)) new → (e : StepFault) → BlamesFilling e level_frame new i g → BlamesFilling e level_frame old i g
blamed_on level_frame old new i side g l Short h = h
blamed_on level_frame old new i side g l Refused h = λ bits f shows filled. h bits f (still_shows old new i side g l level_frame bits f shows filled) filled
blamed_on level_frame old new i side g l OutOfMemory h = tt
