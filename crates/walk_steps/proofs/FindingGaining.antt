-- What is learnt of what was found, or why it can't be.
use Rattle.std.proofs.Common.{◌≡◌, refl, sym, ◌∙◌, ap, subst, ℕ, ◌<◌, ◌^◌, List, Bool, length, arith, true}
use Rattle.std.specs.Prelude.{Option, Some, None, IsSomeAnd, IfSome, IfNone, slice_get, ℤ, pos, Result, Ok, Err, OnOk}
use Rattle.std.proofs.lemmas.Option.{same_Some}
use Rattle.sem_expr.specs.declared.expr.Side.{Side}
use Rattle.sem_expr.specs.declared.expr.Side.TheVariants.{Uncompressed, Compressed}
use Rattle.sem_profile.specs.Resolved.{IsSound}
use Rattle.sem_filling.specs.declared.filling.Filling.{Filling}
use Rattle.sem_filling.specs.Bounded.{LiesBetween}
use Rattle.cert_rules.specs.declared.slots.Learnt.{Learnt}
use Rattle.cert_rules.specs.declared.slots.Learnt.TheVariants.{Length}
use Rattle.cert_rules.specs.declared.slots.Slot.{Slot}
use Rattle.cert_rules.specs.Slots.{has_length, has_bits, learnt_of, learnt_at, HasSide, HasSlots}
use Rattle.cert_rules.specs.Views.{view, side_at}
use Rattle.walk_steps.specs.Partial.{Reached, IsKept, bounds_at}
use Rattle.walk_steps.specs.Partial as level
use Rattle.walk_steps.proofs.SidesGained as gained
use Rattle.walk_steps.specs.declared.level_frame.LevelFrame.{LevelFrame}
use Rattle.walk_steps.specs.Finding.{IsAt, Shows, AreFound, Finds, Counts, counted, Gains, NoneShows}
use Rattle.walk_steps.proofs.FindingShown.{lies, side_short}

pub has_known : (f : Filling) (slots : List Slot) → HasSlots f slots → (i : ℕ) (side : Side) → HasSide (side_at (view f) i side) (learnt_at slots i side)
has_known f slots has i side = by (slice_get slots i) refl side
  where
    by : (o : Option Slot) → slice_get slots i ≡ o → (side : Side) → HasSide (side_at (view f) i side) (learnt_of side o)
    by None e side = tt
    by (Some s) e Uncompressed = (has i s e).uncompressed
    by (Some s) e Compressed = (has i s e).compressed

module _ (level_frame : LevelFrame) (old : Reached) (i : ℕ) (side : Side) (found : Option Learnt) (finds : Finds level_frame old i side found) where
  pub nothing_shows : found ≡ None → NoneShows level_frame old
  nothing_shows e bits f shows = subst (λ o. AreFound o (side_at (view f) i side)) e (finds bits f shows)

  module _ (l : Learnt) (is : found ≡ Some l) where
    found_in : (bits : List Bool) (f : Filling) → Shows level_frame old bits f → HasSide (side_at (view f) i side) l
    found_in bits f shows = subst (λ o. AreFound o (side_at (view f) i side)) is (finds bits f shows)

    pub gains : (new : Reached) → level.Learns old i side l new → Gains level_frame old i side found new
    gains new h =
        let b = bounds_at old.sizes i side in
        record {
          format_is = h.format_is;
          sizes_are = h.sizes_are;
          args_are = h.args_are;
          grown = gained.grown b i side l old.slots new.slots h.slots_are;
          inners = gained.inners b i side l old.slots new.slots h.slots_are;
          length_known = subst (λ o. IsSomeAnd o (λ l. has_length l ≡ true → has_length (learnt_at new.slots i side) ≡ true)) (sym is) (gained.length_known b i side l old.slots new.slots h.slots_are);
          bits_known = subst (λ o. IsSomeAnd o (λ l. has_bits l ≡ true → has_bits (learnt_at new.slots i side) ≡ true)) (sym is) (gained.bits_known b i side l old.slots new.slots h.slots_are);
          agrees = λ bits f shows. gained.still_had b i side l old.slots new.slots h.slots_are f shows.has (found_in bits f shows);
        }

    pub refuses : IsSound level_frame.frame.profile.now → IsKept old → IsAt level_frame old → i < length old.slots →
        ((bits : List Bool) → HasSide bits (learnt_at old.slots i side) → HasSide bits l → LiesBetween (bounds_at old.sizes i side) (length bits) → ⊥) → NoneShows level_frame old
    refuses sound kept at within never bits f shows =
        never (side_at (view f) i side) (has_known f old.slots shows.has i side) (found_in bits f shows) (lies level_frame old sound kept at bits f shows i within side)

-- ---- lengths

pub counts_find : (level_frame : LevelFrame) (l : Reached) (i : ℕ) (side : Side) (count : Option ℤ) (o : Option Learnt) → IsSound level_frame.frame.profile.now → IsKept l → IsAt level_frame l → i < length l.slots → Counts level_frame l i side count →
    IfSome o (λ x. counted count ≡ Some x) → IfNone o ((n : ℕ) → n < 2 ^ 64 → count ≡ Some (pos n) → ⊥) → Finds level_frame l i side o
counts_find level_frame l i side count None sound kept at within counts some none bits f shows =
    let short = side_short level_frame l sound kept at bits f shows i within side in
    none (length (side_at (view f) i side)) (omega (arith, short)) (counts bits f shows)
counts_find level_frame l i side count (Some x) sound kept at within counts some none bits f shows =
    let is : Some (Length (length (side_at (view f) i side))) ≡ Some x = sym (ap counted (counts bits f shows)) ∙ some in
    subst (HasSide (side_at (view f) i side)) (same_Some (Length (length (side_at (view f) i side))) x is) refl

pub count_gains : (level_frame : LevelFrame) (old new : Reached) (i : ℕ) (side : Side) (count : Option ℤ) (o : Option Learnt) → IfSome o (λ x. counted count ≡ Some x) → Gains level_frame old i side o new → Gains level_frame old i side (counted count) new
count_gains level_frame old new i side count None some g = absurd (g.length_known)
count_gains level_frame old new i side count (Some x) some g = subst (λ z. Gains level_frame old i side z new) (sym some) g

pub on_ok : {A E : Type 0} (r : Result A E) (P Q : Type 0) → (P → Q) → OnOk r P → OnOk r Q
on_ok (Ok x) P Q f p = f p
on_ok (Err e) P Q f p = tt
