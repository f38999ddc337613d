-- What slots know, from the start and as they grow.
use Rattle.std.proofs.Common.{◌≡◌, refl, sym, ◌∙◌, ap, ℕ, zero, suc, ◌+◌, ◌<◌, ◌≤◌, Bool, true, false, List, [], ◌∷◌, length, arith}
use Rattle.std.specs.Prelude.{Option, Some, None, IfSome, slice_get, ◌&&◌, ◌||◌, not}
use Rattle.sem_expr.specs.declared.expr.Side.{Side}
use Rattle.sem_expr.specs.declared.expr.Side.TheVariants.{Uncompressed, Compressed}
use Rattle.sem_profile.specs.declared.profile.Field.{Field}
use Rattle.sem_profile.specs.declared.profile.Format.{Format}
use Rattle.sem_profile.specs.Fields.{lists}
use Rattle.sem_filling.specs.declared.filling.Filling.{Filling}
use Rattle.cert_rules.specs.declared.slots.Learnt.{Learnt}
use Rattle.cert_rules.specs.declared.slots.Learnt.TheVariants.{Nothing, Length, Whole}
use Rattle.cert_rules.specs.declared.slots.Slot.{Slot}
use Rattle.cert_types.specs.declared.rule.Fact.{Fact}
use Rattle.cert_types.specs.declared.rule.Fact.TheVariants.{LengthOf, BitsOf, Done}
use Rattle.cert_rules.specs.Facts.{same_fact, has, has_all, has_none, unlisted, at_start}
use Rattle.cert_rules.specs.Slots.{has_length, has_bits, side_of_slot, learnt_of, learnt_at, is_there, slot_inner, calls_at, knows, knows_all, SideGrows, SlotGrows, Grows}
use Rattle.cert_rules.specs.Reading.{start_side, start_slot, start_slots, StartKnows, NeedsKnown, GrownKnow}
use Rattle.cert_rules.proofs.ViewsAgree.{and_true, same_is}

both_true : (a b : Bool) → a ≡ true → b ≡ true → (a && b) ≡ true
both_true a b e h = λ i. (e ∙ refl) i && h i

-- ---- as they grow

length_kept : (old new : Learnt) → SideGrows old new → has_length old ≡ true → has_length new ≡ true
length_kept Nothing new h e = absurd (cc)
length_kept (Length n) new h e = h
length_kept (Whole bits) new h e = ap has_length h

bits_kept : (old new : Learnt) → SideGrows old new → has_bits old ≡ true → has_bits new ≡ true
bits_kept Nothing new h e = absurd (cc)
bits_kept (Length n) new h e = absurd (cc)
bits_kept (Whole bits) new h e = ap has_bits h

side_grows : (s t : Slot) (side : Side) → SlotGrows s t → SideGrows (side_of_slot side s) (side_of_slot side t)
side_grows s t Uncompressed h = h.uncompressed
side_grows s t Compressed h = h.compressed

inner_kept : (o q : Option Filling) → IfSome o (λ g. q ≡ Some g) → is_there o ≡ true → is_there q ≡ true
inner_kept None q h e = absurd (cc)
inner_kept (Some g) q h e = ap is_there h

or_kept : (a b c : Bool) → (b ≡ true → c ≡ true) → (a || b) ≡ true → (a || c) ≡ true
or_kept true b c h e = refl
or_kept false b c h e = h e

module _ (format : Format) (old new : List Slot) (grows : Grows old new) where
  at_slot : (test : Learnt → Bool) → test Nothing ≡ false → ((l k : Learnt) → SideGrows l k → test l ≡ true → test k ≡ true) → (i : ℕ) (side : Side) (o : Option Slot) → slice_get old i ≡ o →
      test (learnt_of side o) ≡ true → test (learnt_at new i side) ≡ true
  at_slot test none kept i side None e h = let wrong : false ≡ true = sym none ∙ h in absurd (cc)
  at_slot test none kept i side (Some s) e h =
      let t = grows i s e in
      ap (λ z. test (learnt_of side z)) t.1 ∙ kept (side_of_slot side s) (side_of_slot side t.0) (side_grows s t.0 side t.2) h

  inner_at_slot : (i : ℕ) (o : Option Slot) → slice_get old i ≡ o → is_there (slot_inner o) ≡ true → is_there (slot_inner (slice_get new i)) ≡ true
  inner_at_slot i None e h = absurd (cc)
  inner_at_slot i (Some s) e h = let t = grows i s e in ap (λ z. is_there (slot_inner z)) t.1 ∙ inner_kept s.inner t.0.inner t.2.inner h

  knows_kept : (x : Fact) → knows format old x ≡ true → knows format new x ≡ true
  knows_kept (LengthOf side i) e = at_slot has_length refl length_kept i side (slice_get old i) refl e
  knows_kept (BitsOf side i) e = at_slot has_bits refl bits_kept i side (slice_get old i) refl e
  knows_kept (Done i) e =
      let calls = not (calls_at (slice_get format.fields i)) in
      let b = and_true (has_bits (learnt_at old i Compressed)) (calls || is_there (slot_inner (slice_get old i))) e in
      both_true (has_bits (learnt_at new i Compressed)) (calls || is_there (slot_inner (slice_get new i))) (at_slot has_bits refl bits_kept i Compressed (slice_get old i) refl b.0)
      (or_kept calls (is_there (slot_inner (slice_get old i))) (is_there (slot_inner (slice_get new i))) (inner_at_slot i (slice_get old i) refl) b.1)

  all_kept : (xs : List Fact) → knows_all format old xs ≡ true → knows_all format new xs ≡ true
  all_kept [] e = refl
  all_kept (x ∷ xs) e = let b = and_true (knows format old x) (knows_all format old xs) e in both_true (knows format new x) (knows_all format new xs) (knows_kept x b.0) (all_kept xs b.1)

pub grown_know : GrownKnow
grown_know format old new xs grows e = all_kept format old new grows xs e

-- ---- what a step needs

module _ (format : Format) (slots : List Slot) where
  first_or_later : (x y : Fact) (rest b : Bool) → same_fact y x ≡ b → (b || rest) ≡ true → knows format slots y ≡ true → (rest ≡ true → knows format slots x ≡ true) → knows format slots x ≡ true
  first_or_later x y rest true s e first later = ap (knows format slots) (sym (same_is y x s)) ∙ first
  first_or_later x y rest false s e first later = later e

  knows_had : (known : List Fact) (x : Fact) → has known x ≡ true → knows_all format slots known ≡ true → knows format slots x ≡ true
  knows_had [] x e h = absurd (cc)
  knows_had (y ∷ ys) x e h =
      let b = and_true (knows format slots y) (knows_all format slots ys) h in
      first_or_later x y (has ys x) (same_fact y x) refl e b.0 (λ e. knows_had ys x e b.1)

  pub knows_all_had : (known xs : List Fact) → has_all known xs ≡ true → knows_all format slots known ≡ true → knows_all format slots xs ≡ true
  knows_all_had known [] e h = refl
  knows_all_had known (x ∷ xs) e h =
      let b = and_true (has known x) (has_all known xs) e in
      both_true (knows format slots x) (knows_all format slots xs) (knows_had known x b.0 h) (knows_all_had known xs b.1 h)

pub needs_known : NeedsKnown
needs_known format slots known r e h = knows_all_had format slots known r.needs (and_true (has_all known r.needs) (has_none known r.absent) e).0 h

-- ---- the start

slot_there : (listing : List ℕ) (n : ℕ) (ds : List Field) (i : ℕ) → i < length ds → slice_get (start_slots listing n ds) i ≡ Some (start_slot listing (n + i))
slot_there listing n [] i l = absurd (omega (arith, l))
slot_there listing n (d ∷ ds) zero l = ap (λ z. Some (start_slot listing z)) (omega arith)
slot_there listing n (d ∷ ds) (suc i) l = slot_there listing (suc n) ds i (omega (arith, l)) ∙ ap (λ z. Some (start_slot listing z)) (omega arith)

module _ (format : Format) where
  start_here : (n : ℕ) → n < length format.fields → lists format.listing n ≡ false → learnt_at (start_slots format.listing 0 format.fields) n Compressed ≡ Whole []
  start_here n l e = ap (learnt_of Compressed) (slot_there format.listing 0 format.fields n l ∙ ap (λ z. Some (start_slot format.listing z)) (omega arith)) ∙ ap start_side e

  start_next : (n : ℕ) (b : Bool) (xs : List Fact) → n < length format.fields → lists format.listing n ≡ b → knows_all format (start_slots format.listing 0 format.fields) xs ≡ true →
      knows_all format (start_slots format.listing 0 format.fields) (unlisted b n xs) ≡ true
  start_next n true xs l e h = h
  start_next n false xs l e h =
      let this = start_here n l e in
      let slots = start_slots format.listing 0 format.fields in
      both_true (knows format slots (LengthOf Compressed n)) (knows_all format slots (BitsOf Compressed n ∷ xs)) (ap has_length this) (both_true (knows format slots (BitsOf Compressed n)) (knows_all format slots xs) (ap has_bits this) h)

  start_from : (n : ℕ) (ds : List Field) → n + length ds ≤ length format.fields → knows_all format (start_slots format.listing 0 format.fields) (at_start format.listing n ds) ≡ true
  start_from n [] l = refl
  start_from n (d ∷ ds) l = start_next n (lists format.listing n) (at_start format.listing (suc n) ds) (omega (arith, l)) refl (start_from (suc n) ds (omega (arith, l)))

pub start_knows : StartKnows
start_knows format = start_from format 0 format.fields (omega arith)
