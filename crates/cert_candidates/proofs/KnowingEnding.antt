-- How a walk that writes ends.
use Rattle.std.proofs.Common.{◌≡◌, refl, sym, ◌∙◌, ap, subst, ℕ, Bool, true, false, List, [], ◌∷◌, length}
use Rattle.std.specs.Prelude.{Option, Some, None, IfSome, slice_get, option_map, ◌&&◌, ◌||◌, not}
use Rattle.std.proofs.lemmas.List.{length-map, length-replicate}
use Rattle.std.proofs.lemmas.Option.{same_Some, slice_get-map}
use Rattle.sem_expr.specs.declared.expr.Side.{Side}
use Rattle.sem_expr.specs.declared.expr.Side.TheVariants.{Uncompressed, Compressed}
use Rattle.sem_profile.specs.declared.profile.Field.{Field}
use Rattle.sem_profile.specs.declared.profile.Format.{Format}
use Rattle.sem_profile.specs.declared.profile.Method.{Method}
use Rattle.sem_filling.specs.declared.filling.Filling.{Filling}
use Rattle.sem_filling.specs.Fillings.{Sides, is_header, level, inner_at}
use Rattle.sem_filling.proofs.FillingsUnique.{also_at, list_same, same}
use Rattle.sem_filling.specs.Fits.{Context, field_side}
use Rattle.sem_filling.proofs.FitsInverted.{length-level}
use Rattle.cert_types.specs.declared.certificate.Direction.TheVariants.{Write}
use Rattle.cert_types.specs.declared.rule.Fact.TheVariants.{BitsOf, Done}
use Rattle.cert_rules.specs.declared.slots.Learnt.{Learnt}
use Rattle.cert_rules.specs.declared.slots.Learnt.TheVariants.{Nothing, Length, Whole}
use Rattle.cert_rules.specs.declared.slots.Slot.{Slot}
use Rattle.cert_rules.specs.Plans.{wanted}
use Rattle.cert_rules.specs.Reading.{Spot, IsLevel, IsMade}
use Rattle.cert_rules.specs.Rules.{is_call, where_true}
use Rattle.cert_rules.specs.Slots.{HasSide, HasSlots, has_bits, bits_of, side_of_slot, learnt_of, learnt_at, calls_at, is_there, slot_inner, slot_sides}
use Rattle.cert_rules.specs.Views.{view, side_at}
use Rattle.cert_rules.proofs.ViewsAgree.{and_true}
use Rattle.cert_rules.proofs.SlotsKnown.{slot_side}
use Rattle.cert_rules.proofs.Plans.{all_learnt}
use Rattle.cert_candidates.proofs.CodesKept.{reading_reaches, reading_ends}
use Rattle.cert_candidates.specs.Knowing.{writer_knows, writer_knows_all}
use Rattle.cert_candidates.specs.Writing.{spot_at, IsOpen}
use Rattle.cert_candidates.specs.WritingLaws.{WritingEnds}
use Rattle.cert_candidates.proofs.KnowingFitted.{fitted, declared_f, declared_w, plain, agreed}
use Rattle.cert_candidates.proofs.WritingLawsGoing.{tried, open_level, grows_self, inside_had}
use Rattle.cert_candidates.proofs.Knowing.{all_had}

-- ---- what the slots make has what they know

made_side : (l : Learnt) (bits : List Bool) → bits ≡ bits_of l → HasSide bits l
made_side Nothing bits e = tt
made_side (Length n) bits e = ap length e ∙ length-replicate n false
made_side (Whole known) bits e = e

made_inner : (o q : Option Filling) → o ≡ q → IfSome q (λ x. o ≡ Some x)
made_inner o None e = tt
made_inner o (Some x) e = e

made_has : (n : ℕ) (format : Format) (slots : List Slot) (g : Filling) → length slots ≡ length format.fields → IsMade n format slots g → HasSlots g slots
made_has n format slots g count made i s e = record { uncompressed = by Uncompressed; compressed = by Compressed; inner = made_inner (inner_at g i) s.inner (made.inner_is i ∙ ap slot_inner e) }
  where
    by : (side : Side) → HasSide (side_at (view g) i side) (side_of_slot side s)
    by side = made_side (side_of_slot side s) (side_at (view g) i side)
        (ap (λ z. field_side (slice_get z i) side) made.level_is ∙ (slot_side format.fields slots count i side ∙ ap (λ o. bits_of (learnt_of side o)) e))

-- ---- a filling of which all is known

module _ (methods : List Method) (ctx : Context) (spot : Spot) (n : ℕ) (format : Format) (slots : List Slot) (f : Filling) (h : IsLevel methods ctx spot n format slots f)
    (complete : (i : ℕ) (d : Field) (side : Side) → slice_get format.fields i ≡ Some d → writer_knows_all format slots (wanted Write format i d side) ≡ true) where
  abbrev sides : List Sides
  sides = slot_sides format.fields slots

  side_known : (i : ℕ) (d : Field) (side : Side) → slice_get format.fields i ≡ Some d → side_at (view f) i side ≡ field_side (slice_get sides i) side
  side_known i d side e = by side (complete i d side e)
    where
      by : (side : Side) → writer_knows_all format slots (wanted Write format i d side) ≡ true → side_at (view f) i side ≡ field_side (slice_get sides i) side
      by Uncompressed known =
          let b = and_true (writer_knows format slots (BitsOf Uncompressed i)) (writer_knows_all format slots (where_true (is_header d.declared.part || is_call d.encoding) (Done i ∷ []))) known in
          sym (agreed methods ctx spot n format slots f h (BitsOf Uncompressed i ∷ []) (λ k. b.0 k && true)).0
      by Compressed known =
          let b = and_true (writer_knows format slots (BitsOf Compressed i)) true known in
          sym (agreed methods ctx spot n format slots f h (BitsOf Compressed i ∷ []) (λ k. b.0 k && true)).0

  same_count : length (level f) ≡ length sides
  same_count = sym (length-map (level f) (λ (s : Sides). s.declared)) ∙ (ap length (declared_f methods ctx spot n format slots f h ∙ sym (declared_w methods ctx spot n format slots f h)) ∙ length-map sides (λ (s : Sides). s.declared))

  level_known : level f ≡ sides
  level_known = list_same (level f) sides same_count at
    where
      at : (i : ℕ) (x y : Sides) → slice_get (level f) i ≡ Some x → slice_get sides i ≡ Some y → x ≡ y
      at i x y ex ey =
          let d = also_at (level f) format.fields i x (length-level format f (fitted methods ctx spot n format slots f h).level_fits.shaped) ex in
          let shape = declared_f methods ctx spot n format slots f h ∙ sym (declared_w methods ctx spot n format slots f h) in
          let declared : Some x.declared ≡ Some y.declared =
          ap (option_map (λ (s : Sides). s.declared)) (sym ex) ∙ (sym (slice_get-map (λ (s : Sides). s.declared) (level f) i) ∙ (ap (λ z. slice_get z i) shape ∙ (slice_get-map (λ (s : Sides). s.declared) sides i ∙ ap (option_map (λ (s : Sides). s.declared)) ey))) in
          let name = same_Some x.declared y.declared declared in
          let u = ap (λ o. field_side o Uncompressed) (sym ex) ∙ (side_known i d.0 Uncompressed d.1 ∙ ap (λ o. field_side o Uncompressed) ey) in
          let c = ap (λ o. field_side o Compressed) (sym ex) ∙ (side_known i d.0 Compressed d.1 ∙ ap (λ o. field_side o Compressed) ey) in
          λ j. record { declared = name j; uncompressed = u j; compressed = c j }

  -- a called field has its filling
  called_known : (i : ℕ) (o : Option Field) → slice_get format.fields i ≡ o → calls_at o ≡ true → is_there (slot_inner (slice_get slots i)) ≡ true
  called_known i None e calls = absurd (cc)
  called_known i (Some d) e calls = by (is_header d.declared.part) (is_call d.encoding) calls (complete i d Uncompressed e)
    where
      told : writer_knows format slots (Done i) ≡ true → is_there (slot_inner (slice_get slots i)) ≡ true
      told known =
          let b = and_true (has_bits (learnt_at slots i Uncompressed)) (not (calls_at (slice_get format.fields i)) || is_there (slot_inner (slice_get slots i))) known in
          subst (λ z. (not z || is_there (slot_inner (slice_get slots i))) ≡ true) (ap calls_at e ∙ calls) b.1

      by : (header calls : Bool) → calls ≡ true → writer_knows_all format slots (BitsOf Uncompressed i ∷ where_true (header || calls) (Done i ∷ [])) ≡ true → is_there (slot_inner (slice_get slots i)) ≡ true
      by true calls is known = done known
        where
          done : writer_knows_all format slots (BitsOf Uncompressed i ∷ Done i ∷ []) ≡ true → is_there (slot_inner (slice_get slots i)) ≡ true
          done known =
              let b = and_true (writer_knows format slots (BitsOf Uncompressed i)) (writer_knows_all format slots (Done i ∷ [])) known in
              told (and_true (writer_knows format slots (Done i)) true b.1).0
      by false true is known =
          let b = and_true (writer_knows format slots (BitsOf Uncompressed i)) (writer_knows_all format slots (Done i ∷ [])) known in
          told (and_true (writer_knows format slots (Done i)) true b.1).0
      by false false is known = absurd (cc)

  inside_known : (i : ℕ) → inner_at f i ≡ slot_inner (slice_get slots i)
  inside_known i = by (slot_inner (slice_get slots i)) refl
    where
      none : (b : Bool) → calls_at (slice_get format.fields i) ≡ b → slot_inner (slice_get slots i) ≡ None → inner_at f i ≡ None
      none false is e = plain methods ctx spot n format slots f h i is
      none true is e = absurd (let there = called_known i (slice_get format.fields i) refl is in let wrong : false ≡ true = sym (ap is_there e) ∙ there in cc)

      by : (o : Option Filling) → slot_inner (slice_get slots i) ≡ o → inner_at f i ≡ o
      by None e = none (calls_at (slice_get format.fields i)) refl e
      by (Some g) e = inside_had f slots h.has i g e

  pub one_made : (g : Filling) → IsMade n format slots g → f ≡ g
  one_made g made =
      same f g (h.format_is ∙ sym made.format_is) ((fitted methods ctx spot n format slots f h).level_fits.shaped.listing_is ∙ sym made.listing_is) (level_known ∙ sym made.level_is)
      (λ i. inside_known i ∙ sym (made.inner_is i))

pub writing_ends : WritingEnds
writing_ends methods table top cert counts base ctx site n format c place slots w known complete knows g made = record {
  number_is = reading_ends methods cert counts site.method n format c place w.reading g (w.tell slots g (grows_self slots) made.format_is (made_has n format slots g w.count made));
  alone = λ f begins is.
      let open_f : IsOpen methods cert counts ctx site format w.reading.base [] f = record { begins = begins; within = (reading_reaches methods cert counts site.method n format [] c place w.reading f (tried methods table top cert counts base ctx site f begins) is).within } in
      one_made methods ctx (spot_at site) n format slots f (open_level methods table top cert counts base ctx site n format [] c place slots w f open_f)
      (λ i d side e. all_had format slots known (wanted Write format i d side) (all_learnt Write format known complete i d side e) knows) g made;
}
