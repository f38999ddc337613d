-- How a walk that writes goes on, fails and ends.
use Rattle.std.proofs.Common.{◌≡◌, refl, sym, ◌∙◌, ap, subst, ℕ, suc, ◌+◌, ◌*◌, ◌<◌, ◌≤◌, Bool, true, List, [], ◌∷◌, ◌++◌, length, arith}
use Rattle.std.specs.Prelude.{Option, Some, None, IfSome, slice_get, option_and_then, ℤ}
use Rattle.std.proofs.lemmas.Option.{same_Some}
use Rattle.sem_bits.specs.Number.{num}
use Rattle.sem_expr.specs.declared.expr.Expr.{Expr}
use Rattle.sem_expr.specs.declared.expr.Side.TheVariants.{Uncompressed}
use Rattle.sem_profile.specs.declared.profile.Encoding.TheVariants as encoding
use Rattle.sem_profile.specs.declared.profile.Field.{Field}
use Rattle.sem_profile.specs.declared.profile.Format.{Format}
use Rattle.sem_profile.specs.declared.profile.Method.{Method}
use Rattle.sem_profile.specs.declared.profile.MethodSizes.{MethodSizes}
use Rattle.sem_filling.specs.declared.filling.Filling.{Filling}
use Rattle.sem_filling.specs.Fillings.{is_header, header, packed, inner_at, item}
use Rattle.std.proofs.lemmas.List.{append-nil}
use Rattle.sem_filling.specs.Fits.{Context, vals}
use Rattle.sem_filling.specs.Fronts.{FitsTop}
use Rattle.cert_types.specs.declared.certificate.Step.{Step}
use Rattle.cert_types.specs.declared.certificate.Step.TheVariants.{Take, Call, LibraryUp, LibraryDown, MethodLength, ConstraintLength, Solve, Choose, Ask}
use Rattle.cert_types.specs.Kept.{Entries}
use Rattle.cert_rules.specs.declared.slots.Learnt.{Learnt}
use Rattle.cert_rules.specs.declared.slots.Learnt.TheVariants.{Nothing, Length, Whole}
use Rattle.cert_rules.specs.declared.slots.Slot.{Slot}
use Rattle.cert_rules.specs.Counts.{ways, plan_ways}
use Rattle.cert_rules.specs.Facts.{inputs_of_all}
use Rattle.cert_rules.specs.Reading.{IsLevel, known_numbers, start_slots}
use Rattle.cert_rules.specs.Rules.{headers_before, is_headless, own_bits, in_header, choice}
use Rattle.cert_rules.specs.Slots.{HasSide, has_length, SideGrows, Grows, HasSlots, learnt_of, learnt_at, slot_inner}
use Rattle.cert_rules.specs.Views.{view, side_at}
use Rattle.cert_rules.proofs.ViewsLearning.{start_has}
use Rattle.cert_candidates.specs.declared.digits.Digits.{Digits}
use Rattle.cert_candidates.specs.Codes.{number, numbers_in, called_at, step_digit, IsCandidate}
use Rattle.cert_candidates.specs.Digits.{HasRead}
use Rattle.cert_candidates.specs.Reading.{IsReading, ReadsOn, ShareDigits, ShareUpTo}
use Rattle.cert_candidates.proofs.CodesFitting.{is_candidate, chosen_long}
use Rattle.cert_candidates.proofs.CodesKept.{reading_passes}
use Rattle.cert_candidates.proofs.Reading as digits
use Rattle.cert_rules.specs.Counts.{callee}
use Rattle.cert_candidates.specs.Knowing.{writer_knows_all}
use Rattle.cert_candidates.specs.Writing.{Site, Begins, spot_at, IsChecked, IsOpen, IsWriting, inner_site, AsksNothing, IsChosen, NoneNumbered, IsNumbered}
use Rattle.cert_candidates.specs.WritingLaws.{TopBegins, BeginsAhead, ChooseLaw, WritingStarts, is_plain, WritingPasses, WritingChooses, IsFilled, FilledLaw, WritingCalls, WritingFails, CallFails, TopPasses, TopRefuses}
use Rattle.cert_candidates.proofs.KnowingFitted.{fitted}
use Rattle.cert_candidates.proofs.WritingSteps as finds

-- ---- slots that grow

side_on : (x y z : Learnt) → SideGrows x y → SideGrows y z → SideGrows x z
side_on Nothing y z h g = tt
side_on (Length n) Nothing z h g = absurd (cc)
side_on (Length n) (Length m) z h g = g
side_on (Length n) (Whole bits) z h g = ap has_length g
side_on (Whole bits) y z h g = subst (λ (w : Learnt). SideGrows w z) h g

inner_on : (x y z : Option Filling) → IfSome x (λ g. y ≡ Some g) → IfSome y (λ g. z ≡ Some g) → IfSome x (λ g. z ≡ Some g)
inner_on None y z h g = tt
inner_on (Some a) y z h g = subst (λ (w : Option Filling). IfSome w (λ g. z ≡ Some g)) h g

pub grows_on : (x y z : List Slot) → Grows x y → Grows y z → Grows x z
grows_on x y z h g i s e =
    let a = h i s e in
    let b = g i a.0 a.1 in (
      b.0,
      b.1,
      record {
        uncompressed = side_on s.uncompressed a.0.uncompressed b.0.uncompressed a.2.uncompressed b.2.uncompressed;
        compressed = side_on s.compressed a.0.compressed b.0.compressed a.2.compressed b.2.compressed;
        inner = inner_on s.inner a.0.inner b.0.inner a.2.inner b.2.inner;
      },
    )

side_stays : (x : Learnt) → SideGrows x x
side_stays Nothing = tt
side_stays (Length n) = refl
side_stays (Whole bits) = refl

inner_stays : (o : Option Filling) → IfSome o (λ g. o ≡ Some g)
inner_stays None = tt
inner_stays (Some g) = refl

pub grows_self : (x : List Slot) → Grows x x
grows_self x i s e = (s, e, record { uncompressed = side_stays s.uncompressed; compressed = side_stays s.compressed; inner = inner_stays s.inner })

whole_kept : (x y : List Slot) → Grows x y → (i : ℕ) (bits : List Bool) → learnt_at x i Uncompressed ≡ Whole bits → learnt_at y i Uncompressed ≡ Whole bits
whole_kept x y h i bits e = by (slice_get x i) refl e
  where
    by : (o : Option Slot) → slice_get x i ≡ o → learnt_of Uncompressed o ≡ Whole bits → learnt_at y i Uncompressed ≡ Whole bits
    by None at e = absurd (cc)
    by (Some s) at e =
        let t = h i s at in
        ap (learnt_of Uncompressed) t.1 ∙ subst (λ l. SideGrows l t.0.uncompressed) e t.2.uncompressed

filling_kept : (x y : List Slot) → Grows x y → (i : ℕ) (g : Filling) → slot_inner (slice_get x i) ≡ Some g → slot_inner (slice_get y i) ≡ Some g
filling_kept x y h i g e = by (slice_get x i) refl e
  where
    by : (o : Option Slot) → slice_get x i ≡ o → slot_inner o ≡ Some g → slot_inner (slice_get y i) ≡ Some g
    by None at e = absurd (cc)
    by (Some s) at e =
        let t = h i s at in
        ap slot_inner t.1 ∙ subst (λ o. IfSome o (λ g. t.0.inner ≡ Some g)) e t.2.inner

pub inside_had : (f : Filling) (slots : List Slot) → HasSlots f slots → (i : ℕ) (g : Filling) → slot_inner (slice_get slots i) ≡ Some g → inner_at f i ≡ Some g
inside_had f slots has i g e = by (slice_get slots i) refl e
  where
    by : (o : Option Slot) → slice_get slots i ≡ o → slot_inner o ≡ Some g → inner_at f i ≡ Some g
    by None at e = absurd (cc)
    by (Some s) at e = subst (λ o. IfSome o (λ g. inner_at f i ≡ Some g)) e (has i s at).inner

-- ---- where a walk stands

pub top_begins : TopBegins
top_begins methods ctx top it f fitting is = record {
  fits = fitting;
  rest = [];
  in_front = ap (λ z. z.header) (sym is) ∙ sym (append-nil (header f));
  asked_are = ap (λ z. z.asked) is;
}

pub top_passes : TopPasses
top_passes methods cert counts ctx top it c skipped none f fitting is from to = none f (top_begins methods ctx top it f fitting is) from to

pub top_refuses : TopRefuses
top_refuses methods cert counts ctx top it c g numbered refused f fitting is from to =
    let same : f ≡ g = numbered.alone f (top_begins methods ctx top it f fitting is) (omega (arith, from, to)) in
    refused (subst (FitsTop methods top ctx) same fitting) (ap item (sym same) ∙ is)

module _ (methods : List Method) (table : List MethodSizes) (top : ℕ) (cert : Entries) (counts : List ℕ) (base_on : IsChecked methods table top cert counts) (ctx : Context) (site : Site) where
  -- what begins the source is a candidate
  pub tried : (f : Filling) → Begins methods ctx site f → IsCandidate methods cert counts site.method f
  tried f b = is_candidate methods table top base_on.version cert base_on.are_sizes base_on.valid counts ctx b.fits

  module _ (n : ℕ) (format : Format) where
    abbrev Open : ℕ → List Step → Filling → Type 0
    Open base steps f = IsOpen methods cert counts ctx site format base steps f

    abbrev Writes : List Step → ℕ → Digits → List Slot → Type 0
    Writes steps c place slots = IsWriting methods cert counts ctx site n format steps c place slots

    abbrev Reading : List Step → ℕ → Digits → Type 0
    Reading steps c place = IsReading methods cert counts site.method n format steps c place

    abbrev On : (step : Step) (steps : List Step) (c : ℕ) (old : Digits) → Reading (step ∷ steps) c old → ℕ → Digits → Type 0
    On step steps c old before digit new = ReadsOn methods cert counts site.method n format step steps c old before digit new

    pub open_level : (steps : List Step) (c : ℕ) (place : Digits) (slots : List Slot) (w : Writes steps c place slots) (f : Filling) → Open w.reading.base steps f → IsLevel methods ctx (spot_at site) n format slots f
    open_level steps c place slots w f h = record {
      ahead = record { more = packed f; in_front = record { fits = h.begins.fits; rest = []; front = sym (append-nil (packed f)) } };
      format_is = (w.reading.all f (tried f h.begins) h.within).format_is;
      at = w.at;
      count = w.count;
      has = w.have f h;
    }

    -- what is open with one more digit was open, and the digit is its own
    record Narrowed (step : Step) (base : ℕ) (steps : List Step) (digit : ℕ) (f : Filling) : Type 0 where
      was : Open base (step ∷ steps) f
      theirs : step_digit format (numbers_in methods cert counts f) step ≡ digit

    narrowed : (step : Step) (steps : List Step) (c : ℕ) (old : Digits) (before : Reading (step ∷ steps) c old) (digit : ℕ) (new : Digits) (reads : On step steps c old before digit new) (f : Filling) → Open reads.after.base steps f → Narrowed step before.base steps digit f
    narrowed step steps c old before digit new reads f h = record {
      was = record { begins = h.begins; within = reads.inside f h.within };
      theirs = reads.theirs f (tried f h.begins) h.within;
    }

    -- the next stand, where each that is open has what is known and the digit is told
    on : (step : Step) (steps : List Step) (c : ℕ) (place next : Digits) (old new : List Slot) (w : Writes (step ∷ steps) c place old) (digit : ℕ) (reads : On step steps c place w.reading digit next) →
        length new ≡ length old → Grows old new → ((f : Filling) → Open reads.after.base steps f → HasSlots f new) →
        ((later : List Slot) (f : Filling) → Grows new later → HasSlots f later → step_digit format (numbers_in methods cert counts f) step ≡ digit) → Writes steps c next new
    on step steps c place next old new w digit reads count grows have digit_told = record {
      at = w.at;
      count = count ∙ w.count;
      reading = reads.after;
      have = have;
      tell = λ later f grown is has.
          let h = digits.onward methods cert counts site.method n format w.reading.base step steps f (w.tell later f (grows_on old new later grows grown) is has) in
          let told = digit_told later f grown has in
          let base : w.reading.base + step_digit format (numbers_in methods cert counts f) step * plan_ways counts format steps ≡ reads.after.base =
          ap (λ z. w.reading.base + z * plan_ways counts format steps) told ∙ sym reads.base_is in
          subst (λ z. HasRead methods cert counts site.method n format z steps f) base h;
    }

    no_digit : (step : Step) (f : Filling) → is_plain step ≡ true → step_digit format (numbers_in methods cert counts f) step ≡ 0
    no_digit (Call i) f e = absurd (cc)
    no_digit (Choose i) f e = absurd (cc)
    no_digit (Take i) f e = refl
    no_digit (LibraryUp i) f e = refl
    no_digit (LibraryDown i) f e = refl
    no_digit (MethodLength i side) f e = refl
    no_digit (ConstraintLength i side k) f e = refl
    no_digit (Solve i k) f e = refl
    no_digit (Ask i) f e = refl

    one_way : (step : Step) → is_plain step ≡ true → ways counts format step ≡ 1
    one_way (Call i) e = absurd (cc)
    one_way (Choose i) e = absurd (cc)
    one_way (Take i) e = refl
    one_way (LibraryUp i) e = refl
    one_way (LibraryDown i) e = refl
    one_way (MethodLength i side) e = refl
    one_way (ConstraintLength i side k) e = refl
    one_way (Solve i k) e = refl
    one_way (Ask i) e = refl

    pub passed : (step : Step) (steps : List Step) (c : ℕ) (place : Digits) (old new : List Slot) (w : Writes (step ∷ steps) c place old) → is_plain step ≡ true → length new ≡ length old → Grows old new →
        ((f : Filling) → Open w.reading.base (step ∷ steps) f → HasSlots f new) → Writes steps c place new
    passed step steps c place old new w plain count grows have =
        let reads = reading_passes methods cert counts base_on.are_counts site.method n format step steps c place (one_way step plain) w.reading in
        on step steps c place place old new w 0 reads count grows (λ f h. have f (narrowed step steps c place w.reading 0 place reads f h).was) (λ later f grown has. no_digit step f plain)

    pub chosen : (i : ℕ) (steps : List Step) (c : ℕ) (place next : Digits) (old new : List Slot) (w : Writes (Choose i ∷ steps) c place old) (digit : ℕ) (reads : On (Choose i) steps c place w.reading digit next) →
        length new ≡ length old → Grows old new → (bits : List Bool) → learnt_at new i Uncompressed ≡ Whole bits → num bits ≡ digit →
        ((f : Filling) → Open reads.after.base steps f → HasSlots f new) → Writes steps c next new
    chosen i steps c place next old new w digit reads count grows bits known is have =
        on (Choose i) steps c place next old new w digit reads count grows have
        (λ later f grown has.
        let held : side_at (view f) i Uncompressed ≡ bits = subst (HasSide (side_at (view f) i Uncompressed)) (whole_kept new later grown i bits known) (finds.has_known f later has i Uncompressed) in
        digits.choice methods cert counts format f i ∙ (ap num held ∙ is))

    called_is : (i : ℕ) (d : Field) (j : ℕ) (es : List Expr) → slice_get format.fields i ≡ Some d → d.encoding ≡ encoding.Call j es → called_at format i ≡ Some j
    called_is i d j es e is = ap (option_and_then (λ (z : Field). callee z.encoding)) e ∙ ap callee is

    pub calls : (i : ℕ) (steps : List Step) (c : ℕ) (place next : Digits) (old new : List Slot) (w : Writes (Call i ∷ steps) c place old) (digit : ℕ) (reads : On (Call i) steps c place w.reading digit next) →
        length new ≡ length old → Grows old new → (d : Field) (j : ℕ) (es : List Expr) (g : Filling) → slice_get format.fields i ≡ Some d → d.encoding ≡ encoding.Call j es → slot_inner (slice_get new i) ≡ Some g →
        number methods cert counts g j ≡ digit → ((f : Filling) → Open reads.after.base steps f → HasSlots f new) → Writes steps c next new
    calls i steps c place next old new w digit reads count grows d j es g e is known numbered have =
        on (Call i) steps c place next old new w digit reads count grows have
        (λ later f grown has. digits.call methods cert counts format f i j g (called_is i d j es e is) (inside_had f later has i g (filling_kept new later grown i g known)) ∙ numbered)

    -- ---- what a choice and a call tell of those that are open

    pub chosen_is : (i : ℕ) (steps : List Step) (c : ℕ) (place next : Digits) (slots : List Slot) (w : Writes (Choose i ∷ steps) c place slots) (digit : ℕ) (reads : On (Choose i) steps c place w.reading digit next) → (bits : ℕ) →
        option_and_then (choice format i) (slice_get format.fields i) ≡ Some bits → (f : Filling) → Open reads.after.base steps f → IsChosen bits digit (side_at (view f) i Uncompressed)
    chosen_is i steps c place next slots w digit reads bits is f h =
        let s = narrowed (Choose i) steps c place w.reading digit next reads f h in
        let p = fitted methods ctx (spot_at site) n format slots f (open_level (Choose i ∷ steps) c place slots w f s.was) in
        record {
          as_long = chosen_long methods table ctx site.args site.path format f p.level_fits p.each i bits is;
          number_is = sym (digits.choice methods cert counts format f i) ∙ s.theirs;
        }

    module _ (i : ℕ) (d : Field) (j : ℕ) (es : List Expr) (e : slice_get format.fields i ≡ Some d) (is : d.encoding ≡ encoding.Call j es) (asks : AsksNothing methods j) (slots : List Slot)
        (known : writer_knows_all format slots (inputs_of_all format es ++ in_header (is_header d.declared.part) (headers_before format i) (own_bits (is_headless (slice_get table j)) i)) ≡ true)
        (args : List ℤ) (args_are : vals (known_numbers format slots site.args) es ≡ Some args) where
      abbrev inside : Site
      inside = inner_site format slots site i d j args

      -- the filling inside an open one begins the source of the called method, and its number is the digit
      record Inside (f : Filling) : Type 0 where
        inner : Filling
        filled : IsFilled f i inner
        begins : Begins methods ctx inside inner
        digit_is : step_digit format (numbers_in methods cert counts f) (Call i) ≡ number methods cert counts inner j

      inside_of : (steps : List Step) (c : ℕ) (place : Digits) (w : Writes (Call i ∷ steps) c place slots) (f : Filling) → Open w.reading.base (Call i ∷ steps) f → Inside f
      inside_of steps c place w f h =
          let g = finds.called methods ctx site n format slots f h.begins (open_level (Call i ∷ steps) c place slots w f h) table base_on.are_sizes i d j es e is asks known in
          let same : g.args ≡ args = same_Some g.args args (sym g.args_are ∙ args_are) in
          record {
            inner = g.inner;
            filled = record { inner_is = g.inner_is; uncompressed = g.uncompressed; compressed = g.compressed };
            begins = subst (λ z. Begins methods ctx (inner_site format slots site i d j z) g.inner) same g.begins;
            digit_is = digits.call methods cert counts format f i j g.inner (called_is i d j es e is) g.inner_is;
          }

      pub filled_is : (steps : List Step) (c : ℕ) (place next : Digits) (w : Writes (Call i ∷ steps) c place slots) (digit : ℕ) (reads : On (Call i) steps c place w.reading digit next) (g : Filling) →
          IsNumbered methods cert counts ctx inside digit g → (f : Filling) → Open reads.after.base steps f → IsFilled f i g
      filled_is steps c place next w digit reads g numbered f h =
          let s = narrowed (Call i) steps c place w.reading digit next reads f h in
          let inner = inside_of steps c place w f s.was in
          subst (IsFilled f i) (numbered.alone inner.inner inner.begins (sym inner.digit_is ∙ s.theirs)) inner.filled

      pub call_fails : (steps : List Step) (c : ℕ) (place next : Digits) (w : Writes (Call i ∷ steps) c place slots) (digit : ℕ) → On (Call i) steps c place w.reading digit next → (m : ℕ) → digit + m ≤ ways counts format (Call i) →
          NoneNumbered methods cert counts ctx inside digit m → (skipped : ℕ) → ShareUpTo m next skipped → NoneNumbered methods cert counts ctx site c skipped
      call_fails steps c place next w digit reads m within none skipped share f begins from to =
          let s = share methods cert counts base_on.are_counts site.method n format (Call i) steps c place w.reading digit reads within f (tried f begins) from to in
          let inner = inside_of steps c place w f (record { begins = begins; within = s.0.within }) in
          none inner.inner inner.begins (subst (λ z. digit ≤ z) inner.digit_is s.1) (subst (λ z. z < digit + m) inner.digit_is s.2)

    pub fails : (steps : List Step) (c : ℕ) (place : Digits) (reading : Reading steps c place) → ((f : Filling) → Open reading.base steps f → ⊥) → (skipped : ℕ) → ShareDigits place skipped → NoneNumbered methods cert counts ctx site c skipped
    fails steps c place reading none skipped share f begins from to =
        none f (record { begins = begins; within = (share methods cert counts site.method n format steps c reading f (tried f begins) from to).within })

-- ---- the laws

pub begins_ahead : BeginsAhead
begins_ahead methods table top cert counts base ctx site n format steps c place slots w f h = open_level methods table top cert counts base ctx site n format steps c place slots w f h

pub choose_law : ChooseLaw
choose_law methods table top cert counts base ctx site n format i steps c place slots w digit next reads bits is f h =
    chosen_is methods table top cert counts base ctx site n format i steps c place next slots w digit reads bits is f h

pub writing_passes : WritingPasses
writing_passes methods table top cert counts base ctx site n format step steps c place old new w plain count grows have =
    passed methods table top cert counts base ctx site n format step steps c place old new w plain count grows have

pub writing_chooses : WritingChooses
writing_chooses methods table top cert counts base ctx site n format i steps c place next old new w digit reads count grows bits known is have =
    chosen methods table top cert counts base ctx site n format i steps c place next old new w digit reads count grows bits known is have

pub filled_law : FilledLaw
filled_law methods table top cert counts base ctx site n format i steps c place next slots w digit reads d j es e is asks known args args_are g numbered f h =
    filled_is methods table top cert counts base ctx site n format i d j es e is asks slots known args args_are steps c place next w digit reads g numbered f h

pub writing_calls : WritingCalls
writing_calls methods table top cert counts base ctx site n format i steps c place next old new w digit reads count grows d j es g e is known numbered have =
    calls methods table top cert counts base ctx site n format i steps c place next old new w digit reads count grows d j es g e is known numbered have

pub writing_fails : WritingFails
writing_fails methods table top cert counts base ctx site n format steps c place reading none skipped share =
    fails methods table top cert counts base ctx site n format steps c place reading none skipped share

pub call_fails_law : CallFails
call_fails_law methods table top cert counts base ctx site n format i steps c place next slots w digit reads d j es e is asks known args args_are m within none skipped share =
    call_fails methods table top cert counts base ctx site n format i d j es e is asks slots known args args_are steps c place next w digit reads m within none skipped share

pub writing_starts : WritingStarts
writing_starts methods table top cert counts base ctx site n format plans at plans_at c place reading base_is = record {
  at = at;
  count = started 0 format.fields;
  reading = reading;
  have = λ f h.
      start_has methods ctx (spot_at site) n format f (record { more = packed f; in_front = record { fits = h.begins.fits; rest = []; front = sym (append-nil (packed f)) } })
      (reading.all f (tried methods table top cert counts base ctx site f h.begins) h.within).format_is at;
  tell = λ later f grown is has. subst (λ z. HasRead methods cert counts site.method n format z plans.write f) (sym base_is) (digits.begun methods cert counts site.method n format plans at plans_at f is);
}
  where
    started : (k : ℕ) (ds : List Field) → length (start_slots format.listing k ds) ≡ length ds
    started k [] = refl
    started k (d ∷ ds) = ap suc (started (suc k) ds)
