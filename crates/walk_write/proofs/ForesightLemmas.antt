-- Why candidates fail where the filling inside a call of their plan can't have its digit.
use Rattle.std.proofs.Common.{◌≡◌, refl, sym, ◌∙◌, ap, subst, ℕ, ◌+◌, ◌*◌, ◌^◌, ◌<◌, ◌≤◌, Bool, true, List, [], ◌∷◌, ◌++◌, length, drop, inl, inr, arith}
use Rattle.std.specs.Prelude.{ℤ, Option, Some, None, IfNone, IfSome, slice_get, option_map, option_and_then}
use Rattle.std.specs.Option.{unwrap_or}
use Rattle.std.proofs.lemmas.Bool.{cases_lt}
use Rattle.std.proofs.lemmas.Option.{same_Some}
use Rattle.std.proofs.Math.Nat.{mul-le-mul_right}
use Rattle.sem_bits.specs.Number.{num}
use Rattle.sem_context.specs.Entries.{bits_at}
use Rattle.sem_expr.specs.declared.expr.Expr.{Expr}
use Rattle.sem_expr.specs.declared.expr.Side.TheVariants.{Uncompressed}
use Rattle.sem_profile.specs.declared.profile.Encoding.TheVariants as encoding
use Rattle.sem_profile.specs.declared.profile.Field.{Field}
use Rattle.sem_profile.specs.declared.profile.Format.{Format}
use Rattle.sem_profile.specs.declared.profile.FormatSizes.{FormatSizes}
use Rattle.sem_profile.specs.declared.profile.Method.{Method}
use Rattle.sem_profile.specs.Resolved.{IsSound}
use Rattle.sem_filling.specs.declared.filling.AskedValue.{AskedValue}
use Rattle.sem_filling.specs.declared.filling.Filling.{Filling, out-Filling}
use Rattle.sem_filling.specs.Entries.{below}
use Rattle.sem_filling.specs.Fillings.{inner_at, level, asked_values, header, is_header, sides_of}
use Rattle.sem_filling.specs.Bounded.{sizes_at}
use Rattle.sem_filling.specs.Fits.{Context, Fits, format_at, vals}
use Rattle.sem_filling.proofs.FitsInverted.{FitsParts, parts, called_parts}
use Rattle.sem_filling.proofs.FitsSized.{one_value}
use Rattle.cert_types.specs.declared.certificate.Plans.{Plans}
use Rattle.cert_types.specs.declared.certificate.Step.{Step}
use Rattle.cert_types.specs.declared.certificate.Step.TheVariants.{Take, Call, LibraryUp, LibraryDown, MethodLength, ConstraintLength, Solve, Choose, Ask}
use Rattle.cert_types.specs.Kept.{Entries}
use Rattle.cert_rules.specs.Counts.{callee, ways}
use Rattle.cert_rules.specs.Rules.{choice}
use Rattle.cert_rules.specs.Views.{view, side_at}
use Rattle.cert_rules.proofs.ViewsAgree.{side_is, inner_is}
use Rattle.cert_rules.proofs.ViewsInputs.{declared_of, declared_in}
use Rattle.cert_candidates.specs.declared.digits.Digits.{Digits}
use Rattle.cert_candidates.specs.declared.digits.Start.{Start}
use Rattle.cert_candidates.specs.Codes.{number, called_at, write_plan, IsCandidate}
use Rattle.cert_candidates.specs.Reading.{Divides, IsNext, CarriesOn, IsReading, ShareDigits, ShareUpTo}
use Rattle.cert_candidates.proofs.CodesFitting.{is_candidate}
use Rattle.cert_candidates.proofs.CodesKept.{reading_passes, reading_parts, ways_of_choice, ways_of_call}
use Rattle.cert_candidates.proofs.Reading as digits
use Rattle.cert_accepted.specs.Accepted.{Accepting}
use Rattle.cert_accepted.specs.declared.frame.AcceptedFrame.{AcceptedFrame}
use Rattle.cert_candidates.specs.Writing.{Begins as StandsIn, asked_before}
use Rattle.cert_candidates.proofs.WritingSteps.{asked_at}
use Rattle.walk_write.specs.declared.premises.Chosen.{Chosen}
use Rattle.walk_write.specs.Foresight.{IsAsked, IsAskedFor, HasSeen, StandsBefore, SeesOn, IsCounted, IsRefutedInside, by_values, by_start, AreRefutedInside}
use Rattle.walk_write.specs.Going.{Begins}
use Rattle.cert_compiled.specs.Offsets.{HaveBefore}
use Rattle.walk_write.specs.Refutation.{HasFalse, Differs, operand}
use Rattle.walk_write.specs.Premises.{HasChosen, told_numbers}
use Rattle.walk_write.specs.Walking.{site_of, Fails}
use Rattle.walk_write.proofs.Called.{is_method}
use Rattle.walk_write.proofs.GoingInner.{moved}
use Rattle.walk_write.proofs.WalkingPassing.{room_next}
use Rattle.walk_write.proofs.RefutationHeaders.{held}
use Rattle.walk_write.proofs.RefutationLacked.{none_false}
use Rattle.walk_write.proofs.RefutationNever.{never_begins, no_other}
use Rattle.walk_write.proofs.PremisesLemmas.{field_p, filled, values_are}

-- ---- choices

more_chosen : (f : Filling) (xs : List Chosen) (x : Chosen) → HasChosen f xs → num (side_at (view f) x.field Uncompressed) ≡ x.digit → HasChosen f (xs ++ x ∷ [])
more_chosen f [] x h e = (e, tt)
more_chosen f (y ∷ ys) x h e = (h.0, more_chosen f ys x h.1 e)

pub if_none : {A P : Type 0} (o : Option A) → P → IfNone o P
if_none None h = h
if_none (Some x) h = tt

pub if_some : {A : Type 0} {P Q : A → Type 0} (o : Option A) → IfSome o P → ((x : A) → P x → Q x) → IfSome o Q
if_some None h f = tt
if_some (Some x) h f = f x h

-- those that fail are numbered by 64 bits
pub fails_fit : (place : AcceptedFrame) (bits : List Bool) (asked : List AskedValue) (c many : ℕ) → IsCounted place → Fails place bits asked c many → c + many < 2 ^ 64
fails_fit place bits asked c many counted h = let room = h.within counted.count counted.count_is in let fits = counted.fits in omega (arith, room, fits)

-- ---- steps before a call

one_way : (counts : List ℕ) (format : Format) (one : Step) → ((i : ℕ) → one ≡ Call i → ⊥) → ((i : ℕ) → one ≡ Choose i → ⊥) → ways counts format one ≡ 1
one_way counts format (Call i) no_call no_choice = absurd (no_call i refl)
one_way counts format (Choose i) no_call no_choice = absurd (no_choice i refl)
one_way counts format (Take i) no_call no_choice = refl
one_way counts format (LibraryUp i) no_call no_choice = refl
one_way counts format (LibraryDown i) no_call no_choice = refl
one_way counts format (MethodLength i side) no_call no_choice = refl
one_way counts format (ConstraintLength i side k) no_call no_choice = refl
one_way counts format (Solve i k) no_call no_choice = refl
one_way counts format (Ask i) no_call no_choice = refl

module _ (place : AcceptedFrame) (n : ℕ) (format : Format) (asked : List AskedValue) (c : ℕ) where
  abbrev methods : List Method
  methods = place.accepted.now.profile.methods

  abbrev cert : Entries
  cert = place.accepted.now.certificate.methods

  abbrev counts : List ℕ
  counts = place.accepted.now.counts

  goes_by : (one : Step) → ways counts format one ≡ 1 → (old : Digits) (choices : List Chosen) → SeesOn place n format asked one c old choices old choices
  goes_by one alone old choices later h =
      let reads = reading_passes methods cert counts h.checked.are_counts place.frame.method n format one later c old alone h.reading in
      record { sound = h.sound; checked = h.checked; format_is = h.format_is; reading = reads.after; told = λ f is tried within. h.told f is tried (reads.inside f within); room = h.room }

  -- a step that is neither a call nor a choice
  pub passes : (one : Step) → ((i : ℕ) → one ≡ Call i → ⊥) → ((i : ℕ) → one ≡ Choose i → ⊥) → (old : Digits) (choices : List Chosen) → SeesOn place n format asked one c old choices old choices
  passes one no_call no_choice = goes_by one (one_way counts format one no_call no_choice)

  -- a choice that has no width
  pub passes_choice : (i : ℕ) → option_and_then (choice format i) (slice_get format.fields i) ≡ None → (old : Digits) (choices : List Chosen) → SeesOn place n format asked (Choose i) c old choices old choices
  passes_choice i none = goes_by (Choose i) (ap (λ o. unwrap_or (option_map (λ (m : ℕ). 2 ^ m) o) 1) none)

  module _ (i width : ℕ) (is : option_and_then (choice format i) (slice_get format.fields i) ≡ Some width) where
    ways_is : 2 ^ width ≡ ways counts format (Choose i)
    ways_is = sym (ways_of_choice counts format i width is)

    pub choice_parts : (old : Digits) (choices : List Chosen) → StandsBefore place n format asked (Choose i) c old choices → Divides (2 ^ width) old.span
    choice_parts old choices w = reading_parts methods cert counts place.frame.method n format (Choose i) w.later c old w.seen.reading (2 ^ width) ways_is

    pub chooses : (old new : Digits) (digit : ℕ) → IsNext (2 ^ width) old digit new → CarriesOn (2 ^ width) old digit new → (choices : List Chosen) →
        SeesOn place n format asked (Choose i) c old choices new (choices ++ record { field = i; digit = digit } ∷ [])
    chooses old new digit split carries choices later h =
        let reads = carries methods cert counts h.checked.are_counts place.frame.method n format (Choose i) later c ways_is h.reading in
        record {
          sound = h.sound;
          checked = h.checked;
          format_is = h.format_is;
          reading = reads.after;
          told = λ f is tried within.
              more_chosen f choices (record { field = i; digit = digit }) (h.told f is tried (reads.inside f within)) (sym (digits.choice methods cert counts format f i) ∙ reads.theirs f tried within);
          room = λ m at. room_next (2 ^ width) c m digit old new split (h.room m at);
        }

  -- an asked field has the value that is asked for
  pub asks : (i digit : ℕ) → IsAskedFor format asked i digit → (old : Digits) (choices : List Chosen) → SeesOn place n format asked (Ask i) c old choices old (choices ++ record { field = i; digit = digit } ∷ [])
  asks i digit it old choices later h =
      let reads = reading_passes methods cert counts h.checked.are_counts place.frame.method n format (Ask i) later c old refl h.reading in
      record {
        sound = h.sound;
        checked = h.checked;
        format_is = h.format_is;
        reading = reads.after;
        told = λ f theirs tried within. more_chosen f choices (record { field = i; digit = digit }) (h.told f theirs tried (reads.inside f within)) (ap num (own f theirs) ∙ it.digit_is);
        room = h.room;
      }
    where
      own : (f : Filling) → IsAsked place n asked f → side_at (view f) i Uncompressed ≡ it.value.bits
      own f theirs =
          let p = parts theirs.fits in
          let one : p.format ≡ format = one_value (format_at methods place.frame.method n) p.format format (ap (format_at methods place.frame.method) (sym theirs.of_format) ∙ p.is_format) h.format_is in
          let found = asked_at format.fields (level f) (subst (λ (z : Format). declared_of (level f) ≡ declared_in z.fields) one p.level_fits.shaped.declared_is) i it.field it.field_is it.is_asked in
          let there : slice_get asked (asked_before format i) ≡ Some (record { name = it.field.declared.name; bits = side_at (view f) i Uncompressed }) = ap (λ z. slice_get z (asked_before format i)) (sym theirs.asked_are) ∙ found in
          ap (λ (z : AskedValue). z.bits) (same_Some (record { name = it.field.declared.name; bits = side_at (view f) i Uncompressed }) it.value (sym there ∙ it.value_is))

  pub way_parts : (i radix : ℕ) → radix ≡ ways counts format (Call i) → (old : Digits) (choices : List Chosen) → StandsBefore place n format asked (Call i) c old choices → Divides radix old.span
  way_parts i radix ways_are old choices w = reading_parts methods cert counts place.frame.method n format (Call i) w.later c old w.seen.reading radix ways_are

  -- a call, whose digit is read
  pub calls : (i radix : ℕ) → radix ≡ ways counts format (Call i) → (old new : Digits) (digit : ℕ) → IsNext radix old digit new → CarriesOn radix old digit new → (choices : List Chosen) →
      SeesOn place n format asked (Call i) c old choices new choices
  calls i radix ways_are old new digit split carries choices later h =
      let reads = carries methods cert counts h.checked.are_counts place.frame.method n format (Call i) later c ways_are h.reading in
      record {
        sound = h.sound;
        checked = h.checked;
        format_is = h.format_is;
        reading = reads.after;
        told = λ f is tried within. h.told f is tried (reads.inside f within);
        room = λ m at. room_next radix c m digit old new split (h.room m at);
      }

-- what is seen of a number is seen of one further on that shares the digits
pub seen_on : (place : AcceptedFrame) (n : ℕ) (format : Format) (asked : List AskedValue) (steps : List Step) (c : ℕ) (old new : Digits) (choices : List Chosen) → HasSeen place n format asked steps c old choices →
    (many : ℕ) → new.rest ≡ old.rest + many → new.span ≡ old.span → new.rest < new.span → HasSeen place n format asked steps (c + many) new choices
seen_on place n format asked steps c old new choices h many rest_is span_is below = record {
  sound = h.sound;
  checked = h.checked;
  format_is = h.format_is;
  reading = record { base = h.reading.base; all = h.reading.all; span_is = span_is ∙ h.reading.span_is; below = below; number_is = let e = h.reading.number_is in omega (arith, e, rest_is) };
  told = h.told;
  room = λ m at. let room = h.room m at in omega (arith, room, rest_is, span_is);
}

-- where a plan begins
pub sees : (place : AcceptedFrame) (c : ℕ) (start : Start) → Begins place c start → (plans : Plans) → write_plan place.accepted.now.certificate.methods place.frame.method start.format ≡ Some plans →
    (format : Format) → format_at place.accepted.now.profile.methods place.frame.method start.format ≡ Some format → (asked : List AskedValue) → HasSeen place start.format format asked plans.write c start.digits []
sees place c start b plans plans_are format format_is asked =
    let Reads : Format → Plans → Type 0 =
    λ x y. IsReading place.accepted.now.profile.methods place.accepted.now.certificate.methods place.accepted.now.counts place.frame.method start.format x y.write c start.digits in
    let reading = subst (Reads format) (same_Some b.plans plans (sym b.plans_are ∙ plans_are)) (subst (λ z. Reads z b.plans) (same_Some b.format format (sym b.format_is ∙ format_is)) b.reading) in
    record { sound = b.sound; checked = b.checked; format_is = format_is; reading = reading; told = λ f is tried within. tt; room = b.room }

-- ---- the values that are known

-- ---- the filling inside

-- the filling inside a field that calls a method, under these values
pub record Inside (ctx : Context) (methods : List Method) (path : List ℕ) (i : ℕ) (d : Field) (j : ℕ) (args : List ℤ) (f : Filling) : Type 0 where
  pub inner : Filling
  pub inner_is : inner_at f i ≡ Some inner
  pub fits : Fits methods ctx j args (below path d.declared.name) inner
  pub header_is : side_at (view f) i Uncompressed ≡ header inner

module _ (methods : List Method) (ctx : Context) (k : ℕ) (args : List ℤ) (path : List ℕ) (format : Format) (choices : List Chosen) (f : Filling) (p : FitsParts methods ctx k args path f) (one : p.format ≡ format) (chosen : HasChosen f choices) where
  inside : (i : ℕ) (d : Field) (j : ℕ) (es : List Expr) → slice_get format.fields i ≡ Some d → d.encoding ≡ encoding.Call j es → (vs : List ℤ) → vals (told_numbers format args choices) es ≡ Some vs → Inside ctx methods path i d j vs f
  inside i d j es at is vs told =
      let g = filled methods ctx k args path format choices f p one chosen i d at in
      let called = called_parts methods ctx (p.each i d g.0 (field_p methods ctx k args path format choices f p one chosen i d at) g.1) j es is in
      let same : called.args ≡ vs = same_Some called.args vs (sym called.is_args ∙ values_are methods ctx k args path format choices f p one chosen es vs told) in
      record {
        inner = called.inner;
        inner_is = inner_is f i g.0 g.1 ∙ called.is_inner;
        fits = subst (λ z. Fits methods ctx j z (below path d.declared.name) called.inner) same called.inner_fits;
        header_is = side_is f i g.0 Uncompressed g.1 ∙ called.header_is;
      }

-- the filling inside isn't of a format that is refuted
module _ (place : AcceptedFrame) (n : ℕ) (format : Format) (i : ℕ) (d : Field) (j : ℕ) (args : List ℤ) (m : ℕ) (bits : List Bool) (sound : IsSound place.accepted.now.profile)
    (format_is : format_at place.accepted.now.profile.methods place.frame.method n ≡ Some format) (field_is : slice_get format.fields i ≡ Some d) (asked : List AskedValue) (f : Filling)
    (b : StandsIn place.accepted.now.profile.methods (bits_at place.frame.context.now) (site_of place bits asked) f) (of_format : (out-Filling f).format ≡ n)
    (x : Inside (bits_at place.frame.context.now) place.accepted.now.profile.methods place.frame.path.now i d j args f) (of_inner : (out-Filling x.inner).format ≡ m) where
  abbrev their : List Method
  their = place.accepted.now.profile.methods

  no_value : (inner : Format) → format_at their j m ≡ Some inner → HasFalse (operand args) inner.constraints → ⊥
  no_value inner at h =
      let q = parts x.fits in
      let one : q.format ≡ inner = one_value (format_at their j m) q.format inner (ap (format_at their j) (sym of_inner) ∙ q.is_format) at in
      none_false their (bits_at place.frame.context.now) j args (below place.frame.path.now d.declared.name) x.inner q inner one h

  -- where the field begins, its header is in front
  pub in_front : (sizes : FormatSizes) (offset : ℕ) → is_header d.declared.part ≡ true → sizes_at place.accepted.now.profile.sizes place.frame.method n ≡ Some sizes → HaveBefore format.fields sizes.fields i offset →
      (rest : List Bool) × (drop offset bits ≡ header x.inner ++ rest)
  in_front sizes offset at_front sizes_are before =
      let p = parts b.fits in
      let one : p.format ≡ format = one_value (format_at their place.frame.method n) p.format format (ap (format_at their place.frame.method) (sym of_format) ∙ p.is_format) format_is in
      let t = held their place.accepted.now.profile.sizes sound.sized (bits_at place.frame.context.now) place.frame.method place.frame.arguments.now place.frame.path.now f p b.fits format one sizes
      (ap (sizes_at place.accepted.now.profile.sizes place.frame.method) of_format ∙ sizes_are) bits b.rest b.in_front i offset d before field_is at_front in
      let own : (sides_of t.field).uncompressed ≡ header x.inner = sym (side_is f i t.field Uncompressed t.field_is) ∙ x.header_is in
      (t.later, t.there ∙ ap (λ z. z ++ t.later) own)

  not_inside : IsRefutedInside place n format i d j args m bits → ⊥
  not_inside (by_values inner at h) = no_value inner at h
  not_inside (by_start sizes offset there at_front sizes_are before is refuted) =
      let front = in_front sizes offset at_front sizes_are before in
      let same = is.accepted_is in
      let fits = moved (λ methods a ctx site. Fits methods ctx site.method site.args site.path x.inner) their there.accepted.now.profile.methods (ap (λ (z : Accepting). z.profile.methods) (sym same)) place.accepted.now there.accepted.now (sym same)
      (bits_at place.frame.context.now) (bits_at there.frame.context.now) (ap bits_at (sym is.context_is)) (record { method = j; args = args; path = below place.frame.path.now d.declared.name; source = drop offset bits; asked = asked_values (level x.inner) })
      (site_of there (drop offset bits) (asked_values (level x.inner))) (λ k. record { method = sym is.method_is k; args = sym is.args_are k; path = sym is.path_is k; source = drop offset bits; asked = asked_values (level x.inner) }) x.fits in
      never_begins there (subst (λ (z : Accepting). IsSound z.profile) (sym same) sound) m (drop offset bits) refuted (asked_values (level x.inner)) x.inner
      (record { fits = fits; rest = front.0; in_front = front.1; asked_are = refl }) of_inner

-- those of the called method that share the digits of a number are of the format that it falls into
module _ (place : AcceptedFrame) (c : ℕ) (start : Start) (inner : AcceptedFrame) (same : inner.accepted.now ≡ place.accepted.now) (b : Begins inner c start) (many : ℕ) (count : many + start.digits.rest ≡ start.digits.span)
    (share : ShareDigits start.digits many) where
  abbrev OfFormat : Accepting → Type 0
  OfFormat a = (g : Filling) → IsCandidate a.profile.methods a.certificate.methods a.counts inner.frame.method g → c ≤ number a.profile.methods a.certificate.methods a.counts g inner.frame.method →
      number a.profile.methods a.certificate.methods a.counts g inner.frame.method < c + many → (out-Filling g).format ≡ start.format

  of_format : OfFormat inner.accepted.now
  of_format g tried least most =
      (share inner.accepted.now.profile.methods inner.accepted.now.certificate.methods inner.accepted.now.counts inner.frame.method start.format b.format b.plans.write c b.reading g tried least most).read.format_is

  pub all_refuted : (n : ℕ) (format : Format) (i : ℕ) (d : Field) (args : List ℤ) (bits : List Bool) → IsRefutedInside place n format i d inner.frame.method args start.format bits →
      AreRefutedInside place n format i d inner.frame.method args c many bits
  all_refuted n format i d args bits refuted = record {
    some = let below = b.reading.below in omega (arith, below, count);
    within = λ m at. let room = b.room m (subst (λ (a : Accepting). slice_get a.counts inner.frame.method ≡ Some m) (sym same) at) in omega (arith, room, count);
    refuted = λ g tried least most. subst (λ z. IsRefutedInside place n format i d inner.frame.method args z bits) (sym (subst OfFormat same of_format g tried least most)) refuted;
  }

-- so many from c on, and so many more after them
module _ (place : AcceptedFrame) (n : ℕ) (format : Format) (i : ℕ) (d : Field) (j : ℕ) (args : List ℤ) (bits : List Bool) where
  pub record Inside_past (c next : ℕ) : Type 0 where
    pub many : ℕ
    pub next_is : c + many ≡ next
    pub are : 0 < many → AreRefutedInside place n format i d j args c many bits

  pub none_inside : (c : ℕ) → Inside_past c c
  none_inside c = record { many = 0; next_is = omega arith; are = λ l. absurd (omega (arith, l)) }

  pub more_inside : (c next more : ℕ) → Inside_past c next → AreRefutedInside place n format i d j args next more bits → Inside_past c (next + more)
  more_inside c next more p h = record {
    many = p.many + more;
    next_is = let e = p.next_is in omega (arith, e);
    are = λ l. record {
      some = l;
      within = λ m at. let e = p.next_is in let room = h.within m at in omega (arith, e, room);
      refuted = λ g tried least most.
          let e = p.next_is in
          let its = number place.accepted.now.profile.methods place.accepted.now.certificate.methods place.accepted.now.counts g j in
          elim (cases_lt its next) [
            | inl below ↦ (p.are (omega (arith, least, below, e))).refuted g tried least (omega (arith, below, e))
            | inr over ↦ h.refuted g tried over (omega (arith, most, e))
          ];
    };
  }

  -- all from the first number up to the next
  pub all_inside : (c next many : ℕ) → Inside_past c next → 0 < many → c + many ≡ next → AreRefutedInside place n format i d j args c many bits
  all_inside c next many p some is =
      let e = p.next_is in
      let same : p.many ≡ many = omega (arith, e, is) in
      subst (λ z. AreRefutedInside place n format i d j args c z bits) same (p.are (subst (λ z. 0 < z) (sym same) some))

-- ---- a call

-- no filling of the called method with one of so many numbers from c on, all of them numbers of candidates, is inside the field
pub record AreKeptOut (place : AcceptedFrame) (n : ℕ) (format : Format) (i : ℕ) (d : Field) (j : ℕ) (args : List ℤ) (c many : ℕ) (bits : List Bool) (asked : List AskedValue) : Type 0 where
  pub some : 0 < many
  pub within : (m : ℕ) → slice_get place.accepted.now.counts j ≡ Some m → c + many ≤ m
  pub none : (f : Filling) → StandsIn place.accepted.now.profile.methods (bits_at place.frame.context.now) (site_of place bits asked) f → (out-Filling f).format ≡ n →
      (x : Inside (bits_at place.frame.context.now) place.accepted.now.profile.methods place.frame.path.now i d j args f) → c ≤ number place.accepted.now.profile.methods place.accepted.now.certificate.methods place.accepted.now.counts x.inner j →
      number place.accepted.now.profile.methods place.accepted.now.certificate.methods place.accepted.now.counts x.inner j < c + many → ⊥

-- where so many digits fit in 64 bits fewer do
pub fewer_fit : (radix digit many span : ℕ) → digit + many ≤ radix → radix * span < 2 ^ 64 → many * span < 2 ^ 64
fewer_fit radix digit many span within fits =
    let most : many * span ≤ radix * span = mul-le-mul_right span (omega (arith, within)) in
    omega (arith, most, fits)

module _ (place : AcceptedFrame) (n : ℕ) (format : Format) (asked : List AskedValue) (c i : ℕ) (old : Digits) (choices : List Chosen) (w : StandsBefore place n format asked (Call i) c old choices) (d : Field) (j : ℕ) (es : List Expr)
    (field_is : slice_get format.fields i ≡ Some d) (encoding_is : d.encoding ≡ encoding.Call j es) where
  abbrev all : List Method
  all = place.accepted.now.profile.methods

  abbrev kept : Entries
  kept = place.accepted.now.certificate.methods

  abbrev told : List ℕ
  told = place.accepted.now.counts

  pub within : j < length all
  within = is_method place.accepted.now.profile w.seen.sound place.frame.method n i j format d es w.seen.format_is field_is encoding_is

  pub has_count : j < length told
  has_count = subst (λ z. j < z) (sym w.seen.checked.are_counts.each) within

  called_is : called_at format i ≡ Some j
  called_is = ap (option_and_then (λ (z : Field). callee z.encoding)) field_is ∙ ap callee encoding_is

  -- none of a format that is refuted inside
  pub refuted_out : (vs : List ℤ) (digit many : ℕ) (bits : List Bool) → AreRefutedInside place n format i d j vs digit many bits → AreKeptOut place n format i d j vs digit many bits asked
  refuted_out vs digit many bits are = record {
    some = are.some;
    within = are.within;
    none = λ f begins f_format x from to.
        let base = w.seen.checked in
        let tried = is_candidate all place.accepted.now.profile.sizes place.accepted.now.profile.top base.version kept base.are_sizes base.valid told (bits_at place.frame.context.now) x.fits in
        not_inside place n format i d j vs (out-Filling x.inner).format bits w.seen.sound w.seen.format_is field_is asked f begins f_format x refl (are.refuted x.inner tried from to);
  }

  module _ (radix : ℕ) (radix_is : slice_get told j ≡ Some radix) where
    ways_are : radix ≡ ways told format (Call i)
    ways_are = sym (ways_of_call told format i j radix called_is radix_is)

    pub call_parts : Divides radix old.span
    call_parts = reading_parts all kept told place.frame.method n format (Call i) w.later c old w.seen.reading radix ways_are

    module _ (next : Digits) (digit : ℕ) (split : IsNext radix old digit next) (carries : CarriesOn radix old digit next) (vs : List ℤ) (many : ℕ) (bits : List Bool)
        (are : AreKeptOut place n format i d j vs digit many bits asked) where
      room_inside : digit + many ≤ radix
      room_inside = are.within radix radix_is

      pub call_fails : vals (told_numbers format place.frame.arguments.now choices) es ≡ Some vs → (skipped : ℕ) → skipped + next.rest ≡ many * next.span → ShareUpTo many next skipped → Fails place bits asked c skipped
      call_fails values skipped sum up_to =
          let rest = next.rest in
          let span = next.span in
          let below = split.below in
          let some = are.some in
          let least : 1 * span ≤ many * span = mul-le-mul_right span (omega (arith, some)) in
          let whole : (digit + many) * span ≤ radix * span = mul-le-mul_right span room_inside in
          let parts_are : (digit + many) * span ≡ digit * span + many * span = omega arith in
          let span_is = split.span_is in
          let rest_is = split.rest_is in
          record {
            some = omega (arith, sum, below, least);
            within = λ m at. let room = w.seen.room m at in omega (arith, room, sum, whole, parts_are, span_is, rest_is);
            none = none;
          }
        where
          none : (f : Filling) → StandsIn all (bits_at place.frame.context.now) (site_of place bits asked) f → c ≤ number all kept told f place.frame.method → number all kept told f place.frame.method < c + skipped → ⊥
          none f begins from to =
              let base = w.seen.checked in
              let tried = is_candidate all place.accepted.now.profile.sizes place.accepted.now.profile.top base.version kept base.are_sizes base.valid told (bits_at place.frame.context.now) begins.fits in
              let reads = carries all kept told base.are_counts place.frame.method n format (Call i) w.later c ways_are w.seen.reading in
              let s = up_to all kept told base.are_counts place.frame.method n format (Call i) w.later c old w.seen.reading digit reads (subst (λ z. digit + many ≤ z) ways_are room_inside) f tried from to in
              let f_format = s.0.read.format_is in
              let p = parts begins.fits in
              let one : p.format ≡ format = one_value (format_at all place.frame.method n) p.format format (ap (format_at all place.frame.method) (sym f_format) ∙ p.is_format) w.seen.format_is in
              let x = inside all (bits_at place.frame.context.now) place.frame.method place.frame.arguments.now place.frame.path.now format choices f p one (w.seen.told f (record { fits = begins.fits; of_format = f_format; asked_are = begins.asked_are }) tried s.0.within) i d j es field_is encoding_is vs values in
              let numbered = digits.call all kept told format f i j x.inner called_is x.inner_is in
              are.none f begins f_format x (subst (λ z. digit ≤ z) numbered s.1) (subst (λ z. z < digit + many) numbered s.2)

-- ---- a choice

-- where the header has other bits than the choices give it, those that share the digits fail
pub choice_fails : (place : AcceptedFrame) (n : ℕ) (format : Format) (asked : List AskedValue) (steps : List Step) (c : ℕ) (digits : Digits) (choices : List Chosen) → HasSeen place n format asked steps c digits choices →
    (sizes : FormatSizes) → sizes_at place.accepted.now.profile.sizes place.frame.method n ≡ Some sizes → (bits : List Bool) → Differs place (told_numbers format place.frame.arguments.now choices) format.fields sizes.fields bits →
    (alike : ℕ) → alike + digits.rest ≡ digits.span → ShareDigits digits alike → Fails place bits asked c alike
choice_fails place n format asked steps c digits choices seen sizes sizes_are bits differs alike count share = record {
  some = let below = seen.reading.below in omega (arith, below, count);
  within = λ m at. let room = seen.room m at in omega (arith, room, count);
  none = λ f begins from to.
      let methods = place.accepted.now.profile.methods in
      let entries = place.accepted.now.certificate.methods in
      let counts = place.accepted.now.counts in
      let base = seen.checked in
      let tried = is_candidate methods place.accepted.now.profile.sizes place.accepted.now.profile.top base.version entries base.are_sizes base.valid counts (bits_at place.frame.context.now) begins.fits in
      let s = share methods entries counts place.frame.method n format steps c seen.reading f tried from to in
      no_other place seen.sound n bits asked f begins s.read.format_is format choices (seen.told f (record { fits = begins.fits; of_format = s.read.format_is; asked_are = begins.asked_are }) tried s.within) sizes seen.format_is sizes_are differs;
}
