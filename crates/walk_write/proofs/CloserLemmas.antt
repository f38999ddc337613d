-- Why candidates fail where a field can't have the value that it is asked for, or a call has no way inside.
use Rattle.std.proofs.Common.{◌≡◌, refl, sym, ◌∙◌, ap, subst, ℕ, ◌+◌, ◌<◌, ◌≤◌, List, [], ◌∷◌, length, append-nil, drop, inl, inr, arith}
use Rattle.std.proofs.lemmas.Bool.{cases_lt}
use Rattle.std.proofs.lemmas.Option.{slice_get_within}
use Rattle.std.specs.Prelude.{Option, Some, None, IfOk, IfSome, Ok, Err, Result, slice_get, true, ℤ, Bool}
use Rattle.sem_context.specs.Entries.{bits_at}
use Rattle.sem_expr.specs.declared.expr.Side.TheVariants.{Uncompressed}
use Rattle.sem_expr.specs.declared.interval.Interval.{Interval}
use Rattle.sem_profile.specs.declared.profile.Field.{Field}
use Rattle.sem_profile.specs.declared.profile.Format.{Format}
use Rattle.sem_filling.specs.declared.filling.AskedValue.{AskedValue}
use Rattle.sem_filling.specs.declared.filling.Filling.{out-Filling}
use Rattle.sem_filling.specs.Bounded.{ArgumentsLie}
use Rattle.sem_filling.specs.Entries.{below}
use Rattle.sem_filling.specs.Fillings.{level, sides_of}
use Rattle.sem_filling.specs.Fits.{format_at}
use Rattle.sem_filling.proofs.FitsInverted.{parts}
use Rattle.sem_filling.proofs.FitsSized.{one_value}
use Rattle.cert_types.specs.declared.certificate.Step.TheVariants.{Call, Ask}
use Rattle.cert_rules.specs.Views.{view, side_at}
use Rattle.cert_rules.proofs.ViewsAgree.{side_is}
use Rattle.cert_rules.proofs.ViewsInputs.{declared_of, declared_in}
use Rattle.cert_candidates.specs.declared.digits.Digits.{Digits}
use Rattle.cert_candidates.specs.Reading.{ShareDigits}
use Rattle.cert_candidates.specs.Writing.{Site, NoneNumbered, asked_before}
use Rattle.cert_candidates.proofs.CodesFitting.{is_candidate}
use Rattle.cert_candidates.proofs.WritingSteps.{asked_at, asks_none}
use Rattle.cert_accepted.specs.Accepted.{Accepting}
use Rattle.cert_accepted.specs.declared.frame.AcceptedFrame.{AcceptedFrame}
use Rattle.walk_write.specs.declared.premises.Chosen.{Chosen}
use Rattle.walk_write.specs.declared.foresight.CalledField.{CalledField}
use Rattle.walk_write.specs.declared.foresight.Outlook.{Outlook}
use Rattle.walk_write.specs.Closer.{FailsInside, IsHeaderCall, LiesAt}
use Rattle.walk_write.specs.Foresight.{StandsBefore}
use Rattle.walk_write.specs.Premises.{told_numbers}
use Rattle.walk_write.specs.Refutation.{IsOther, reference_at}
use Rattle.walk_write.specs.Sources.{front}
use Rattle.walk_write.specs.Walking.{site_of, Fails}
use Rattle.walk_write.proofs.Called.{asks_nothing}
use Rattle.walk_write.proofs.ForesightLemmas.{AreKeptOut, in_front}
use Rattle.walk_write.proofs.GoingInner.{moved}
use Rattle.walk_write.proofs.PremisesLemmas.{field_p, filled, value_is}
use Rattle.walk_write.proofs.RefutationNever.{none_held}

-- ---- ranges

pub each_next : (P : ℕ → Type 0) (i : ℕ) → ((j : ℕ) → j < i → P j) → P i → (j : ℕ) → j < i + 1 → P j
each_next P i before here j l = elim (cases_lt j i) [ inl below ↦ before j below | inr over ↦ subst P (omega (arith, l, over)) here ]

pub all_lie : (ranges : List Interval) (numbers : List ℤ) (n : ℕ) → length numbers ≡ length ranges → length ranges ≤ n → ((j : ℕ) → j < n → LiesAt ranges numbers j) → ArgumentsLie ranges numbers
all_lie ranges numbers n count le each = record { count = count; each = λ i r v at there. let l = slice_get_within ranges i r at in each i (omega (arith, l, le)) r v at there }

-- ---- what is told

pub some_weaker : {A E : Type 0} (P Q : A → Type 0) (r : Result (Option A) E) → ((x : A) → P x → Q x) → IfOk r (λ o. IfSome o P) → IfOk r (λ o. IfSome o Q)
some_weaker P Q (Ok (Some x)) to p = to x p
some_weaker P Q (Ok None) to p = tt
some_weaker P Q (Err e) to p = tt

-- where the field can't have the value that it is asked for, those that share the digits fail
pub asked_fails : (place : AcceptedFrame) (n : ℕ) (format : Format) (asked : List AskedValue) (i : ℕ) (c : ℕ) (digits : Digits) (choices : List Chosen) → StandsBefore place n format asked (Ask i) c digits choices →
    (d : Field) (value : AskedValue) → slice_get format.fields i ≡ Some d → d.declared.asked ≡ true → slice_get asked (asked_before format i) ≡ Some value →
    IsOther place.accepted.now.profile (told_numbers format place.frame.arguments.now []) d.encoding (reference_at place d) value.bits → (bits : List Bool) (alike : ℕ) → alike + digits.rest ≡ digits.span → ShareDigits digits alike →
    Fails place bits asked c alike
asked_fails place n format asked i c digits choices w d value field_is is_asked value_at other bits alike count share = record {
  some = let below = w.seen.reading.below in omega (arith, below, count);
  within = λ m at. let room = w.seen.room m at in omega (arith, room, count);
  none = λ f begins from to.
      let methods = place.accepted.now.profile.methods in
      let entries = place.accepted.now.certificate.methods in
      let counts = place.accepted.now.counts in
      let ctx = bits_at place.frame.context.now in
      let base = w.seen.checked in
      let tried = is_candidate methods place.accepted.now.profile.sizes place.accepted.now.profile.top base.version entries base.are_sizes base.valid counts ctx begins.fits in
      let s = share methods entries counts place.frame.method n format (Ask i ∷ w.later) c w.seen.reading f tried from to in
      let p = parts begins.fits in
      let one : p.format ≡ format = one_value (format_at methods place.frame.method n) p.format format (ap (format_at methods place.frame.method) (sym s.read.format_is) ∙ p.is_format) w.seen.format_is in
      let g = filled methods ctx place.frame.method place.frame.arguments.now place.frame.path.now format [] f p one tt i d field_is in
      let fits = p.each i d g.0 (field_p methods ctx place.frame.method place.frame.arguments.now place.frame.path.now format [] f p one tt i d field_is) g.1 in
      let found = asked_at format.fields (level f) (subst (λ (z : Format). declared_of (level f) ≡ declared_in z.fields) one p.level_fits.shaped.declared_is) i d field_is is_asked in
      let there : slice_get asked (asked_before format i) ≡ Some (record { name = d.declared.name; bits = side_at (view f) i Uncompressed }) = ap (λ z. slice_get z (asked_before format i)) (sym begins.asked_are) ∙ found in
      let theirs : Some (record { name = d.declared.name; bits = side_at (view f) i Uncompressed }) ≡ Some value = sym there ∙ value_at in
      let same : side_at (view f) i Uncompressed ≡ value.bits = let own : (record { name = d.declared.name; bits = side_at (view f) i Uncompressed }) ≡ value = cc in ap (λ (z : AskedValue). z.bits) own in
      none_held place.accepted.now.profile w.seen.sound.sized ctx _ (told_numbers format place.frame.arguments.now []) _
      (value_is methods ctx place.frame.method place.frame.arguments.now place.frame.path.now format [] f p one tt) place.frame.path.now d g.0 fits value.bits [] other
      (sym same ∙ side_is f i g.0 Uncompressed g.1 ∙ sym (append-nil (sides_of g.0).uncompressed));
}

-- where the walk inside a call of the header has no way, none of so many is inside
pub fails_out : (o : Outlook) (c : ℕ) (old : Digits) (choices : List Chosen) (x : CalledField) → StandsBefore o.place.now o.index o.format.now o.source.now.asked.now (Call x.index) c old choices → IsHeaderCall o x →
    (digit many : ℕ) → FailsInside o x digit many → AreKeptOut o.place.now o.index o.format.now x.index x.field.now x.method x.arguments.now digit many (front o.source.now) o.source.now.asked.now
fails_out o c old choices x w call digit many h =
    let place = o.place.now in
    let there = h.there in
    let same = h.placed.accepted_is in
    let bits = front o.source.now in
    let site : Site = record { method = x.method; args = x.arguments.now; path = below place.frame.path.now x.field.now.declared.name; source = drop h.offset bits; asked = [] } in
    let none = moved (λ methods b ctx s. NoneNumbered methods b.certificate.methods b.counts ctx s digit many) there.accepted.now.profile.methods place.accepted.now.profile.methods (ap (λ (z : Accepting). z.profile.methods) same)
    there.accepted.now place.accepted.now same (bits_at there.frame.context.now) (bits_at place.frame.context.now) (ap bits_at h.placed.context_is) (site_of there (drop h.offset bits) []) site
    (λ k. record { method = h.placed.method_is k; args = h.placed.args_are k; path = h.placed.path_is k; source = drop h.offset bits; asked = [] }) h.fails.none in
    record {
      some = h.fails.some;
      within = λ m at. h.fails.within m (subst (λ (z : Accepting). slice_get z.counts there.frame.method ≡ Some m) (sym same) (subst (λ k. slice_get place.accepted.now.counts k ≡ Some m) (sym h.placed.method_is) at));
      none = λ f begins f_format inside from to.
          let before = in_front place o.index o.format.now x.index x.field.now x.method x.arguments.now (out-Filling inside.inner).format bits w.seen.sound w.seen.format_is call.field_is o.source.now.asked.now f begins f_format inside refl h.sizes h.offset call.in_header
          h.sizes_are h.before in
          none inside.inner
          (record {
            fits = inside.fits;
            rest = before.0;
            in_front = before.1;
            asked_are = asks_none place.accepted.now.profile.methods (bits_at place.frame.context.now) x.method x.arguments.now (below place.frame.path.now x.field.now.declared.name) inside.inner inside.fits
                (asks_nothing place.accepted.now.profile w.seen.sound place.frame.method o.index x.index x.method o.format.now x.field.now call.exprs w.seen.format_is call.field_is call.encoding_is);
          })
          from to;
    }
