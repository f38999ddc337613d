-- What the search for the best filling finds and passes.
use Rattle.std.proofs.Common.{◌≡◌, ◌∙◌, sym, ap, subst, ℕ, zero, suc, ◌+◌, ◌<◌, ◌≤◌, List, [], length, inl, inr, arith}
use Rattle.std.proofs.lemmas.Bool.{cases_lt}
use Rattle.std.specs.Prelude.{Option, Some, None, Result, Ok, Err, IfOk, IfSome, slice_get, slice_index_or}
use Rattle.std.specs.declared.alloc.AllocError.{AllocError}
use Rattle.std.proofs.lemmas.Option.{slice_get-get_or}
use Rattle.cert_candidates.specs.Best.{Best, IsUpTo}
use Rattle.cert_candidates.specs.Codes.{IsCandidate, code, number, ways_before}
use Rattle.cert_rules.specs.Spans.{method_spans}
use Rattle.cert_candidates.proofs.CodesFew.{kept_are_counts}
use Rattle.cert_candidates.proofs.CodesKept.{spans_are_kept}
use Rattle.cert_candidates.proofs.CodesBounds.{below}
use Rattle.cert_candidates.proofs.CodesCompares.{same_order}
use Rattle.cert_candidates.proofs.CodesFitting.{is_candidate}
use Rattle.cert_candidates.proofs.Packing.{found}
use Rattle.cert_accepted.specs.Accepted.{Accepting, IsAccepted}
use Rattle.sem_context.specs.Entries.{Entries, bits_at}
use Rattle.sem_filling.specs.declared.filling.Filling.{Filling, out-Filling}
use Rattle.sem_filling.specs.declared.filling.Item.{Item}
use Rattle.sem_filling.specs.Fillings.{item}
use Rattle.sem_profile.specs.declared.profile.Method.{Method}
use Rattle.sem_profile.specs.Resolved.{Resolved, IsSound}
use Rattle.cert_rules.specs.Counts.{AreCounts}
use Rattle.cert_trees.proofs.Counting.{each_is_counted}
use Rattle.cert_accepted.specs.declared.frame.AcceptedFrame.{AcceptedFrame}
use Rattle.cert_accepted.specs.Standing.{IsSingleOf}
use Rattle.cert_candidates.specs.Writing.{IsChecked, top_site}
use Rattle.cert_candidates.proofs.WritingLawsGoing.{top_begins, top_passes}
use Rattle.cert_candidates.proofs.WritingSingle.{one_numbered}
use Rattle.walk_write.specs.Walking.{Fails}
use Rattle.walk_write.proofs.Called.{asks_nothing}
use Rattle.walk_write.proofs.SingleNumbers.{least}
use Rattle.walk_engine.specs.declared.search.Candidate.{Candidate}
use Rattle.walk_engine.specs.declared.search.Packed.{Packed}
use Rattle.walk_engine.specs.declared.search.Tried.TheVariants.{Found}
use Rattle.walk_engine.specs.declared.writer.PackFault.{PackFault}
use Rattle.walk_engine.specs.Reading.{Fitting}
use Rattle.walk_engine.specs.Searching.{IsFirstFrom, IsFound, IsPassed, IsRight, IsTried, NoneFrom, number_in}
use Rattle.walk_engine.specs.Top.{IsTop}
use Rattle.walk_engine.specs.Writing.{IsPacked, IsPackedFrom}

-- ---- what is accepted, as the code has it

module _ (a : Accepting) (p : Resolved) (sound : IsSound p) (is : p ≡ a.profile) (accepted : IsAccepted a) where
  sound_of : IsSound a.profile
  sound_of = subst IsSound is sound

  checked_of : IsChecked a.profile.methods a.profile.sizes a.profile.top a.certificate.methods a.counts
  checked_of = record { are_sizes = sound_of.sized; version = a.certificate.version; valid = accepted.valid; are_counts = (kept_are_counts a.profile a.certificate.version a.certificate.methods a.counts sound_of accepted.valid accepted.counted).0 }

  -- the numbers of the formats are those by the numbers of the methods
  pub spans_are : (methods : List Method) (counts : List ℕ) (spans : List (List ℕ)) → methods ≡ p.methods → counts ≡ a.counts → spans ≡ a.spans → spans ≡ method_spans counts methods a.certificate.methods
  spans_are methods counts spans same_methods same_counts same_spans =
      let few = (kept_are_counts a.profile a.certificate.version a.certificate.methods a.counts sound_of accepted.valid accepted.counted).1 in
      rw (same_methods, is, same_counts, same_spans) (spans_are_kept a.profile.methods a.certificate.methods a.counts checked_of.are_counts few a.spans accepted.spanned)

module _ (a : Accepting) (ctx : Entries) (it : Item) where
  -- ---- what a candidate tells

  -- what a walk of the top passes the search passes
  pub passed : (place : AcceptedFrame) → IsTop a ctx place → (c skipped : ℕ) → Fails place it.header it.asked c skipped → IsPassed a ctx it c skipped
  passed place t c skipped h = record {
    some = h.some;
    within = rw (t.accepted_is, t.method_is) at h.within;
    none = top_passes a.profile.methods a.certificate.methods a.counts (bits_at ctx) a.profile.top it c skipped (rw (t.accepted_is, t.context_is, t.method_is, t.arguments_are, t.path_is) at h.none);
  }

  -- ---- the search

  -- of what fits and has the item nothing has a number from the first one on that is below this one
  pub record Searched (from count c : ℕ) : Type 0 where
    pub counted : slice_get a.counts a.profile.top ≡ Some count
    pub above : from ≤ c
    pub none : (g : Filling) → Fitting a ctx g → item g ≡ it → from ≤ number_in a g → c ≤ number_in a g

  searched_on : (from count c skipped : ℕ) → Searched from count c → IsPassed a ctx it c skipped → Searched from count (c + skipped)
  searched_on from count c skipped s p = record {
    counted = s.counted;
    above = let l = s.above in omega (arith, l);
    none = λ g there has l.
        elim (cases_lt (number_in a g) (c + skipped)) [
          | inl under ↦ absurd (p.none g there has (s.none g there has l) under)
          | inr past ↦ past
        ];
  }

  -- past those that looks tell of
  pub searched_past : (from count c many : ℕ) → Searched from count c → (0 < many → IsPassed a ctx it c many) → Searched from count (c + many)
  searched_past from count c zero s h = record { counted = s.counted; above = let l = s.above in omega (arith, l); none = λ g there has l. let least = s.none g there has l in omega (arith, least) }
  searched_past from count c (suc m) s h = searched_on from count c (suc m) s (h (omega arith))

  -- what is found is the first one
  pub first_found : (from count c : ℕ) (w : Packed) → Searched from count c → c < count → IsTried a ctx it c (Found w) → IsFirstFrom a ctx it from (record { packed = w; number = c })
  first_found from count c w s under t = record {
    fits = t.0.fits;
    has = t.0.has;
    packed_is = t.1;
    number_is = t.0.number_is;
    below = λ n at. subst (λ m. c < m) (injective (sym s.counted ∙ at)) under;
    above = s.above;
    first = λ g there has l up. let least = s.none g there has l in t.0.alone g there has (omega (arith, least, up));
  }
    where
      injective : {m n : ℕ} → Some m ≡ Some n → m ≡ n
      injective e = cc

  module _ (p : Resolved) (sound : IsSound p) (is : p ≡ a.profile) (accepted : IsAccepted a) where
    here : IsSound a.profile
    here = sound_of a p sound is accepted

    checked : IsChecked a.profile.methods a.profile.sizes a.profile.top a.certificate.methods a.counts
    checked = checked_of a p sound is accepted

    counted : AreCounts a.profile.methods a.certificate.methods a.counts
    counted = checked.are_counts

    -- what fits and has the item and the number is the only one
    pub found_for : (c : ℕ) (f : Filling) → Fitting a ctx f → item f ≡ it → number a.profile.methods a.certificate.methods a.counts f a.profile.top ≡ c → IsFound a ctx it c f
    found_for c f holds has numbered = record {
      fits = holds;
      has = has;
      number_is = numbered;
      alone = λ g other other_has is.
          let top = a.profile.top in
          let begins = top_begins a.profile.methods (bits_at ctx) top it in
          one_numbered a.profile.methods a.profile.sizes top a.certificate.methods a.counts checked (asks_nothing a.profile here) (bits_at ctx) (top_site top it) g f (begins g other other_has) (begins f holds has) (is ∙ sym numbered);
    }

    -- what is judged to be right, where it has the number
    pub tried_right : (c : ℕ) (f : Filling) → number a.profile.methods a.certificate.methods a.counts f a.profile.top ≡ c → (r : Result (Option Packed) AllocError) →
        IfOk r (λ o. IfSome o (λ w. IsRight a ctx it f w)) → IfOk r (λ o. IfSome o (λ w. IsTried a ctx it c (Found w)))
    tried_right c f numbered (Ok (Some w)) h = (found_for c w.filling h.fits h.has (ap (λ g. number a.profile.methods a.certificate.methods a.counts g a.profile.top) h.filling_is ∙ numbered), h.packed_is)
    tried_right c f numbered (Ok None) h = tt
    tried_right c f numbered (Err e) h = tt

    -- from any number on, as the code has it
    pub searched_start : (from : ℕ) (counts : List ℕ) → counts ≡ a.counts → (m : ℕ) → m ≡ p.top → Searched from (slice_index_or counts m 0) from
    searched_start from counts same m at =
        let place : m ≡ a.profile.top = at ∙ ap (λ (q : Resolved). q.top) is in
        let inside : a.profile.top < length a.counts = omega (arith, here.within, each_is_counted a.profile.methods a.certificate.methods a.counts accepted.counted) in
        record {
          counted = rw (same, place) (slice_get-get_or a.counts a.profile.top 0 inside);
          above = omega arith;
          none = λ g there has l. l;
        }

    candidate : (g : Filling) → Fitting a ctx g → IsCandidate a.profile.methods a.certificate.methods a.counts a.profile.top g
    candidate g there = is_candidate a.profile.methods a.profile.sizes a.profile.top a.certificate.version a.certificate.methods here.sized accepted.valid a.counts (bits_at ctx) there

    -- what fits has one of the top's numbers
    pub under_count : (count : ℕ) → slice_get a.counts a.profile.top ≡ Some count → (g : Filling) → Fitting a ctx g → number_in a g < count
    under_count count at g there = below a.profile.methods a.certificate.methods a.counts counted (candidate g there) count at

    -- of a format with one candidate for an item, what fits and has the item is the first from there on
    pub least_there : (n c : ℕ) (f g : Filling) → Fitting a ctx f → Fitting a ctx g → item g ≡ item f → (out-Filling f).format ≡ n → IsSingleOf a a.profile.top n → ways_before a.profile.methods a.certificate.methods a.counts a.profile.top n ≤ c → c ≤ number_in a g → number_in a f ≤ number_in a g
    least_there n c f g fits_f fits_g same is single before from =
        least a.profile.methods a.certificate.methods a.counts counted (bits_at ctx) (λ h k args path there. is_candidate a.profile.methods a.profile.sizes a.profile.top a.certificate.version a.certificate.methods here.sized accepted.valid a.counts (bits_at ctx) there)
        a.profile.top [] [] n c f g fits_f fits_g (ap (λ (i : Item). i.asked) (sym same)) is single before from

    -- past all numbers there is none
    pub none_left : (from count c : ℕ) → Searched from count c → count ≤ c → NoneFrom a ctx it from
    none_left from count c s past g there has l =
        let under = below a.profile.methods a.certificate.methods a.counts counted (candidate g there) count s.counted in
        let least = s.none g there has l in
        absurd (omega (arith, under, least, past))

    -- the first of all is the best
    pub first_is_best : (c : Candidate) → IsFirstFrom a ctx it 0 c → Best a.profile.methods a.certificate.methods a.profile.top (bits_at ctx) it c.packed.filling
    first_is_best c f =
        found a.profile.methods a.profile.sizes a.profile.top a.certificate.version a.certificate.methods here.sized accepted.valid a.counts counted (bits_at ctx) it c.number
        (λ g there has.
        elim (cases_lt (number_in a g) c.number) [
          | inl under ↦ let same = ap (number_in a) (f.first g there has (omega arith) (omega (arith, under))) ∙ f.number_is in omega (arith, same, under)
          | inr past ↦ past
        ])
        c.packed.filling f.fits f.has f.number_is (λ g there has at. f.first g there has (omega arith) (omega (arith, at)))

    -- the order of numbers is that of codes
    pub order_of_numbers : (g f : Filling) → Fitting a ctx g → Fitting a ctx f → IsUpTo (code a.profile.methods a.certificate.methods g a.profile.top) (code a.profile.methods a.certificate.methods f a.profile.top) →
        number_in a g ≤ number_in a f
    order_of_numbers g f fits_g fits_f up =
        (same_order a.profile.methods a.certificate.methods a.counts counted a.profile.top g f (candidate g fits_g) (candidate f fits_f)).1 up

  -- what was packed from the first number on
  pub packed_first : (p : Resolved) → IsSound p → p ≡ a.profile → IsAccepted a → (r : Result Candidate PackFault) → IfOk r (IsPackedFrom a ctx it 0) → (c : Candidate) → r ≡ Ok c → IsPacked a ctx it c.packed
  packed_first p sound is accepted (Ok c) h c' e =
      let same : c ≡ c' = cc in
      subst (λ (d : Candidate). IsPacked a ctx it d.packed) same (record { writable = h.writable; best = first_is_best p sound is accepted c h.first; packed_is = h.first.packed_is })
  packed_first p sound is accepted (Err f) h c' e = absurd (cc)
