-- What the look at a format finds, from its parts.
use Rattle.std.proofs.Common.{◌≡◌, ◌≢◌, ◌∙◌, refl, sym, ap, subst, ℕ, zero, suc, ◌+◌, ◌≤◌, ◌<◌, Bool, true, false, cond, List, [], ◌∷◌, ◌++◌, length, drop, arith, append_assoc}
use Rattle.std.specs.Prelude.{◌&&◌, is_none, Option, Some, None, MatchOption, Result, Ok, Err, IfOk, IfSome, OnOk, slice_get, string_bytes, ◌⊎◌}
use Rattle.std.specs.Option.{option_copied}
use Rattle.std.proofs.Common.{inl, inr, String, Global}
use Rattle.std.proofs.lemmas.Result.{IfOk-weaker}
use Rattle.std.proofs.lemmas.List.{append-nil, length-append}
use Rattle.sem_expr.specs.declared.expr.Side.{Side}
use Rattle.sem_expr.specs.declared.expr.Side.TheVariants.{Uncompressed, Compressed}
use Rattle.sem_expr.specs.declared.expr.Expr.{Expr}
use Rattle.sem_expr.specs.declared.interval.Interval.{Interval}
use Rattle.sem_expr.specs.Bounds.{bounding_of}
use Rattle.sem_filling.specs.Fits.{format_at}
use Rattle.sem_library.specs.Methods.{IsOnly}
use Rattle.sem_profile.specs.declared.profile.Encoding.TheVariants as encoding
use Rattle.sem_profile.specs.declared.profile.Field.{Field}
use Rattle.sem_profile.specs.declared.profile.Format.{Format}
use Rattle.sem_profile.specs.declared.profile.FormatSizes.{FormatSizes}
use Rattle.text_source.specs.declared.span.Span.{Span}
use Rattle.sem_profile.specs.BoundsFaults.{side_bounds}
use Rattle.sem_profile.specs.BoundsLaws.{encoding_exprs}
use Rattle.sem_filling.specs.Entries.{below}
use Rattle.sem_filling.specs.Bounded.{sizes_at}
use Rattle.sem_filling.proofs.FitsSized.{one_value}
use Rattle.sem_lint.specs.Obstacles.{Hinders}
use Rattle.sem_lint.specs.Never.{IsUntrue}
use Rattle.sem_filling.specs.declared.obstacle.Obstacle.{Obstacle}
use Rattle.sem_reasons.specs.Across.{with_values, method_of}
use Rattle.sem_reasons.specs.Conflicts.{IsSighted, IsCoded, StandsIn, reference_of}
use Rattle.sem_reasons.specs.Full.{AreInFull, IsFullView}
use Rattle.sem_reasons.specs.Looks.{IsLook, SeenOf, SeenOn, SoFar}
use Rattle.sem_reasons.specs.Places.{BeginsAt, held, length_in, order_of}
use Rattle.sem_reasons.specs.Settings.{Setting, setting_of}
use Rattle.sem_reasons.specs.Told.{Related, length_of, lengths_from, opposite, reference_in, seen_at, seen_side}
use Rattle.sem_reasons.specs.Reasons.{HasMethod, Stands, dead, short, long, cut, no_reference, differs, no_side, untrue, no_argument, no_truth, Calls, Tells, by_reason, by_call, TellAll, ends, next, HasReferences, HasRoom, IsClear, IsOpen, IsVerdict, is_open, is_out, Verdicts, lacking, lacks, no_more, out, open_still, all_ranged, formats_of, inside, line_of, ranges_in, undefined_at, wants_reference}
use Rattle.sem_reasons.specs.Figures.{figures_at}
use Rattle.sem_lint.specs.Undefined.{first_undefined}
use Rattle.sem_reasons.specs.Listing as listing
use Rattle.sem_reasons.specs.declared.conflict.Coded.{Coded}
use Rattle.sem_reasons.specs.declared.conflict.Sighted.{Sighted}
use Rattle.sem_filling.specs.declared.reason.Figure.{Figure}
use Rattle.sem_filling.specs.declared.reason.Line.{Line}
use Rattle.sem_filling.specs.declared.reason.Reason.{Reason}
use Rattle.sem_filling.specs.declared.reason.Reason.TheVariants as reason
use Rattle.sem_filling.specs.declared.reason.Within.TheVariants as part
use Rattle.sem_reasons.specs.declared.observation.Look.{Look}
use Rattle.sem_reasons.specs.declared.sight.ObservedSides.{ObservedSides}
use Rattle.sem_reasons.proofs.MethodsValued.{method_is}

-- ---- what is told

-- the lengths that a look goes by are those of its format
pub lengths_same : (k : Look) (n : ℕ) → IsLook k n → length_in k.lengths.now ≡ length_of (setting_of k.question) k.format.now k.sizes.now
lengths_same k n look = ap length_in (look.lengths_are ∙ ap (λ z. lengths_from (setting_of k.question) z k.sizes.now 0 k.format.now.fields) look.base_is)

pub begins_same : (k : Look) (n : ℕ) → IsLook k n → (i offset : ℕ) → BeginsAt k.order.now (length_in k.lengths.now) i offset → BeginsAt (order_of k.format.now k.question.side) (length_of (setting_of k.question) k.format.now k.sizes.now) i offset
begins_same k n look i offset b = subst (λ z. BeginsAt (order_of k.format.now k.question.side) z i offset) (lengths_same k n look) (subst (λ z. BeginsAt z (length_in k.lengths.now) i offset) look.order_is b)

pub weaker : {X : Type 0} (o : Option X) (P Q : X → Type 0) → ((x : X) → P x → Q x) → IfSome o P → IfSome o Q
weaker None P Q f h = tt
weaker (Some x) P Q f h = f x h

pub if_ok : {T E : Type 0} (r : Result T E) (P Q : Type 0) → (P → Q) → OnOk r P → OnOk r Q
if_ok (Ok x) P Q f h = f h
if_ok (Err e) P Q f h = tt

pub if_told : {E : Type 0} (r : Result (Option (List Bool)) E) (P Q : Option (List Bool) → Type 0) → ((o : Option (List Bool)) → P o → Q o) → IfOk r P → IfOk r Q
if_told r P Q f h = IfOk-weaker r P Q f h

-- ---- what is seen of each field

pub one_seen : (k : Look) (i : ℕ) (old new : List ObservedSides) (sight : ObservedSides) → new ≡ old ++ sight ∷ [] → SeenOf k i sight → SoFar k old i → SoFar k new (i + 1)
one_seen k i old new sight is seen so = record {
  count = ap length is ∙ (length-append old (sight ∷ []) ∙ (let c = so.count in omega (arith, c)));
  each = λ j x at. by j x (ap (λ z. slice_get z j) (sym is) ∙ at);
}
  where
    last : (xs : List ObservedSides) (j : ℕ) (x : ObservedSides) → slice_get (xs ++ sight ∷ []) j ≡ Some x → (slice_get xs j ≡ Some x) ⊎ ((j ≡ length xs) × (sight ≡ x))
    last [] zero x e = inr (refl, cc)
    last [] (suc j) x e = absurd (cc)
    last (y ∷ ys) zero x e = inl e
    last (y ∷ ys) (suc j) x e = further (last ys j x e)
      where
        further : (slice_get ys j ≡ Some x) ⊎ ((j ≡ length ys) × (sight ≡ x)) → (slice_get (y ∷ ys) (suc j) ≡ Some x) ⊎ ((suc j ≡ length (y ∷ ys)) × (sight ≡ x))
        further (inl h) = inl h
        further (inr h) = inr (ap suc h.0, h.1)

    by : (j : ℕ) (x : ObservedSides) → slice_get (old ++ sight ∷ []) j ≡ Some x → SeenOf k j x
    by j x at = cases (last old j x at)
      where
        cases : (slice_get old j ≡ Some x) ⊎ ((j ≡ length old) × (sight ≡ x)) → SeenOf k j x
        cases (inl h) = so.each j x h
        cases (inr h) = let e : i ≡ j = sym so.count ∙ sym h.0 in subst (λ z. SeenOf k j z) h.1 (subst (λ q. SeenOf k q sight) e seen)

pub none_seen : (k : Look) → SoFar k [] 0
none_seen k = record { count = refl; each = λ j x at. absurd (cc) }

pub all_seen : (k : Look) (n : ℕ) (sights : List ObservedSides) → n ≡ length k.format.now.fields → SoFar k sights n → AreInFull (setting_of k.question) k.format.now k.sizes.now sights
all_seen k n sights is so = record { count = so.count ∙ is; each = λ i d sight at here. so.each i sight here d at }

-- the two sides of a field
pub both_seen : (k : Look) (i : ℕ) (d : Field) → slice_get k.format.now.fields i ≡ Some d → (sight : ObservedSides) → SeenOn k i d Uncompressed sight.uncompressed → SeenOn k i d Compressed sight.compressed → SeenOf k i sight
both_seen k i d at sight up down other there side = subst (λ z. SeenOn k i z side (seen_side sight side)) (one_value _ d other at there) (by side)
  where
    by : (z : Side) → SeenOn k i d z (seen_side sight z)
    by Uncompressed = up
    by Compressed = down

-- no field has that number
pub past_seen : (k : Look) (i : ℕ) (sight : ObservedSides) → slice_get k.format.now.fields i ≡ None → SeenOf k i sight
past_seen k i sight none d at = let wrong = sym none ∙ at in absurd (cc)

-- the bits at a place, by the lengths that a look goes by
pub placed_same : (k : Look) (n : ℕ) → IsLook k n → (i : ℕ) → held k.order.now (length_in k.lengths.now) k.question.bits.now i ≡ held (order_of k.format.now k.question.side) (length_of (setting_of k.question) k.format.now k.sizes.now) k.question.bits.now i
placed_same k n look i = λ j. held (look.order_is j) (lengths_same k n look j) k.question.bits.now i

-- ---- what stands against a format

view_is : (k : Sighted) → IsSighted k → IsFullView (setting_of k.look.question) k.number k.look.format.now k.look.sizes.now k.seen.now
view_is k h = h.seen

pub has_method : (k : Sighted) (c : Coded) → IsSighted k → IsCoded k c → HasMethod (setting_of k.look.question) k.look.format.now k.look.sizes.now k.seen.now c.index c.field.now (method_of c.method c.covered.now)
has_method k c h coded = record {
  field_is = coded.at;
  library = c.library.now;
  library_is = coded.encoding_is;
  covered = c.covered.now;
  covers = coded.covers;
  method_is = method_is (ranges_in (setting_of k.look.question) k.look.sizes.now k.seen.now) c.library.now c.method c.covered.now (ap (λ z. with_values (bounding_of z) c.library.now) (sym h.ranges_are) ∙ coded.method_is);
}

pub differs_is : (k : Sighted) (c : Coded) → IsSighted k → IsCoded k c → (side : Side) (own found due : List Bool) → seen_at k.seen.now.fields c.index side ≡ Some own → seen_at k.seen.now.fields c.index (opposite side) ≡ Some found
    → IsOnly (Related (method_of c.method c.covered.now) (option_copied c.reference) side own) (Some due) → found ≢ due → StandsIn k (reason.Differs c.index (opposite side) found due)
differs_is k c h coded side own found due own_is found_is only differ =
    differs side k.look.format.now k.look.sizes.now k.seen.now c.field.now (method_of c.method c.covered.now) own (view_is k h) (has_method k c h coded) own_is
    (subst (λ z. IsOnly (Related (method_of c.method c.covered.now) z side own) (Some due)) coded.reference_is only) found_is differ

pub no_side_is : (k : Sighted) (c : Coded) → IsSighted k → IsCoded k c → (side : Side) (found : List Bool) → seen_at k.seen.now.fields c.index side ≡ Some found
    → IsOnly (Related (method_of c.method c.covered.now) (option_copied c.reference) side found) None → StandsIn k (reason.NoSide c.index side found)
no_side_is k c h coded side found found_is only =
    no_side k.look.format.now k.look.sizes.now k.seen.now c.field.now (method_of c.method c.covered.now) (view_is k h) (has_method k c h coded) found_is
    (subst (λ z. IsOnly (Related (method_of c.method c.covered.now) z side found) None) coded.reference_is only)

pub no_reference_is : (k : Sighted) → IsSighted k → (i : ℕ) (d : Field) → slice_get k.look.format.now.fields i ≡ Some d → wants_reference d.encoding ≡ true → reference_of k d ≡ None
    → (path : String Global) → string_bytes path ≡ below k.look.question.path.now d.declared.name → StandsIn k (reason.NoReference i path)
no_reference_is k h i d at wants none path is = no_reference k.look.format.now d h.look.format_is at wants none is

pub dead_is : (s : Setting) (n : ℕ) (o : Obstacle) → Hinders s.profile s.method n o → Stands s n (reason.Dead o)
dead_is s n o h = dead o h

pub short_is : (s : Setting) (n : ℕ) (sizes : FormatSizes) → sizes_at s.profile.sizes s.method n ≡ Some sizes → (many least : ℕ) → many ≡ length s.bits → least ≡ (side_bounds s.side sizes.whole).least → many < least → Stands s n (reason.Short many least)
short_is s n sizes at many least m l few =
    subst (λ z. Stands s n (reason.Short z least)) (sym m) (subst (λ z. Stands s n (reason.Short (length s.bits) z)) (sym l) (short sizes at (omega (arith, m, l, few))))

pub long_is : (s : Setting) (n : ℕ) (sizes : FormatSizes) → sizes_at s.profile.sizes s.method n ≡ Some sizes → s.is_whole ≡ true → (many most : ℕ) → many ≡ length s.bits → most ≡ (side_bounds s.side sizes.whole).most → most < many → Stands s n (reason.Long many most)
long_is s n sizes at whole many most m l more =
    subst (λ z. Stands s n (reason.Long z most)) (sym m) (subst (λ z. Stands s n (reason.Long (length s.bits) z)) (sym l) (long sizes at whole (omega (arith, m, l, more))))

pub cut_is : (k : Sighted) → IsSighted k → (i offset due left : ℕ) → offset ≤ length k.look.question.bits.now → BeginsAt k.look.order.now (length_in k.look.lengths.now) i offset → length_in k.look.lengths.now i ≡ Some due → left ≡ length (drop offset k.look.question.bits.now) → left < due → StandsIn k (reason.Cut i left due)
cut_is k h i offset due left within begins is left_is few =
    subst (λ z. StandsIn k (reason.Cut i z due)) (sym left_is)
    (cut offset k.look.format.now k.look.sizes.now h.look.format_is h.look.sizes_are within (begins_same k.look k.number h.look i offset begins) (ap (λ z. z i) (sym (lengths_same k.look k.number h.look)) ∙ is) (subst (λ z. z < due) left_is few))

pub untrue_is : (k : Sighted) → IsSighted k → (j : ℕ) (figures : List Figure) → figures ≡ figures_at (bounding_of k.ranges.now) (slice_get k.look.format.now.constraints j) → IsUntrue k.look.format.now.constraints (bounding_of k.ranges.now) j
    → StandsIn k (reason.Untrue j figures)
untrue_is k h j figures is u =
    subst (λ z. StandsIn k (reason.Untrue j z)) (sym (is ∙ ap (λ z. figures_at (bounding_of z) (slice_get k.look.format.now.constraints j)) h.ranges_are))
    (untrue k.look.format.now k.look.sizes.now k.seen.now (view_is k h) (subst (λ z. IsUntrue k.look.format.now.constraints (bounding_of z) j) h.ranges_are u))

pub no_argument_is : (k : Sighted) → IsSighted k → (i : ℕ) (d : Field) → slice_get k.look.format.now.fields i ≡ Some d → (at : Span) → first_undefined (bounding_of k.ranges.now) (encoding_exprs d.encoding) ≡ Some at → StandsIn k (reason.Undefined at (part.Argument i))
no_argument_is k h i d field_at at is =
    no_argument i k.look.format.now k.look.sizes.now k.seen.now d (view_is k h) field_at (ap (λ z. first_undefined (bounding_of z) (encoding_exprs d.encoding)) (sym h.ranges_are) ∙ is)

pub no_truth_is : (k : Sighted) → IsSighted k → (j : ℕ) (at : Span) → undefined_at (bounding_of k.ranges.now) k.look.format.now.constraints j ≡ Some at → StandsIn k (reason.Undefined at (part.Condition j))
no_truth_is k h j at is =
    no_truth k.look.format.now k.look.sizes.now k.seen.now (view_is k h) (ap (λ z. undefined_at (bounding_of z) k.look.format.now.constraints j) (sym h.ranges_are) ∙ is)

-- ---- lines

pub alone_is : (s : Setting) (depth n : ℕ) (r : Reason) (line : Line) (lines : List Line) → Stands s n r → line ≡ line_of s depth n r → lines ≡ line ∷ [] → Tells s depth n lines
alone_is s depth n r line lines stands is are = subst (λ z. Tells s depth n z) (sym (are ∙ (λ j. is j ∷ []))) (by_reason r stands)

pub calls_is : (k : Sighted) → IsSighted k → (i : ℕ) (d : Field) → slice_get k.look.format.now.fields i ≡ Some d → (m : ℕ) (es : List Expr) → d.encoding ≡ encoding.Call m es → (parameters : List Interval) → all_ranged (bounding_of k.ranges.now) es ≡ Some parameters
    → (offset : ℕ) → BeginsAt k.look.order.now (length_in k.look.lengths.now) i offset → (inner : Setting) → inner ≡ inside (setting_of k.look.question) d m parameters offset → Calls (setting_of k.look.question) k.number i inner
calls_is k h i d at m es is parameters ranges offset begins inner inner_is = record {
  format = k.look.format.now;
  sizes = k.look.sizes.now;
  seen = k.seen.now;
  view = view_is k h;
  field = d;
  field_is = at;
  method = m;
  arguments = es;
  encoding_is = is;
  parameters = parameters;
  ranges_are = subst (λ z. all_ranged (bounding_of z) es ≡ Some parameters) h.ranges_are ranges;
  offset = offset;
  begins = begins_same k.look k.number h.look i offset begins;
  inner_is = inner_is;
}

pub inner_same : (s : Setting) (d : Field) (m : ℕ) (ps qs : List Interval) (offset : ℕ) (path : List ℕ) (bits : List Bool) → qs ≡ ps → path ≡ below s.path d.declared.name → bits ≡ drop offset s.bits
    → record { profile = s.profile; context = s.context; method = m; parameters = qs; path = path; side = s.side; bits = bits; is_whole = false; asked = [] } ≡ inside s d m ps offset
inner_same s d m ps qs offset path bits a b c =
    λ j. record { profile = s.profile; context = s.context; method = m; parameters = a j; path = b j; side = s.side; bits = c j; is_whole = false; asked = [] }

pub called_is : (s inner : Setting) (depth n i : ℕ) (line : Line) (lines all : List Line) → Calls s n i inner → TellAll inner (depth + 1) 0 lines → line ≡ line_of s depth n (reason.Inside i) → all ≡ line ∷ lines → Tells s depth n all
called_is s inner depth n i line lines all calls tell is are = subst (λ z. Tells s depth n z) (sym (are ∙ (λ j. is j ∷ lines))) (by_call i inner calls tell)

-- whatever tells of the formats from this one on, it and what was told so far tell of all
abbrev pub AllSoFar : Setting → ℕ → ℕ → List Line → Type 0
AllSoFar s depth n lines = (more : List Line) → TellAll s depth n more → TellAll s depth 0 (lines ++ more)

pub all_next : (s : Setting) (depth n : ℕ) (old new more : List Line) → n < formats_of s → Tells s depth n more → new ≡ old ++ more → AllSoFar s depth n old → AllSoFar s depth (n + 1) new
all_next s depth n old new more lt tells is so rest t = subst (λ z. TellAll s depth 0 z) (sym (append_assoc old more rest) ∙ ap (λ z. z ++ rest) (sym is)) (so (more ++ rest) (next lt tells t))

pub all_end : (s : Setting) (depth n : ℕ) (lines : List Line) → formats_of s ≤ n → AllSoFar s depth n lines → TellAll s depth 0 lines
all_end s depth n lines past so = subst (λ z. TellAll s depth 0 z) (append-nil lines) (so [] (ends past))

pub verdict_out : (s : Setting) (n : ℕ) (old new more : List Line) → Tells s 0 n more → new ≡ old ++ more → listing.AddsVerdict s n old new
verdict_out s n old new more tells is = (more, is_out tells, is)

pub verdict_open : (s : Setting) (n : ℕ) (old new : List Line) (line : Line) → IsOpen s n → HasReferences s n → IsClear s n → line ≡ line_of s 0 n reason.Nothing → new ≡ old ++ line ∷ [] → listing.AddsVerdict s n old new
verdict_open s n old new line free referred clear is are = (line_of s 0 n reason.Nothing ∷ [], is_open free referred clear, are ∙ ap (λ z. old ++ z ∷ []) is)

one_verdict : (s : Setting) (n : ℕ) (lines rest : List Line) → n < formats_of s → IsVerdict s n lines → Verdicts s (n + 1) rest → Verdicts s n (lines ++ rest)
one_verdict s n lines rest lt (is_out tells) t = out lt tells t
one_verdict s n _ rest lt (is_open free referred clear) t = open_still lt free referred clear t

pub verdict_next : (s : Setting) (n : ℕ) (old new : List Line) → n < formats_of s → listing.AddsVerdict s n old new → listing.SoFar s n old → listing.SoFar s (n + 1) new
verdict_next s n old new lt adds so rest t =
    subst (λ z. Verdicts s 0 z) (sym (append_assoc old adds.0 rest) ∙ ap (λ z. z ++ rest) (sym adds.2)) (so (adds.0 ++ rest) (one_verdict s n adds.0 rest lt adds.1 t))

-- what is added to no lines
pub verdict_alone : (s : Setting) (n : ℕ) (old new : List Line) → old ≡ [] → listing.AddsVerdict s n old new → IsVerdict s n new
verdict_alone s n old new none adds = subst (IsVerdict s n) (sym (adds.2 ∙ ap (λ z. z ++ adds.0) none)) adds.1

pub verdicts_end : (s : Setting) (n : ℕ) (lines : List Line) → formats_of s ≤ n → listing.SoFar s n lines → Verdicts s 0 lines
verdicts_end s n lines past so = subst (λ z. Verdicts s 0 z) (append-nil lines) (so [] (no_more past))

-- what stands without a look
pub verdict_at_once : (s : Setting) (n : ℕ) (old new : List Line) (line : Line) (r : Reason) → Stands s n r → line ≡ line_of s 0 n r → new ≡ old ++ line ∷ [] → listing.AddsVerdict s n old new
verdict_at_once s n old new line r stands is are =
    verdict_out s n old new (line ∷ []) (subst (λ z. Tells s 0 n (z ∷ [])) (sym is) (by_reason r stands)) are

-- ---- references

pub no_format : (s : Setting) (n : ℕ) → format_at s.profile.methods s.method n ≡ None → HasReferences s n
no_format s n none format i d at d_at wants lacking = let wrong = sym none ∙ at in absurd (cc)

both_so : (s : Setting) (d : Field) → lacks s d ≡ true → (wants_reference d.encoding ≡ true) × (reference_in s d ≡ None)
both_so s d e = by (wants_reference d.encoding) (reference_in s d) e
  where
    by : (b : Bool) (o : Option (List Bool)) → (b && is_none o) ≡ true → (b ≡ true) × (o ≡ None)
    by true None e = (refl, refl)
    by true (Some x) e = absurd (cc)
    by false o e = absurd (cc)

not_both : (s : Setting) (d : Field) → lacks s d ≡ false → wants_reference d.encoding ≡ true → reference_in s d ≡ None → ⊥
not_both s d e = by (wants_reference d.encoding) (reference_in s d) e
  where
    by : (b : Bool) (o : Option (List Bool)) → (b && is_none o) ≡ false → b ≡ true → o ≡ None → ⊥
    by true None e wants none = absurd (cc)
    by true (Some x) e wants none = absurd (cc)
    by false o e wants none = absurd (cc)

-- the first field that lacks its reference
pub lacking_at : (s : Setting) (k : ℕ) (ds : List Field) (i : ℕ) → lacking s k ds ≡ Some i → (j : ℕ) × (d : Field) × (i ≡ k + j) × (slice_get ds j ≡ Some d) × (lacks s d ≡ true)
lacking_at s k [] i e = absurd (cc)
lacking_at s k (d ∷ ds) i e = by (lacks s d) refl (λ more. lacking_at s (k + 1) ds i more) e
  where
    by : (b : Bool) → lacks s d ≡ b → (lacking s (k + 1) ds ≡ Some i → (j : ℕ) × (x : Field) × (i ≡ k + 1 + j) × (slice_get ds j ≡ Some x) × (lacks s x ≡ true)) → cond b (Some k) (lacking s (k + 1) ds) ≡ Some i
        → (j : ℕ) × (x : Field) × (i ≡ k + j) × (slice_get (d ∷ ds) j ≡ Some x) × (lacks s x ≡ true)
    by true is later e = let same : k ≡ i = cc in (zero, d, omega (arith, same), refl, is)
    by false is later e = let t = later e in let same = t.2 in (suc t.0, t.1, omega (arith, same), t.3, t.4)

none_lacking : (s : Setting) (k : ℕ) (ds : List Field) → lacking s k ds ≡ None → (i : ℕ) (d : Field) → slice_get ds i ≡ Some d → lacks s d ≡ false
none_lacking s k [] e i d at = absurd (cc)
none_lacking s k (x ∷ ds) e i d at = by (lacks s x) refl (λ none j there. none_lacking s (k + 1) ds none j d there) e i at
  where
    by : (b : Bool) → lacks s x ≡ b → (lacking s (k + 1) ds ≡ None → (j : ℕ) → slice_get ds j ≡ Some d → lacks s d ≡ false) → cond b (Some k) (lacking s (k + 1) ds) ≡ None → (i : ℕ) → slice_get (x ∷ ds) i ≡ Some d → lacks s d ≡ false
    by true is later e i at = absurd (cc)
    by false is later e zero at = let same : x ≡ d = cc in subst (λ z. lacks s z ≡ false) same is
    by false is later e (suc i) at = later e i at

pub referred_is : (s : Setting) (n : ℕ) (format : Format) → format_at s.profile.methods s.method n ≡ Some format → lacking s 0 format.fields ≡ None → HasReferences s n
referred_is s n format at none other i d there d_at wants gone =
    let same : other ≡ format = one_value _ other format there at in
    not_both s d (none_lacking s 0 format.fields none i d (subst (λ (z : Format). slice_get z.fields i ≡ Some d) same d_at)) wants gone

pub lacking_there : (s : Setting) (ds : List Field) (i : ℕ) → lacking s 0 ds ≡ Some i → (d : Field) × (slice_get ds i ≡ Some d) × (lacks s d ≡ true)
lacking_there s ds i e =
    let t = lacking_at s 0 ds i e in
    let same : t.0 ≡ i = let is = t.2 in omega (arith, is) in
    (t.1, subst (λ z. slice_get ds z ≡ Some t.1) same t.3, t.4)

pub unreferenced_is : (s : Setting) (n : ℕ) (format : Format) → format_at s.profile.methods s.method n ≡ Some format → (i : ℕ) → lacking s 0 format.fields ≡ Some i → (d : Field) → slice_get format.fields i ≡ Some d
    → (path : String Global) → string_bytes path ≡ below s.path d.declared.name → Stands s n (reason.NoReference i path)
unreferenced_is s n format at i e d d_at path is =
    let t = lacking_there s format.fields i e in
    let same : t.0 ≡ d = one_value _ t.0 d t.1 d_at in
    let both = both_so s d (subst (λ z. lacks s z ≡ true) same t.2) in
    no_reference format d at d_at both.0 both.1 is

-- neither an obstacle nor the length stands against the format
pub open_is : (s : Setting) (n : ℕ) (o : Option Reason) → MatchOption o (HasRoom s n) (Stands s n) → ((x : Obstacle) → Hinders s.profile s.method n x → ⊥) → MatchOption o (IsOpen s n) (Stands s n)
open_is s n (Some r) h alive = h
open_is s n None h alive = record { alive = alive; room = h }

pub no_sizes : (s : Setting) (n : ℕ) → sizes_at s.profile.sizes s.method n ≡ None → HasRoom s n
no_sizes s n none = record {
  not_short = λ sizes at. let wrong = sym none ∙ at in absurd (cc);
  not_long = λ sizes at. let wrong = sym none ∙ at in absurd (cc);
}

pub room_is : (s : Setting) (n : ℕ) (sizes : FormatSizes) → sizes_at s.profile.sizes s.method n ≡ Some sizes → ((length s.bits < (side_bounds s.side sizes.whole).least) → ⊥)
    → (s.is_whole ≡ true → (side_bounds s.side sizes.whole).most < length s.bits → ⊥) → HasRoom s n
room_is s n sizes at enough few = record {
  not_short = λ other there. let same : other ≡ sizes = one_value _ other sizes there at in subst (λ (z : FormatSizes). length s.bits < (side_bounds s.side z.whole).least → ⊥) (sym same) enough;
  not_long = λ other there. let same : other ≡ sizes = one_value _ other sizes there at in subst (λ (z : FormatSizes). s.is_whole ≡ true → (side_bounds s.side z.whole).most < length s.bits → ⊥) (sym same) few;
}
