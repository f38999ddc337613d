-- What becomes of a format for items, one after the other.
use Rattle.std.proofs.Common.{◌≡◌, ◌∙◌, ap, sym, subst, ℕ, zero, suc, ◌+◌, ◌<◌, List, [], ◌∷◌, ◌++◌, Some, length, map, take, drop, get_or, ◌⊎◌, inl, inr, arith}
use Rattle.std.specs.Int.Signed.{≤ℤ_refl}
use Rattle.std.proofs.lemmas.Option.{slice_get-map}
use Rattle.sem_expr.specs.Rules.{IsIn}
use Rattle.sem_filling.specs.Bounded.{ArgumentsLie}
use Rattle.std.specs.Prelude.{ℤ, option_map, slice_get, Result, Ok, Err, IfOk, OnOk, String, string_bytes}
use Rattle.sem_expr.specs.declared.interval.Interval.{Interval}
use Rattle.std.proofs.lemmas.List.{drop_more, map-append, length-map, length-take-le, take-append-drop, take_more}
use Rattle.cert_accepted.specs.Accepted.{Accepting}
use Rattle.sem_context.specs.Entries.{Entries}
use Rattle.sem_filling.specs.declared.filling.Item.{Item}
use Rattle.tool_items.specs.Avoided.{Keeps, keeps_more, keeps_same}
use Rattle.tool_items.specs.declared.avoided.Verdict.{Verdict}
use Rattle.tool_items.specs.declared.avoided.Verdicts.{Verdicts}
use Rattle.std.specs.Global.{Global}
use Rattle.std.specs.declared.alloc.AllocError.{AllocError}
use Rattle.walk_engine.specs.Writing as writing
use Rattle.walk_engine.specs.declared.search.Candidate.{Candidate}
use Rattle.walk_engine.specs.declared.search.Packed.{Packed}
use Rattle.sem_filling.specs.Entries.{next}
use Rattle.tool_items.specs.declared.avoided.Fate.{Fate}
use Rattle.tool_items.specs.declared.avoided.Fate.TheVariants.{Refused}
use Rattle.walk_engine.specs.declared.writer.PackFault.{PackFault}
use Rattle.walk_engine.specs.declared.writer.PackFault.TheVariants.{HeaderLength, Asked, NoFormat, Flow, OutOfMemory}
use Rattle.tool_input.specs.declared.status.Answer.{Answer}
use Rattle.tool_input.specs.declared.status.Status.TheVariants as status
use Rattle.tool_items.specs.Avoided.{IsAvoidedText}
use Rattle.tool_run.specs.Avoidance.{AddsItem, AnswersAvoided, AreJudged, AvoidedBy, FitsBy, GoesBy, HasNoFormat, IsFate, IsFateOf, IsJudged, IsNamed, IsUnknown, Leads, Wanted, asking, avoided, leads_nowhere, leads_packed, leads_refused, no_format, point, points, wanted}
use Rattle.tool_run.specs.declared.avoidance.Sought.{Sought}

-- items that lead somewhere, and others that lead on from there
pub leads_on : (a : Accepting) (start mid last : Entries) (xs ys : List Item) → Leads a start xs mid → Leads a mid ys last → Leads a start (xs ++ ys) last
leads_on a start mid last _ ys leads_nowhere on = on
leads_on a start mid last _ ys (leads_packed p is then) on = leads_packed p is (leads_on a _ mid last _ ys then on)
leads_on a start mid last _ ys (leads_refused e blames then) on = leads_refused e blames (leads_on a _ mid last _ ys then on)

-- an element of a list with one more is of the list, or is that
at_end : {A : Type 0} (old : List A) (v w : A) (place : ℕ) → slice_get (old ++ v ∷ []) place ≡ Some w → (slice_get old place ≡ Some w) ⊎ (w ≡ v)
at_end [] v w zero e = inr (cc)
at_end [] v w (suc n) e = absurd (cc)
at_end (x ∷ xs) v w zero e = inl e
at_end (x ∷ xs) v w (suc n) e = at_end xs v w n e

-- the elements before one, it and those after it
split_at : {A : Type 0} (xs : List A) (i : ℕ) (d x : A) → i < length xs → x ≡ get_or xs i d → xs ≡ take i xs ++ x ∷ drop (i + 1) xs
split_at xs i d x h e = sym (take-append-drop i xs) ∙ ap (λ z. take i xs ++ z) (drop_more xs i d h) ∙ ap (λ z. take i xs ++ z ∷ drop (i + 1) xs) (sym e)

-- what is told so far: the context that is reached, and the verdicts that are kept
pub record JudgedSoFar (a : Accepting) (start : Entries) (items : List Item) (w : Wanted) (i : ℕ) (ctx : Entries) (kept : List Verdict) : Type 0 where
  pub leads : Leads a start (take i items) ctx
  pub judged : AreJudged a start items w kept

module _ (a : Accepting) (start : Entries) (items : List Item) (w : Wanted) where
  pub judged_start : (kept : List Verdict) → kept ≡ [] → JudgedSoFar a start items w 0 start kept
  judged_start kept none = record {
    leads = leads_nowhere;
    judged = λ place v at. let wrong : slice_get [] place ≡ Some v = subst (λ vs. slice_get vs place ≡ Some v) none at in absurd (nothing_there place v wrong);
  }
    where
      nothing_there : (place : ℕ) (v : Verdict) → slice_get [] place ≡ Some v → ⊥
      nothing_there place v wrong = cc

  pub judged_on : (s : Sought) (i : ℕ) (d x : Item) (ctx reached : Entries) (before after : Verdicts) → s.accepted.now ≡ a → wanted s.aim ≡ w → i < length items → x ≡ get_or items i d → JudgedSoFar a start items w i ctx before.kept → AddsItem s ctx reached before after (i + 1) x
      → JudgedSoFar a start items w (i + 1) reached after.kept
  judged_on s i d x ctx reached before after same format h e so adds = record {
    leads = subst (λ xs. Leads a start xs reached) (sym (take_more items i d h ∙ ap (λ z. take i items ++ z ∷ []) (sym e))) (leads_on a start ctx reached (take i items) (x ∷ []) so.leads (subst (λ b. Leads b ctx (x ∷ []) reached) same adds.leads));
    judged = kept_on adds.keeps;
  }
    where
      here : IsJudged a start items w record { number = i + 1; fate = adds.fate }
      here = record {
        before = take i items;
        it = x;
        rest = drop (i + 1) items;
        items_are = split_at items i d x h e;
        number_is = ap (λ z. z + 1) (sym (length-take-le i items (omega arith)));
        context = ctx;
        leads = so.leads;
        fate_is = subst (λ m. IsFate a ctx x m adds.fate) format (subst (λ b. IsFate b ctx x (wanted s.aim) adds.fate) same adds.fate_is);
      }

      by : (kept : List Verdict) (place : ℕ) (v : Verdict) → ((place : ℕ) (v : Verdict) → slice_get kept place ≡ Some v → IsJudged a start items w v) → (slice_get kept place ≡ Some v) ⊎ (v ≡ record { number = i + 1; fate = adds.fate }) → IsJudged a start items w v
      by kept place v judged (inl at) = judged place v at
      by kept place v judged (inr is) = subst (IsJudged a start items w) (sym is) here

      kept_on : Keeps (i + 1) adds.fate before.kept after.kept → AreJudged a start items w after.kept
      kept_on (keeps_same e) place v at = so.judged place v (subst (λ vs. slice_get vs place ≡ Some v) e at)
      kept_on (keeps_more e) place v at = by before.kept place v so.judged (at_end before.kept record { number = i + 1; fate = adds.fate } v place (subst (λ vs. slice_get vs place ≡ Some v) e at))

-- ---- one item

-- what is said of the numbers from 0 on is said of all
pub blames_any : (a : Accepting) (ctx : Entries) (it : Item) (e : PackFault) → writing.BlamesFrom 0 e a ctx it → writing.Blames e a ctx it
blames_any a ctx it HeaderLength h = h
blames_any a ctx it (Asked name) h = h
blames_any a ctx it NoFormat h = record { writable = h.writable; none = λ f fits has. h.none f fits has (omega arith) }
blames_any a ctx it Flow h = h
blames_any a ctx it OutOfMemory h = tt

-- a candidate that has the format fits, too
pub candidate_fits : (a : Accepting) (ctx : Entries) (it : Item) (from : ℕ) (w : Wanted) (c : Candidate) → writing.IsPackedFrom a ctx it from c → GoesBy a.profile c.packed.filling w → FitsBy a ctx it w (length c.packed.packed)
candidate_fits a ctx it from w c is goes = record {
  filling = c.packed.filling;
  fits = is.first.fits;
  has = is.first.has;
  goes_by = goes;
  bits_are = ap length is.first.packed_is;
}

-- what is added for an item that is packed, and for one that is refused
pub added_packed : {T : Type 0} (s : Sought) (old new : Entries) (before after : Verdicts) (n : ℕ) (it : Item) (p : Packed) (fate : Fate) (r : Result T AllocError) → writing.IsPacked s.accepted.now old it p → IsFateOf s old it fate → new ≡ next old p.filling → OnOk r (Keeps n fate before.kept after.kept)
    → OnOk r (AddsItem s old new before after n it)
added_packed s old new before after n it p fate (Err e) packed is goes keeps = tt
added_packed s old new before after n it p fate (Ok x) packed is goes keeps = record {
  fate = fate;
  fate_is = is;
  keeps = keeps;
  leads = subst (Leads s.accepted.now old (it ∷ [])) (sym goes) (leads_packed p packed leads_nowhere);
}

pub added_refused : {T : Type 0} (s : Sought) (old : Entries) (before after : Verdicts) (n : ℕ) (it : Item) (e : PackFault) (r : Result T AllocError) → writing.Blames e s.accepted.now old it → OnOk r (Keeps n Refused before.kept after.kept) → OnOk r (AddsItem s old old before after n it)
added_refused s old before after n it e (Err x) blames keeps = tt
added_refused s old before after n it e (Ok x) blames keeps = record {
  fate = Refused;
  fate_is = (e, blames);
  keeps = keeps;
  leads = leads_refused e blames leads_nowhere;
}

-- ---- the answer

pub unknown_is : (octets name : List ℕ) (a : Accepting) (start : Entries) (items : List Item) (r : Result Answer AllocError) → HasNoFormat a.profile name → IfOk r IsUnknown → IfOk r (AnswersAvoided octets name a start items)
unknown_is octets name a start items (Err e) none is = tt
unknown_is octets name a start items (Ok answer) none is =
    subst (λ s. AvoidedBy octets name a start items s (string_bytes answer.output)) (sym is.1) (subst (AvoidedBy octets name a start items status.Refused) (sym is.2) (no_format is.0 none))

pub told_is : (octets name : List ℕ) (a : Accepting) (start : Entries) (items : List Item) (w : Wanted) (i : ℕ) (ctx : Entries) (vs : Verdicts) (text : List ℕ) (output : String Global) → IsNamed a.profile name w → JudgedSoFar a start items w i ctx vs.kept → IsAvoidedText octets a.profile name (asking w items) vs text → string_bytes output ≡ text ++ 10 ∷ []
    → AnswersAvoided octets name a start items record { status = status.Done; output = output }
told_is octets name a start items w i ctx vs text output named so is grown = subst (AvoidedBy octets name a start items status.Done) (sym grown) (avoided w vs text named so.judged is)

-- ---- arguments

-- each value lies in the range that holds it alone
pub points_hold : (args : List ℤ) → ArgumentsLie (points args) args
points_hold args = record {
  count = sym (length-map args point);
  each = λ i r v at is.
      let there : Some r ≡ Some (point v) = sym at ∙ slice_get-map point args i ∙ ap (option_map point) is in
      let same : r ≡ point v = cc in
      subst (λ z. IsIn z v) (sym same) (record { above = ≤ℤ_refl v; below = ≤ℤ_refl v });
}

-- the ranges so far, and one more
pub points_more : (args : List ℤ) (i : ℕ) (d v : ℤ) (ranges : List Interval) → i < length args → v ≡ get_or args i d → ranges ≡ map point (take i args) → ranges ++ point v ∷ [] ≡ map point (take (i + 1) args)
points_more args i d v ranges h e so =
    ap (λ rs. rs ++ point v ∷ []) so ∙ ap (λ z. map point (take i args) ++ point z ∷ []) e ∙ sym (map-append point (take i args) (get_or args i d ∷ [])) ∙ ap (map point) (sym (take_more args i d h))
