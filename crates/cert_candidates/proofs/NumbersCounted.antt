-- The number of a filling, made digit by digit.
use Rattle.std.proofs.Common.{◌≡◌, sym, ◌∙◌, ap, ℕ, ◌+◌, ◌*◌, ◌<◌, List, length, get_or, drop, arith}
use Rattle.std.specs.Prelude.{Option, Some, None, IfSome, slice_get}
use Rattle.std.specs.Option.{SomeIff}
use Rattle.std.proofs.lemmas.List.{at_drop_more}
use Rattle.sem_profile.specs.declared.profile.Format.{Format}
use Rattle.sem_filling.specs.declared.filling.Filling.{Filling, out-Filling}
use Rattle.sem_filling.specs.Fits.{format_at}
use Rattle.cert_types.specs.declared.certificate.Step.{Step}
use Rattle.cert_types.specs.declared.certificate.Plans.{Plans}
use Rattle.cert_rules.specs.Counts.{ways, plan_ways}
use Rattle.cert_candidates.specs.Codes.{Shown, step_digit, place, write_plan, number}
use Rattle.cert_candidates.specs.declared.numbers.Candidates.{Candidates}
use Rattle.cert_candidates.specs.Numbered.{HasSpans, IsNumbered, IsBefore, numbers_inside}
use Rattle.cert_candidates.proofs.CodesBounds.{number_by}
use Rattle.cert_candidates.proofs.CodesKept.{sum_ahead}

-- a step more, over plain numbers
more_digits : (n w d e p m : ℕ) → n * w + d ≡ e → n * (w * m) + (d * m + p) ≡ e * m + p
more_digits n w d e p m is = let own : (n * w + d) * m ≡ e * m = ap (λ z. z * m) is in omega (arith, own)

-- and of a plan
pub next_digits : (counts : List ℕ) (format : Format) (gs : List (Shown ℕ)) (steps : List Step) (i : ℕ) (default : Step) (old new whole : ℕ) → i < length steps →
    old * plan_ways counts format (drop i steps) + place counts format gs (drop i steps) ≡ whole → IsNumbered counts format gs (get_or steps i default) old new →
    new * plan_ways counts format (drop (i + 1) steps) + place counts format gs (drop (i + 1) steps) ≡ whole
next_digits counts format gs steps i default old new whole l so_far one_more =
    let step = get_or steps i default in
    let rest = drop (i + 1) steps in
    let left = at_drop_more (λ xs. old * plan_ways counts format xs + place counts format gs xs) steps i default l in
    sym (more_digits old (ways counts format step) (step_digit format gs step) new (place counts format gs rest) (plan_ways counts format rest) one_more) ∙ (sym left ∙ so_far)

-- the numbers of the formats before its own, and its digits
pub whole_number : (t : Candidates) → HasSpans t → (k : ℕ) (f : Filling) (format : Format) (plans : Plans) (steps : List Step) (first digits : ℕ) (P : Type 0) (result : Option ℕ) →
    format_at t.methods.now k (out-Filling f).format ≡ Some format → write_plan t.entries.now k (out-Filling f).format ≡ Some plans → IsBefore t.spans.now k (out-Filling f).format first → steps ≡ plans.write →
    place t.counts.now format (numbers_inside t f) steps ≡ digits → SomeIff result P (first + digits) → IfSome result (λ n. number t.methods.now t.entries.now t.counts.now f k ≡ n)
whole_number t spans k f format plans steps first digits P None format_is plans_is before steps_are digits_are sum_is = tt
whole_number t spans k f format plans steps first digits P (Some n) format_is plans_is before steps_are digits_are sum_is =
    let own = number_by t.methods.now t.entries.now t.counts.now k f format plans format_is plans_is in
    let here = ap (place t.counts.now format (numbers_inside t f)) steps_are in
    let line_is = ap (λ table. slice_get table k) (sym spans) ∙ before.1 in
    let ahead = sum_ahead t.methods.now t.entries.now t.counts.now k (out-Filling f).format format plans before.0 line_is format_is plans_is in
    let first_is = before.2 in
    let n_is = sum_is.1 in
    omega (arith, own, here, ahead, first_is, digits_are, n_is)
