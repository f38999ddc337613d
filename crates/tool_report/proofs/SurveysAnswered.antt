-- What is answered to `lint` and to `draw`, or the line of the profile's fault.
use Rattle.std.proofs.Common.{◌≡◌, ◌++◌, ◌∷◌, [], ◌∙◌, ℕ, List, ap, refl, sym, subst}
use Rattle.std.specs.Borrow.{Bor}
use Rattle.sem_context.specs.Entries.{Entries}
use Rattle.tool_input.specs.declared.inputs.BadLine.{BadLine}
use Rattle.tool_input.specs.declared.inputs.BadLine.TheVariants as bad
use Rattle.tool_input.specs.Inputs.{BlamesContext, StartsAt}
use Rattle.std.specs.Prelude.{Option, Some, None, Result, Ok, Err, IfOk, string_bytes}
use Rattle.std.specs.declared.alloc.AllocError.{AllocError}
use Rattle.text_resolve.specs.Passes.{Reads}
use Rattle.sem_profile.specs.Resolved.{Resolved}
use Rattle.tool_input.specs.declared.status.Answer.{Answer}
use Rattle.tool_input.specs.declared.status.Status.TheVariants as status
use Rattle.tool_input.specs.Refusals.{IsRefusal, context_line}
use Rattle.tool_input.proofs.RefusalsHeld.{refusal_is}
use Rattle.tool_json.specs.Drawing.{drawn_objects}
use Rattle.tool_report.specs.ProfileLines.{IsFaultLine}
use Rattle.tool_report.specs.Surveys.{LintedBy, LintedIn, Lints, LintsBy, by_form, linted, no_context, no_lint, DrawnBy, Draws, drawn_by, no_drawing, DrawnObjects, DrawsObjects, no_objects, objects_by}
use Rattle.tool_survey.specs.Draw.{DrawsProfile, drawn}
use Rattle.tool_survey.specs.Lint.{LintsProfile, lint_text}
use Rattle.tool_survey.specs.Meant.{silenced}

-- ---- in a context

pub linted_from : (octets : List ℕ) (p : Resolved) (context : Option (Bor (List ℕ))) (ctx : Entries) (r : Result Answer AllocError) → StartsAt context ctx → IfOk r (LintsProfile octets p ctx) → IfOk r (LintsBy octets p context)
linted_from octets p context ctx (Err e) starts k = tt
linted_from octets p context ctx (Ok a) starts k =
    subst (λ out. LintedIn octets p context a.status out) (sym k.5) (subst (λ s. LintedIn octets p context s (silenced octets (lint_text octets p k.0 ++ k.3))) (sym k.2) (linted ctx k.0 k.3 starts k.1 k.4))

context_bad : (octets : List ℕ) (p : Resolved) (context given : Option (Bor (List ℕ))) (n : ℕ) → context ≡ given → BlamesContext (bad.Number n) given → LintedIn octets p context status.Refused (context_line n ++ 10 ∷ [])
context_bad octets p context None n is h = absurd h
context_bad octets p context (Some given) n is h = no_context given n is h

pub bad_context_is : (octets : List ℕ) (p : Resolved) (context : Option (Bor (List ℕ))) (e : BadLine) (n m : ℕ) (written : List ℕ) (r : Result Answer AllocError) → BlamesContext e context → e ≡ bad.Number n → written ≡ context_line m → m ≡ n
    → IfOk r (IsRefusal written) → IfOk r (LintsBy octets p context)
bad_context_is octets p context e n m written r blames is same number g =
    let here : BlamesContext (bad.Number n) context = subst (λ (x : BadLine). BlamesContext x context) is blames in
    refusal_is (LintedIn octets p context) (context_line n) written r (context_bad octets p context context n refl here) (same ∙ ap context_line number) g

-- ---- by a normal form

pub profile_linted : (top name octets : List ℕ) (context : Option (Bor (List ℕ))) (p : Resolved) (r : Result Answer AllocError) → name ≡ top → Reads octets name p → IfOk r (LintsBy octets p context) → IfOk r (Lints top octets context)
profile_linted top name octets context p (Err e) n h k = tt
profile_linted top name octets context p (Ok a) n h k =
    let reads : Reads octets top p = let Q : List ℕ → Type 0 = λ x. Reads octets x p in subst Q n h in
    by_form p reads k

pub refused_lint : (top name profile text written : List ℕ) (context : Option (Bor (List ℕ))) (r : Result Answer AllocError) → name ≡ top → IsFaultLine name profile text → written ≡ text → IfOk r (IsRefusal written) → IfOk r (Lints top profile context)
refused_lint top name profile text written context r n h e g = refusal_is (LintedBy top profile context) text written r (no_lint text (subst (λ x. IsFaultLine x profile text) n h)) e g

pub profile_drawn : (top name octets : List ℕ) (p : Resolved) (r : Result Answer AllocError) → name ≡ top → Reads octets name p → IfOk r (DrawsProfile p) → IfOk r (Draws top octets)
profile_drawn top name octets p (Err e) n h k = tt
profile_drawn top name octets p (Ok a) n h k =
    let reads : Reads octets top p = let Q : List ℕ → Type 0 = λ x. Reads octets x p in subst Q n h in
    subst (λ out. DrawnBy top octets a.status out) (sym k.1) (subst (λ s. DrawnBy top octets s (drawn p)) (sym k.0) (drawn_by p reads))

pub refused_drawing : (top name profile text written : List ℕ) (r : Result Answer AllocError) → name ≡ top → IsFaultLine name profile text → written ≡ text → IfOk r (IsRefusal written) → IfOk r (Draws top profile)
refused_drawing top name profile text written r n h e g = refusal_is (DrawnBy top profile) text written r (no_drawing text (subst (λ x. IsFaultLine x profile text) n h)) e g

-- ---- as objects

pub objects_drawn : (top name octets : List ℕ) (p : Resolved) (r : Result Answer AllocError) → name ≡ top → Reads octets name p → IfOk r (λ a. a.status ≡ status.Done) → IfOk r (λ a. string_bytes a.output ≡ drawn_objects p) → IfOk r (DrawsObjects top octets)
objects_drawn top name octets p (Err e) n h s k = tt
objects_drawn top name octets p (Ok a) n h s k =
    let reads : Reads octets top p = let Q : List ℕ → Type 0 = λ x. Reads octets x p in subst Q n h in
    subst (λ out. DrawnObjects top octets a.status out) (sym k) (subst (λ s. DrawnObjects top octets s (drawn_objects p)) (sym s) (objects_by p reads))

pub refused_objects : (top name profile text written : List ℕ) (r : Result Answer AllocError) → name ≡ top → IsFaultLine name profile text → written ≡ text → IfOk r (IsRefusal written) → IfOk r (DrawsObjects top profile)
refused_objects top name profile text written r n h e g = refusal_is (DrawnObjects top profile) text written r (no_objects text (subst (λ x. IsFaultLine x profile text) n h)) e g
