-- The listing of a profile, or the line of its fault.
use Rattle.std.proofs.Common.{◌≡◌, ℕ, List, sym, subst}
use Rattle.std.specs.Prelude.{Result, Ok, Err, IfOk, String, string_bytes}
use Rattle.std.specs.Global.{Global}
use Rattle.std.specs.declared.alloc.AllocError.{AllocError}
use Rattle.text_source.specs.declared.fault.Fault.{Fault}
use Rattle.sem_profile.specs.declared.fault.ProfileFault.{ProfileFault}
use Rattle.text_resolve.specs.Passes.{HasCause, IsTextFault, Reads}
use Rattle.sem_profile.specs.Resolved.{Resolved}
use Rattle.text_listing.specs.Shown as listing
use Rattle.tool_input.specs.declared.status.Answer.{Answer}
use Rattle.tool_input.specs.declared.status.Status.TheVariants as status
use Rattle.tool_input.specs.Refusals.{IsRefusal}
use Rattle.tool_report.specs.Reports.{ShownBy, Shows, listed, no_listing}
use Rattle.tool_report.specs.ProfileLines.{IsFaultLine, cause_line, text_fault, text_line, profile_fault}
use Rattle.tool_input.proofs.RefusalsHeld.{refusal_is}

pub line_of_text : (top octets : List ℕ) (f : Fault) (r : Result (String Global) AllocError) → IsTextFault octets f → IfOk r (λ text. string_bytes text ≡ text_line octets f)
    → IfOk r (λ text. IsFaultLine top octets (string_bytes text))
line_of_text top octets f (Ok text) h e = subst (λ x. IsFaultLine top octets x) (sym e) (text_fault f h)
line_of_text top octets f (Err e) h is = tt

pub line_of_cause : (top octets : List ℕ) (f : ProfileFault) (r : Result (String Global) AllocError) → HasCause octets top f → IfOk r (λ text. string_bytes text ≡ cause_line octets f)
    → IfOk r (λ text. IsFaultLine top octets (string_bytes text))
line_of_cause top octets f (Ok text) h e = subst (λ x. IsFaultLine top octets x) (sym e) (profile_fault f h)
line_of_cause top octets f (Err e) h is = tt

pub all_listed : (top name octets : List ℕ) (p : Resolved) (output : String Global) → name ≡ top → Reads octets name p → string_bytes output ≡ listing.shown octets p.methods p.sizes → Shows top octets (record { status = status.Done; output = output })
all_listed top name octets p output n h e =
    let P : List ℕ → Type 0 = λ out. ShownBy top octets status.Done out in
    let Q : List ℕ → Type 0 = λ x. Reads octets x p in
    subst P (sym e) (listed p (subst Q n h))

pub refused_listing : (top name profile text written : List ℕ) (r : Result Answer AllocError) → name ≡ top → IsFaultLine name profile text → written ≡ text → IfOk r (IsRefusal written) → IfOk r (Shows top profile)
refused_listing top name profile text written r n h e g = refusal_is (ShownBy top profile) text written r (no_listing text (subst (λ x. IsFaultLine x profile text) n h)) e g
