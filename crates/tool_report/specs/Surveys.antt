-- What `lint` and `draw` answer (docs/FORMATS.md).
use Rattle.std.specs.Prelude.{◌≡◌, ℕ, List, [], ◌∷◌, ◌++◌, Option, Some}
use Rattle.std.specs.Borrow.{Bor}
use Rattle.std.specs.Map.{keys_of}
use Rattle.sem_context.specs.Entries.{Entries}
use Rattle.sem_profile.specs.Resolved.{Resolved}
use Rattle.text_resolve.specs.Passes.{Reads}
use Rattle.sem_filling.specs.declared.obstacle.DeadFormat.{DeadFormat}
use Rattle.sem_lint.specs.Listing.{AreDead}
use Rattle.tool_input.specs.declared.status.Answer.{Answer}
use Rattle.tool_input.specs.declared.status.Status.{Status}
use Rattle.tool_input.specs.declared.status.Status.TheVariants as status
use Rattle.tool_input.specs.Inputs.{IsBadContext, StartsAt}
use Rattle.tool_input.specs.Refusals.{Holds, context_line}
use Rattle.tool_report.specs.ProfileLines.{IsFaultLine}
use Rattle.tool_json.specs.Drawing.{drawn_objects}
use Rattle.tool_survey.specs.Draw.{drawn}
use Rattle.tool_survey.specs.Lint.{lint_text}
use Rattle.tool_survey.specs.Meant.{silenced}
use Rattle.tool_survey.specs.Warnings.{AreWarnings}

-- What is answered to `lint` of a normal form, by the part of the context.
pub data LintedIn (octets : List ℕ) (p : Resolved) (context : Option (Bor (List ℕ))) : Status → List ℕ → Type 0 where
  -- a line of the context can't be read
  no_context : (given : Bor (List ℕ)) (n : ℕ) → context ≡ Some given → IsBadContext given.now n → LintedIn octets p context status.Refused (context_line n ++ 10 ∷ [])
  -- the formats by which nothing can be packed, and below them warnings for a flow that begins with that context, but for those that are meant
  linted : (ctx : Entries) (found : List DeadFormat) (warnings : List ℕ) → StartsAt context ctx → AreDead p 0 0 found → AreWarnings octets p (keys_of ctx) warnings
      → LintedIn octets p context status.Done (silenced octets (lint_text octets p found ++ warnings))

abbrev pub LintsBy : List ℕ → Resolved → Option (Bor (List ℕ)) → Answer → Type 0
LintsBy octets p context = Holds (LintedIn octets p context)

-- What is answered to `lint`.
pub data LintedBy (top octets : List ℕ) (context : Option (Bor (List ℕ))) : Status → List ℕ → Type 0 where
  -- the profile is at fault
  no_lint : (text : List ℕ) → IsFaultLine top octets text → LintedBy top octets context status.Refused (text ++ 10 ∷ [])
  -- by the normal form
  by_form : {s : Status} {output : List ℕ} (p : Resolved) → Reads octets top p → LintedIn octets p context s output → LintedBy top octets context s output

abbrev pub Lints : List ℕ → List ℕ → Option (Bor (List ℕ)) → Answer → Type 0
Lints top octets context = Holds (LintedBy top octets context)

-- What is answered to `draw`.
pub data DrawnBy (top octets : List ℕ) : Status → List ℕ → Type 0 where
  -- the profile is at fault
  no_drawing : (text : List ℕ) → IsFaultLine top octets text → DrawnBy top octets status.Refused (text ++ 10 ∷ [])
  -- the formats of the normal form
  drawn_by : (p : Resolved) → Reads octets top p → DrawnBy top octets status.Done (drawn p)

abbrev pub Draws : List ℕ → List ℕ → Answer → Type 0
Draws top octets = Holds (DrawnBy top octets)

-- The same as objects.
pub data DrawnObjects (top octets : List ℕ) : Status → List ℕ → Type 0 where
  no_objects : (text : List ℕ) → IsFaultLine top octets text → DrawnObjects top octets status.Refused (text ++ 10 ∷ [])
  objects_by : (p : Resolved) → Reads octets top p → DrawnObjects top octets status.Done (drawn_objects p)

abbrev pub DrawsObjects : List ℕ → List ℕ → Answer → Type 0
DrawsObjects top octets = Holds (DrawnObjects top octets)
