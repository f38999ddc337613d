-- The way from a profile and a context to the lines of an answer.
use Rattle.std.proofs.Common.{◌≡◌, ℕ, Bool, List, [], ◌∷◌, ◌++◌}
use Rattle.std.specs.Borrow.{Bor}
use Rattle.std.specs.Prelude.{Option, Result, IfOk}
use Rattle.std.specs.declared.alloc.AllocError.{AllocError}
use Rattle.sem_context.specs.Entries.{Entries}
use Rattle.cert_accepted.specs.Accepted.{Accepting}
use Rattle.tool_input.specs.declared.bundle.Parts.{Parts}
use Rattle.tool_input.specs.declared.inputs.BadLine.{BadLine}
use Rattle.tool_input.specs.declared.inputs.BadLine.TheVariants as bad
use Rattle.tool_input.specs.declared.status.Answer.{Answer}
use Rattle.tool_input.specs.declared.status.Status.{Status}
use Rattle.tool_input.specs.declared.status.Status.TheVariants as status
use Rattle.tool_input.specs.Inputs.{BlamesContext, StartsAt}
use Rattle.tool_input.specs.Refusals.{Holds, IsRefusal, context_line}
use Rattle.tool_words.specs.declared.words.Order.{Order}
use Rattle.tool_report.specs.Accepting.{AcceptsProfile, RefusesProfile, origin_of}
use Rattle.tool_run.specs.Line as flows
use Rattle.tool_run.specs.Frames as frames
use Rattle.tool_run.specs.Printed.{by_profile, from_context, from_entries, stats_accepted, stats_refused, unaccepted}
use Rattle.tool_run.specs.Way.{ByAccepted, ByContext, ByProfile, InContext}
use Rattle.tool_run.specs.declared.way.InputTask.{InputTask}
use Rattle.tool_run.specs.declared.way.InputTask.TheVariants.{Run, Survey}
use Rattle.tool_run.specs.declared.way.Task.{Task}
use Rattle.tool_run.specs.declared.way.Task.TheVariants.{Inputs, Line, Frames}
use Rattle.tool_run.proofs.PrintedReplying.{bad_context_is}
use Rattle.tool_run.proofs.PrintedTallying.{bad_entry_is}

module _ (order : Order) (profile : List ℕ) (parts : Parts) (input : List ℕ) where
  -- what is refused is so whatever is asked
  pub refused_by : (task : Task) (text : List ℕ) → RefusesProfile order.top.now profile (origin_of order.version parts.certificate) text → ByProfile task order profile parts input status.Refused (text ++ 10 ∷ [])
  refused_by (Inputs (Run direction shape)) text refuses = unaccepted text refuses
  refused_by (Inputs (Survey what)) text refuses = stats_refused text refuses
  refused_by (Line end) text refuses = flows.not_accepted text refuses
  refused_by (Frames end lost) text refuses = frames.not_accepted text refuses

  pub accepted_by : (task : Task) (a : Accepting) → AcceptsProfile order.top.now profile (origin_of order.version parts.certificate) a → (s : Status) (output : List ℕ) → ByAccepted task order a parts.context input s output
      → ByProfile task order profile parts input s output
  accepted_by (Inputs (Run direction shape)) a accepts s output h = by_profile a accepts h
  accepted_by (Inputs (Survey what)) a accepts s output h = stats_accepted a accepts h
  accepted_by (Line end) a accepts s output h = flows.with_profile a accepts h
  accepted_by (Frames end lost) a accepts s output h = frames.with_profile a accepts h

-- from a context on
pub context_by : (asked : InputTask) (shows : Bool) (a : Accepting) (part : Option (Bor (List ℕ))) (input : List ℕ) (ctx : Entries) → StartsAt part ctx → (s : Status) (output : List ℕ) → InContext asked shows a ctx input s output
    → ByContext asked shows a part input s output
context_by (Run direction shape) shows a part input ctx starts s output h = from_context ctx starts h
context_by (Survey what) shows a part input ctx starts s output h = from_entries ctx starts h

-- a context that can't be read
pub bad_context_by : (asked : InputTask) (shows : Bool) (a : Accepting) (part : Option (Bor (List ℕ))) (input : List ℕ) (e : BadLine) (n m : ℕ) (written : List ℕ) (r : Result Answer AllocError) → BlamesContext e part → e ≡ bad.Number n
    → written ≡ context_line m → m ≡ n → IfOk r (IsRefusal written) → IfOk r (Holds (ByContext asked shows a part input))
bad_context_by (Run direction shape) shows a part input e n m written r blames is same number g = bad_context_is direction shape shows a part input e n m written r blames is same number g
bad_context_by (Survey what) shows a part input e n m written r blames is same number g = bad_entry_is what a part input e n m written r blames is same number g
