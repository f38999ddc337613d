-- What `loss` tells of what receivers read after losses, as objects of JSON (docs/FORMATS.md, JSON lines): of the same values as its text.
use Rattle.std.specs.Prelude.{ℕ, ◌+◌, ℤ, List, [], ◌++◌, codes, flat_map, nat_eq, Option, Some, None, string_bytes, if◌then◌else◌}
use Rattle.std.specs.List.{enumerate_from, range_with_len}
use Rattle.std.specs.Fmt.{signed_decimal}
use Rattle.json.specs.Token.{Token}
use Rattle.walk_engine.specs.declared.reader.UnpackFault.{UnpackFault}
use Rattle.walk_engine.specs.declared.reader.UnpackFault.TheVariants.{Truncated, Refused, OutOfMemory}
use Rattle.walk_loss.specs.declared.reception.Heard.{Heard}
use Rattle.walk_loss.specs.declared.reception.Heard.TheVariants as heard
use Rattle.walk_loss.specs.declared.journal.Case.{Case}
use Rattle.walk_loss.specs.declared.journal.Reading.{Reading}
use Rattle.walk_loss.specs.declared.scores.Group.TheVariants.{After}
use Rattle.walk_loss.specs.declared.scores.Score.{Score}
use Rattle.walk_loss.specs.declared.unserved.Unserved.{Unserved}
use Rattle.walk_loss.specs.declared.uses.Referring.{Referring}
use Rattle.walk_loss.specs.declared.uses.Referring.TheVariants.{Static, Lsb}
use Rattle.walk_loss.specs.Scores.{score}
use Rattle.sem_profile.specs.declared.profile.Format.{Format}
use Rattle.sem_profile.specs.declared.profile.Method.{Method}
use Rattle.walk_read.specs.declared.fault.Blamed.{Blamed}
use Rattle.tool_items.specs.declared.counts.Tally.{Tally}
use Rattle.tool_loss.specs.Step.{step_of}
use Rattle.tool_loss.specs.Told.{told_case, told_format}
use Rattle.tool_loss.specs.declared.step.Step.{Step}
use Rattle.tool_names.specs.Names.{format_name, formats_of, method_name}
use Rattle.tool_names.specs.Objects.{array_closed, array_opened, bits, closed, figure, line, null_member, number, opened, optional_bits, text}
use Rattle.tool_items.specs.StatsObjects.{all_line}

-- ---- how many are read right

abbrev pub score_members : Score → List Token
score_members s = number (codes "packets") s.packets ++ number (codes "right") s.right ++ number (codes "refused") s.refused ++ number (codes "wrong") s.wrong

-- after so many lost packets
abbrev pub lost_line : List Reading → ℕ → List ℕ
lost_line rs lost = line (opened ++ text (codes "kind") (codes "lost") ++ number (codes "lost") lost ++ score_members (score (After lost) rs))

abbrev pub score_lines : ℕ → List Reading → List ℕ
score_lines end rs = flat_map (lost_line rs) (range_with_len 0 end)

abbrev pub format_line : List ℕ → Score → ℕ → List ℕ
format_line name s far = line (opened ++ text (codes "kind") (codes "format") ++ text (codes "format") name ++ score_members s ++ number (codes "reach") far)

abbrev pub told_line : List ℕ → Option (Score × ℕ) → List ℕ
told_line name (Some p) = format_line name p.0 p.1
told_line name None = []

-- of the format k, where a packet of it was read after a loss
abbrev pub format_lines : List Method → ℕ → ℕ → List Reading → ℕ → List ℕ
format_lines methods top most rs k = told_line (format_name methods top k) (told_format most rs k)

abbrev pub each_format : List Method → ℕ → ℕ → List Format → List Reading → List ℕ
each_format methods top most formats rs = flat_map (λ (f : ℕ × Format). format_lines methods top most rs f.0) (enumerate_from 0 formats)

-- where packets may be lost
abbrev pub formats_lines : List Method → ℕ → ℕ → List Reading → List ℕ
formats_lines methods top most rs = if nat_eq most 0 then [] else each_format methods top most (formats_of methods top) rs

-- ---- the uses that don't serve

abbrev pub signed_member : List ℕ → ℤ → List Token
signed_member key z = figure key (signed_decimal z)

abbrev pub static_members : List Token
static_members = text (codes "method") (codes "static") ++ null_member (codes "k") ++ null_member (codes "offset")

abbrev pub lsb_members : ℤ → ℤ → List Token
lsb_members k p = text (codes "method") (codes "lsb") ++ signed_member (codes "k") k ++ signed_member (codes "offset") p

abbrev pub method_members : Referring → List Token
method_members Static = static_members
method_members (Lsb k p) = lsb_members k p

abbrev pub sides_members : Unserved → List Token
sides_members x = optional_bits (codes "has") x.reference ++ bits (codes "needs") x.needed

abbrev pub told_step : Step → List Token
told_step s = signed_member (codes "step") s.step ++ signed_member (codes "from") s.from ++ signed_member (codes "to") s.to

abbrev pub no_step : List Token
no_step = null_member (codes "step") ++ null_member (codes "from") ++ null_member (codes "to")

abbrev pub step_members : Option Step → List Token
step_members (Some s) = told_step s
step_members None = no_step

abbrev pub use_tokens : Unserved → List Token
use_tokens x = opened ++ text (codes "path") (string_bytes x.path) ++ method_members x.method ++ sides_members x ++ step_members (step_of x) ++ closed

abbrev pub uses_tokens : List Unserved → List Token
uses_tokens xs = flat_map use_tokens xs

-- ---- the cases

-- what is heard, where that has no fault
abbrev pub verdict_members : List ℕ → List Token
verdict_members word = text (codes "heard") word ++ null_member (codes "code") ++ null_member (codes "method") ++ null_member (codes "at")

abbrev pub truncated_members : List Token
truncated_members = text (codes "heard") (codes "refused") ++ text (codes "code") (codes "U1") ++ null_member (codes "method") ++ null_member (codes "at")

-- the format at work, where the tree gave one
abbrev pub at_member : List Method → ℕ → Option ℕ → List Token
at_member methods k (Some n) = text (codes "at") (format_name methods k n)
at_member methods k None = null_member (codes "at")

abbrev pub blamed_members : List Method → Blamed → List Token
blamed_members methods b = text (codes "heard") (codes "refused") ++ text (codes "code") (codes "U2") ++ text (codes "method") (method_name methods b.method) ++ at_member methods b.method b.format

abbrev pub fault_members : List Method → UnpackFault → List Token
fault_members methods Truncated = truncated_members
fault_members methods (Refused b) = blamed_members methods b
fault_members methods OutOfMemory = verdict_members (codes "refused")

abbrev pub heard_members : List Method → Heard → List Token
heard_members methods heard.Right = verdict_members (codes "right")
heard_members methods (heard.Wrong f) = verdict_members (codes "wrong")
heard_members methods (heard.Refused e) = fault_members methods e

abbrev pub case_begun : Case → List ℕ → List Token
case_begun c format = opened ++ text (codes "kind") (codes "case") ++ number (codes "lost") c.lost ++ number (codes "item") c.number ++ text (codes "format") format

-- a packet that isn't read right, with the uses that don't serve
abbrev pub case_line : List Method → ℕ → Case → List ℕ
case_line methods top c = line (case_begun c (format_name methods top c.format) ++ heard_members methods c.heard ++ array_opened (codes "uses") ++ uses_tokens c.unserved ++ array_closed)

abbrev pub found_line : List Method → ℕ → Option Case → List ℕ
found_line methods top (Some c) = case_line methods top c
found_line methods top None = []

-- of the case that is told after so many lost packets
abbrev pub case_lines : List Method → ℕ → List Case → ℕ → List ℕ
case_lines methods top cs lost = found_line methods top (told_case cs lost)

abbrev pub cases_lines : List Method → ℕ → ℕ → List Case → List ℕ
cases_lines methods top most cs = flat_map (case_lines methods top cs) (range_with_len 0 (most + 1))

-- ---- all of it

abbrev pub loss_objects : List Method → ℕ → ℕ → Tally → List Reading → List Case → List ℕ
loss_objects methods top most t rs cs = all_line t ++ score_lines (most + 1) rs ++ formats_lines methods top most rs ++ cases_lines methods top most cs
