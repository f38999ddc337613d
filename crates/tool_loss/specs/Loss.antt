-- What `loss` prints of what receivers read after losses (docs/FORMATS.md).
use Rattle.std.specs.Prelude.{ℕ, ◌+◌, Bool, List, [], ◌∷◌, ◌++◌, codes, decimal, flat_map, map, nat_eq, Option, Some, None, string_bytes, if◌then◌else◌}
use Rattle.std.specs.List.{enumerate_from, range_with_len}
use Rattle.std.specs.Fmt.{signed_decimal}
use Rattle.sem_profile.specs.declared.profile.Format.{Format}
use Rattle.sem_profile.specs.declared.profile.Method.{Method}
use Rattle.walk_engine.specs.declared.reader.UnpackFault.{UnpackFault}
use Rattle.walk_engine.specs.declared.reader.UnpackFault.TheVariants.{Truncated, Refused, OutOfMemory}
use Rattle.walk_read.specs.declared.fault.Blamed.{Blamed}
use Rattle.walk_loss.specs.declared.reception.Heard.{Heard}
use Rattle.walk_loss.specs.declared.reception.Heard.TheVariants as heard
use Rattle.walk_loss.specs.declared.journal.Case.{Case}
use Rattle.walk_loss.specs.declared.journal.Reading.{Reading}
use Rattle.walk_loss.specs.declared.scores.Group.TheVariants.{After}
use Rattle.walk_loss.specs.declared.scores.Score.{Score}
use Rattle.walk_loss.specs.declared.uses.Referring.{Referring}
use Rattle.walk_loss.specs.declared.uses.Referring.TheVariants.{Static, Lsb}
use Rattle.walk_loss.specs.declared.unserved.Unserved.{Unserved}
use Rattle.walk_loss.specs.Scores.{score}
use Rattle.tool_items.specs.declared.counts.Tally.{Tally}
use Rattle.tool_names.specs.CheckFaults.{format_words}
use Rattle.tool_names.specs.Names.{format_name, formats_of, method_name}
use Rattle.tool_names.specs.Table.{Row, table}
use Rattle.tool_input.specs.BitTexts.{bits_text}
use Rattle.tool_items.specs.Stats.{head_line}
use Rattle.tool_loss.specs.Step.{step_of}
use Rattle.tool_loss.specs.Told.{told_case, told_format}
use Rattle.tool_loss.specs.declared.step.Step.{Step}

-- ---- the table of lost packets

abbrev pub heads : List ℕ → Row
heads name = name ∷ codes "packets" ∷ codes "right" ∷ codes "refused" ∷ codes "wrong" ∷ []

abbrev pub score_row : List ℕ → Score → Row
score_row name s = name ∷ decimal s.packets ∷ decimal s.right ∷ decimal s.refused ∷ decimal s.wrong ∷ []

abbrev pub lost_row : List Reading → ℕ → Row
lost_row rs lost = score_row (decimal lost) (score (After lost) rs)

-- a row for each number of lost packets below the end
abbrev pub score_rows : ℕ → List Reading → List Row
score_rows end rs = map (lost_row rs) (range_with_len 0 end)

abbrev pub scores_text : ℕ → List Reading → List ℕ
scores_text most rs = table (heads (codes "lost") ∷ score_rows (most + 1) rs)

-- ---- the table of formats

abbrev pub format_heads : Row
format_heads = heads (codes "format") ++ codes "reach" ∷ []

abbrev pub format_row : List ℕ → Score → ℕ → Row
format_row name s far = score_row name s ++ decimal far ∷ []

abbrev pub told_rows : List ℕ → Option (Score × ℕ) → List Row
told_rows name (Some p) = format_row name p.0 p.1 ∷ []
told_rows name None = []

-- a row for the format k, where a packet of it was read after a loss
abbrev pub format_rows : List Method → ℕ → ℕ → List Reading → ℕ → List Row
format_rows methods top most rs k = told_rows (format_name methods top k) (told_format most rs k)

abbrev pub formats_rows : List Method → ℕ → ℕ → List Format → List Reading → List Row
formats_rows methods top most formats rs = flat_map (λ (f : ℕ × Format). format_rows methods top most rs f.0) (enumerate_from 0 formats)

-- it stands where packets may be lost
abbrev pub formats_text : List Method → ℕ → ℕ → List Reading → List ℕ
formats_text methods top most rs = if nat_eq most 0 then [] else table (format_heads ∷ formats_rows methods top most (formats_of methods top) rs)

-- ---- the uses that don't serve

abbrev pub method_words : Referring → List ℕ
method_words Static = codes "static"
method_words (Lsb k p) = codes "lsb(" ++ signed_decimal k ++ codes ", " ++ signed_decimal p ++ codes ")"

abbrev pub reference_words : Option (List Bool) → List ℕ
reference_words (Some bits) = bits_text bits
reference_words None = codes "nothing"

abbrev pub use_words : List ℕ → List ℕ → List ℕ → List ℕ → List ℕ
use_words path method has needs = path ++ codes " " ++ method ++ codes " has " ++ has ++ codes " needs " ++ needs

abbrev pub step_words : Step → List ℕ
step_words s = codes ": step " ++ signed_decimal s.step ++ codes ", takes " ++ signed_decimal s.from ++ codes " to " ++ signed_decimal s.to

abbrev pub step_text : Option Step → List ℕ
step_text (Some s) = step_words s
step_text None = []

abbrev pub step_part : Unserved → List ℕ
step_part x = step_text (step_of x)

abbrev pub unserved_words : Unserved → List ℕ
unserved_words x = use_words (string_bytes x.path) (method_words x.method) (reference_words x.reference) (bits_text x.needed) ++ step_part x

abbrev pub use_line : Unserved → List ℕ
use_line x = codes "\n  " ++ unserved_words x

-- ---- the cases

abbrev pub blamed_words : List Method → Blamed → List ℕ
blamed_words methods at = codes "refused U2 Refused " ++ method_name methods at.method ++ format_words methods at.method at.format

abbrev pub fault_words : List Method → UnpackFault → List ℕ
fault_words methods Truncated = codes "refused U1 Truncated"
fault_words methods (Refused at) = blamed_words methods at
fault_words methods OutOfMemory = codes "refused"

abbrev pub verdict_words : List Method → Heard → List ℕ
verdict_words methods heard.Right = codes "right"
verdict_words methods (heard.Wrong f) = codes "wrong"
verdict_words methods (heard.Refused e) = fault_words methods e

abbrev pub head_words : ℕ → ℕ → List ℕ → List ℕ → List ℕ
head_words lost number format verdict = codes "\nlost " ++ decimal lost ++ codes " item " ++ decimal number ++ codes " " ++ format ++ codes " " ++ verdict

abbrev pub head : List Method → ℕ → Case → List ℕ
head methods top c = head_words c.lost c.number (format_name methods top c.format) (verdict_words methods c.heard)

-- the line of a case, and one for each use that doesn't serve
abbrev pub lines_of : List Method → ℕ → Case → List ℕ
lines_of methods top c = head methods top c ++ flat_map use_line c.unserved

abbrev pub found_lines : List Method → ℕ → Option Case → List ℕ
found_lines methods top (Some c) = lines_of methods top c
found_lines methods top None = []

-- of the case that is told after so many lost packets
abbrev pub case_lines : List Method → ℕ → List Case → ℕ → List ℕ
case_lines methods top cs lost = found_lines methods top (told_case cs lost)

abbrev pub cases_text : List Method → ℕ → ℕ → List Case → List ℕ
cases_text methods top most cs = flat_map (case_lines methods top cs) (range_with_len 0 (most + 1))

-- ---- all of it

abbrev pub loss_text : List Method → ℕ → ℕ → Tally → List Reading → List Case → List ℕ
loss_text methods top most tally rs cs = head_line tally ++ scores_text most rs ++ formats_text methods top most rs ++ cases_text methods top most cs
