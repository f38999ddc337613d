-- What `lint` prints: a line for each format by which nothing can be packed (docs/FORMATS.md).
use Rattle.std.specs.Prelude.{◌≡◌, ℕ, List, ◌++◌, codes, decimal, flat_map, string_bytes}
use Rattle.std.specs.Map.{keys_of}
use Rattle.text_source.specs.Places.{line_of, column_of}
use Rattle.sem_context.specs.Entries.{Entries}
use Rattle.sem_profile.specs.Resolved.{Resolved}
use Rattle.sem_filling.specs.declared.obstacle.DeadFormat.{DeadFormat}
use Rattle.sem_lint.specs.Listing.{AreDead}
use Rattle.tool_input.specs.declared.status.Answer.{Answer}
use Rattle.tool_input.specs.declared.status.Status.TheVariants as status
use Rattle.tool_names.specs.Names.{format_name, method_name}
use Rattle.tool_names.specs.Obstacles.{obstacle_words, place_of}
use Rattle.tool_survey.specs.Meant.{silenced}
use Rattle.tool_survey.specs.Warnings.{AreWarnings}

-- a line and a column of the profile, the method and the format, and what keeps every filling from it
abbrev pub lint_words : ℕ → ℕ → List ℕ → List ℕ → List ℕ → List ℕ
lint_words line column method format words =
    decimal line ++ codes ":" ++ decimal column ++ codes ": warning " ++ method ++ codes "." ++ format ++ codes ": " ++ words ++ codes ": nothing fits this format\n"

abbrev pub lint_line : List ℕ → Resolved → DeadFormat → List ℕ
lint_line octets p d =
    lint_words (line_of octets (place_of p.methods d).from) (column_of octets (place_of p.methods d).from) (method_name p.methods d.method) (format_name p.methods d.method d.format)
    (obstacle_words p d.method d.format d.obstacle)

abbrev pub lint_text : List ℕ → Resolved → List DeadFormat → List ℕ
lint_text octets p found = flat_map (lint_line octets p) found

-- the formats of a profile by which nothing can be packed, and warnings for a flow that begins with that context, but for those that are meant
abbrev pub LintsProfile : List ℕ → Resolved → Entries → Answer → Type 0
LintsProfile octets p ctx a =
    (found : List DeadFormat) × AreDead p 0 0 found × (a.status ≡ status.Done) × (warnings : List ℕ) × AreWarnings octets p (keys_of ctx) warnings × (string_bytes a.output ≡ silenced octets (lint_text octets p found ++ warnings))
