use Rattle.std.proofs.Common.{◌≡◌, List, drop}
use Rattle.text_sections.specs.declared.mention.Mention.{Mention}
use Rattle.text_sections.specs.declared.mention.Group.TheVariants as groups
use Rattle.text_sections.specs.Mentions.{mentions_in}
use Rattle.text_sections.specs.Tables.{IsTable}
use Rattle.text_sections.specs.Causes.{Answers}
use Rattle.text_sections.proofs.Naming.{CauseBelow}
use Rattle.text_sections.proofs.names.judge_sections.Given as goal

abbrev pub invariant-loop-place : goal.invariant-loop-place
invariant-loop-place l = ((encodings : List Mention) → IsTable l.text encodings l.shared → Answers (CauseBelow l.text encodings l.sections l.place) l.found) × (l.rest ≡ mentions_in l.text groups.Formats l.place (drop l.place l.sections))
