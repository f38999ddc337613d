use Rattle.std.proofs.Common.{drop}
use Rattle.text_sections.specs.Tables.{IsTable}
use Rattle.text_methods.specs.Drafts as drafts
use Rattle.text_methods.specs.MethodFormats.{Leads}
use Rattle.text_methods.proofs.method_formats.listed_formats.Given as goal

abbrev pub invariant-loop-place : goal.invariant-loop-place
invariant-loop-place l = IsTable l.setting.text.now (drafts.base l.setting) l.setting.base.now → IsTable l.setting.text.now (drafts.default l.setting) l.setting.default.now
    → Leads l.setting l.place (drop l.place l.setting.sections.now) l.all
