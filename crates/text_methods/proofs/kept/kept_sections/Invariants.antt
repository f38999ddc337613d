use Rattle.std.proofs.Common.{take}
use Rattle.std.specs.List.{AllZip}
use Rattle.text_methods.specs.Kept.{SectionIsKept}
use Rattle.text_methods.proofs.kept.kept_sections.Given as goal

abbrev pub invariant-loop-section : goal.invariant-loop-section
invariant-loop-section l = AllZip (SectionIsKept l.scope l.methods) (take l.section-index l.sections) l.kept
