use Rattle.std.proofs.Common.{take}
use Rattle.text_methods.specs.Encodings.{FieldMeans, field_fault}
use Rattle.text_methods.proofs.EncodingsGathering.{Gathered}
use Rattle.text_methods.proofs.encodings.field_encodings.Given as goal

abbrev pub invariant-loop-choice : goal.invariant-loop-choice
invariant-loop-choice l = Gathered (FieldMeans l.scope l.methods l.sections) (field_fault l.scope l.methods l.sections) (take l.choice-index l.chosen) l.found l.fault
