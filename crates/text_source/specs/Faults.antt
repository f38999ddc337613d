-- The codes of faults, as docs/FORMATS.md lists them.
use Rattle.std.specs.Prelude.{ℕ, List, codes}
use Rattle.text_source.specs.declared.fault.FaultKind.{FaultKind}
use Rattle.text_source.specs.declared.fault.FaultKind.TheVariants as f

abbrev pub code_of : FaultKind → List ℕ
code_of f.Character = codes "E01"
code_of f.OpenComment = codes "E02"
code_of f.Large = codes "E03"
code_of f.TooLong = codes "E04"
code_of f.NotUtf8 = codes "E05"
code_of f.Unexpected = codes "E10"
code_of f.Nesting = codes "E11"
code_of f.EmptyBracket = codes "E12"
code_of f.RepeatedSection = codes "E13"
code_of f.MixedRemainder = codes "E14"
code_of f.TooManyParts = codes "E15"
