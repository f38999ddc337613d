-- The codes of faults, as docs/FORMATS.md lists them, and faults of a name and of a part.
use Rattle.std.specs.Prelude.{ℕ, List, codes, Some, None}
use Rattle.text_source.specs.declared.span.Span.{Span}
use Rattle.sem_expr.specs.declared.fault.RangeFault.{RangeFault}
use Rattle.sem_expr.specs.declared.fault.RangeFaultKind.{RangeFaultKind}
use Rattle.sem_expr.specs.declared.fault.RangeFaultKind.TheVariants as ranges
use Rattle.sem_profile.specs.declared.fault.ProfileFault.{ProfileFault}
use Rattle.sem_profile.specs.declared.fault.ProfileFaultKind.{ProfileFaultKind}
use Rattle.sem_profile.specs.declared.fault.ProfileFaultKind.TheVariants as f

abbrev pub code_of : ProfileFaultKind → List ℕ
code_of f.UnknownName = codes "E20"
code_of f.DefinedTwice = codes "E21"
code_of f.ArgumentCount = codes "E22"
code_of f.Recursion = codes "E23"
code_of f.SecondEncoding = codes "E24"
code_of f.NoContext = codes "E25"
code_of f.NoEncoding = codes "E26"
code_of f.NoTop = codes "E27"
code_of f.WideValue = codes "E28"
code_of f.Sections = codes "E29"
code_of f.AboveLimit = codes "E30"
code_of f.WrongKind = codes "E31"
code_of f.Power = codes "E32"
code_of f.NoValue = codes "E33"
code_of f.TooLarge = codes "E34"

-- the number in the code
abbrev pub number_of : ProfileFaultKind → ℕ
number_of f.UnknownName = 20
number_of f.DefinedTwice = 21
number_of f.ArgumentCount = 22
number_of f.Recursion = 23
number_of f.SecondEncoding = 24
number_of f.NoContext = 25
number_of f.NoEncoding = 26
number_of f.NoTop = 27
number_of f.WideValue = 28
number_of f.Sections = 29
number_of f.AboveLimit = 30
number_of f.WrongKind = 31
number_of f.Power = 32
number_of f.NoValue = 33
number_of f.TooLarge = 34

-- a fault of the name that stands at its place
abbrev pub about : ProfileFaultKind → Span → ProfileFault
about kind name = record { kind = kind; at = name; first = Some name; second = None }

-- a fault of a part of the text
abbrev pub unnamed : ProfileFaultKind → Span → ProfileFault
unnamed kind at = record { kind = kind; at = at; first = None; second = None }

abbrev pub range_kind : RangeFaultKind → ProfileFaultKind
range_kind ranges.AboveLimit = f.AboveLimit
range_kind ranges.Power = f.Power

-- a fault of a range, as one of the profile
abbrev pub of_range : RangeFault → ProfileFault
of_range g = unnamed (range_kind g.kind) g.at
